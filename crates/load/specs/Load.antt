-- The load of an answer: "load (slots summed over all await sets)". Request 4: "A unit or never slot (physical 1 or 0) holds nothing, so it weighs
-- nothing in the load. It stays in the await set .. The total is worked out from the sets themselves, slot by slot".
use Rattle.std.specs.Prelude.{Bool, List, map, ℕ, ◌+◌, ◌*◌, ◌-◌, ◌/◌, ◌^◌, min, leb, ltb, length, get_or, Result, Ok, Err}
use Rattle.std.proofs.Math.Option.{Option, none, some}
use Rattle.dataflow.specs.Lists.{pick, range, tabulate, keep, sum}
use Rattle.answer.specs.Held.{await_set}
use Rattle.format.specs.declared.refusal.Refusal.{Refusal}
use Rattle.format.specs.declared.refusal.Refusal.TheVariants.{NoRoom}
use Rattle.format.specs.Types.{absent}
use Rattle.sheet.specs.Decode.{SlotKind, Parts, parts_of, refusal, id_of}
use Rattle.sheet.specs.declared.script.Refused.{Refused}
use Rattle.load.specs.declared.Loaded.{Loaded}

-- what a saved slot weighs: never (physical 0) and unit (1) nothing, all others 1
abbrev pub weight_of : SlotKind → ℕ
weight_of k = pick (leb k.physical 1) 0 1

-- slot x; what no record describes weighs nothing
abbrev pub slot_weight : Parts → ℕ → ℕ
slot_weight p x = weight_of (get_or p.kinds x (record { physical = 0; type = absent }))

-- a set's load, slot by slot below the slot count
unfoldable pub set_load : Parts → (ℕ → Bool) → ℕ
set_load p set = sum (map (slot_weight p) (keep set (range 0 p.slots)))

-- the load of an answer with so many blocks and awaits, whose sets are the words v
unfoldable pub load_of : Parts → List ℕ → ℕ → ℕ → ℕ
load_of p v blocks awaits = sum (tabulate 0 awaits (λ k. set_load p (await_set v ((p.slots + 63) / 64) blocks k)))

-- how many words such an answer takes: document 01's B × 2 × w + A × (1 + w)
abbrev pub words_needed : Parts → ℕ → ℕ → ℕ
words_needed p blocks awaits = blocks * (2 * ((p.slots + 63) / 64)) + awaits * (1 + (p.slots + 63) / 64)

-- a sum as a u64; no memory holds sets whose load is more
abbrev pub saturated : ℕ → ℕ
saturated n = min (2 ^ 64 - 1) n

-- the answer: the refusal of the sheet; 10 if the sets have fewer words than the numbers ask for; else the load. All with the function id.
abbrev pub loaded_by : Option Refusal → List ℕ → List ℕ → ℕ → ℕ → Result Loaded Refused
loaded_by (some r) s v blocks awaits = Err (record { why = r; id = id_of s })
loaded_by none s v blocks awaits = pick (ltb (length v) (words_needed (parts_of s) blocks awaits)) (Err (record { why = NoRoom; id = id_of s }))
    (Ok (record { id = id_of s; load = saturated (load_of (parts_of s) v blocks awaits) }))

unfoldable pub loaded_of : List ℕ → List ℕ → ℕ → ℕ → Result Loaded Refused
loaded_of s v blocks awaits = loaded_by (refusal s) s v blocks awaits
