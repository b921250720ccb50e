-- What the code counted is the load, and the answer is the defined one. Assumes nothing.
use mathlib.Core.Path.{◌≡◌, sym, ap, ap₂, ◌∙◌}
use mathlib.Core.Bool.{Bool, true, false}
use mathlib.Core.List.{List}
use mathlib.Core.Option.{Option, none, some}
use Prim.Native.Nat.{ℕ, ◌+◌, ◌-◌, ◌*◌, ◌/◌, ◌≤◌, ◌<◌}
use native.Mathlib.Omega.{arith}
use native.Mathlib.Nat.{mul-div_cancel, suc-mul, mul-le-mul_right}
use native.Mathlib.Numerals.{add-one}
use borrow.Author.Tests.{le-ltb, lt-ltb}
use lib.Dec.{ltb}
use lib.ListN.{length, take, drop, length-drop}
use Rattle.std.specs.Prelude.{Result, Ok, Err}
use Rattle.std.proofs.lemmas.List.{length-take-le, drop-take, take-take, drop-drop}
use Rattle.dataflow.specs.Lists.{pick, tabulate, sum}
use Rattle.bitset.specs.Sets.{member}
use Rattle.answer.specs.Held.{row_at, await_set}
use Rattle.format.specs.declared.refusal.Refusal.{Refusal}
use Rattle.format.specs.declared.refusal.Refusal.TheVariants.{NoRoom}
use Rattle.format.specs.Types.{absent}
use Rattle.sheet.specs.declared.script.Script.{Script}
use Rattle.sheet.specs.declared.script.Refused.{Refused}
use Rattle.sheet.specs.Decode.{slot_of, offset_of, parts_of, refusal, id_of, id_in, id_after}
use Rattle.sheet.specs.Scripts.{script_of, checked_of, checked_by}
use Rattle.sheet.specs.Checks.{Checks}
use Rattle.sheet.proofs.Checked.{passed, clean}
use Rattle.instructions.specs.Sound.{Sound}
use Rattle.instructions.proofs.Sound.{sound-checked}
use Rattle.load.specs.declared.Loaded.{Loaded}
use Rattle.load.specs.Load.{weight_of, slot_weight, set_load, load_of, words_needed, saturated, loaded_by, loaded_of}
use Rattle.load.specs.Counting.{set_at, slot_load, load_below}
use Rattle.load.proofs.Sums.{kept-sum, sum_same}

-- the k-th await's set, of those that begin at word `first`
abbrev await_from : List ℕ → ℕ → ℕ → ℕ → ℕ → Bool
await_from v w first k = member (row_at v w (set_at w first k))

-- ---- the words of the awaits alone
module _ (v : List ℕ) (w first awaits : ℕ) (room : first + awaits * (1 + w) ≤ length v) where
  all_entries : length (take (awaits * (1 + w)) (drop first v)) / (1 + w) ≡ awaits
  all_entries =
      ap (λ (n : ℕ). n / (1 + w)) (length-take-le (awaits * (1 + w)) (drop first v) (omega (arith, length-drop first v)))
      ∙ mul-div_cancel awaits {n = 1 + w} (omega arith)

  -- hold the same sets
  entry_row : (k : ℕ) → k < awaits → row_at (take (awaits * (1 + w)) (drop first v)) w (set_at w 0 k) ≡ row_at v w (set_at w first k)
  entry_row k h =
      let more : (k + 1) * (1 + w) ≤ awaits * (1 + w) = mul-le-mul_right (1 + w) (omega arith) in
      let next : (k + 1) * (1 + w) ≡ k * (1 + w) + (1 + w) = ap (λ (i : ℕ). i * (1 + w)) (add-one k) ∙ suc-mul k (1 + w) in
      let m : ℕ = awaits * (1 + w) - set_at w 0 k in
      let e : awaits * (1 + w) ≡ set_at w 0 k + m = omega arith in
      let place : first + set_at w 0 k ≡ set_at w first k = omega arith in
      ap (λ (n : ℕ). take w (drop (set_at w 0 k) (take n (drop first v)))) e
      ∙ ap (take w) (drop-take (set_at w 0 k) m (drop first v))
      ∙ take-take w m (drop (set_at w 0 k) (drop first v)) (omega arith)
      ∙ ap (take w) (drop-drop (set_at w 0 k) first v ∙ ap (λ (i : ℕ). drop i v) place)

  pub entries_load : (s : List ℕ) (at n : ℕ)
      → load_below s at (take (awaits * (1 + w)) (drop first v)) w 0 (length (take (awaits * (1 + w)) (drop first v)) / (1 + w)) n
      ≡ load_below s at v w first awaits n
  unfolding load_below
  entries_load s at n =
      ap (λ (a : ℕ). load_below s at (take (awaits * (1 + w)) (drop first v)) w 0 a n) all_entries
      ∙ sum_same 0 0 awaits (λ k. sum (tabulate 0 n (slot_load s at (take (awaits * (1 + w)) (drop first v)) w 0 k)))
      (λ k. sum (tabulate 0 n (slot_load s at v w first k))) (λ i l. same (0 + i) (omega arith))
    where
      same : (k : ℕ) → k < awaits → sum (tabulate 0 n (slot_load s at (take (awaits * (1 + w)) (drop first v)) w 0 k)) ≡ sum (tabulate 0 n (slot_load s at v w first k))
      same k l =
          sum_same 0 0 n (slot_load s at (take (awaits * (1 + w)) (drop first v)) w 0 k) (slot_load s at v w first k)
          (λ i z. ap (λ (r : List ℕ). pick (member r (0 + i)) (weight_of (slot_of s (offset_of s at (0 + i)))) 0) (entry_row k l))

-- ---- a sheet that passed
module _ (s : List ℕ) {c : Result Script Refused} (checks : Checks s c) (x : Script) (was : c ≡ Ok x) where
  pub sound_here : Sound s x
  sound_here = sound-checked s c x checks was

  no_refusal : refusal s ≡ none
  no_refusal = (passed s x (sym checks.answer ∙ was)).0

  id_here : x.id ≡ id_of s
  unfolding script_of id_of
  id_here =
      ap (λ (y : Script). y.id) (passed s x (sym checks.answer ∙ was)).1
      ∙ sym (ap (λ (o : Option Refusal). id_after o (id_in s)) (clean s no_refusal).function_ok)

  pub words_few : (x.slots + 63) / 64 ≤ 1024
  words_few = omega (arith, sound_here.few_slots)

  module _ (v : List ℕ) (blocks awaits w first : ℕ) (ew : w ≡ (x.slots + 63) / 64) (ef : first ≡ blocks * (2 * w)) where
    same-words : w ≡ ((parts_of s).slots + 63) / 64
    same-words = ew ∙ ap (λ (n : ℕ). (n + 63) / 64) (sym sound_here.slots_are)

    same_set : (k i : ℕ) → await_set v w blocks k i ≡ await_set v (((parts_of s).slots + 63) / 64) blocks k i
    same_set k i = ap (λ (n : ℕ). await_set v n blocks k i) same-words

    -- of one set
    set-load : (k : ℕ) → sum (tabulate 0 x.slots (slot_load s x.slots_at v w first k))
        ≡ set_load (parts_of s) (await_set v (((parts_of s).slots + 63) / 64) blocks k)
    unfolding set_load
    set-load k =
        let set : ℕ → Bool = await_set v (((parts_of s).slots + 63) / 64) blocks k in
        let weight : ℕ → ℕ = slot_weight (parts_of s) in
        sum_same 0 0 x.slots (slot_load s x.slots_at v w first k) (λ i. pick (set i) (weight i) 0) (λ i l. slot (0 + i) (omega arith))
        ∙ ap (λ (n : ℕ). sum (tabulate 0 n (λ i. pick (set i) (weight i) 0))) (sym sound_here.slots_are)
        ∙ sym (kept-sum set weight 0 (parts_of s).slots)
      where
        slot : (i : ℕ) → i < x.slots → slot_load s x.slots_at v w first k i
            ≡ pick (await_set v (((parts_of s).slots + 63) / 64) blocks k i) (slot_weight (parts_of s) i) 0
        slot i l =
            ap₂ (λ (t : Bool) (n : ℕ). pick t n 0)
            (ap (λ (f : ℕ). await_from v w f k i) ef ∙ same_set k i)
            (ap weight_of (sym (sound_here.slot_is i (record { physical = 0; type = absent }) l)))

    -- of all
    pub below_load : load_below s x.slots_at v w first awaits x.slots ≡ load_of (parts_of s) v blocks awaits
    unfolding load_below load_of
    below_load =
        sum_same 0 0 awaits (λ k. sum (tabulate 0 x.slots (slot_load s x.slots_at v w first k)))
        (λ k. set_load (parts_of s) (await_set v (((parts_of s).slots + 63) / 64) blocks k)) (λ i l. set-load (0 + i))

    -- ---- the answer
    needed : blocks * (2 * w) + awaits * (1 + w) ≡ words_needed (parts_of s) blocks awaits
    needed = ap (λ (n : ℕ). blocks * (2 * n) + awaits * (1 + n)) same-words

    -- with room or without
    chosen : (t : Bool) → ltb (length v) (words_needed (parts_of s) blocks awaits) ≡ t → loaded_of s v blocks awaits
        ≡ pick t (Err (record { why = NoRoom; id = x.id })) (Ok (record { id = x.id; load = saturated (load_of (parts_of s) v blocks awaits) }))
    unfolding loaded_of
    chosen t r =
        ap (λ (o : Option Refusal). loaded_by o s v blocks awaits) no_refusal
        ∙ ap₂ (λ (t : Bool) (i : ℕ). pick t (Err (record { why = NoRoom; id = i })) (Ok (record { id = i; load = saturated (load_of (parts_of s) v blocks awaits) }))) r (sym id_here)

    pub loaded_is : {words : List ℕ} {total : ℕ} → blocks * (2 * w) + awaits * (1 + w) ≤ length v → words ≡ take (awaits * (1 + w)) (drop (blocks * (2 * w)) v)
        → total ≡ saturated (load_below s x.slots_at words w 0 (length words / (1 + w)) x.slots)
        → ◌≡◌ {A = Result Loaded Refused} (Ok (record { id = x.id; load = total })) (loaded_of s v blocks awaits)
    loaded_is {words} {total} h ew e =
        let r = le-ltb (length v) (words_needed (parts_of s) blocks awaits) (omega (arith, needed)) in
        let t : total ≡ saturated (load_of (parts_of s) v blocks awaits) =
        e ∙ ap (λ (l : List ℕ). saturated (load_below s x.slots_at l w 0 (length l / (1 + w)) x.slots)) ew
        ∙ ap saturated (entries_load v w (blocks * (2 * w)) awaits h s x.slots_at x.slots
        ∙ ap (λ (f : ℕ). load_below s x.slots_at v w f awaits x.slots) (sym ef) ∙ below_load) in
        ap (λ (n : ℕ). Ok (record { id = x.id; load = n })) t ∙ sym (chosen false r)

    pub loaded_none : length v < blocks * (2 * w) + awaits * (1 + w)
        → ◌≡◌ {A = Result Loaded Refused} (Err (record { why = NoRoom; id = x.id })) (loaded_of s v blocks awaits)
    loaded_none h =
        let r = lt-ltb (length v) (words_needed (parts_of s) blocks awaits) (omega (arith, needed)) in sym (chosen true r)

-- ---- a sheet that did not pass
pub loaded_refused : (s v : List ℕ) (blocks awaits : ℕ) {c : Result Script Refused} {e : Refused} → Checks s c → c ≡ Err e
    → Err e ≡ loaded_of s v blocks awaits
unfolding loaded_of checked_of
loaded_refused s v blocks awaits {c} {e} p q = go (refusal s) (sym q ∙ p.answer)
  where
    go : (o : Option Refusal) → Err e ≡ checked_by o (id_of s) (script_of s) → Err e ≡ loaded_by o s v blocks awaits
    go (some r) h = cc
    go none h = let z : ◌≡◌ {A = ℕ} 0 1 = cc in absurd (omega arith)
