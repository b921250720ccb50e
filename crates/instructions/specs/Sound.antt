-- What may be relied on of a sheet that passed the checks.
use Rattle.std.specs.Prelude.{◌≡◌, true, false, List, [], ℕ, suc, ◌+◌, ◌*◌, ◌-◌, ◌≤◌, ◌<◌, length, get_or}
use Rattle.std.proofs.Math.Option.{some}
use Rattle.operands.specs.Bytes.{numbers_at}
use Rattle.operands.specs.Kinds.{ends_block}
use Rattle.operands.specs.Operands.{inputs_of, output_of, targets_of}
use Rattle.operands.specs.Patterns.{fits}
use Rattle.format.specs.Heads.{kind_at, end_at, fields_at}
use Rattle.repeats.specs.Repeats.{any_twice}
use Rattle.sheet.specs.declared.script.Script.{Script}
use Rattle.sheet.specs.Decode.{SlotKind, slot_of, instruction_of, records_from, offset_of, parts_of, parts, decode, is_host}
use Rattle.sheet.specs.Scripts.{awaits_in}
use Rattle.instructions.specs.Placed.{Stands}
use Rattle.instructions.specs.Slots.{SlotsStand}
use Rattle.bitset.specs.Below.{AllBelow}

-- where the k-th instruction record stands
abbrev pub code_offset : List ℕ → Script → ℕ → ℕ
code_offset s x k = offset_of s x.code_at k

-- its kind, and the values of its fields
abbrev pub code_kind : List ℕ → Script → ℕ → ℕ
code_kind s x k = kind_at s (code_offset s x k)

abbrev pub code_values : List ℕ → Script → ℕ → List ℕ
code_values s x k = fields_at s (code_offset s x k)

pub record Sound (s : List ℕ) (x : Script) : Type 0 where
  -- the sheet has parts, and the script says where they stand
  pub means : decode s ≡ parts (parts_of s)
  pub id_is : (parts_of s).id ≡ x.id
  pub slots_are : (parts_of s).slots ≡ x.slots
  pub params_are : (parts_of s).params ≡ numbers_at s x.params_at x.params
  pub kinds_are : (parts_of s).kinds ≡ records_from (slot_of s) s x.slots_at x.slots
  pub code_are : (parts_of s).code ≡ records_from (instruction_of s) s x.code_at x.count
  -- sizes
  pub few_slots : x.slots ≤ 65536
  pub few_code : x.count ≤ 65536
  pub some_code : 1 ≤ x.count
  -- the awaits, reached or not
  pub awaits_are : x.awaits ≡ awaits_in (parts_of s).code
  pub few_awaits : x.awaits ≤ x.count
  -- the parameters lie in the sheet, each is a slot of the function, and none is named twice
  pub params_inside : x.params_at + 4 * x.params ≤ length s
  pub params_below : AllBelow x.slots (parts_of s).params
  pub params_once : any_twice (parts_of s).params ≡ false
  -- the slot records stand one after the other, and each holds its slot
  pub slots_stand : SlotsStand s x.slots_at x.slots
  pub slot_is : (k : ℕ) (d : SlotKind) → k < x.slots → get_or (parts_of s).kinds k d ≡ slot_of s (offset_of s x.slots_at k)
  -- none behind the words of host slots is one
  pub few_host_words : x.host_words ≤ x.slots
  pub hosts_before : (k : ℕ) → 64 * x.host_words ≤ k → k < x.slots → is_host (slot_of s (offset_of s x.slots_at k)) ≡ false
  -- so do the instruction records, up to the end of the sheet, and each holds its instruction
  pub stands : (k : ℕ) → k < x.count → Stands s (code_offset s x k)
  pub next_is : (k : ℕ) → end_at s (code_offset s x k) ≡ code_offset s x (suc k)
  pub inside : (k : ℕ) → k ≤ x.count → code_offset s x k ≤ length s
  pub ends : code_offset s x x.count ≡ length s
  pub instruction_is : (k : ℕ) → k < x.count
      → get_or (parts_of s).code k (record { kind = 0; fields = [] }) ≡ record { kind = code_kind s x k; fields = code_values s x k }
  -- the fields of each instruction fit its kind, its slots are slots of the function and its targets instructions
  pub readable : (k : ℕ) → k < x.count → fits (code_kind s x k) (length (code_values s x k)) ≡ true
  pub inputs_below : (k : ℕ) → k < x.count → AllBelow x.slots (inputs_of (code_kind s x k) (code_values s x k))
  pub output_below : (k y : ℕ) → k < x.count → output_of (code_kind s x k) (code_values s x k) ≡ some y → y < x.slots
  pub targets_below : (k : ℕ) → k < x.count → AllBelow x.count (targets_of (code_kind s x k) (code_values s x k))
  -- and the last one ends a block
  pub last_ends : ends_block (code_kind s x (x.count - 1)) ≡ true
