-- A sheet's parts, or why it is refused: document 01, "The sheet" and "Refusal table", rows 1 to 9, and 17 of request 2.
use Rattle.std.specs.Prelude.{Bool, ◌||◌, not, List, [], ◌∷◌, ◌++◌, ℕ, zero, suc, ◌+◌, ◌-◌, eqb, ltb, length, get_or, replicate}
use Rattle.std.proofs.Math.Option.{Option, none, some}
use Rattle.operands.specs.Kinds.{ends_block}
use Rattle.operands.specs.Bytes.{u32_at}
use Rattle.format.specs.declared.refusal.Refusal.{Refusal}
use Rattle.format.specs.declared.refusal.Refusal.TheVariants.{LeftOver, TooMany, NoCode, OpenEnd}
use Rattle.format.specs.Refusals.{number_of, due, or_else}
use Rattle.format.specs.Heads.{kind_at, end_at, fields_at}
use Rattle.format.specs.Types.{Ty, absent, inline_host, Read, got, unfit, whole_type}
use Rattle.records.specs.Records.{function_fault, parameters_fault, slot_fault, instruction_fault}

-- the numbers of the function record, which is the first: id, slot count, instruction count N
abbrev pub id_in : List ℕ → ℕ
id_in s = u32_at s 4

abbrev pub slots_in : List ℕ → ℕ
slots_in s = u32_at s 8

abbrev pub count_in : List ℕ → ℕ
count_in s = u32_at s 12

-- the kinds of record
pub data Due : Type 0 where
  function : Due
  parameters : Due
  slot : Due
  instruction : Due

-- the records that are due, in order
unfoldable pub dues : List ℕ → List Due
dues s = function ∷ parameters ∷ (replicate (slots_in s) slot ++ replicate (count_in s) instruction)

-- 5, too many: slots or N above 65,536; 6, no code: N is 0
unfoldable pub sizes_fault : ℕ → ℕ → Option Refusal
sizes_fault slots n = due (ltb 65536 slots || ltb 65536 n) TooMany (due (eqb n 0) NoCode none)

-- the refusal that is due for the record at an offset: the least number of 1, 2, 3, 5, 6, 7, 8, 17
unfoldable pub fault_at : List ℕ → Due → ℕ → Option Refusal
fault_at s function at = or_else (function_fault s at) (sizes_fault (slots_in s) (count_in s))
fault_at s parameters at = parameters_fault s (slots_in s) at
fault_at s slot at = slot_fault s at
fault_at s instruction at = instruction_fault s (slots_in s) (count_in s) at

-- the first bad record decides
unfoldable pub first_bad : List ℕ → List Due → ℕ → Option Refusal
first_bad s [] at = none
first_bad s (d ∷ ds) at =
    let rest = first_bad s ds (end_at s at) in
    or_else (fault_at s d at) rest

-- the offset of the k-th record after the one at an offset
unfoldable pub offset_of : List ℕ → ℕ → ℕ → ℕ
offset_of s at zero = at
offset_of s at (suc k) = offset_of s (end_at s at) k

-- where the parameter record, the slot records and the instruction records begin
abbrev pub parameters_at : List ℕ → ℕ
parameters_at s = end_at s 0

abbrev pub slots_at : List ℕ → ℕ
slots_at s = end_at s (parameters_at s)

abbrev pub code_at : List ℕ → ℕ
code_at s = offset_of s (slots_at s) (slots_in s)

-- where the k-th instruction record stands
abbrev pub instruction_at : List ℕ → ℕ → ℕ
instruction_at s k = offset_of s (code_at s) k

-- then 4, left over: bytes follow the last record; then 9, open end: the last instruction is none of 12, 38 to 41
unfoldable pub end_fault : List ℕ → Option Refusal
end_fault s =
    due (not (eqb (instruction_at s (count_in s)) (length s))) LeftOver
    (due (not (ends_block (kind_at s (instruction_at s (count_in s - 1))))) OpenEnd
    none)

-- why a sheet is refused, if it is
unfoldable pub refusal : List ℕ → Option Refusal
refusal s =
    let rest = end_fault s in
    or_else (first_bad s (dues s) 0) rest

-- the function id that a refusal carries: 0 until the function record has passed 1 to 3
abbrev pub id_after : Option Refusal → ℕ → ℕ
id_after (some r) id = 0
id_after none id = id

unfoldable pub id_of : List ℕ → ℕ
id_of s = id_after (function_fault s 0) (id_in s)

-- an instruction: its kind, and its fields in the record's order
pub record Instruction : Type 0 where
  pub kind : ℕ
  pub fields : List ℕ

-- a slot: its physical byte and its type
pub record SlotKind : Type 0 where
  pub physical : ℕ
  pub type : Ty

-- document 01, module 6: a host slot has physical 10, or a type that `inline_host` accepts
unfoldable pub is_host : SlotKind → Bool
is_host k = eqb k.physical 10 || inline_host k.type

-- what a sheet holds
pub record Parts : Type 0 where
  pub id : ℕ
  pub slots : ℕ
  pub params : List ℕ
  pub kinds : List SlotKind
  pub code : List Instruction

-- a type that was read
abbrev pub type_in : Read Ty → Ty
type_in (got t next) = t
type_in unfit = absent

-- the slot and the instruction of the record at an offset
abbrev pub slot_of : List ℕ → ℕ → SlotKind
slot_of s at = record { physical = get_or s (at + 4) 0; type = type_in (whole_type s (end_at s at) (at + 5)) }

abbrev pub instruction_of : List ℕ → ℕ → Instruction
instruction_of s at = record { kind = kind_at s at; fields = fields_at s at }

-- what stands in n records from an offset on, each read by the function given
unfoldable pub records_from : {A : Type 0} → (ℕ → A) → List ℕ → ℕ → ℕ → List A
records_from read s at zero = []
records_from read s at (suc n) = read at ∷ records_from read s (end_at s at) n

-- the parts of a sheet that passes
unfoldable pub parts_of : List ℕ → Parts
parts_of s = record {
  id = id_in s;
  slots = slots_in s;
  params = fields_at s (parameters_at s);
  kinds = records_from (slot_of s) s (slots_at s) (slots_in s);
  code = records_from (instruction_of s) s (code_at s) (count_in s);
}

pub data Decoded : Type 0 where
  refused : (number id : ℕ) → Decoded
  parts : Parts → Decoded

abbrev pub decoded : Option Refusal → ℕ → Parts → Decoded
decoded (some r) id p = refused (number_of r) id
decoded none id p = parts p

-- what a sheet means
unfoldable pub decode : List ℕ → Decoded
decode s =
    let p = parts_of s in
    decoded (refusal s) (id_of s) p
