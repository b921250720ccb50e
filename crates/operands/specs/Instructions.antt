-- The operands of an instruction, as they are read in its fields.
use Rattle.std.specs.Prelude.{List, [], ◌∷◌, ◌++◌, map, ℕ, ◌-◌, eqb, Option, Some, None}
use Rattle.std.specs.List.{slice_get}
use Rattle.std.specs.Option.{option_map}
use Rattle.std.proofs.Math.Option.{none, some}
use Rattle.std.proofs.Math.Option as option
use Rattle.operands.specs.Choice.{pick}
use Rattle.operands.specs.Places.{present, gathered}
use Rattle.operands.specs.Operands.{inputs_of, output_of, targets_of}
use Rattle.operands.specs.ByPattern.{places_from}
use Rattle.operands.specs.Bytes.{number_in}
use Rattle.operands.specs.Kinds.{kind_number}
use Rattle.operands.specs.Roles.{role_number}
use Rattle.operands.specs.declared.instruction.Instruction.{Instruction}
use Rattle.operands.specs.declared.iter.Singles.{Singles}
use Rattle.operands.specs.declared.iter.Inputs.{Inputs}
use Rattle.operands.specs.declared.iter.Targets.{Targets}
use Rattle.operands.specs.declared.slots.Slot.{Slot}
use Rattle.operands.specs.declared.slots.JumpTarget.{JumpTarget}

-- the values of its fields, in the record's order
abbrev pub values_of : Instruction → List ℕ
values_of i = map number_in i.fields.now

-- the slots that it reads, the slot that it writes, and the instructions that it names as targets
abbrev pub inputs_in : Instruction → List ℕ
inputs_in i = inputs_of (kind_number i.kind) (values_of i)

abbrev pub output_in : Instruction → option.Option ℕ
output_in i = output_of (kind_number i.kind) (values_of i)

abbrev pub targets_in : Instruction → List ℕ
targets_in i = targets_of (kind_number i.kind) (values_of i)

-- the i-th of a list of values
abbrev pub nth : List ℕ → ℕ → Option ℕ
nth xs i = slice_get xs i

-- the value that may be there
abbrev pub value_of : option.Option ℕ → Option ℕ
value_of (some x) = Some x
value_of none = None

-- the number of a slot or a target, and the one that an answer holds
abbrev pub slot_number : Slot → ℕ
slot_number s = s.0

abbrev pub target_number : JumpTarget → ℕ
target_number t = t.0

abbrev pub slot_in : Option Slot → Option ℕ
slot_in o = option_map slot_number o

abbrev pub target_in : Option JumpTarget → Option ℕ
target_in o = option_map target_number o

-- the value of one single field as an operand of the class whose role is a, or b where it may be absent: none or one
abbrev pub single_values : ℕ → ℕ → ℕ → ℕ → List ℕ
single_values a b role x = pick (eqb role a) (x ∷ []) (pick (eqb role b) (present x []) [])

-- the single operands of a class in an instruction of kind k with the field values v, from field j on
abbrev pub singles_from : ℕ → ℕ → ℕ → List ℕ → ℕ → List ℕ
singles_from a b k v j = gathered (places_from a b k j (4 - j)) v

-- the operands that an iterator has left
abbrev pub singles_left : Singles → List ℕ
singles_left it =
    singles_from (role_number it.always) (role_number it.maybe) (kind_number it.pattern.kind) (map number_in it.fields.now) it.next

abbrev pub inputs_left : Inputs → List ℕ
inputs_left it = map number_in it.rest.now ++ singles_left it.singles

abbrev pub targets_left : Targets → List ℕ
targets_left it = singles_left it.0
