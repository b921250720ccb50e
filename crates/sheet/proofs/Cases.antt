-- Cases of document 01, "Sheets to try", and the smallest sheets for other points of the sheet checks: computed from the definitions.
-- Assumes nothing.
use mathlib.Core.Path.{◌≡◌, refl}
use mathlib.Core.List.{List, [], ◌∷◌}
use Prim.Native.Nat.{ℕ}
use Rattle.operands.specs.Patterns.{groups, pattern_in, pattern_of, role_in, role_at, fixed_at, list_at, fits}
use Rattle.operands.specs.Kinds.{ends_block}
use Rattle.operands.specs.Bytes.{numbers_at}
use Rattle.repeats.specs.Repeats.{any_twice}
use Rattle.format.specs.Heads.{fields_at, short}
use Rattle.format.specs.Types.{absent, reference, tuple, no_more, item, items_at, leaf, type_at, whole_type}
use Rattle.format.specs.Fields.{bad_module, no_slot, no_target, any_field, any_above}
use Rattle.records.specs.Records.{function_fault, parameter_slots_fault, repeat_fault, parameters_fault, bad_slot, slot_fault, bad_instruction, instruction_fault}
use Rattle.sheet.specs.Decode.{
  dues,
  sizes_fault,
  fault_at,
  first_bad,
  offset_of,
  end_fault,
  refusal,
  id_of,
  SlotKind,
  Parts,
  records_from,
  parts_of,
  refused,
  parts,
  decode,
}

-- The sheets, one record a line. A slot without a type has physical 3.
-- a: N is 0
abbrev case_a : List ℕ
case_a =
    14 ∷ 0 ∷ 0 ∷ 1 ∷ 7 ∷ 0 ∷ 0 ∷ 0 ∷ 0 ∷ 0 ∷ 0 ∷ 0 ∷ 0 ∷ 0 ∷ 0 ∷ 0 ∷
    2 ∷ 0 ∷ 1 ∷ 1 ∷ []

-- d: an await and a return, with the bytes of document 01
abbrev case_d : List ℕ
case_d =
    14 ∷ 0 ∷ 0 ∷ 1 ∷ 7 ∷ 0 ∷ 0 ∷ 0 ∷ 2 ∷ 0 ∷ 0 ∷ 0 ∷ 2 ∷ 0 ∷ 0 ∷ 0 ∷
    6 ∷ 0 ∷ 1 ∷ 1 ∷ 0 ∷ 0 ∷ 0 ∷ 0 ∷
    4 ∷ 0 ∷ 2 ∷ 1 ∷ 3 ∷ 0 ∷
    4 ∷ 0 ∷ 2 ∷ 1 ∷ 3 ∷ 0 ∷
    10 ∷ 0 ∷ 1 ∷ 0 ∷ 1 ∷ 0 ∷ 0 ∷ 0 ∷ 0 ∷ 0 ∷ 0 ∷ 0 ∷
    6 ∷ 0 ∷ 40 ∷ 0 ∷ 1 ∷ 0 ∷ 0 ∷ 0 ∷ []

-- j: the last instruction is `Move`
abbrev case_j : List ℕ
case_j =
    14 ∷ 0 ∷ 0 ∷ 1 ∷ 7 ∷ 0 ∷ 0 ∷ 0 ∷ 2 ∷ 0 ∷ 0 ∷ 0 ∷ 1 ∷ 0 ∷ 0 ∷ 0 ∷
    6 ∷ 0 ∷ 1 ∷ 1 ∷ 0 ∷ 0 ∷ 0 ∷ 0 ∷
    4 ∷ 0 ∷ 2 ∷ 1 ∷ 3 ∷ 0 ∷
    4 ∷ 0 ∷ 2 ∷ 1 ∷ 3 ∷ 0 ∷
    10 ∷ 0 ∷ 8 ∷ 0 ∷ 1 ∷ 0 ∷ 0 ∷ 0 ∷ 0 ∷ 0 ∷ 0 ∷ 0 ∷ []

-- k: target N
abbrev case_k : List ℕ
case_k =
    14 ∷ 0 ∷ 0 ∷ 1 ∷ 7 ∷ 0 ∷ 0 ∷ 0 ∷ 0 ∷ 0 ∷ 0 ∷ 0 ∷ 1 ∷ 0 ∷ 0 ∷ 0 ∷
    2 ∷ 0 ∷ 1 ∷ 1 ∷
    6 ∷ 0 ∷ 38 ∷ 0 ∷ 1 ∷ 0 ∷ 0 ∷ 0 ∷ []

-- k: target N - 1
abbrev case_k1 : List ℕ
case_k1 =
    14 ∷ 0 ∷ 0 ∷ 1 ∷ 7 ∷ 0 ∷ 0 ∷ 0 ∷ 0 ∷ 0 ∷ 0 ∷ 0 ∷ 1 ∷ 0 ∷ 0 ∷ 0 ∷
    2 ∷ 0 ∷ 1 ∷ 1 ∷
    6 ∷ 0 ∷ 38 ∷ 0 ∷ 0 ∷ 0 ∷ 0 ∷ 0 ∷ []

-- l: slot 10 of 10
abbrev case_l : List ℕ
case_l =
    14 ∷ 0 ∷ 0 ∷ 1 ∷ 7 ∷ 0 ∷ 0 ∷ 0 ∷ 10 ∷ 0 ∷ 0 ∷ 0 ∷ 1 ∷ 0 ∷ 0 ∷ 0 ∷
    6 ∷ 0 ∷ 1 ∷ 1 ∷ 10 ∷ 0 ∷ 0 ∷ 0 ∷
    4 ∷ 0 ∷ 2 ∷ 1 ∷ 3 ∷ 0 ∷
    4 ∷ 0 ∷ 2 ∷ 1 ∷ 3 ∷ 0 ∷
    4 ∷ 0 ∷ 2 ∷ 1 ∷ 3 ∷ 0 ∷
    4 ∷ 0 ∷ 2 ∷ 1 ∷ 3 ∷ 0 ∷
    4 ∷ 0 ∷ 2 ∷ 1 ∷ 3 ∷ 0 ∷
    4 ∷ 0 ∷ 2 ∷ 1 ∷ 3 ∷ 0 ∷
    4 ∷ 0 ∷ 2 ∷ 1 ∷ 3 ∷ 0 ∷
    4 ∷ 0 ∷ 2 ∷ 1 ∷ 3 ∷ 0 ∷
    4 ∷ 0 ∷ 2 ∷ 1 ∷ 3 ∷ 0 ∷
    4 ∷ 0 ∷ 2 ∷ 1 ∷ 3 ∷ 0 ∷
    2 ∷ 0 ∷ 41 ∷ 0 ∷ []

-- a tuple of an empty tuple and a reference
abbrev tupled : List ℕ
tupled =
    14 ∷ 0 ∷ 0 ∷ 1 ∷ 7 ∷ 0 ∷ 0 ∷ 0 ∷ 1 ∷ 0 ∷ 0 ∷ 0 ∷ 1 ∷ 0 ∷ 0 ∷ 0 ∷
    2 ∷ 0 ∷ 1 ∷ 1 ∷
    8 ∷ 0 ∷ 2 ∷ 1 ∷ 9 ∷ 4 ∷ 2 ∷ 4 ∷ 0 ∷ 3 ∷
    2 ∷ 0 ∷ 41 ∷ 0 ∷ []

-- sixteen tuples and an empty one within: the seventeenth
abbrev inner_empty : List ℕ
inner_empty =
    14 ∷ 0 ∷ 0 ∷ 1 ∷ 7 ∷ 0 ∷ 0 ∷ 0 ∷ 1 ∷ 0 ∷ 0 ∷ 0 ∷ 1 ∷ 0 ∷ 0 ∷ 0 ∷
    2 ∷ 0 ∷ 1 ∷ 1 ∷
    37 ∷ 0 ∷ 2 ∷ 1 ∷ 3 ∷ 4 ∷ 1 ∷ 4 ∷ 1 ∷ 4 ∷ 1 ∷ 4 ∷ 1 ∷ 4 ∷ 1 ∷ 4 ∷ 1 ∷ 4 ∷ 1 ∷ 4 ∷ 1 ∷
    4 ∷ 1 ∷ 4 ∷ 1 ∷ 4 ∷ 1 ∷ 4 ∷ 1 ∷ 4 ∷ 1 ∷ 4 ∷ 1 ∷ 4 ∷ 1 ∷ 4 ∷ 1 ∷ 4 ∷ 0 ∷
    2 ∷ 0 ∷ 41 ∷ 0 ∷ []

-- seventeen tuples
abbrev seventeen : List ℕ
seventeen =
    14 ∷ 0 ∷ 0 ∷ 1 ∷ 7 ∷ 0 ∷ 0 ∷ 0 ∷ 1 ∷ 0 ∷ 0 ∷ 0 ∷ 1 ∷ 0 ∷ 0 ∷ 0 ∷
    2 ∷ 0 ∷ 1 ∷ 1 ∷
    38 ∷ 0 ∷ 2 ∷ 1 ∷ 3 ∷ 4 ∷ 1 ∷ 4 ∷ 1 ∷ 4 ∷ 1 ∷ 4 ∷ 1 ∷ 4 ∷ 1 ∷ 4 ∷ 1 ∷ 4 ∷ 1 ∷ 4 ∷ 1 ∷
    4 ∷ 1 ∷ 4 ∷ 1 ∷ 4 ∷ 1 ∷ 4 ∷ 1 ∷ 4 ∷ 1 ∷ 4 ∷ 1 ∷ 4 ∷ 1 ∷ 4 ∷ 1 ∷ 4 ∷ 1 ∷ 1 ∷
    2 ∷ 0 ∷ 41 ∷ 0 ∷ []

-- absent is a whole type only
abbrev absent_item : List ℕ
absent_item =
    14 ∷ 0 ∷ 0 ∷ 1 ∷ 7 ∷ 0 ∷ 0 ∷ 0 ∷ 1 ∷ 0 ∷ 0 ∷ 0 ∷ 1 ∷ 0 ∷ 0 ∷ 0 ∷
    2 ∷ 0 ∷ 1 ∷ 1 ∷
    6 ∷ 0 ∷ 2 ∷ 1 ∷ 3 ∷ 4 ∷ 1 ∷ 0 ∷
    2 ∷ 0 ∷ 41 ∷ 0 ∷ []

-- a byte after the last record
abbrev one_more : List ℕ
one_more =
    14 ∷ 0 ∷ 0 ∷ 1 ∷ 7 ∷ 0 ∷ 0 ∷ 0 ∷ 0 ∷ 0 ∷ 0 ∷ 0 ∷ 1 ∷ 0 ∷ 0 ∷ 0 ∷
    2 ∷ 0 ∷ 1 ∷ 1 ∷
    2 ∷ 0 ∷ 41 ∷ 0 ∷
    0 ∷ []

-- 65,537 slots and no code: 5 before 6
abbrev many_slots : List ℕ
many_slots =
    14 ∷ 0 ∷ 0 ∷ 1 ∷ 7 ∷ 0 ∷ 0 ∷ 0 ∷ 1 ∷ 0 ∷ 1 ∷ 0 ∷ 0 ∷ 0 ∷ 0 ∷ 0 ∷
    2 ∷ 0 ∷ 1 ∷ 1 ∷ []

-- a module slot above 65,535 in a field after a slot that is not there: 3 before 7
abbrev large_module : List ℕ
large_module =
    14 ∷ 0 ∷ 0 ∷ 1 ∷ 7 ∷ 0 ∷ 0 ∷ 0 ∷ 0 ∷ 0 ∷ 0 ∷ 0 ∷ 2 ∷ 0 ∷ 0 ∷ 0 ∷
    2 ∷ 0 ∷ 1 ∷ 1 ∷
    10 ∷ 0 ∷ 6 ∷ 0 ∷ 0 ∷ 0 ∷ 0 ∷ 0 ∷ 0 ∷ 0 ∷ 1 ∷ 0 ∷
    2 ∷ 0 ∷ 41 ∷ 0 ∷ []

-- a function record of another length: no id yet
abbrev short_function : List ℕ
short_function =
    10 ∷ 0 ∷ 0 ∷ 1 ∷ 7 ∷ 0 ∷ 0 ∷ 0 ∷ 0 ∷ 0 ∷ 0 ∷ 0 ∷ []

-- an empty sheet
abbrev no_byte_sheet : List ℕ
no_byte_sheet = []

-- the shortest sheet with a parameter named twice: what stands behind the record is not looked at
abbrev twice : List ℕ
twice =
    14 ∷ 0 ∷ 0 ∷ 1 ∷ 7 ∷ 0 ∷ 0 ∷ 0 ∷ 1 ∷ 0 ∷ 0 ∷ 0 ∷ 1 ∷ 0 ∷ 0 ∷ 0 ∷
    10 ∷ 0 ∷ 1 ∷ 1 ∷ 0 ∷ 0 ∷ 0 ∷ 0 ∷ 0 ∷ 0 ∷ 0 ∷ 0 ∷ []

-- a repeat, and behind it a slot at the slot count
abbrev twice_and_above : List ℕ
twice_and_above =
    14 ∷ 0 ∷ 0 ∷ 1 ∷ 7 ∷ 0 ∷ 0 ∷ 0 ∷ 1 ∷ 0 ∷ 0 ∷ 0 ∷ 1 ∷ 0 ∷ 0 ∷ 0 ∷
    14 ∷ 0 ∷ 1 ∷ 1 ∷ 0 ∷ 0 ∷ 0 ∷ 0 ∷ 0 ∷ 0 ∷ 0 ∷ 0 ∷ 1 ∷ 0 ∷ 0 ∷ 0 ∷ []

-- The parts of those that pass.
abbrev plain : SlotKind
plain = record { physical = 3; type = absent }

abbrev parts_d : Parts
parts_d = record {
  id = 7;
  slots = 2;
  params = 0 ∷ [];
  kinds = plain ∷ plain ∷ [];
  code = record { kind = 1; fields = 1 ∷ 0 ∷ [] } ∷ record { kind = 40; fields = 1 ∷ [] } ∷ [];
}

abbrev parts_k1 : Parts
parts_k1 = record { id = 7; slots = 0; params = []; kinds = []; code = record { kind = 38; fields = 0 ∷ [] } ∷ [] }

abbrev parts_tupled : Parts
parts_tupled = record {
  id = 7;
  slots = 1;
  params = [];
  kinds = record { physical = 9; type = tuple (item (tuple no_more) (item reference no_more)) } ∷ [];
  code = record { kind = 41; fields = [] } ∷ [];
}

pub record Cases : Type 0 where
  pub no_code : decode case_a ≡ refused 6 7
  pub await_return : decode case_d ≡ parts parts_d
  pub open_end : decode case_j ≡ refused 9 7
  pub target_n : decode case_k ≡ refused 8 7
  pub target_before_n : decode case_k1 ≡ parts parts_k1
  pub slot_ten : decode case_l ≡ refused 7 7
  pub tuple_type : decode tupled ≡ parts parts_tupled
  pub sixteen_and_empty : decode inner_empty ≡ refused 3 7
  pub seventeen_deep : decode seventeen ≡ refused 3 7
  pub absent_item_lem : decode absent_item ≡ refused 3 7
  pub left_over : decode one_more ≡ refused 4 7
  pub five_before_six : decode many_slots ≡ refused 5 7
  pub three_before_seven : decode large_module ≡ refused 3 7
  pub not_named : decode short_function ≡ refused 3 0
  pub no_bytes : decode no_byte_sheet ≡ refused 1 0
  pub named_twice : decode twice ≡ refused 17 7
  pub seven_before_seventeen : decode twice_and_above ≡ refused 7 7

pub cases : Cases
unfolding groups pattern_in pattern_of role_in role_at fixed_at list_at fits ends_block numbers_at fields_at short items_at leaf type_at whole_type bad_module no_slot no_target any_field any_above any_twice function_fault parameter_slots_fault repeat_fault parameters_fault bad_slot slot_fault bad_instruction instruction_fault dues sizes_fault fault_at first_bad offset_of end_fault refusal id_of records_from parts_of decode
cases = record {
  no_code = refl;
  await_return = refl;
  open_end = refl;
  target_n = refl;
  target_before_n = refl;
  slot_ten = refl;
  tuple_type = refl;
  sixteen_and_empty = refl;
  seventeen_deep = refl;
  absent_item_lem = refl;
  left_over = refl;
  five_before_six = refl;
  three_before_seven = refl;
  not_named = refl;
  no_bytes = refl;
  named_twice = refl;
  seven_before_seventeen = refl;
}
