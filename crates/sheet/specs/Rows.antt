-- The refusal table of document 01, rows 1 to 9 and 17, row by row: what it says of the record that is due at an offset, and that each number is given
-- exactly if its row says so (`Table`, a field of the contract of `check`).
use Rattle.std.specs.Prelude.{◌≡◌, Bool, true, false, ◌||◌, not, List, [], ◌∷◌, ◌⊎◌, ◌↔◌, ℕ, ◌+◌, ◌-◌, ◌%◌, ◌≤◌, ◌<◌, eqb, ltb, length, get_or}
use Rattle.std.proofs.Math.Option.{none}
use Rattle.operands.specs.Kinds.{ends_block}
use Rattle.repeats.specs.Repeats.{any_twice}
use Rattle.format.specs.Heads.{short, kind_at, end_at, body_length, fields_at}
use Rattle.format.specs.Fields.{no_slot, no_target, any_field, any_above}
use Rattle.records.specs.Records.{bad_slot, is_instruction, bad_instruction}
use Rattle.sheet.specs.Decode.{
  slots_in,
  count_in,
  Due,
  function,
  parameters,
  slot,
  instruction,
  dues,
  fault_at,
  offset_of,
  instruction_at,
  id_of,
  parts_of,
  Decoded,
  refused,
  parts,
}

-- a test of the record that is due at an offset
abbrev pub Test : Type 0
Test = List ℕ → Due → ℕ → Bool

-- 1, short sheet: fewer bytes left than the record needs, or length below 2
abbrev pub short_sheet : Test
short_sheet s d at = short s at

-- 2, wrong kind: the kind isn't one due here
abbrev pub wrong_kind : Test
wrong_kind s function at = not (eqb (kind_at s at) 256)
wrong_kind s parameters at = not (eqb (kind_at s at) 257)
wrong_kind s slot at = not (eqb (kind_at s at) 258)
wrong_kind s instruction at = not (is_instruction (kind_at s at))

-- 3, bad body: length, type, physical byte or M doesn't fit
abbrev pub bad_body : Test
bad_body s function at = not (eqb (body_length s at) 12)
bad_body s parameters at = not (eqb (body_length s at % 4) 0)
bad_body s slot at = bad_slot s (at + 4) (end_at s at)
bad_body s instruction at = bad_instruction s at

-- 5, too many: slots or N above 65,536
abbrev pub too_many : Test
too_many s function at = ltb 65536 (slots_in s) || ltb 65536 (count_in s)
too_many s parameters at = false
too_many s slot at = false
too_many s instruction at = false

-- 6, no code: N is 0
abbrev pub no_code : Test
no_code s function at = eqb (count_in s) 0
no_code s parameters at = false
no_code s slot at = false
no_code s instruction at = false

-- 7, no such slot: slot at or above the slot count
abbrev pub no_such_slot : Test
no_such_slot s function at = false
no_such_slot s parameters at = any_above (slots_in s) (fields_at s at)
no_such_slot s slot at = false
no_such_slot s instruction at = any_field (no_slot (slots_in s)) (kind_at s at) 0 (fields_at s at)

-- 8, no such target: target at or above N
abbrev pub no_such_target : Test
no_such_target s function at = false
no_such_target s parameters at = false
no_such_target s slot at = false
no_such_target s instruction at = any_field (no_target (count_in s)) (kind_at s at) 0 (fields_at s at)

-- 17, parameter twice: a slot is named a second time
abbrev pub parameter_twice : Test
parameter_twice s function at = false
parameter_twice s parameters at = any_twice (fields_at s at)
parameter_twice s slot at = false
parameter_twice s instruction at = false

-- the k-th record that is due, and where it stands
abbrev pub due_at : List ℕ → ℕ → Due
due_at s k = get_or (dues s) k function

abbrev pub record_at : List ℕ → ℕ → ℕ
record_at s k = offset_of s 0 k

-- nothing is due for the k-th record
abbrev pub Passes : List ℕ → ℕ → Type 0
Passes s k = fault_at s (due_at s k) (record_at s k) ≡ none

-- none of these tests holds
abbrev pub None : List Test → List ℕ → Due → ℕ → Type 0
None [] s d at = Unit {0}
None (t ∷ ts) s d at = (t s d at ≡ false) × None ts s d at

-- the first bad record decides: the test holds there, and none of those of lower numbers does
pub record FirstBad (test : Test) (lower : List Test) (s : List ℕ) (id : ℕ) : Type 0 where
  pub index : ℕ
  pub is_due : index < length (dues s)
  pub before : (j : ℕ) → j < index → Passes s j
  pub holds : test s (due_at s index) (record_at s index) ≡ true
  pub least : None lower s (due_at s index) (record_at s index)
  pub carries : id ≡ id_of s

-- 4, left over: all records passed, and bytes follow the last one
pub record LeftOverGiven (s : List ℕ) (id : ℕ) : Type 0 where
  pub passed : (j : ℕ) → j < length (dues s) → Passes s j
  pub more : instruction_at s (count_in s) ≡ length s → ⊥
  pub carries : id ≡ id_of s

-- 9, open end: all records passed, no bytes follow, and the last instruction is none of 12, 38 to 41
pub record OpenEndGiven (s : List ℕ) (id : ℕ) : Type 0 where
  pub passed : (j : ℕ) → j < length (dues s) → Passes s j
  pub no_more : instruction_at s (count_in s) ≡ length s
  pub open_end : ends_block (kind_at s (instruction_at s (count_in s - 1))) ≡ false
  pub carries : id ≡ id_of s

-- and a sheet has parts exactly if none of these is given
pub record PassedGiven (s : List ℕ) : Type 0 where
  pub passed : (j : ℕ) → j < length (dues s) → Passes s j
  pub no_more : instruction_at s (count_in s) ≡ length s
  pub closed_end : ends_block (kind_at s (instruction_at s (count_in s - 1))) ≡ true

-- The table, of an answer o in document 01's numbers: "given exactly if". The first bad record decides; within it 1, 2, 3, 5, 6, 7, 8,
-- 17. Then 4, then 9.
pub record Table (s : List ℕ) (o : Decoded) : Type 0 where
  pub row_1 : (id : ℕ) → (o ≡ refused 1 id) ↔ FirstBad short_sheet [] s id
  pub row_2 : (id : ℕ) → (o ≡ refused 2 id) ↔ FirstBad wrong_kind (short_sheet ∷ []) s id
  pub row_3 : (id : ℕ) → (o ≡ refused 3 id) ↔ FirstBad bad_body (short_sheet ∷ wrong_kind ∷ []) s id
  pub row_4 : (id : ℕ) → (o ≡ refused 4 id) ↔ LeftOverGiven s id
  pub row_5 : (id : ℕ) → (o ≡ refused 5 id) ↔ FirstBad too_many (short_sheet ∷ wrong_kind ∷ bad_body ∷ []) s id
  pub row_6 : (id : ℕ) → (o ≡ refused 6 id) ↔ FirstBad no_code (short_sheet ∷ wrong_kind ∷ bad_body ∷ too_many ∷ []) s id
  pub row_7 : (id : ℕ) → (o ≡ refused 7 id) ↔ FirstBad no_such_slot (short_sheet ∷ wrong_kind ∷ bad_body ∷ too_many ∷ no_code ∷ []) s id
  pub row_8 : (id : ℕ) → (o ≡ refused 8 id) ↔ FirstBad no_such_target (short_sheet ∷ wrong_kind ∷ bad_body ∷ too_many ∷ no_code ∷ no_such_slot ∷ []) s id
  pub row_9 : (id : ℕ) → (o ≡ refused 9 id) ↔ OpenEndGiven s id
  pub row_17 : (id : ℕ) → (o ≡ refused 17 id)
      ↔ FirstBad parameter_twice (short_sheet ∷ wrong_kind ∷ bad_body ∷ too_many ∷ no_code ∷ no_such_slot ∷ no_such_target ∷ []) s id
  -- a sheet that has parts passed
  pub passes : (o ≡ parts (parts_of s)) ↔ PassedGiven s
  -- and a sheet gives no other number: none of 10 to 16
  pub numbers : (number id : ℕ) → o ≡ refused number id → (1 ≤ number) × ((number ≤ 9) ⊎ (number ≡ 17))
