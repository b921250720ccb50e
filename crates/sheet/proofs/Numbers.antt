-- The sheet checks give 1 to 9 and 17 only, each exactly if its row of the table says so. Assumes nothing.
use mathlib.Core.Path.{◌≡◌, refl, sym, subst}
use mathlib.Core.Bool.{Bool, true, false, not, ◌||◌}
use mathlib.Core.Logic.{◌⊎◌, inl, inr}
use mathlib.Core.List.{List, [], ◌∷◌}
use mathlib.Core.Option.{Option, none, some}
use Prim.Native.Nat.{ℕ, ◌+◌, ◌-◌, ◌%◌, ◌≤◌, ◌<◌}
use lib.Dec.{eqb, ltb}
use lib.ListN.{length}
use native.Mathlib.Omega.{arith}
use Rattle.format.specs.declared.refusal.Refusal.{Refusal}
use Rattle.format.specs.declared.refusal.Refusal.TheVariants.{
  ShortSheet,
  WrongKind,
  BadBody,
  LeftOver,
  TooMany,
  NoCode,
  NoSuchSlot,
  NoSuchTarget,
  OpenEnd,
  ParameterTwice,
}
use Rattle.format.specs.Refusals.{number_of, due, or_else}
use Rattle.repeats.specs.Repeats.{any_twice}
use Rattle.format.specs.Heads.{short, kind_at, end_at, body_length, fields_at}
use Rattle.format.specs.Fields.{no_slot, no_target, any_field, any_above}
use Rattle.operands.specs.Kinds.{ends_block}
use Rattle.records.specs.Records.{function_fault, parameter_slots_fault, repeat_fault, parameters_fault, bad_slot, slot_fault, is_instruction, bad_instruction, instruction_fault}
use Rattle.sheet.specs.Decode.{
  Due,
  function,
  parameters,
  slot,
  instruction,
  slots_in,
  count_in,
  sizes_fault,
  fault_at,
  first_bad,
  dues,
  instruction_at,
  end_fault,
  refusal,
  id_of,
  Parts,
  parts_of,
  refused,
  decoded,
  decode,
}
use Rattle.sheet.specs.Rows.{Table}
use Rattle.sheet.proofs.Rows.{row_1, row_2, row_3, row_4, row_5, row_6, row_7, row_8, row_9, row_17, parts-given}

-- one of 1 to 9, or 17
abbrev pub Small : Refusal → Type 0
Small r = (1 ≤ number_of r) × ((number_of r ≤ 9) ⊎ (number_of r ≡ 17))

-- nothing, or one of them
data Low : Option Refusal → Type 0 where
  nothing : Low none
  low : (r : Refusal) → Small r → Low (some r)

low-due : (b : Bool) (r : Refusal) (rest : Option Refusal) → Small r → Low rest → Low (due b r rest)
low-due true r rest lt h = low r lt
low-due false r rest lt h = h

low_or : (f g : Option Refusal) → Low f → Low g → Low (or_else f g)
low_or none g h k = k
low_or (some r) g h k = h

low-number : (r : Refusal) → Low (some r) → Small r
low-number r (low q lt) = lt

low-function : (s : List ℕ) (at : ℕ) → Low (function_fault s at)
unfolding function_fault
low-function s at = low-due (short s at) ShortSheet _ (omega arith, inl (omega arith))
    (low-due (not (eqb (kind_at s at) 256)) WrongKind _ (omega arith, inl (omega arith))
    (low-due (not (eqb (body_length s at) 12)) BadBody none (omega arith, inl (omega arith)) nothing))

low-sizes : (slots n : ℕ) → Low (sizes_fault slots n)
unfolding sizes_fault
low-sizes slots n = low-due (ltb 65536 slots || ltb 65536 n) TooMany _ (omega arith, inl (omega arith))
    (low-due (eqb n 0) NoCode none (omega arith, inl (omega arith)) nothing)

low-parameters : (s : List ℕ) (slots at : ℕ) → Low (parameters_fault s slots at)
unfolding parameters_fault parameter_slots_fault repeat_fault
low-parameters s slots at = low_or (parameter_slots_fault s slots at) (repeat_fault s at)
    (low-due (short s at) ShortSheet _ (omega arith, inl (omega arith))
    (low-due (not (eqb (kind_at s at) 257)) WrongKind _ (omega arith, inl (omega arith))
    (low-due (not (eqb (body_length s at % 4) 0)) BadBody _ (omega arith, inl (omega arith))
    (low-due (any_above slots (fields_at s at)) NoSuchSlot none (omega arith, inl (omega arith)) nothing))))
    (low-due (any_twice (fields_at s at)) ParameterTwice none (omega arith, inr refl) nothing)

low-slot : (s : List ℕ) (at : ℕ) → Low (slot_fault s at)
unfolding slot_fault
low-slot s at = low-due (short s at) ShortSheet _ (omega arith, inl (omega arith))
    (low-due (not (eqb (kind_at s at) 258)) WrongKind _ (omega arith, inl (omega arith))
    (low-due (bad_slot s (at + 4) (end_at s at)) BadBody none (omega arith, inl (omega arith)) nothing))

low-instruction : (s : List ℕ) (slots n at : ℕ) → Low (instruction_fault s slots n at)
unfolding instruction_fault
low-instruction s slots n at = low-due (short s at) ShortSheet _ (omega arith, inl (omega arith))
    (low-due (not (is_instruction (kind_at s at))) WrongKind _ (omega arith, inl (omega arith))
    (low-due (bad_instruction s at) BadBody _ (omega arith, inl (omega arith))
    (low-due (any_field (no_slot slots) (kind_at s at) 0 (fields_at s at)) NoSuchSlot _ (omega arith, inl (omega arith))
    (low-due (any_field (no_target n) (kind_at s at) 0 (fields_at s at)) NoSuchTarget none (omega arith, inl (omega arith)) nothing))))

low_end : (s : List ℕ) → Low (end_fault s)
unfolding end_fault
low_end s = low-due (not (eqb (instruction_at s (count_in s)) (length s))) LeftOver _ (omega arith, inl (omega arith))
    (low-due (not (ends_block (kind_at s (instruction_at s (count_in s - 1))))) OpenEnd none (omega arith, inl (omega arith)) nothing)

low-at : (s : List ℕ) (d : Due) (at : ℕ) → Low (fault_at s d at)
unfolding fault_at
low-at s function at = low_or (function_fault s at) (sizes_fault (slots_in s) (count_in s)) (low-function s at) (low-sizes (slots_in s) (count_in s))
low-at s parameters at = low-parameters s (slots_in s) at
low-at s slot at = low-slot s at
low-at s instruction at = low-instruction s (slots_in s) (count_in s) at

low_first : (s : List ℕ) (ds : List Due) (at : ℕ) → Low (first_bad s ds at)
unfolding first_bad
low_first s [] at = nothing
low_first s (d ∷ ds) at = low_or (fault_at s d at) (first_bad s ds (end_at s at)) (low-at s d at) (low_first s ds (end_at s at))

pub sheet_number : (s : List ℕ) (r : Refusal) → refusal s ≡ some r → Small r
unfolding refusal
sheet_number s r e = low-number r (subst Low e (low_or (first_bad s (dues s) 0) (end_fault s) (low_first s (dues s) 0) (low_end s)))

decoded-number : (f : Option Refusal) (id : ℕ) (p : Parts) (number i : ℕ) → decoded f id p ≡ refused number i
    → (r : Refusal) × (f ≡ some r) × (number ≡ number_of r)
decoded-number none id p number i e = let z : ◌≡◌ {A = ℕ} 0 1 = cc in absurd (omega arith)
decoded-number (some r) id p number i e = let q : number ≡ number_of r = cc in (r, refl, q)

-- the whole table
pub table : (s : List ℕ) → Table s (decode s)
unfolding decode
table s = record {
  row_1 = λ id. row_1 s id;
  row_2 = λ id. row_2 s id;
  row_3 = λ id. row_3 s id;
  row_4 = λ id. row_4 s id;
  row_5 = λ id. row_5 s id;
  row_6 = λ id. row_6 s id;
  row_7 = λ id. row_7 s id;
  row_8 = λ id. row_8 s id;
  row_9 = λ id. row_9 s id;
  row_17 = λ id. row_17 s id;
  passes = parts-given s;
  numbers = λ number id e.
      let g = decoded-number (refusal s) (id_of s) (parts_of s) number id e in
      let z = sheet_number s g.0 g.1 in
      subst (λ (n : ℕ). (1 ≤ n) × ((n ≤ 9) ⊎ (n ≡ 17))) (sym g.2) z;
}

-- none of 10 to 16 comes from a sheet
pub none-later : (s : List ℕ) (r : Refusal) → refusal s ≡ some r → 9 < number_of r → number_of r < 17 → ⊥
none-later s r e above below = go (sheet_number s r e).1
  where
    go : (number_of r ≤ 9) ⊎ (number_of r ≡ 17) → ⊥
    go (inl q) = omega (arith, above)
    go (inr q) = omega (arith, below)
