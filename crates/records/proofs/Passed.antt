-- What a record that passed is like: each check taken back. Assumes nothing.
use mathlib.Core.Path.{◌≡◌, refl, sym, subst}
use mathlib.Core.Bool.{Bool, true, false, ◌||◌, not, and-eq-true_iff}
use mathlib.Core.List.{List, [], ◌∷◌}
use mathlib.Core.Option.{Option, none, some}
use Prim.Native.Nat.{ℕ, ◌+◌, ◌*◌, ◌-◌, ◌/◌, ◌%◌, ◌≤◌, ◌<◌}
use native.Mathlib.Omega.{arith}
use borrow.Author.Tests.{not-false, eqb-true, leb-true, leb-false}
use lib.Dec.{eqb, leb, ltb}
use lib.ListN.{length, get_or}
use Rattle.bitset.specs.Below.{AllBelow}
use Rattle.operands.specs.Bytes.{numbers_at}
use Rattle.operands.specs.Patterns.{fits}
use Rattle.repeats.specs.Repeats.{any_twice}
use Rattle.format.specs.declared.refusal.Refusal.{Refusal}
use Rattle.format.specs.declared.refusal.Refusal.TheVariants.{ShortSheet, WrongKind, BadBody, NoSuchSlot, NoSuchTarget, ParameterTwice}
use Rattle.format.specs.Refusals.{due, or_else}
use Rattle.format.specs.Heads.{short, kind_at, end_at, body_length, fields_at}
use Rattle.format.specs.Types.{whole_type, ends_with}
use Rattle.format.specs.Fields.{bad_module, no_slot, no_target, any_field, any_above}
use Rattle.format.proofs.HeadLaws.{lies}
use Rattle.std.proofs.lemmas.Bool.{or_parts}
use Rattle.records.specs.Records.{function_fault, parameter_slots_fault, repeat_fault, parameters_fault, bad_slot, slot_fault, bad_instruction, instruction_fault}

-- a test on the way did not hold
pub none-due : (b : Bool) (r : Refusal) (rest : Option Refusal) → due b r rest ≡ none → (b ≡ false) × (rest ≡ none)
none-due false r rest e = (refl, e)
none-due true r rest e = let z : ◌≡◌ {A = ℕ} 0 1 = cc in absurd (omega arith)

-- no number at or above a bound
pub none_above : (n : ℕ) (l : List ℕ) → any_above n l ≡ false → AllBelow n l
unfolding any_above
none_above n [] e = tt
none_above n (x ∷ l) e =
    let a = or_parts (leb n x) (any_above n l) e in
    (leb-false n x a.0, none_above n l a.1)

pub record FunctionPassed (s : List ℕ) (at : ℕ) : Type 0 where
  pub whole : short s at ≡ false
  pub kind : kind_at s at ≡ 256
  pub length_is : body_length s at ≡ 12

pub function-passed : (s : List ℕ) (at : ℕ) → function_fault s at ≡ none → FunctionPassed s at
unfolding function_fault
function-passed s at e =
    let a = none-due (short s at) ShortSheet (due (not (eqb (kind_at s at) 256)) WrongKind (due (not (eqb (body_length s at) 12)) BadBody none)) e in
    let b = none-due (not (eqb (kind_at s at) 256)) WrongKind (due (not (eqb (body_length s at) 12)) BadBody none) a.1 in
    let c = none-due (not (eqb (body_length s at) 12)) BadBody none b.1 in
    record { whole = a.0; kind = eqb-true _ _ (not-false _ b.0); length_is = eqb-true _ _ (not-false _ c.0) }

-- of two refusals none is due
pub neither : (a b : Option Refusal) → or_else a b ≡ none → (a ≡ none) × (b ≡ none)
neither none b e = (refl, e)
neither (some r) b e = let z : ◌≡◌ {A = ℕ} 0 1 = cc in absurd (omega arith)

pub record ParameterSlotsPassed (s : List ℕ) (slots at : ℕ) : Type 0 where
  pub whole : short s at ≡ false
  pub kind : kind_at s at ≡ 257
  pub fields : body_length s at % 4 ≡ 0
  pub below : any_above slots (fields_at s at) ≡ false

pub slots-passed : (s : List ℕ) (slots at : ℕ) → parameter_slots_fault s slots at ≡ none → ParameterSlotsPassed s slots at
unfolding parameter_slots_fault
slots-passed s slots at e =
    let a = none-due _ ShortSheet _ e in
    let b = none-due _ WrongKind _ a.1 in
    let c = none-due _ BadBody _ b.1 in
    let d = none-due _ NoSuchSlot _ c.1 in
    record { whole = a.0; kind = eqb-true _ _ (not-false _ b.0); fields = eqb-true _ _ (not-false _ c.0); below = d.0 }

-- it lies in the sheet
pub parameters-lie : (s : List ℕ) (slots at x : ℕ) → parameter_slots_fault s slots at ≡ none → x ≡ end_at s at → (at + 4 ≤ x) × (x ≤ length s)
parameters-lie s slots at x e q =
    let w = lies s at (slots-passed s slots at e).whole in
    (omega (arith, w.ordered, q), omega (arith, w.within, q))

-- so do its parameters, and each is a slot
pub parameters_below : (s : List ℕ) (slots at x : ℕ) → parameter_slots_fault s slots at ≡ none → x ≡ end_at s at
    → (at + 4 + 4 * ((x - (at + 4)) / 4) ≤ length s) × AllBelow slots (numbers_at s (at + 4) ((x - (at + 4)) / 4))
unfolding fields_at
parameters_below s slots at x e q =
    let p = slots-passed s slots at e in
    let l = parameters-lie s slots at x e q in (
      omega (arith, l.0, l.1),
      subst (λ (end : ℕ). AllBelow slots (numbers_at s (at + 4) ((end - (at + 4)) / 4))) (sym q) (none_above slots (fields_at s at) p.below),
    )

pub record ParametersPassed (s : List ℕ) (slots at : ℕ) : Type 0 where
  pub all_slots : ParameterSlotsPassed s slots at
  pub once : any_twice (fields_at s at) ≡ false

pub parameters-passed : (s : List ℕ) (slots at : ℕ) → parameters_fault s slots at ≡ none → ParametersPassed s slots at
unfolding parameters_fault repeat_fault
parameters-passed s slots at e =
    let o = neither (parameter_slots_fault s slots at) (repeat_fault s at) e in
    let t = none-due (any_twice (fields_at s at)) ParameterTwice none o.1 in
    record { all_slots = slots-passed s slots at o.0; once = t.0 }

pub record SlotPassed (s : List ℕ) (at : ℕ) : Type 0 where
  pub whole : short s at ≡ false
  pub kind : kind_at s at ≡ 258
  pub some_body : at + 4 < end_at s at
  pub typed : ends_with (end_at s at) (whole_type s (end_at s at) (at + 5)) ≡ true

pub slot-passed : (s : List ℕ) (at : ℕ) → slot_fault s at ≡ none → SlotPassed s at
unfolding slot_fault bad_slot
slot-passed s at e =
    let q : at + 5 ≡ at + 4 + 1 = omega arith in
    let a = none-due _ ShortSheet _ e in
    let b = none-due _ WrongKind _ a.1 in
    let c = none-due _ BadBody _ b.1 in
    let t = not (ends_with (end_at s at) (whole_type s (end_at s at) (at + 4 + 1))) in
    let f = or_parts (leb (end_at s at) (at + 4)) (ltb 12 (get_or s (at + 4) 0) || t) c.0 in
    let g = or_parts (ltb 12 (get_or s (at + 4) 0)) t f.1 in
    record {
      whole = a.0;
      kind = eqb-true _ _ (not-false _ b.0);
      some_body = leb-false _ _ f.0;
      typed = rw q (not-false _ g.1);
    }

pub record InstructionPassed (s : List ℕ) (slots n at : ℕ) : Type 0 where
  pub whole : short s at ≡ false
  pub low : 1 ≤ kind_at s at
  pub high : kind_at s at ≤ 41
  pub fields : body_length s at % 4 ≡ 0
  pub fitting : fits (kind_at s at) (body_length s at / 4) ≡ true
  pub modules : any_field bad_module (kind_at s at) 0 (fields_at s at) ≡ false
  pub slots_there : any_field (no_slot slots) (kind_at s at) 0 (fields_at s at) ≡ false
  pub targets_there : any_field (no_target n) (kind_at s at) 0 (fields_at s at) ≡ false

pub instruction-passed : (s : List ℕ) (slots n at : ℕ) → instruction_fault s slots n at ≡ none → InstructionPassed s slots n at
unfolding instruction_fault bad_instruction
instruction-passed s slots n at e =
    let a = none-due _ ShortSheet _ e in
    let b = none-due _ WrongKind _ a.1 in
    let c = none-due _ BadBody _ b.1 in
    let d = none-due _ NoSuchSlot _ c.1 in
    let f = none-due _ NoSuchTarget _ d.1 in
    let k = (and-eq-true_iff (leb 1 (kind_at s at)) (leb (kind_at s at) 41)).0 (not-false _ b.0) in
    let x = or_parts _ _ c.0 in
    let y = or_parts _ _ x.1 in
    record {
      whole = a.0;
      low = leb-true _ _ k.0;
      high = leb-true _ _ k.1;
      fields = eqb-true _ _ (not-false _ x.0);
      fitting = not-false _ y.0;
      modules = y.1;
      slots_there = d.0;
      targets_there = f.0;
    }
