-- What a stage that passed says. Assumes nothing.
use mathlib.Core.Path.{◌≡◌, refl, sym, ◌∙◌}
use mathlib.Core.Bool.{◌||◌}
use mathlib.Core.List.{List}
use mathlib.Core.Option.{none}
use Prim.Native.Nat.{ℕ, zero, suc, ◌+◌, ◌/◌, ◌≤◌}
use native.Mathlib.Omega.{arith}
use borrow.Author.Tests.{eqb-false}
use lib.Dec.{eqb, ltb}
use lib.ListN.{length}
use Rattle.std.specs.Prelude.{Result, Ok}
use Rattle.format.specs.declared.refusal.Refusal.{Refusal}
use Rattle.format.specs.declared.refusal.Refusal.TheVariants.{TooMany, NoCode}
use Rattle.format.specs.Refusals.{due}
use Rattle.format.specs.Heads.{end_at, body_length}
use Rattle.format.proofs.HeadLaws.{lies}
use Rattle.records.specs.Records.{parameter_slots_fault, repeat_fault, parameters_fault}
use Rattle.records.proofs.Passed.{none-due, neither, parameters-passed}
use Rattle.reader.specs.declared.Reader.{Reader}
use Rattle.sheet.specs.Decode.{sizes_fault}
use Rattle.sheet.specs.Stages.{ReadsOnce}
use Rattle.sheet.proofs.WalkLaws.{passed_by}

-- the parameter record, each slot of it named once
pub record OnceRead (slots k : ℕ) (r r' : Reader) : Type 0 where
  pub no_fault : parameters_fault r.sheet.now slots r.at ≡ none
  pub count : k ≡ body_length r.sheet.now r.at / 4
  pub next : r'.at ≡ end_at r.sheet.now r.at
  pub begins : r.at + 4 ≤ length r.sheet.now

all_slots : (s : List ℕ) (slots at : ℕ) → parameters_fault s slots at ≡ none → parameter_slots_fault s slots at ≡ none
unfolding parameters_fault
all_slots s slots at e = (neither (parameter_slots_fault s slots at) (repeat_fault s at) e).0

pub once_read : {slots k : ℕ} {r r' : Reader} {x : Result ℕ Refusal} → ReadsOnce slots r r' x → x ≡ Ok k → OnceRead slots k r r'
once_read {slots = slots} {k = k} {r = r} h e =
    let s = r.sheet.now in
    let p = passed_by (parameters_fault s slots r.at) (body_length s r.at / 4) k (sym h.answer ∙ e) in
    let w = lies s r.at (parameters-passed s slots r.at p.0).all_slots.whole in
    record { no_fault = p.0; count = p.1; next = h.at ∙ rw (all_slots s slots r.at p.0); begins = omega (arith, w.ordered, w.within) }

-- sizes that fit
pub some_code : (slots n : ℕ) → sizes_fault slots n ≡ none → 1 ≤ n
unfolding sizes_fault
some_code slots n e =
    let a = none-due (ltb 65536 slots || ltb 65536 n) TooMany (due (eqb n 0) NoCode none) e in
    let b = none-due (eqb n 0) NoCode none a.1 in
    positive n (eqb-false n 0 b.0)
  where
    positive : (m : ℕ) → (m ≡ 0 → ⊥) → 1 ≤ m
    positive zero z = absurd (z refl)
    positive (suc m) z = omega arith
