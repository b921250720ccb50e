-- What a call does by what the examination does. Assumes nothing.
use mathlib.Core.Path.{◌≡◌, refl, sym, ap, ◌∙◌}
use mathlib.Core.Bool.{Bool}
use mathlib.Core.List.{List}
use Prim.Native.Nat.{ℕ, ◌≤◌}
use native.Mathlib.Omega.{arith}
use lib.ListN.{length, replicate}
use Rattle.std.specs.Prelude.{Result, Ok, Err}
use Rattle.budget.specs.declared.FlowBudget.{FlowBudget}
use Rattle.budget.specs.declared.Limits.{Limits}
use Rattle.sizes.specs.Sizes.{scratch_words}
use Rattle.run.specs.Terms.{Bounded, nothing-bounded}
use Rattle.sheet.specs.Decode.{parts_of}
use Rattle.sheet.specs.Scripts.{script_of}
use Rattle.script.specs.Script.{parameter_in}
use Rattle.starts.specs.Starts.{parameter_with}
use Rattle.starts.proofs.StartLaws.{own_below, with_below}
use Rattle.outcome.specs.Outcome.{Lengths, lengths_with, outcome_of}
use Rattle.outcome.specs.Buffers.{sets_after}
use Rattle.demands.proofs.TableLaws.{table}
use Rattle.demands.proofs.DemandLaws.{Below, sound_script, demands}
use Rattle.examine.specs.Examine.{outcome_in, Listing, Examines}
use Rattle.examine.specs.declared.Examined.{Examined}
use Rattle.examine.specs.declared.Refused.{Refused}
use Rattle.answers.specs.Answers.{Answer, outcome_by, Verified, answer_in, layout_in}

-- ---- the parameters of a sheet that passed are slots of it

-- its own
pub own-slots : (s : List ℕ) → Below s (parameter_in (parts_of s))
own-slots s passed = own_below s (script_of s) (sound_script s passed)

-- and the added ones
pub with_slots : (s added : List ℕ) → Below s (parameter_with (parts_of s) added)
with_slots s added passed = with_below s (script_of s) (sound_script s passed) added

-- ---- the answer

-- it keeps the outcome
pub same_outcome : (e : Result Examined Refused) → outcome_by (answer_in e) ≡ outcome_in e
same_outcome (Ok x) = refl
same_outcome (Err e) = refl

-- the layout of the blocks in scratch: what listing them asks. The answer may be of a call with an added set.
module _ {s : List ℕ} {records : ℕ} {w₁ : List ℕ} where
  pub listed_bounded : (e : Result Examined Refused) → ((x : Examined) → e ≡ Ok x → Listing s records w₁ x.layout) → Bounded (layout_in e)
  listed_bounded (Ok x) listing = (listing x refl).bounded
  listed_bounded (Err z) listing = nothing-bounded

  pub listed_fits : (e : Result Examined Refused) → ((x : Examined) → e ≡ Ok x → Listing s records w₁ x.layout)
      → scratch_words (layout_in e) ≤ length w₁
  listed_fits (Ok x) listing = (listing x refl).fits
  listed_fits (Err z) listing = omega arith

-- a call whose answer is that of the examination, and which then clears scratch
pub verified : {s : List ℕ} {parameter : ℕ → Bool} {l : Limits} {b : FlowBudget} {records : ℕ} {w w₁ w' v v' : List ℕ} {e : Result Examined Refused}
    → Below s parameter → Examines s parameter l records b w w₁ v v' e → (r : Answer) → r ≡ answer_in e → w' ≡ replicate (length w₁) 0
    → length w₁ ≡ length w → Verified s parameter l (lengths_with w v records) b (outcome_by r) v' w'
verified {s} {parameter} {l} {b} {records} {w} {w₁} {w'} {v} {v'} {e} below h r is cleared long =
    let n : Lengths = lengths_with w v records in
    let o : outcome_by r ≡ outcome_in e = ap outcome_by is ∙ same_outcome e in
    let a : outcome_by r ≡ outcome_of s parameter l n b = o ∙ h.answer in
    let t : v' ≡ sets_after s parameter n (outcome_by r) = h.sets ∙ ap (sets_after s parameter n) (sym o) in
    record {
      answer = a;
      table = λ p. rw a (table s parameter l n b p);
      sets = t;
      scratch = cleared ∙ ap (λ (k : ℕ). replicate k 0) long;
      demands = demands s parameter l n b below (outcome_by r) (sym a) v' t;
    }
