-- What a call with an added set does by what `examine_with` does. Assumes nothing.
use mathlib.Core.Path.{◌≡◌, sym, ap, ◌∙◌}
use mathlib.Core.Bool.{Bool}
use mathlib.Core.List.{List}
use Prim.Native.Nat.{ℕ}
use lib.ListN.{length, replicate}
use Rattle.std.specs.Prelude.{Result}
use Rattle.budget.specs.declared.FlowBudget.{FlowBudget}
use Rattle.budget.specs.declared.Limits.{Limits}
use Rattle.sheet.specs.Decode.{parts_of}
use Rattle.starts.specs.Starts.{parameter_with}
use Rattle.outcome.specs.Outcome.{Lengths, lengths_with, Outcome}
use Rattle.outcome.specs.Buffers.{sets_after}
use Rattle.demands.proofs.DemandLaws.{demands}
use Rattle.examine.specs.Examine.{outcome_in}
use Rattle.examine.specs.declared.Examined.{Examined}
use Rattle.examine.specs.declared.Refused.{Refused}
use Rattle.added.specs.Outcome.{outcome_with, VerifiedWith}
use Rattle.added.specs.Examine.{ExaminesWith}
use Rattle.added.proofs.OutcomeLaws.{added-below, taken_outcome, table_with}

-- a call whose answer is that of `examine_with`, and which then clears scratch
pub verified-with : {s added : List ℕ} {l : Limits} {b : FlowBudget} {records : ℕ} {w w₁ w' v v' : List ℕ} {e : Result Examined Refused}
    → ExaminesWith s added l records b w w₁ v v' e → (o : Outcome) → o ≡ outcome_in e → w' ≡ replicate (length w₁) 0 → length w₁ ≡ length w
    → VerifiedWith s added l (lengths_with w v records) b o v' w'
verified-with {s} {added} {l} {b} {records} {w} {w₁} {w'} {v} {v'} {e} h o is cleared long =
    let n : Lengths = lengths_with w v records in
    let set : ℕ → Bool = parameter_with (parts_of s) added in
    let a : o ≡ outcome_with s added l n b = is ∙ h.answer in
    let t : v' ≡ sets_after s set n o = h.sets ∙ ap (sets_after s set n) (sym is) in
    record {
      answer = a;
      table = λ p. rw a (table_with s added l n b p);
      sets = t;
      scratch = cleared ∙ ap (λ (k : ℕ). replicate k 0) long;
      demands = λ taken. demands s set l n b (added-below s added) o (sym (taken_outcome s added l n b taken) ∙ sym a) v' t;
    }
