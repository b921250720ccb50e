-- The contract of `verify_with`: request 6, the parameters as a set that is handed in.
use Rattle.std.specs.Prelude.{◌≡◌, List, ◌++◌, ℕ, ◌%◌, length, replicate}
use Rattle.budget.specs.declared.FlowBudget.{FlowBudget}
use Rattle.budget.specs.declared.Limits.{Limits}
use Rattle.budget.specs.Budget.{counted}
use Rattle.outcome.specs.Buffers.{list_after}
use Rattle.added.specs.Outcome.{VerifiedWith}
use Rattle.answers.specs.declared.AnswerWithin.{AnswerWithin}
use Rattle.answers.specs.Answers.{outcome_by}
use Rattle.flow.specs.Verify.{lengths_of}

-- What `verify_with` does with a sheet s, an added set of slots, the limits l, a budget b, and the words of the three buffers (primed: at exit).
pub record WordsVerifiedWith (s added : List ℕ) (l : Limits) (b : FlowBudget) (list list' v v' w w' : List ℕ) (r : AnswerWithin) : Type 0 where
  -- the answer, the sets buffer and scratch, with the limits as they count
  pub verified : VerifiedWith s added (counted l) (lengths_of list v w) b (outcome_by r.answer) v' w'
  -- what the block list holds, on every outcome; words that make no whole record are zero
  pub blocks : list' ≡ list_after s (lengths_of list v w) (outcome_by r.answer) ++ replicate (length list % 6) 0
  -- the limits come back as given, on every outcome
  pub limits : r.limits ≡ l
