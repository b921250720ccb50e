-- The contract of `verify_with`: request 6, the parameters as a set that is handed in.
use Rattle.std.specs.Prelude.{◌≡◌, List, ℕ}
use Rattle.budget.specs.declared.FlowBudget.{FlowBudget}
use Rattle.budget.specs.declared.Limits.{Limits}
use Rattle.budget.specs.Budget.{counted}
use Rattle.block_records.specs.declared.Block.{Block}
use Rattle.added.specs.Outcome.{VerifiedWith}
use Rattle.answers.specs.declared.AnswerWithin.{AnswerWithin}
use Rattle.answers.specs.Answers.{outcome_by}
use Rattle.flow.specs.BlocksVerify.{blocks_after, lengths_of}

-- What `verify_with` does with a sheet s, an added set of slots, the limits l, a budget b, the block list, and the words of the sets buffer and of scratch
-- (primed: at exit).
pub record BlocksVerifiedWith (s added : List ℕ) (l : Limits) (b : FlowBudget) (list list' : List Block) (v v' w w' : List ℕ) (r : AnswerWithin) : Type 0 where
  -- the answer, the sets buffer and scratch, with the limits as they count
  pub verified : VerifiedWith s added (counted l) (lengths_of list v w) b (outcome_by r.answer) v' w'
  -- what the block list holds, on every outcome
  pub blocks : list' ≡ blocks_after s (lengths_of list v w) (outcome_by r.answer)
  -- the limits come back as given, on every outcome
  pub limits : r.limits ≡ l
