-- The contract of `verify_within`: request 5, "Limits a store can lower".
use Rattle.std.specs.Prelude.{◌≡◌, List, ℕ}
use Rattle.budget.specs.declared.FlowBudget.{FlowBudget}
use Rattle.budget.specs.declared.Limits.{Limits}
use Rattle.budget.specs.Budget.{counted}
use Rattle.sheet.specs.Decode.{parts_of}
use Rattle.script.specs.Script.{parameter_in}
use Rattle.block_records.specs.declared.Block.{Block}
use Rattle.answers.specs.declared.AnswerWithin.{AnswerWithin}
use Rattle.answers.specs.Answers.{Answer, outcome_by, Verified}
use Rattle.flow.specs.BlocksVerify.{blocks_after, lengths_of}

-- What `BlocksVerified` says, under the limits l as they count in the place of today's.
pub record BlocksVerifiedUnder (s : List ℕ) (l : Limits) (b : FlowBudget) (list list' : List Block) (v v' w w' : List ℕ) (r : Answer) : Type 0 where
  -- the answer, the sets buffer and scratch: with the sheet's own parameters
  pub verified : Verified s (parameter_in (parts_of s)) l (lengths_of list v w) b (outcome_by r) v' w'
  -- what the block list holds, on every outcome
  pub blocks : list' ≡ blocks_after s (lengths_of list v w) (outcome_by r)

-- What `verify_within` does with a sheet s, the limits l, a budget b, the block list, and the words of the sets buffer and of scratch (primed: at exit).
pub record BlocksVerifiedWithin (s : List ℕ) (l : Limits) (b : FlowBudget) (list list' : List Block) (v v' w w' : List ℕ) (r : AnswerWithin) : Type 0 where
  -- "each at most today's figure; a higher one counts as today's"
  pub verified : BlocksVerifiedUnder s (counted l) b list list' v v' w w' r.answer
  -- it "comes back as given", on every outcome
  pub limits : r.limits ≡ l
