-- The contract of `kagari_flow_verify_with`: request 6, the parameters as a set that is handed in.
use Rattle.std.specs.Prelude.{◌≡◌, ◌↔◌, List, ℕ}
use Rattle.budget.specs.declared.FlowBudget.{FlowBudget}
use Rattle.budget.specs.Budget.{counted}
use Rattle.outcome.specs.Outcome.{Outcome}
use Rattle.block_records.specs.declared.Block.{Block}
use Rattle.added.specs.Outcome.{outcome_with, DueWith, VerifiedWith}
use Rattle.flow.specs.BlocksVerify.{blocks_after, lengths_of}
use Rattle.flow_c.specs.declared.HostLimits.{HostLimits}
use Rattle.flow_c.specs.declared.FlowAnswerWithin.{FlowAnswerWithin}
use Rattle.flow_c.specs.Exports.{answer_of}
use Rattle.flow_c.specs.Within.{limits_of}

-- the answer that is defined
abbrev pub defined_with : List ℕ → List ℕ → HostLimits → FlowBudget → List Block → List ℕ → List ℕ → Outcome
defined_with s added l b list v w = outcome_with s added (counted (limits_of l)) (lengths_of list v w) b

-- What the call does with a sheet s, an added set of slots, the limits l, a budget b, the block list, and the words of the sets buffer and of scratch
-- (primed: at exit).
pub record HostVerifiedWith (s added : List ℕ) (l : HostLimits) (b : FlowBudget) (list list' : List Block) (v v' w w' : List ℕ) (r : FlowAnswerWithin) : Type 0 where
  -- the answer is the defined one, in numbers
  pub answer : r.answer ≡ answer_of (defined_with s added l b list v w)
  -- each answer is given exactly if it is due
  pub table : (o : Outcome) → DueWith s added (counted (limits_of l)) (lengths_of list v w) b o ↔ (r.answer ≡ answer_of o)
  -- the sets buffer and scratch, and what they mean
  pub verified : VerifiedWith s added (counted (limits_of l)) (lengths_of list v w) b (defined_with s added l b list v w) v' w'
  -- what the block list holds, on every outcome
  pub blocks : list' ≡ blocks_after s (lengths_of list v w) (defined_with s added l b list v w)
  -- the limits come back as given, on every outcome
  pub limits : r.limits ≡ l
