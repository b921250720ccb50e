-- The contract of `kagari_flow_verify_within`: request 5, "Limits a store can lower".
use Rattle.std.specs.Prelude.{◌≡◌, ◌↔◌, List, ℕ}
use Rattle.budget.specs.declared.FlowBudget.{FlowBudget}
use Rattle.budget.specs.declared.Limits.{Limits}
use Rattle.budget.specs.Budget.{counted}
use Rattle.sheet.specs.Decode.{parts_of}
use Rattle.script.specs.Script.{parameter_in}
use Rattle.outcome.specs.Outcome.{Outcome, outcome_of}
use Rattle.demands.specs.Table.{Due}
use Rattle.block_records.specs.declared.Block.{Block}
use Rattle.answers.specs.declared.AnswerWithin.{AnswerWithin}
use Rattle.answers.specs.Answers.{outcome_by, Verified}
use Rattle.flow.specs.BlocksVerify.{blocks_after, lengths_of}
use Rattle.flow_c.specs.declared.HostLimits.{HostLimits}
use Rattle.flow_c.specs.declared.FlowAnswer.{FlowAnswer}
use Rattle.flow_c.specs.declared.FlowAnswerWithin.{FlowAnswerWithin}
use Rattle.flow_c.specs.Exports.{answer_of}

-- the limits that a host passes
abbrev pub limits_of : HostLimits → Limits
limits_of l = record { work = l.work; state = l.state; facts = l.facts }

-- and as they come back
abbrev pub host_limits_of : Limits → HostLimits
host_limits_of l = record { work = l.work; state = l.state; facts = l.facts }

-- an answer in numbers with the limits as they were given
abbrev pub answer_within_of : AnswerWithin → FlowAnswerWithin
answer_within_of a = record { answer = answer_of (outcome_by a.answer); limits = host_limits_of a.limits }

-- the answer that is defined under the limits l as they count
abbrev pub outcome_under : List ℕ → Limits → FlowBudget → List Block → List ℕ → List ℕ → Outcome
outcome_under s l b list v w = outcome_of s (parameter_in (parts_of s)) l (lengths_of list v w) b

-- What `HostVerified` says, under the limits l as they count in the place of today's.
pub record HostVerifiedUnder (s : List ℕ) (l : Limits) (b : FlowBudget) (list list' : List Block) (v v' w w' : List ℕ) (r : FlowAnswer) : Type 0 where
  -- the answer is the defined one, in numbers
  pub answer : r ≡ answer_of (outcome_under s l b list v w)
  -- each answer is given exactly if the refusal table says so, in its order, with its budget
  pub table : (o : Outcome) → Due s (parameter_in (parts_of s)) l (lengths_of list v w) b o ↔ (r ≡ answer_of o)
  -- the sets buffer and scratch: with the sheet's own parameters
  pub verified : Verified s (parameter_in (parts_of s)) l (lengths_of list v w) b (outcome_under s l b list v w) v' w'
  -- what the block list holds, on every outcome
  pub blocks : list' ≡ blocks_after s (lengths_of list v w) (outcome_under s l b list v w)

-- What the call does with a sheet s, the limits l, a budget b, the block list, and the words of the sets buffer and of scratch (primed: at exit).
pub record HostVerifiedWithin (s : List ℕ) (l : HostLimits) (b : FlowBudget) (list list' : List Block) (v v' w w' : List ℕ) (r : FlowAnswerWithin) : Type 0 where
  -- "each at most today's figure; a higher one counts as today's"
  pub verified : HostVerifiedUnder s (counted (limits_of l)) b list list' v v' w w' r.answer
  -- it "comes back as given", on every outcome
  pub limits : r.limits ≡ l
