-- The contracts of the exported calls: the answer as document 01 numbers it, and what each lent buffer holds; and the load of such an answer.
use Rattle.std.specs.Prelude.{◌≡◌, ◌↔◌, List, ℕ, Result, Ok, Err}
use Rattle.budget.specs.declared.FlowBudget.{FlowBudget}
use Rattle.budget.specs.Budget.{todays}
use Rattle.format.specs.Refusals.{number_of}
use Rattle.sheet.specs.Decode.{parts_of}
use Rattle.script.specs.Script.{parameter_in}
use Rattle.outcome.specs.Outcome.{Outcome, accepted, refused, outcome_of}
use Rattle.demands.specs.Table.{Due}
use Rattle.block_records.specs.declared.Block.{Block}
use Rattle.sheet.specs.declared.script.Refused.{Refused}
use Rattle.load.specs.declared.Loaded.{Loaded}
use Rattle.load.specs.Load.{loaded_of}
use Rattle.answers.specs.Answers.{Verified}
use Rattle.flow.specs.BlocksVerify.{blocks_after, lengths_of}
use Rattle.flow_c.specs.declared.HostBudget.{HostBudget}
use Rattle.flow_c.specs.declared.FlowAnswer.{FlowAnswer}
use Rattle.flow_c.specs.declared.LoadAnswer.{LoadAnswer}

-- the budget that a host passes
abbrev pub budget_of : HostBudget → FlowBudget
budget_of b = record { work = b.work; retained = b.retained }

-- an answer in numbers: 0 for an acceptance, with function id, B, reachable awaits and budget; else the refusal's number, with function id and budget
abbrev pub answer_of : Outcome → FlowAnswer
answer_of (accepted id blocks awaits b) = record {
  number = 0;
  function = id;
  blocks = blocks;
  awaits = awaits;
  work = b.work;
  retained = b.retained;
}
answer_of (refused r id b) = record {
  number = number_of r;
  function = id;
  blocks = 0;
  awaits = 0;
  work = b.work;
  retained = b.retained;
}

-- the answer that is defined
abbrev pub defined_outcome : List ℕ → FlowBudget → List Block → List ℕ → List ℕ → Outcome
defined_outcome s b list v w = outcome_of s (parameter_in (parts_of s)) todays (lengths_of list v w) b

-- What the call does with a sheet s, a budget b, the block list, and the words of the sets buffer and of scratch (primed: at exit).
pub record HostVerified (s : List ℕ) (b : FlowBudget) (list list' : List Block) (v v' w w' : List ℕ) (r : FlowAnswer) : Type 0 where
  -- the answer is the defined one, in numbers
  pub answer : r ≡ answer_of (defined_outcome s b list v w)
  -- each answer is given exactly if the refusal table says so, in its order, with its budget
  pub table : (o : Outcome) → Due s (parameter_in (parts_of s)) todays (lengths_of list v w) b o ↔ (r ≡ answer_of o)
  -- the sets buffer and scratch: with the sheet's own parameters and today's limits
  pub verified : Verified s (parameter_in (parts_of s)) todays (lengths_of list v w) b (defined_outcome s b list v w) v' w'
  -- what the block list holds, on every outcome
  pub blocks : list' ≡ blocks_after s (lengths_of list v w) (defined_outcome s b list v w)

-- a load in numbers: 0 with the load; else the refusal's number with load 0; both with the function id
abbrev pub load_answer_of : Result Loaded Refused → LoadAnswer
load_answer_of (Ok x) = record { number = 0; function = x.id; load = x.load }
load_answer_of (Err e) = record { number = number_of e.why; function = e.id; load = 0 }

-- the load of an answer on the sheet s with so many blocks and awaits, whose sets are the words v
abbrev pub host_load : List ℕ → List ℕ → ℕ → ℕ → LoadAnswer
host_load s v blocks awaits = load_answer_of (loaded_of s v blocks awaits)
