-- What every form of the call says: its answer, what it leaves in the sets buffer and in scratch, and what both mean.
use Rattle.std.specs.Prelude.{◌≡◌, Bool, List, ◌↔◌, ℕ, Result, Ok, Err}
use Rattle.budget.specs.declared.FlowBudget.{FlowBudget}
use Rattle.budget.specs.declared.Limits.{Limits}
use Rattle.sizes.specs.declared.Layout.{Layout}
use Rattle.outcome.specs.Outcome.{Lengths, Outcome, accepted, refused, outcome_of}
use Rattle.outcome.specs.Buffers.{sets_after, scratch_after}
use Rattle.demands.specs.Demands.{Demands}
use Rattle.demands.specs.Table.{Due}
use Rattle.examine.specs.declared.Examined.{Examined}
use Rattle.examine.specs.declared.Refused.{Refused}
use Rattle.answers.specs.declared.Accepted.{Accepted}

-- the answer of a call
abbrev pub Answer : Type 0
Answer = Result Accepted Refused

-- an answer in the words of document 01: function id, B, reachable awaits and budget; or refusal, function id and budget
abbrev pub outcome_by : Answer → Outcome
outcome_by (Ok a) = accepted a.id a.blocks a.awaits a.budget
outcome_by (Err e) = refused e.why e.id e.budget

-- What a call does with a sheet s whose parameters are these, with the limits l as they count, buffers of the lengths n and a budget b, if o is its
-- answer and v' and w' are the words of the sets buffer and of scratch at exit. A form of the call adds its block list and its form of the answer.
pub record Verified (s : List ℕ) (parameter : ℕ → Bool) (l : Limits) (n : Lengths) (b : FlowBudget) (o : Outcome) (v' w' : List ℕ) : Type 0 where
  -- the answer is the defined one
  pub answer : o ≡ outcome_of s parameter l n b
  -- each answer is given exactly if the refusal table says so, in its order, with its budget
  pub table : (p : Outcome) → Due s parameter l n b p ↔ (o ≡ p)
  -- what both buffers hold, on every outcome
  pub sets : v' ≡ sets_after s parameter n o
  pub scratch : w' ≡ scratch_after n
  -- demands 2 and 3, of the answer and of the sets buffer as it is left
  pub demands : Demands s parameter o v'

-- the answer of `examine` without its layout
abbrev pub answer_in : Result Examined Refused → Answer
answer_in (Ok x) = Ok (record { id = x.id; blocks = x.layout.blocks; awaits = x.awaits; budget = x.budget })
answer_in (Err e) = Err e

-- the layout in it: none after a refusal
abbrev pub layout_in : Result Examined Refused → Layout
layout_in (Ok x) = x.layout
layout_in (Err e) = record { instructions = 0; blocks = 0; words = 0; awaits = 0; extra = 0 }
