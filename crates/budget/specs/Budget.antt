-- A budget, its limits, and what charges make of it.
use Rattle.std.specs.Prelude.{◌≡◌, List, ℕ, ◌+◌, ◌*◌, ◌≤◌, min, leb, Result, Ok, Err, MatchResult}
use Rattle.dataflow.specs.Lists.{pick}
use Rattle.dataflow.specs.Charges.{Spent, within, crossed, saturating_sum, spend}
use Rattle.budget.specs.declared.FlowBudget.{FlowBudget}
use Rattle.budget.specs.declared.Limits.{Limits}
use Rattle.budget.specs.declared.OverWork.{OverWork}
use Rattle.budget.specs.declared.OverFacts.{OverFacts}

-- today's limits: `MAX_FLOW_WORK` for work, `MAX_FLOW_BYTES` for state and for facts (flow.rs; document 01, rows 11, 12 and 15)
abbrev pub todays : Limits
todays = record { work = 100000000; state = 67108864; facts = 67108864 }

-- limits as they count: each is at most today's
abbrev pub counted : Limits → Limits
counted l = record { work = min l.work todays.work; state = min l.state todays.state; facts = min l.facts todays.facts }

-- limits h are nowhere lower than l
pub record NowhereLower (l h : Limits) : Type 0 where
  pub work : l.work ≤ h.work
  pub state : l.state ≤ h.state
  pub facts : l.facts ≤ h.facts

-- the budget with this work
abbrev pub with_work : FlowBudget → ℕ → FlowBudget
with_work b w = record { work = w; retained = b.retained }

-- what charges make of a budget: the one to go on with, or the one that crossed the limit
abbrev pub Charged : Type 0
Charged = Result FlowBudget OverWork

abbrev pub over : FlowBudget → Charged
over b = Err (record { budget = b })

-- the budget after charges were spent
abbrev pub after_spent : FlowBudget → Spent → Charged
after_spent b (within w) = Ok (with_work b w)
after_spent b (crossed w) = over (with_work b w)

-- flow.rs `charge`, for each of the charges in turn
unfoldable pub charged : Limits → FlowBudget → List ℕ → Charged
charged l b cs = after_spent b (spend l.work b.work cs)

-- what an answer's budget is
abbrev pub budget_of : Charged → FlowBudget
budget_of (Ok b) = b
budget_of (Err e) = e.budget

-- an answer that has a value beside the budget says what charges made of it
abbrev pub ChargedAs : {A : Type 0} → Result (A × FlowBudget) OverWork → Charged → Type 0
ChargedAs r c = MatchResult r (λ p. c ≡ Ok p.1) (λ e. c ≡ Err e)

-- what follows charges that were met; a crossed limit stays
abbrev pub and_charged : Charged → (FlowBudget → Charged) → Charged
and_charged (Ok b) f = f b
and_charged (Err e) f = Err e

abbrev pub over_facts : FlowBudget → Result FlowBudget OverFacts
over_facts b = Err (record { budget = b })

-- flow.rs `check_points`: the facts of one await are retained; above the limit it is 15
unfoldable pub retained : Limits → FlowBudget → ℕ → Result FlowBudget OverFacts
retained l b n =
    let next : FlowBudget = record { work = b.work; retained = saturating_sum b.retained n } in
    pick (leb (saturating_sum b.retained n) l.facts) (Ok next) (over_facts next)

-- document 01, module 2: state bytes are B × (32 × w + 264) + 16 × w
abbrev pub state_bytes : ℕ → ℕ → ℕ
state_bytes blocks words = blocks * (32 * words + 264) + 16 * words

-- document 01, module 2: each await retains 8 × w + 24
abbrev pub facts_bytes : ℕ → ℕ
facts_bytes words = 8 * words + 24
