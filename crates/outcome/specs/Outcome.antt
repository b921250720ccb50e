-- What the call that checks a sheet answers: document 01's refusal table with its last paragraph, from the bytes, the set of parameters,
-- the limits, the lengths of the lent buffers, and the budget.
use Rattle.std.specs.Prelude.{Bool, List, ℕ, ◌*◌, ltb, length, Result, Ok, Err}
use Rattle.dataflow.specs.Lists.{pick}
use Rattle.budget.specs.declared.FlowBudget.{FlowBudget}
use Rattle.budget.specs.declared.Limits.{Limits}
use Rattle.budget.specs.Budget.{Charged, charged}
use Rattle.format.specs.declared.refusal.Refusal.{Refusal}
use Rattle.format.specs.declared.refusal.Refusal.TheVariants.{NoRoom, WorkLimit}
use Rattle.sizes.specs.declared.Layout.{Layout}
use Rattle.sheet.specs.declared.script.Script.{Script}
use Rattle.sheet.specs.declared.script.Refused.{Refused}
use Rattle.sheet.specs.Decode.{parts_of}
use Rattle.sheet.specs.Scripts.{checked_of}
use Rattle.script.specs.Script.{flow_code, host_in}
use Rattle.sizes.specs.Stages.{Staged, graph_of}
use Rattle.dataflow.specs.Charges.{fixed_points_charges}
use Rattle.verdict.specs.Points.{Checking, stop, on, points_run, points}

-- how long the lent buffers are: words of scratch, words of sets, block records
pub record Lengths : Type 0 where
  pub scratch : ℕ
  pub sets : ℕ
  pub records : ℕ

-- those of the words w of scratch and v of the sets buffer, with so many block records
abbrev pub lengths_with : List ℕ → List ℕ → ℕ → Lengths
lengths_with w v records = record { scratch = length w; sets = length v; records = records }

-- the answer: accepted with function id, B, the number of reachable awaits and the budget; or refused with function id and budget
pub data Outcome : Type 0 where
  accepted : (id blocks awaits : ℕ) → FlowBudget → Outcome
  refused : Refusal → (id : ℕ) → FlowBudget → Outcome

-- `parameter` says which slots of the script are parameters: the sheet's own (`parameter_in`), or those and an added set (`parameter_with`)
module _ (s : List ℕ) (parameter : ℕ → Bool) (x : Script) (l : Limits) where
  -- `check_points`
  abbrev pub after_points : Layout → Checking → Outcome
  after_points y (stop r b) = refused r x.id b
  after_points y (on b) = accepted x.id y.blocks (length (points (flow_code (parts_of s)) parameter y.words)) b

  -- `fixed_points`, then `check_points`
  abbrev pub after_rounds : Layout → Charged → Outcome
  after_rounds y (Err e) = refused WorkLimit x.id e.budget
  after_rounds y (Ok b) =
      after_points y (points_run (flow_code (parts_of s)) parameter l y.words x.slots (host_in (parts_of s)) b)

  -- `graph` and `reachability`, then the rest
  abbrev pub after_graph : Staged → Outcome
  after_graph (Err e) = refused e.why x.id e.budget
  after_graph (Ok r) = after_rounds r.0 (charged l r.1 (fixed_points_charges (flow_code (parts_of s)) parameter r.0.words))

  -- "then scratch below 4 × N words is 10. Then the source's steps"
  abbrev pub judged : Lengths → FlowBudget → Outcome
  judged n b = pick (ltb n.scratch (4 * x.count)) (refused NoRoom x.id b)
      (after_graph (graph_of (flow_code (parts_of s)) x l (record { sets = n.sets; records = n.records }) n.scratch b))

-- the sheet checks first; "as given for 1 to 9 and the early 10"
abbrev pub after_checks : List ℕ → (ℕ → Bool) → Limits → Lengths → FlowBudget → Result Script Refused → Outcome
after_checks s parameter l n b (Err e) = refused e.why e.id b
after_checks s parameter l n b (Ok x) = judged s parameter x l n b

-- the answer
unfoldable pub outcome_of : List ℕ → (ℕ → Bool) → Limits → Lengths → FlowBudget → Outcome
outcome_of s parameter l n b = after_checks s parameter l n b (checked_of s)
