-- The refusals of `graph` and `reachability` in their order: 12 at a charge up to where the blocks are counted, 11, the later 10, 12 at a later charge.
use Rattle.std.specs.Prelude.{List, ℕ, ltb, Result, Ok, Err}
use Rattle.dataflow.specs.Lists.{pick}
use Rattle.dataflow.specs.Code.{Instruction}
use Rattle.dataflow.specs.Charges.{counting_charges, building_charges}
use Rattle.dataflow.specs.Results.{block_count}
use Rattle.budget.specs.declared.FlowBudget.{FlowBudget}
use Rattle.budget.specs.declared.Limits.{Limits}
use Rattle.budget.specs.Budget.{Charged, charged, state_bytes}
use Rattle.format.specs.declared.refusal.Refusal.{Refusal}
use Rattle.format.specs.declared.refusal.Refusal.TheVariants.{NoRoom, StateLimit, WorkLimit}
use Rattle.sheet.specs.declared.script.Script.{Script}
use Rattle.sizes.specs.declared.Layout.{Layout}
use Rattle.sizes.specs.declared.Lent.{Lent}
use Rattle.sizes.specs.declared.Stopped.{Stopped}
use Rattle.sizes.specs.Sizes.{layout_of, short_of}

-- a refusal, with the budget as charged
abbrev pub halt : Refusal → FlowBudget → Stopped
halt r b = record { why = r; budget = b }

-- it stands in place of any value
abbrev pub stopped : {A : Type 0} → Refusal → FlowBudget → Result A Stopped
stopped r b = Err (halt r b)

-- what a stage answers: the layout and the budget to go on with, or a refusal
abbrev pub Staged : Type 0
Staged = Result (Layout × FlowBudget) Stopped

-- rows 11 and 10, in this order: "other lack of room is 10 right after 11"
unfoldable pub rooms_of : Limits → Layout → ℕ → Lent → FlowBudget → Staged
rooms_of l y n lent b =
    pick (ltb l.state (state_bytes y.blocks y.words)) (stopped StateLimit b) (pick (short_of y n lent) (stopped NoRoom b) (Ok (y, b)))

-- row 12 if a charge crossed the limit, else what follows
abbrev pub if_met : Charged → (FlowBudget → Staged) → Staged
if_met (Ok b) f = f b
if_met (Err e) f = stopped WorkLimit e.budget

-- what follows a stage that goes on; a refusal stays
abbrev pub if_ok : Staged → (Layout → FlowBudget → Staged) → Staged
if_ok (Ok r) f = f r.0 r.1
if_ok (Err e) f = Err e

-- charges that leave the layout as it is
abbrev pub stage : Limits → List ℕ → Layout → FlowBudget → Staged
stage l cs y b = if_met (charged l b cs) (λ left. Ok (y, left))

-- the answer for the code of script x; n words of scratch are lent
unfoldable pub graph_of : List Instruction → Script → Limits → Lent → ℕ → FlowBudget → Staged
graph_of code x l lent n b =
    if_ok (if_met (charged l b (counting_charges code)) (rooms_of l (layout_of x (block_count code)) n lent)) (stage l (building_charges code))
