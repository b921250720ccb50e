-- What stands between the three stages of `fixed_points`: the order that the search leaves, and what both rounds then do.
use Rattle.std.specs.Prelude.{◌≡◌, Bool, List, ℕ, length, take, Ok}
use Rattle.dataflow.specs.Code.{Instruction}
use Rattle.dataflow.specs.Results.{searched, postorder}
use Rattle.budget.specs.declared.FlowBudget.{FlowBudget}
use Rattle.budget.specs.declared.Limits.{Limits}
use Rattle.budget.specs.Budget.{Charged, charged}
use Rattle.memory.specs.Cells.{Mem, cell}
use Rattle.memory.specs.Names.{order_cell, ring_cell, queued_cell, state_row, live_state_row}
use Rattle.sizes.specs.declared.Layout.{Layout}
use Rattle.edges.specs.Flow.{Flows, Fresh}
use Rattle.fixed_points.specs.FixedPoints.{Sets}
use Rattle.dataflow.specs.Checked.{Scripted}
use Rattle.dataflow.specs.Charges.{rounds_charges}

-- the words of scratch hold the graph of some code that passed the checks
abbrev pub Flowing : Layout → Mem → Type 0
Flowing y m = (code : List Instruction) × (parameter : ℕ → Bool) × Scripted code parameter y.words × Flows code parameter y m

-- the first n words of ORDER are the code's postorder
pub record InOrder (code : List Instruction) (n : ℕ) (m : Mem) : Type 0 where
  pub order : take n (cell m order_cell) ≡ postorder code
  pub len : n ≡ length (searched code).finished

-- the words hold the graph of some code that passed the checks, and its postorder
abbrev pub Ready : Layout → ℕ → Mem → Type 0
Ready y n m = (code : List Instruction) × (parameter : ℕ → Bool) × Scripted code parameter y.words × Flows code parameter y m × InOrder code n m

-- what both rounds do
pub record RoundsDone (y : Layout) (l : Limits) (b : FlowBudget) (n : ℕ) (m m' t t' : Mem) (r : Charged) : Type 0 where
  pub charges : (code : List Instruction) (parameter : ℕ → Bool) → Scripted code parameter y.words → Flows code parameter y m → InOrder code n m
      → Fresh y t → r ≡ charged l b (rounds_charges code parameter y.words)
  pub sets : (code : List Instruction) (parameter : ℕ → Bool) → Scripted code parameter y.words → Flows code parameter y m → InOrder code n m
      → Fresh y t → (left : FlowBudget) → r ≡ Ok left → Sets code parameter y t'
  -- the ring, its marks and both running rows change
  pub others : (left : FlowBudget) → r ≡ Ok left → (k : ℕ) → (k ≡ ring_cell → ⊥) → (k ≡ queued_cell → ⊥) → (k ≡ state_row y.blocks → ⊥)
      → (k ≡ live_state_row y.blocks → ⊥) → cell m' k ≡ cell m k
