-- `fixed_points` of solver.rs over the words: for whatever code the words hold, its charges and both sets of every block are those of the
-- defined run.
use Rattle.std.specs.Prelude.{◌≡◌, Bool, true, false, List, ℕ, ◌*◌, ◌≤◌, ◌<◌, Ok}
use Rattle.bitset.specs.Sets.{member}
use Rattle.dataflow.specs.Analyses.{initialization, liveness}
use Rattle.dataflow.specs.Code.{Instruction}
use Rattle.dataflow.specs.Checked.{Scripted}
use Rattle.dataflow.specs.Framework.{bit_at}
use Rattle.dataflow.specs.Results.{result}
use Rattle.dataflow.specs.Charges.{fixed_points_charges}
use Rattle.budget.specs.declared.FlowBudget.{FlowBudget}
use Rattle.budget.specs.declared.Limits.{Limits}
use Rattle.budget.specs.Budget.{Charged, charged}
use Rattle.memory.specs.Cells.{Mem, cell}
use Rattle.memory.specs.Names.{order_cell, successor_cell, state_row, parameters_row, initialized_row, live_row}
use Rattle.sizes.specs.declared.Layout.{Layout}
use Rattle.edges.specs.Flow.{Flows, Fresh}

-- the words of the sets buffer hold both sets of every block, as the defined run ends with them
pub record Sets (code : List Instruction) (parameter : ℕ → Bool) (y : Layout) (t : Mem) : Type 0 where
  pub initialized : (c i : ℕ) → c < y.blocks → i < 64 * y.words
      → member (cell t (initialized_row c)) i ≡ bit_at true (result code parameter y.words initialization).sets c i
  pub live : (c i : ℕ) → c < y.blocks → i < 64 * y.words
      → member (cell t (live_row c)) i ≡ bit_at false (result code parameter y.words liveness).sets c i

-- what `fixed_points` does
pub record Fixed (y : Layout) (l : Limits) (b : FlowBudget) (m m' t t' : Mem) (r : Charged) : Type 0 where
  pub charges : (code : List Instruction) (parameter : ℕ → Bool) → Scripted code parameter y.words → Flows code parameter y m → Fresh y t
      → r ≡ charged l b (fixed_points_charges code parameter y.words)
  pub sets : (code : List Instruction) (parameter : ℕ → Bool) → Scripted code parameter y.words → Flows code parameter y m → Fresh y t
      → (left : FlowBudget) → r ≡ Ok left → Sets code parameter y t'
  -- of scratch only the cells of the search, the ring and the running rows change: the ten first cells, the edges, and the other rows stay
  pub others : (left : FlowBudget) → r ≡ Ok left → (k : ℕ) → k < order_cell → cell m' k ≡ cell m k
  pub edges : (left : FlowBudget) → r ≡ Ok left → (k : ℕ) → successor_cell ≤ k → k < state_row y.blocks → cell m' k ≡ cell m k
  pub rows : (left : FlowBudget) → r ≡ Ok left → (k : ℕ) → parameters_row y.blocks ≤ k → cell m' k ≡ cell m k
