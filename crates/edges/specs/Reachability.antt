-- The stack search of flow.rs `reachability`, over the words of scratch.
use Rattle.std.specs.Prelude.{◌≡◌, false, List, [], ◌∷◌, map, ℕ, ◌<◌, length, get_or, replicate, OnOk}
use Rattle.dataflow.specs.Lists.{sum, flag}
use Rattle.dataflow.specs.Search.{Sweep, sweep, sweep_from}
use Rattle.memory.specs.Cells.{Mem, word}
use Rattle.memory.specs.Frame.{Only, NoRow}
use Rattle.memory.specs.Names.{reachable_cell, stack_block_cell}
use Rattle.sizes.specs.declared.Layout.{Layout}
use Rattle.budget.specs.declared.FlowBudget.{FlowBudget}
use Rattle.budget.specs.declared.Limits.{Limits}
use Rattle.budget.specs.Budget.{Charged, charged}
use Rattle.edges.specs.Edges.{Holds}

-- the search from block 0 of n blocks, to its end
abbrev pub swept_from : (ℕ → List ℕ) → ℕ → Sweep
swept_from next n = sweep next n (sweep_from next n 0)

-- its charges: one for each edge of each block taken
abbrev pub sweep_charges : (ℕ → List ℕ) → ℕ → List ℕ
sweep_charges next n = replicate (sum (map (λ b. length (next b)) (swept_from next n).taken)) 1

-- the cells of the search
abbrev pub sweep_cells : List ℕ
sweep_cells = reachable_cell ∷ stack_block_cell ∷ []

-- what `reachability` does, for whatever graph the words hold: its charges, and if they are met, the marks of the blocks that are visited; two
-- cells change
pub record Reached (y : Layout) (l : Limits) (b : FlowBudget) (m m' : Mem) (r : Charged) : Type 0 where
  pub charges : (next : ℕ → List ℕ) → Holds next y m → r ≡ charged l b (sweep_charges next y.blocks)
  pub marks : (next : ℕ → List ℕ) → Holds next y m
      → OnOk r ((c : ℕ) → c < y.blocks → word m' reachable_cell c ≡ flag (get_or (swept_from next y.blocks).visited c false))
  pub only : Only sweep_cells NoRow m m'
