-- The depth-first search of solver.rs `postorder`, over the words of scratch.
use Rattle.std.specs.Prelude.{◌≡◌, List, [], ◌∷◌, reverse, ℕ, ◌*◌, length, replicate, take, Result, IfOk}
use Rattle.dataflow.specs.Search.{Search, search, search_from, turns, all_turns}
use Rattle.memory.specs.Cells.{Mem, cell}
use Rattle.memory.specs.Frame.{Only, NoRow}
use Rattle.memory.specs.Names.{order_cell, stack_block_cell, stack_edge_cell, visited_cell}
use Rattle.sizes.specs.declared.Layout.{Layout}
use Rattle.budget.specs.declared.FlowBudget.{FlowBudget}
use Rattle.budget.specs.declared.Limits.{Limits}
use Rattle.budget.specs.declared.OverWork.{OverWork}
use Rattle.budget.specs.Budget.{charged, ChargedAs}
use Rattle.edges.specs.Edges.{Holds}

-- the search from block 0 of n blocks, to its end
abbrev pub searched_from : (ℕ → List ℕ) → ℕ → Search
searched_from next n = search next (all_turns next n) (search_from next n 0)

-- its charges: 3 × B, then one for each turn
abbrev pub search_charges : (ℕ → List ℕ) → ℕ → List ℕ
search_charges next n = (3 * n) ∷ replicate (turns next (all_turns next n) (search_from next n 0)) 1

-- the cells of the search
abbrev pub search_cells : List ℕ
search_cells = order_cell ∷ stack_block_cell ∷ stack_edge_cell ∷ visited_cell ∷ []

-- what `postorder` does, for whatever graph the words hold: its charges, and if they are met, how many blocks it found, and these in postorder
-- at the front of ORDER; four cells change
pub record Searched (y : Layout) (l : Limits) (b : FlowBudget) (m m' : Mem) (r : Result (ℕ × FlowBudget) OverWork) : Type 0 where
  pub charges : (next : ℕ → List ℕ) → Holds next y m → ChargedAs r (charged l b (search_charges next y.blocks))
  pub order : (next : ℕ → List ℕ) → Holds next y m
      → IfOk r (λ p. take p.0 (cell m' order_cell) ≡ reverse (searched_from next y.blocks).finished)
  pub len : (next : ℕ → List ℕ) → Holds next y m → IfOk r (λ p. p.0 ≡ length (searched_from next y.blocks).finished)
  pub only : Only search_cells NoRow m m'
