-- The stack and the marks of the search in the words of scratch: what the private functions of src/reachability.rt do.
use Rattle.std.specs.Prelude.{◌≡◌, false, List, [], ◌∷◌, ℕ, zero, suc, ◌+◌, ◌≤◌, ◌<◌, length, get_or, replicate, Result, IfOk}
use Rattle.dataflow.specs.Search.{Sweep, unvisited, add, add_all, sweep_from}
use Rattle.memory.specs.Cells.{Mem, word}
use Rattle.memory.specs.Frame.{Only, NoRow}
use Rattle.memory.specs.Names.{reachable_cell, stack_block_cell}
use Rattle.dataflow.specs.Lists.{flag}
use Rattle.sizes.specs.declared.Layout.{Layout}
use Rattle.budget.specs.declared.FlowBudget.{FlowBudget}
use Rattle.budget.specs.declared.Limits.{Limits}
use Rattle.budget.specs.declared.OverWork.{OverWork}
use Rattle.budget.specs.Budget.{charged, ChargedAs}
use Rattle.edges.specs.Edges.{Holds}
use Rattle.edges.specs.Reachability.{sweep_cells}
use Rattle.bitset.specs.Below.{AllBelow}

-- the lowest n blocks of the stack, from the top
abbrev pub stack_of : Mem → ℕ → List ℕ
stack_of m zero = []
stack_of m (suc n) = word m stack_block_cell n ∷ stack_of m n

-- The words hold the search: `top` blocks on the stack, and the marks. The stack has room for each block that is not visited.
pub record Sweeps (y : Layout) (top : ℕ) (r : Sweep) (m : Mem) : Type 0 where
  pub pending : r.pending ≡ stack_of m top
  pub below : AllBelow y.blocks r.pending
  pub long : length r.visited ≡ y.blocks
  pub marks : (c : ℕ) → c < y.blocks → word m reachable_cell c ≡ flag (get_or r.visited c false)
  pub room : top + unvisited r.visited ≤ y.blocks

-- the words hold some search with `top` blocks on the stack
abbrev pub Sweeping : Layout → ℕ → Mem → Type 0
Sweeping y top m = (r : Sweep) × Sweeps y top r m

-- the words hold the search as it begins
abbrev pub Begun : Layout → Mem → Type 0
Begun y m = (next : ℕ → List ℕ) → Sweeps y 1 (sweep_from next y.blocks 0) m

-- what `push` does: `block` joins the stack unless it is visited
pub record Entered (y : Layout) (block top : ℕ) (m m' : Mem) (top' : ℕ) : Type 0 where
  pub sweeps : (next : ℕ → List ℕ) (r : Sweep) → Sweeps y top r m → Sweeps y top' (add next (get_or r.visited block false) block r) m'
  pub only : Only sweep_cells NoRow m m'

-- what `push_successors` does, for whatever graph the words hold: one charge for each successor, and if they are met, all successors joined
pub record Advanced (y : Layout) (l : Limits) (b : FlowBudget) (block top : ℕ) (m m' : Mem) (r : Result (ℕ × FlowBudget) OverWork) : Type 0 where
  pub charges : (next : ℕ → List ℕ) → Holds next y m → ChargedAs r (charged l b (replicate (length (next block)) 1))
  pub sweeps : (next : ℕ → List ℕ) → Holds next y m → (d : Sweep) → Sweeps y top d m → IfOk r (λ p. Sweeps y p.0 (add_all next (next block) d) m')
  pub only : Only sweep_cells NoRow m m'
