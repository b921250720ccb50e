-- A round of `propagate` is the worklist run of `dataflow` over rows of words. Of scratch it reads only what the round leaves alone, so m is
-- scratch as it was at the beginning.
use Rattle.std.specs.Prelude.{List, [], ◌∷◌, map, ◌≡◌, ℕ, suc, ◌+◌, ◌≤◌, ◌<◌, eqb, get_or, take, Ok}
use Rattle.bitset.specs.Operations.{meet, join, same}
use Rattle.dataflow.specs.Lists.{pick, tabulate, sum}
use Rattle.dataflow.specs.Worklist as worklist
use Rattle.dataflow.specs.Charges.{trace_charges}
use Rattle.budget.specs.declared.FlowBudget.{FlowBudget}
use Rattle.budget.specs.declared.Limits.{Limits}
use Rattle.budget.specs.Budget.{Charged, charged}
use Rattle.memory.specs.Cells.{Mem, cell, word}
use Rattle.memory.specs.Names.{order_cell, queued_cell, reachable_cell, ring_cell}
use Rattle.sizes.specs.declared.Layout.{Layout}
use Rattle.edges.specs.Edges.{marked}
use Rattle.transfer.specs.declared.direction.Direction.{Direction}
use Rattle.transfer.specs.declared.direction.Direction.TheVariants.{Initialization, Liveness}
use Rattle.memory.specs.Edges.{neighbors, Connected}
use Rattle.transfer.specs.Directions.{reads_of, dependents_of}
use Rattle.transfer.specs.Transfer.{running_row, kept_row, entry_of, transferred}
use Rattle.solver.specs.Run.{queue_of}

-- the rows that a round keeps, one a block
unfoldable pub rows_of : Direction → Layout → Mem → List (List ℕ)
rows_of d y t = tabulate 0 y.blocks (λ b. cell t (kept_row d b))

-- `gather_one` and `gather_all` of crate `transfer`, over these rows
unfoldable pub gather_row : Direction → Mem → List (List ℕ) → ℕ → List ℕ → List ℕ
gather_row Initialization m rows p x = pick (eqb (word m reachable_cell p) 0) x (meet x (get_or rows p []))
gather_row Liveness m rows p x = join x (get_or rows p [])

unfoldable pub gather_rows : Direction → Mem → List (List ℕ) → List ℕ → List ℕ → List ℕ
gather_rows d m rows [] x = x
gather_rows d m rows (p ∷ ps) x = gather_rows d m rows ps (gather_row d m rows p x)

-- the solver of a round
abbrev pub row_solver : Direction → Layout → Mem → worklist.Solver (List ℕ)
row_solver d y m = record {
  none = [];
  same = same;
  compute = λ b rows. transferred d m b (gather_rows d m rows (neighbors (reads_of d) m b) (entry_of d y m b));
  dependents = neighbors (dependents_of d) m;
  reachable = λ b. marked (word m reachable_cell b);
}

-- the state that a round of n blocks begins with: every reachable block is marked, and the order waits
abbrev pub beginning : Direction → Layout → ℕ → Mem → Mem → worklist.State (List ℕ)
beginning d y n m t = record {
  sets = rows_of d y t;
  ring = record { queue = queue_of d (take n (cell m order_cell)); marks = map marked (cell m reachable_cell) };
  trace = [];
}

-- the round after at most k visits
unfoldable pub round_run : Direction → Layout → ℕ → ℕ → Mem → Mem → worklist.State (List ℕ)
round_run d y k n m t = worklist.run (row_solver d y m) k (beginning d y n m t)

-- its charges: those of the seeding, then those of the visits
unfoldable pub round_charges : Direction → Layout → ℕ → ℕ → Mem → Mem → List ℕ
round_charges d y k n m t =
    (y.blocks + n) ∷ trace_charges y.words (neighbors (reads_of d) m) (neighbors (dependents_of d) m) (round_run d y k n m t).trace

-- what `propagate` may rely on: a graph, and an order of n blocks, no more than are reachable
pub record Seedable (y : Layout) (m : Mem) (n : ℕ) : Type 0 where
  pub connected : Connected y m
  pub some : 0 < y.blocks
  pub count : n ≤ y.blocks
  pub order : (i : ℕ) → i < n → word m order_cell i < y.blocks
  pub flags : (i : ℕ) → word m reachable_cell i ≤ 1
  pub reached : n ≤ sum (cell m reachable_cell)

-- What `propagate` does. A visit is charged at least 1, so a run within the limit has fewer visits than the limit is large.
pub record Propagated (d : Direction) (y : Layout) (l : Limits) (b : FlowBudget) (n : ℕ) (m m' t t' : Mem) (r : Charged) : Type 0 where
  pub charges : r ≡ charged l b (round_charges d y (suc l.work) n m t)
  pub ended : (left : FlowBudget) → r ≡ Ok left → (round_run d y (suc l.work) n m t).ring.queue ≡ []
  pub rows : (left : FlowBudget) → r ≡ Ok left → rows_of d y t' ≡ (round_run d y (suc l.work) n m t).sets
  -- the ring, its marks and the running row change
  pub others : (left : FlowBudget) → r ≡ Ok left → (k : ℕ) → (k ≡ ring_cell → ⊥) → (k ≡ queued_cell → ⊥) → (k ≡ running_row d y → ⊥)
      → cell m' k ≡ cell m k
  -- and the rows that the round keeps
  pub other_sets : (left : FlowBudget) → r ≡ Ok left → (k : ℕ) → ((c : ℕ) → c < y.blocks → k ≡ kept_row d c → ⊥) → cell t' k ≡ cell t k
