-- The graph that the words hold, as the run walks it: a block's neighbors on either side are those of the graph. Assumes nothing.
use mathlib.Core.Path.{◌≡◌, ap, ◌∙◌}
use mathlib.Core.Bool.{Bool, true, false}
use mathlib.Core.List.{List, [], ◌∷◌}
use Prim.Native.Nat.{ℕ, zero, suc, ◌+◌, ◌≤◌, ◌<◌}
use native.Mathlib.Omega.{arith}
use native.Mathlib.Nat.{zero-add}
use lib.Dec.{eqb}
use lib.ListN.{length, get_or}
use lib.Seq.{ext_get_or}
use Rattle.bitset.specs.Below.{AllBelow}
use Rattle.bitset.proofs.Below.{below_all}
use Rattle.dataflow.specs.Lists.{pick, tabulate}
use Rattle.dataflow.specs.Results.{edges_to, predecessors_from}
use Rattle.dataflow.proofs.Lists.{length_tabulate, get_d_tabulate}
use Rattle.memory.specs.Cells.{Mem, word}
use Rattle.memory.specs.Names.{successor_count_cell}
use Rattle.memory.specs.Edges.{successor_at, count_of, neighbors, Connected}
use Rattle.memory.specs.Scratch.{edge_words}
use Rattle.sizes.specs.declared.Layout.{Layout}
use Rattle.memory.specs.declared.edges.Side.{Side}
use Rattle.memory.specs.declared.edges.Side.TheVariants.{Successors, Predecessors}
use Rattle.edges.specs.Edges.{Holds}
use Rattle.edges.specs.Predecessors.{predecessors_of, Chained}
use Rattle.edges.proofs.EdgeLaws.{edges-within}
use Rattle.edges.proofs.ResultLaws.{count_few}

-- predecessors are blocks
to_below : (n b c : ℕ) (l rest : List ℕ) → c < n → AllBelow n rest → AllBelow n (edges_to b c l rest)
to_below n b c [] rest h a = a
to_below n b c (d ∷ l) rest h a = go (eqb b d) (to_below n b c l rest h a)
  where
    go : (t : Bool) → AllBelow n (edges_to b c l rest) → AllBelow n (pick t (c ∷ edges_to b c l rest) (edges_to b c l rest))
    go true r = (h, r)
    go false r = r

from-below : (n : ℕ) (next : ℕ → List ℕ) (b c k : ℕ) → c + k ≤ n → AllBelow n (predecessors_from b c (tabulate c k next))
from-below n next b c zero h = tt
from-below n next b c (suc k) h =
    to_below n b c (next c) (predecessors_from b (suc c) (tabulate (suc c) k next)) (omega arith) (from-below n next b (suc c) k (omega arith))

module _ {next : ℕ → List ℕ} {y : Layout} {m : Mem} (h : Holds next y m) where
  -- a block's successors are those of the graph
  pub successors_are : (b : ℕ) → b < y.blocks → neighbors Successors m b ≡ next b
  successors_are b lt = ext_get_or 0 (neighbors Successors m b) (next b) (long ∙ h.counted b lt) (λ k kt. at k (omega (arith, long, h.counted b lt)))
    where
      long : length (neighbors Successors m b) ≡ word m successor_count_cell b
      long = length_tabulate 0 (word m successor_count_cell b) (successor_at m b)

      at : (k : ℕ) → k < length (next b) → get_or (neighbors Successors m b) k 0 ≡ get_or (next b) k 0
      at k kt =
          get_d_tabulate 0 (word m successor_count_cell b) k (successor_at m b) 0 (omega (arith, h.counted b lt))
          ∙ ap (successor_at m b) (zero-add k) ∙ h.stored b k lt kt

  module _ (c : Chained next y m) where
    -- a block's predecessors are those of the graph
    pub predecessors_are : (b : ℕ) → b < y.blocks → neighbors Predecessors m b ≡ predecessors_of next y.blocks b
    predecessors_are b lt = c.are b lt

    -- each edge leads to a block, and there are few
    ends-in : (side : Side) (b : ℕ) → b < y.blocks → AllBelow y.blocks (neighbors side m b)
    ends-in Successors b lt = rw (successors_are b lt) (below_all y.blocks (next b) 0 (λ k kt. h.below b k lt kt))
    ends-in Predecessors b lt = rw (predecessors_are b lt) (from-below y.blocks next b 0 y.blocks (omega arith))

    few-in : (side : Side) (b : ℕ) → b < y.blocks → count_of side m b ≤ edge_words y
    few-in Successors b lt = omega (arith, h.counted b lt, edges-within next b y.blocks lt, h.few)
    few-in Predecessors b lt = count_few h c b lt

    -- the words hold a graph, so its blocks are connected
    pub connected : Connected y m
    connected = record { places = c.edges; ends = ends-in; few = few-in }
