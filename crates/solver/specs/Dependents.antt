-- The blocks whom a change of a block concerns, one by one: successors by their number, predecessors along their chain of edges.
use Rattle.std.specs.Prelude.{◌≡◌, List, map, ℕ, ◌-◌, ◌<◌}
use Rattle.dataflow.specs.Lists.{tabulate}
use Rattle.memory.specs.Cells.{Mem, word}
use Rattle.memory.specs.Names.{successor_count_cell, first_edge_cell}
use Rattle.memory.specs.Edges.{successor_at, source_of, place_of, next_edge, chain_from, Chain}
use Rattle.memory.specs.Scratch.{edge_words}
use Rattle.sizes.specs.declared.Layout.{Layout}
use Rattle.transfer.specs.declared.direction.Direction.{Direction}
use Rattle.transfer.specs.declared.direction.Direction.TheVariants.{Initialization, Liveness}

-- the first edge of block b's chain; the number of a successor needs none
abbrev pub first_of : Direction → Mem → ℕ → ℕ
first_of Initialization m b = 0
first_of Liveness m b = word m first_edge_cell b

-- the edge behind edge e
abbrev pub behind_of : Direction → Mem → ℕ → ℕ
behind_of Initialization m e = e
behind_of Liveness m e = next_edge m e

-- the k-th of them, at edge e
abbrev pub dependent_at : Direction → Mem → ℕ → ℕ → ℕ → ℕ
dependent_at Initialization m b k e = successor_at m b k
dependent_at Liveness m b k e = source_of e

-- of n those that are left behind the first k, from edge e on
abbrev pub dependents_from : Direction → Mem → ℕ → ℕ → ℕ → ℕ → List ℕ
dependents_from Initialization m b n k e = tabulate k (n - k) (successor_at m b)
dependents_from Liveness m b n k e = map source_of (chain_from m (n - k) e)

-- the successors of block b, of which there are n, are blocks
pub record Numbered (y : Layout) (m : Mem) (b n : ℕ) : Type 0 where
  pub inside : b < y.blocks
  pub counted : n ≡ word m successor_count_cell b
  pub ends : (k : ℕ) → k < n → successor_at m b k < y.blocks

-- those that are left can be walked
abbrev pub Walks : Direction → Layout → Mem → ℕ → ℕ → ℕ → ℕ → Type 0
Walks Initialization y m b n k e = Numbered y m b n
Walks Liveness y m b n k e = Chain y m n k e

-- edge e has its word
abbrev pub Placed : Direction → Layout → ℕ → Type 0
Placed Initialization y e = Unit {0}
Placed Liveness y e = place_of e < edge_words y
