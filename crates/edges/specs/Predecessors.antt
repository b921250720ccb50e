-- The predecessors of a block as a chain of edges.
use Rattle.std.specs.Prelude.{◌≡◌, List, [], ◌∷◌, map, ℕ, ◌<◌}
use Rattle.dataflow.specs.Lists.{tabulate}
use Rattle.dataflow.specs.Results.{predecessors_from}
use Rattle.memory.specs.Cells.{Mem}
use Rattle.memory.specs.Names.{first_edge_cell, next_edge_cell, predecessor_count_cell}
use Rattle.sizes.specs.declared.Layout.{Layout}
use Rattle.memory.specs.Edges.{source_of, place_of, edges_into}
use Rattle.memory.specs.Frame.{Only, NoRow}
use Rattle.memory.specs.Scratch.{edge_words}
use Rattle.edges.specs.Edges.{Holds}
use Rattle.bitset.specs.Below.{AllBelow}

-- flow.rs `graph`, the last loop, over blocks 0 to n: the predecessors of b, ascending, a repeat for each edge
abbrev pub predecessors_of : (ℕ → List ℕ) → ℕ → ℕ → List ℕ
predecessors_of next n b = predecessors_from b 0 (tabulate 0 n next)

-- The words hold the predecessors of the graph: the chain of each block has its edges in order, each with a word.
pub record Chained (next : ℕ → List ℕ) (y : Layout) (m : Mem) : Type 0 where
  pub are : (b : ℕ) → b < y.blocks → map source_of (edges_into m b) ≡ predecessors_of next y.blocks b
  pub edges : (b : ℕ) → b < y.blocks → AllBelow (edge_words y) (map place_of (edges_into m b))

-- the cells of the chains
abbrev pub chain_cells : List ℕ
chain_cells = first_edge_cell ∷ predecessor_count_cell ∷ next_edge_cell ∷ []

-- what `predecessors` does: it changes three cells, and then they hold the predecessors of whatever graph the words hold
pub record Linked (y : Layout) (m m' : Mem) : Type 0 where
  pub chained : (next : ℕ → List ℕ) → Holds next y m → Chained next y m'
  pub only : Only chain_cells NoRow m m'
