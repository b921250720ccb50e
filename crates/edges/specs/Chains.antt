-- The chains while edges are put into them: what the private functions of src/predecessors.rt do.
use Rattle.std.specs.Prelude.{◌≡◌, List, [], ◌∷◌, map, ℕ, suc, ◌+◌, ◌-◌, ◌≤◌, ◌<◌}
use Rattle.dataflow.specs.Lists.{tabulate}
use Rattle.dataflow.specs.Results.{predecessors_from}
use Rattle.memory.specs.Cells.{Mem, word, store}
use Rattle.memory.specs.Names.{first_edge_cell, predecessor_count_cell}
use Rattle.sizes.specs.declared.Layout.{Layout}
use Rattle.memory.specs.Edges.{source_of, place_of, store_next, edges_into}
use Rattle.memory.specs.Frame.{Only, NoRow}
use Rattle.memory.specs.Scratch.{edge_words}
use Rattle.edges.specs.Edges.{edges_before, Holds}
use Rattle.bitset.specs.Below.{AllBelow}
use Rattle.edges.specs.Predecessors.{chain_cells}

-- the words after an edge was put before the chain of the block that it leads to
unfoldable pub linked_in : Mem → ℕ → ℕ → Mem
linked_in m edge to =
    store (store (store_next m edge (word m first_edge_cell to)) first_edge_cell to edge) predecessor_count_cell to (word m predecessor_count_cell to + 1)

-- the count of a block is below the number of edges that there can be
abbrev pub RoomToCount : Layout → ℕ → Mem → Type 0
RoomToCount y to m = word m predecessor_count_cell to < edge_words y

-- each of the numbers is at least n
abbrev pub AllFrom : ℕ → List ℕ → Type 0
AllFrom n [] = Unit {0}
AllFrom n (e ∷ es) = (n ≤ e) × AllFrom n es

-- The chains hold edges from `low` on, and the blocks that the edges of b's chain leave are `wanted b`.
pub record Chains (y : Layout) (low : ℕ) (wanted : ℕ → List ℕ) (m : Mem) : Type 0 where
  pub are : (b : ℕ) → b < y.blocks → map source_of (edges_into m b) ≡ wanted b
  pub edges : (b : ℕ) → b < y.blocks → AllBelow (edge_words y) (map place_of (edges_into m b))
  pub above : (b : ℕ) → b < y.blocks → AllFrom low (map place_of (edges_into m b))
  pub few : (b : ℕ) → b < y.blocks → word m predecessor_count_cell b + low ≤ edge_words y

-- the predecessors of b among the blocks from c on
abbrev pub predecessors_since : (ℕ → List ℕ) → Layout → ℕ → ℕ → List ℕ
predecessors_since next y c b = predecessors_from b c (tabulate c (y.blocks - c) next)

-- the chains hold the edges of the blocks from c on, at places from `low` on, and before that there is room for those of the other blocks
pub record ChainedSince (next : ℕ → List ℕ) (y : Layout) (c low : ℕ) (m : Mem) : Type 0 where
  pub chains : Chains y low (predecessors_since next y c) m
  pub room : edges_before next c ≤ low

-- the chains hold the edges of the blocks behind `block`, of some graph that the words hold
abbrev pub Linking : Layout → ℕ → ℕ → Mem → Type 0
Linking y block low m = (next : ℕ → List ℕ) × Holds next y m × ChainedSince next y (suc block) low m

-- the edges of `block` are put before those of the blocks behind it, for whatever graph the words hold
pub record Chaining (y : Layout) (block low : ℕ) (m m' : Mem) (low' : ℕ) : Type 0 where
  pub chains : (next : ℕ → List ℕ) → Holds next y m → ChainedSince next y (suc block) low m → ChainedSince next y block low' m'
  pub only : Only chain_cells NoRow m m'
