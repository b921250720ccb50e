-- The edges between blocks in the words of scratch. Forwards a block has a count and two words: of at most two edges each has its own; of more,
-- which lead to blocks one behind the other, the first word and the count say all. Backwards the edges that lead to a block are a chain.
use Rattle.std.specs.Prelude.{List, [], ◌∷◌, map, ℕ, zero, suc, ◌+◌, ◌-◌, ◌*◌, ◌/◌, ◌%◌, ◌≤◌, ◌<◌, ltb}
use Rattle.bitset.specs.Below.{AllBelow}
use Rattle.dataflow.specs.Lists.{pick, tabulate}
use Rattle.sizes.specs.declared.Layout.{Layout}
use Rattle.memory.specs.declared.edges.Side.{Side}
use Rattle.memory.specs.declared.edges.Side.TheVariants.{Successors, Predecessors}
use Rattle.memory.specs.Cells.{Mem, word, store}
use Rattle.memory.specs.Names.{successor_cell, successor_count_cell, first_edge_cell, next_edge_cell, predecessor_count_cell}
use Rattle.memory.specs.Scratch.{edge_words}

-- ---- forwards

-- which word of the cell of edges is the k-th of block b
abbrev pub edge_place : ℕ → ℕ → ℕ
edge_place b k = 2 * b + k

-- the k-th of block b's two words, and scratch with v in it
abbrev pub edge_word : Mem → ℕ → ℕ → ℕ
edge_word m b k = word m successor_cell (edge_place b k)

abbrev pub store_edge : Mem → ℕ → ℕ → ℕ → Mem
store_edge m b k v = store m successor_cell (edge_place b k) v

-- the k-th successor of block b
unfoldable pub successor_at : Mem → ℕ → ℕ → ℕ
successor_at m b k = pick (ltb 2 (word m successor_count_cell b)) (edge_word m b 0 + k) (edge_word m b k)

-- ---- backwards

-- an edge that leads to a block is named by the block that it leaves and by its place among all edges
abbrev pub edge_from : ℕ → ℕ → ℕ
edge_from b i = b * 4294967296 + i

abbrev pub source_of : ℕ → ℕ
source_of e = e / 4294967296

abbrev pub place_of : ℕ → ℕ
place_of e = e % 4294967296

-- the edge behind edge e, which leads to the same block
abbrev pub next_edge : Mem → ℕ → ℕ
next_edge m e = word m next_edge_cell (place_of e)

-- scratch with edge f behind it
abbrev pub store_next : Mem → ℕ → ℕ → Mem
store_next m e f = store m next_edge_cell (place_of e) f

-- n edges of a chain, from edge e on
abbrev pub chain_from : Mem → ℕ → ℕ → List ℕ
chain_from m zero e = []
chain_from m (suc n) e = e ∷ chain_from m n (next_edge m e)

-- the edges that lead to block b
abbrev pub edges_into : Mem → ℕ → List ℕ
edges_into m b = chain_from m (word m predecessor_count_cell b) (word m first_edge_cell b)

-- ---- both

-- how many edges block b has on a side
abbrev pub count_of : Side → Mem → ℕ → ℕ
count_of Successors m b = word m successor_count_cell b
count_of Predecessors m b = word m predecessor_count_cell b

-- the blocks at their other ends, in the source's order, a repeat for each edge
abbrev pub neighbors : Side → Mem → ℕ → List ℕ
neighbors Successors m b = tabulate 0 (word m successor_count_cell b) (successor_at m b)
neighbors Predecessors m b = map source_of (edges_into m b)

-- each edge leads from a block to a block, and has a word in its chain; no block has more edges than there are words
pub record Connected (y : Layout) (m : Mem) : Type 0 where
  pub places : (b : ℕ) → b < y.blocks → AllBelow (edge_words y) (map place_of (edges_into m b))
  pub ends : (side : Side) (b : ℕ) → b < y.blocks → AllBelow y.blocks (neighbors side m b)
  pub few : (side : Side) (b : ℕ) → b < y.blocks → count_of side m b ≤ edge_words y

-- k of n edges of a chain are passed, and e is the next: each that is left has a word, and leaves a block
pub record Chain (y : Layout) (m : Mem) (n k e : ℕ) : Type 0 where
  pub places : AllBelow (edge_words y) (map place_of (chain_from m (n - k) e))
  pub ends : AllBelow y.blocks (map source_of (chain_from m (n - k) e))
