-- The words of one block: its start and end, and its edges.
use Rattle.std.specs.Prelude.{Bool, List, [], ◌∷◌, ℕ, suc, ◌+◌, ltb, length}
use Rattle.dataflow.specs.Lists.{pick}
use Rattle.memory.specs.Cells.{Mem, word, store}
use Rattle.memory.specs.Names.{block_of_cell, leader_cell, start_cell, end_cell, successor_count_cell}
use Rattle.memory.specs.Edges.{store_edge}
use Rattle.sizes.specs.declared.Layout.{Layout}

-- where block b ends: at the next one's start, the last one at the end of the code
unfoldable pub end_of : Layout → Mem → ℕ → ℕ
end_of y m b = pick (ltb (b + 1) y.blocks) (word m leader_cell (b + 1)) y.instructions

-- block b's start and end noted
unfoldable pub spanned : Layout → ℕ → Mem → Mem
spanned y b m = store (store m start_cell b (word m leader_cell b)) end_cell b (end_of y m b)

-- where control goes behind a block that ends before `end`: to the targets of its last instruction if that ends a block, else to what follows
abbrev pub next_of : Bool → List ℕ → ℕ → List ℕ
next_of ends targets end = pick ends targets (end ∷ [])

-- block b has so many edges, and none of them leads anywhere yet
unfoldable pub counted_edges : ℕ → ℕ → Mem → Mem
counted_edges b n m = store_edge (store_edge (store m successor_count_cell b n) b 0 0) b 1 0

-- block b's edges from the k-th on lead to the blocks that begin at these instructions
unfoldable pub link_edges : ℕ → ℕ → List ℕ → Mem → Mem
link_edges b k [] m = m
link_edges b k (t ∷ ts) m = link_edges b (suc k) ts (store_edge m b k (word m block_of_cell t))

-- block b's edges lead to the blocks that begin at these instructions
unfoldable pub put_edges : ℕ → List ℕ → Mem → Mem
put_edges b ts m = link_edges b 0 ts (counted_edges b (length ts) m)
