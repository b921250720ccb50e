-- The edges of one block as `link_targets` puts them, one by one. Assumes nothing.
use mathlib.Core.Path.{◌≡◌, refl, ap}
use mathlib.Core.List.{List, [], ◌∷◌}
use Prim.Native.Nat.{ℕ, suc, ◌+◌}
use native.Mathlib.Numerals.{add-one}
use Rattle.memory.specs.Cells.{Mem, word}
use Rattle.memory.specs.Names.{block_of_cell}
use Rattle.memory.specs.Edges.{store_edge}
use Rattle.blocks.specs.Words.{link_edges}

-- one edge more
pub links_more : (b k t : ℕ) (l ts : List ℕ) (m m₁ : Mem) → l ≡ t ∷ ts → m₁ ≡ store_edge m b k (word m block_of_cell t)
    → link_edges b (k + 1) ts m₁ ≡ link_edges b k l m
unfolding link_edges
links_more b k t l ts m m₁ h e = rw (add-one k, h) (ap (link_edges b (suc k) ts) e)

-- after the last
pub links_all : (b k : ℕ) (l : List ℕ) (m : Mem) → l ≡ [] → link_edges b k l m ≡ m
unfolding link_edges
links_all b k l m h = rw h refl
