-- The edges of a block stay where their cells stay, and are walked one by one; the name of an edge tells its source and its place. Assumes nothing.
use mathlib.Core.Path.{◌≡◌, refl, ap, ap₂, ◌∙◌}
use mathlib.Core.Bool.{true}
use mathlib.Core.List.{List, [], ◌∷◌, map}
use Prim.Native.Nat.{ℕ, zero, suc, ◌+◌, ◌-◌, ◌≤◌, ◌<◌}
use native.Mathlib.Numerals.{add-one}
use native.Mathlib.Omega.{arith}
use borrow.Author.Tests.{lt-ltb, le-ltb}
use lib.Dec.{ltb}
use lib.ListN.{get_or}
use Rattle.bitset.specs.Below.{AllBelow}
use Rattle.dataflow.specs.Lists.{pick, tabulate}
use Rattle.sizes.specs.declared.Layout.{Layout}
use Rattle.memory.specs.declared.edges.Side.{Side}
use Rattle.memory.specs.declared.edges.Side.TheVariants.{Successors, Predecessors}
use Rattle.memory.specs.Cells.{Mem, cell, word, store_cell}
use Rattle.memory.specs.Names.{successor_cell, successor_count_cell, first_edge_cell, next_edge_cell, predecessor_count_cell, first_row}
use Rattle.memory.specs.Scratch.{edge_words}
use Rattle.memory.specs.Edges.{edge_place, edge_word, successor_at, edge_from, source_of, place_of, next_edge, chain_from, edges_into, count_of}
use Rattle.memory.specs.Edges.{neighbors, Connected, Chain}
use Rattle.memory.specs.Frame.{Only, spared, NoRow}
use Rattle.memory.proofs.CellLaws.{same_word}
use Rattle.memory.proofs.FrameLaws.{only-cell, only_row}

-- ---- names of edges

pub source_from : (b i : ℕ) → i < 4294967296 → source_of (edge_from b i) ≡ b
source_from b i h = omega arith

pub place-from : (b i : ℕ) → i < 4294967296 → place_of (edge_from b i) ≡ i
place-from b i h = omega arith

-- ---- the k-th successor

-- of more than two, and of at most two
pub successor_many : (m : Mem) (b k : ℕ) → 2 < word m successor_count_cell b → successor_at m b k ≡ edge_word m b 0 + k
unfolding successor_at
successor_many m b k h = rw (lt-ltb 2 (word m successor_count_cell b) h) refl

pub successor_few : (m : Mem) (b k : ℕ) → word m successor_count_cell b ≤ 2 → successor_at m b k ≡ edge_word m b k
unfolding successor_at
successor_few m b k h = rw (le-ltb 2 (word m successor_count_cell b) h) refl

-- ---- the cells of edges are the same, and so are the edges

pub successor_kept : (m m' : Mem) → cell m' successor_count_cell ≡ cell m successor_count_cell → cell m' successor_cell ≡ cell m successor_cell
    → (b k : ℕ) → successor_at m' b k ≡ successor_at m b k
unfolding successor_at
successor_kept m m' e f b k =
    ap₂ (λ (c w : List ℕ). pick (ltb 2 (get_or c b 0)) (get_or w (edge_place b 0) 0 + k) (get_or w (edge_place b k) 0)) e f

pub record SameEdges (m m' : Mem) : Type 0 where
  pub successors : cell m' successor_cell ≡ cell m successor_cell
  pub successor_counts : cell m' successor_count_cell ≡ cell m successor_count_cell
  pub first_edges : cell m' first_edge_cell ≡ cell m first_edge_cell
  pub next_edges : cell m' next_edge_cell ≡ cell m next_edge_cell
  pub predecessor_counts : cell m' predecessor_count_cell ≡ cell m predecessor_count_cell

-- a step that spares the five cells
pub same-only : {cs : List ℕ} {rows : ℕ → Type 0} {m m' : Mem} → Only cs rows m m'
    → spared cs successor_cell ≡ true → spared cs successor_count_cell ≡ true → spared cs first_edge_cell ≡ true → spared cs next_edge_cell ≡ true
    → spared cs predecessor_count_cell ≡ true → SameEdges m m'
same-only o a b c d e = record {
  successors = o.named successor_cell a;
  successor_counts = o.named successor_count_cell b;
  first_edges = o.named first_edge_cell c;
  next_edges = o.named next_edge_cell d;
  predecessor_counts = o.named predecessor_count_cell e;
}

-- a store into a cell with a name that holds no edges; that it is none of the five computes, so it is shown by `refl`
pub same-cell : (m : Mem) (c : ℕ) (ws : List ℕ) → c < first_row
    → spared (c ∷ []) successor_cell ≡ true → spared (c ∷ []) successor_count_cell ≡ true → spared (c ∷ []) first_edge_cell ≡ true
    → spared (c ∷ []) next_edge_cell ≡ true → spared (c ∷ []) predecessor_count_cell ≡ true → SameEdges m (store_cell m c ws)
same-cell m c ws h = same-only (only-cell {rows = NoRow} c ws h refl)

-- a store into a row
pub same_row : (m : Mem) (r : ℕ) (ws : List ℕ) → first_row ≤ r → SameEdges m (store_cell m r ws)
same_row m r ws h = same-only (only_row {cs = []} r ws h refl) refl refl refl refl refl

-- nothing done
pub same_none : (m : Mem) → SameEdges m m
same_none m = record { successors = refl; successor_counts = refl; first_edges = refl; next_edges = refl; predecessor_counts = refl }

-- one step after the other
pub same_then : {m m' m'' : Mem} → SameEdges m m' → SameEdges m' m'' → SameEdges m m''
same_then s t = record {
  successors = t.successors ∙ s.successors;
  successor_counts = t.successor_counts ∙ s.successor_counts;
  first_edges = t.first_edges ∙ s.first_edges;
  next_edges = t.next_edges ∙ s.next_edges;
  predecessor_counts = t.predecessor_counts ∙ s.predecessor_counts;
}

-- equal functions make equal lists
tabulate_same : {f g : ℕ → ℕ} → ((k : ℕ) → f k ≡ g k) → (c n : ℕ) → tabulate c n f ≡ tabulate c n g
tabulate_same h c zero = refl
tabulate_same h c (suc n) = ap₂ (λ (x : ℕ) (l : List ℕ). x ∷ l) (h c) (tabulate_same h (suc c) n)

module _ {m m' : Mem} (s : SameEdges m m') where
  -- how many a block has
  pub count_kept : (side : Side) (b : ℕ) → count_of side m' b ≡ count_of side m b
  count_kept Successors b = same_word b s.successor_counts
  count_kept Predecessors b = same_word b s.predecessor_counts

  -- the k-th successor
  pub at_kept : (b k : ℕ) → successor_at m' b k ≡ successor_at m b k
  at_kept b k = successor_kept m m' s.successor_counts s.successors b k

  -- the edge behind
  pub next_kept : (e : ℕ) → next_edge m' e ≡ next_edge m e
  next_kept e = same_word (place_of e) s.next_edges

  -- n edges of a chain
  pub chain_kept : (n e : ℕ) → chain_from m' n e ≡ chain_from m n e
  chain_kept zero e = refl
  chain_kept (suc n) e = ap (λ (l : List ℕ). e ∷ l) (chain_kept n (next_edge m' e) ∙ ap (chain_from m n) (next_kept e))

  pub into_kept : (b : ℕ) → edges_into m' b ≡ edges_into m b
  into_kept b =
      chain_kept (word m' predecessor_count_cell b) (word m' first_edge_cell b)
      ∙ ap₂ (chain_from m) (same_word b s.predecessor_counts) (same_word b s.first_edges)

  -- the neighbors of a block
  pub neighbors_kept : (side : Side) (b : ℕ) → neighbors side m' b ≡ neighbors side m b
  neighbors_kept Successors b =
      tabulate_same (at_kept b) 0 (word m' successor_count_cell b)
      ∙ ap (λ (n : ℕ). tabulate 0 n (successor_at m b)) (same_word b s.successor_counts)
  neighbors_kept Predecessors b = ap (map source_of) (into_kept b)

  -- and that each edge leads from a block to a block
  pub connected_kept : (y : Layout) → Connected y m → Connected y m'
  connected_kept y c = record {
    places = λ b h. rw (into_kept b) (c.places b h);
    ends = λ side b h. rw (neighbors_kept side b) (c.ends side b h);
    few = λ side b h. rw (count_kept side b) (c.few side b h);
  }

-- no edges counted, no neighbors
pub neighbors-none : (side : Side) (m : Mem) (b : ℕ) → count_of side m b ≡ 0 → neighbors side m b ≡ []
neighbors-none Successors m b e = rw e refl
neighbors-none Predecessors m b e = rw e refl

-- ---- one edge after the other: k of n are passed

-- the successors from the k-th on
abbrev pub successors_from : Mem → ℕ → ℕ → ℕ → List ℕ
successors_from m b n k = tabulate k (n - k) (successor_at m b)

-- they stay where the cells do
pub successors-kept : {m m' : Mem} → SameEdges m m' → (b n k : ℕ) → successors_from m' b n k ≡ successors_from m b n k
successors-kept s b n k = tabulate_same (at_kept s b) k (n - k)

pub successors-all : (m : Mem) (b : ℕ) → successors_from m b (word m successor_count_cell b) 0 ≡ neighbors Successors m b
successors-all m b = let q : word m successor_count_cell b - 0 ≡ word m successor_count_cell b = omega arith in rw q refl

module _ (m : Mem) (b n k : ℕ) where
  pub successors_more : k < n → successors_from m b n k ≡ successor_at m b k ∷ successors_from m b n (k + 1)
  successors_more h =
      let q : n - k ≡ suc (n - (k + 1)) = omega arith in
      rw (q, add-one k) refl

  pub successors_over : n ≤ k → successors_from m b n k ≡ []
  successors_over h = let q : n - k ≡ 0 = omega arith in rw q refl

-- each successor is a block
pub successor_block : {y : Layout} {m : Mem} → Connected y m → (b : ℕ) → b < y.blocks → (k : ℕ) → k < word m successor_count_cell b
    → successor_at m b k < y.blocks
successor_block {y} {m} c b h k l =
    let q : 0 + k ≡ k = omega arith in
    rw q at (at (word m successor_count_cell b) 0 k l (c.ends Successors b h))
  where
    at : (n j i : ℕ) → i < n → AllBelow y.blocks (tabulate j n (successor_at m b)) → successor_at m b (j + i) < y.blocks
    at zero j i g a = absurd (omega arith)
    at (suc n) j zero g a = let q : j + 0 ≡ j = omega arith in rw q a.0
    at (suc n) j (suc i) g a = let q : j + suc i ≡ suc j + i = omega arith in rw q (at n (suc j) i (omega arith) a.1)

-- before the first edge
pub chain_first : {y : Layout} {m : Mem} {n e : ℕ} → Connected y m → (b : ℕ) → b < y.blocks → n ≡ word m predecessor_count_cell b
    → e ≡ word m first_edge_cell b → Chain y m n 0 e
chain_first {n = n} c b h p q =
    let z : n - 0 ≡ n = omega arith in
    record { places = rw (z, p, q) (c.places b h); ends = rw (z, p, q) (c.ends Predecessors b h) }

pub chain-all : (m : Mem) (b : ℕ) → map source_of (chain_from m (word m predecessor_count_cell b - 0) (word m first_edge_cell b)) ≡ neighbors Predecessors m b
chain-all m b = let q : word m predecessor_count_cell b - 0 ≡ word m predecessor_count_cell b = omega arith in rw q refl

module _ (m : Mem) (n k e : ℕ) where
  pub chain_more : k < n → chain_from m (n - k) e ≡ e ∷ chain_from m (n - (k + 1)) (next_edge m e)
  chain_more h = let q : n - k ≡ suc (n - (k + 1)) = omega arith in rw q refl

  pub chain_over : n ≤ k → chain_from m (n - k) e ≡ []
  chain_over h = let q : n - k ≡ 0 = omega arith in rw q refl

module _ {y : Layout} {m : Mem} {n k e : ℕ} (h : k < n) (w : Chain y m n k e) where
  here-places : AllBelow (edge_words y) (map place_of (e ∷ chain_from m (n - (k + 1)) (next_edge m e)))
  here-places = rw (chain_more m n k e h) at w.places

  here-ends : AllBelow y.blocks (map source_of (e ∷ chain_from m (n - (k + 1)) (next_edge m e)))
  here-ends = rw (chain_more m n k e h) at w.ends

  -- the next edge has a word
  pub chain_place : place_of e < edge_words y
  chain_place = here-places.0

  -- it leaves a block
  pub chain_end : source_of e < y.blocks
  chain_end = here-ends.0

  -- and the chain goes on behind it
  pub chain_next : {e' : ℕ} → e' ≡ next_edge m e → Chain y m n (k + 1) e'
  chain_next q = record { places = rw q here-places.1; ends = rw q here-ends.1 }

-- what is left of a chain stays
pub chain-stays : {y : Layout} {m m' : Mem} {n k e : ℕ} → SameEdges m m' → Chain y m n k e → Chain y m' n k e
chain-stays {n = n} {k} {e} s w =
    record { places = rw (chain_kept s (n - k) e) w.places; ends = rw (chain_kept s (n - k) e) w.ends }
