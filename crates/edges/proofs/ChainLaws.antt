-- An edge put before a chain, and the chains of all blocks as edges are put in from the last. Assumes nothing.
use mathlib.Core.Path.{◌≡◌, refl, sym, ap, ap₂, ◌∙◌, subst}
use mathlib.Core.Logic.{◌≢◌}
use mathlib.Core.Bool.{Bool}
use mathlib.Core.List.{List, [], ◌∷◌, map}
use Prim.Native.Nat.{ℕ, zero, suc, ◌+◌, ◌-◌, ◌≤◌, ◌<◌}
use native.Mathlib.Numerals.{add-one}
use native.Mathlib.Omega.{arith}
use native.Mathlib.Decide.{ℕ_discrete}
use borrow.Author.Tests.{eq-eqb, ne_eqb}
use lib.Dec.{eqb}
use lib.ListN.{length, get_or, drop}
use lib.Seq.{drop-cons}
use Rattle.dataflow.specs.Lists.{pick, tabulate}
use Rattle.dataflow.specs.Results.{edges_to, predecessors_from}
use Rattle.memory.specs.Cells.{Mem, word, store}
use Rattle.memory.specs.Names.{first_edge_cell, next_edge_cell, predecessor_count_cell, successor_count_cell}
use Rattle.memory.specs.Scratch.{edge_words, scratch_widths, Whole}
use Rattle.memory.specs.Edges.{successor_at, edge_from, source_of, place_of, store_next, chain_from, edges_into}
use Rattle.memory.specs.Frame.{Only, NoRow}
use Rattle.sizes.specs.declared.Layout.{Layout}
use Rattle.memory.specs.Cells.{Sized}
use Rattle.memory.proofs.CellLaws.{sized-store, word-store_other, same_word}
use Rattle.memory.proofs.ScratchLaws.{word_put, place_blocks, place_links}
use Rattle.memory.proofs.EdgeLaws.{source_from, place-from}
use Rattle.memory.proofs.FrameLaws.{only_then}
use Rattle.edges.specs.Edges.{edges_before, Holds, Cleared}
use Rattle.bitset.specs.Below.{AllBelow}
use Rattle.edges.specs.Predecessors.{chain_cells, Chained}
use Rattle.edges.specs.Chains.{linked_in, AllFrom, Chains, predecessors_since, ChainedSince}
use Rattle.edges.proofs.EdgeLaws.{only_store}

-- ---- only the three cells of the chains change
pub only-linked : (m : Mem) (edge to : ℕ) → Only chain_cells NoRow m (linked_in m edge to)
unfolding linked_in
only-linked m edge to =
    only_then (only_store chain_cells next_edge_cell (place_of edge) (word m first_edge_cell to) (omega arith) refl refl)
    (only_then (only_store chain_cells first_edge_cell to edge (omega arith) refl refl)
    (only_store chain_cells predecessor_count_cell to (word m predecessor_count_cell to + 1) (omega arith) refl refl))

-- and all cells stay as wide as they were
pub whole-linked : (y : Layout) (m : Mem) (edge to : ℕ) → Whole y m → Whole y (linked_in m edge to)
unfolding linked_in
whole-linked y m edge to z = sized-store _ _ _ _ _ (sized-store _ _ _ _ _ (sized-store _ _ _ _ _ z))

-- ---- the three stores
module _ (m m₁ m₂ : Mem) (edge first to : ℕ) where
  -- the first two leave the counts alone
  pub count_still : m₁ ≡ store_next m edge first → m₂ ≡ store m₁ first_edge_cell to edge → (b : ℕ)
      → word m₂ predecessor_count_cell b ≡ word m predecessor_count_cell b
  count_still e₁ e₂ b =
      ap (λ (x : Mem). word x predecessor_count_cell b) e₂
      ∙ word-store_other m₁ first_edge_cell to edge predecessor_count_cell b (λ q. absurd (omega arith))
      ∙ ap (λ (x : Mem). word x predecessor_count_cell b) e₁
      ∙ word-store_other m next_edge_cell (place_of edge) first predecessor_count_cell b (λ q. absurd (omega arith))

  pub linked_from : {m₃ : Mem} {count : ℕ} → first ≡ word m first_edge_cell to → m₁ ≡ store_next m edge first
      → m₂ ≡ store m₁ first_edge_cell to edge → count ≡ word m₂ predecessor_count_cell to → m₃ ≡ store m₂ predecessor_count_cell to (count + 1)
      → m₃ ≡ linked_in m edge to
  unfolding linked_in
  linked_from {count = count} f e₁ e₂ n e₃ =
      e₃ ∙ ap₂ (λ (x : Mem) (v : ℕ). store x predecessor_count_cell to (v + 1)) (e₂ ∙ ap (λ (x : Mem). store x first_edge_cell to edge)
      (e₁ ∙ ap (store_next m edge) f)) (n ∙ count_still e₁ e₂ to)

-- ---- lists of numbers from n on
all-from_less : (l n : ℕ) (es : List ℕ) → l ≤ n → AllFrom n es → AllFrom l es
all-from_less l n [] h a = tt
all-from_less l n (e ∷ es) h a = (omega (arith, a.0), all-from_less l n es h a.1)

-- a chain whose edges are all from n on is the same where the words of the edges from n on are
chain_same : (n : ℕ) (m m' : Mem) → ((i : ℕ) → n ≤ i → word m' next_edge_cell i ≡ word m next_edge_cell i) → (k e : ℕ) → AllFrom n (map place_of (chain_from m k e))
    → chain_from m' k e ≡ chain_from m k e
chain_same n m m' f zero e a = refl
chain_same n m m' f (suc k) e a =
    ap (λ (es : List ℕ). e ∷ es)
    (ap (chain_from m' k) (f (place_of e) a.0) ∙ chain_same n m m' f k (word m next_edge_cell (place_of e)) a.1)

-- ---- an edge before all that the chains hold
module _ {y : Layout} {low : ℕ} {wanted : ℕ → List ℕ} {m : Mem} (z : Sized (scratch_widths y) m) (h : Chains y low wanted m) (edge to : ℕ)
    (new : place_of edge < low) (inside : place_of edge < edge_words y) (block : to < y.blocks) where
  abbrev m₁ : Mem
  m₁ = store m next_edge_cell (place_of edge) (word m first_edge_cell to)

  abbrev m₂ : Mem
  m₂ = store m₁ first_edge_cell to edge

  abbrev m₃ : Mem
  m₃ = store m₂ predecessor_count_cell to (word m predecessor_count_cell to + 1)

  z₁ : Sized (scratch_widths y) m₁
  z₁ = sized-store (scratch_widths y) m next_edge_cell (place_of edge) _ z

  z₂ : Sized (scratch_widths y) m₂
  z₂ = sized-store (scratch_widths y) m₁ first_edge_cell to _ z₁

  next_at : (i : ℕ) → word m₃ next_edge_cell i ≡ word m₁ next_edge_cell i
  next_at i =
      word-store_other m₂ predecessor_count_cell to _ next_edge_cell i (λ q. absurd (omega arith))
      ∙ word-store_other m₁ first_edge_cell to _ next_edge_cell i (λ q. absurd (omega arith))

  next-other : (i : ℕ) → low ≤ i → word m₃ next_edge_cell i ≡ word m next_edge_cell i
  next-other i g = next_at i ∙ word-store_other m next_edge_cell (place_of edge) _ next_edge_cell i (λ _ q. omega arith)

  next-new : word m₃ next_edge_cell (place_of edge) ≡ word m first_edge_cell to
  next-new = next_at (place_of edge) ∙ word_put y z (place_links y next_edge_cell (place_of edge) refl inside) _

  first-at : (t : ℕ) → word m₃ first_edge_cell t ≡ word m₂ first_edge_cell t
  first-at t = word-store_other m₂ predecessor_count_cell to _ first_edge_cell t (λ q. absurd (omega arith))

  first-new : word m₃ first_edge_cell to ≡ edge
  first-new = first-at to ∙ word_put y z₁ (place_blocks y first_edge_cell to (omega arith) (omega arith) block) edge

  first-other : (t : ℕ) → t ≢ to → word m₃ first_edge_cell t ≡ word m first_edge_cell t
  first-other t ne =
      first-at t ∙ word-store_other m₁ first_edge_cell to edge first_edge_cell t (λ _. ne)
      ∙ word-store_other m next_edge_cell (place_of edge) _ first_edge_cell t (λ q. absurd (omega arith))

  count-new : word m₃ predecessor_count_cell to ≡ suc (word m predecessor_count_cell to)
  count-new = word_put y z₂ (place_blocks y predecessor_count_cell to (omega arith) (omega arith) block) _ ∙ add-one _

  count-other : (t : ℕ) → t ≢ to → word m₃ predecessor_count_cell t ≡ word m predecessor_count_cell t
  count-other t ne =
      word-store_other m₂ predecessor_count_cell to _ predecessor_count_cell t (λ _. ne)
      ∙ word-store_other m₁ first_edge_cell to _ predecessor_count_cell t (λ q. absurd (omega arith))
      ∙ word-store_other m next_edge_cell (place_of edge) _ predecessor_count_cell t (λ q. absurd (omega arith))

  -- the chain of the block that the edge leads to
  into_new : edges_into m₃ to ≡ edge ∷ edges_into m to
  into_new =
      ap₂ (chain_from m₃) count-new first-new
      ∙ ap (λ (es : List ℕ). edge ∷ es)
      (ap (chain_from m₃ (word m predecessor_count_cell to)) next-new
      ∙ chain_same low m m₃ next-other (word m predecessor_count_cell to) (word m first_edge_cell to) (h.above to block))

  -- the chain of each other block
  into_other : (t : ℕ) → t < y.blocks → t ≢ to → edges_into m₃ t ≡ edges_into m t
  into_other t lt ne =
      ap₂ (chain_from m₃) (count-other t ne) (first-other t ne)
      ∙ chain_same low m m₃ next-other (word m predecessor_count_cell t) (word m first_edge_cell t) (h.above t lt)

  -- the blocks that the chains' edges leave are then those of `wanted'`
  pub chains_more : {m' : Mem} (wanted' : ℕ → List ℕ) → ((t : ℕ) → wanted' t ≡ pick (eqb t to) (source_of edge ∷ wanted t) (wanted t))
      → m' ≡ linked_in m edge to → Chains y (place_of edge) wanted' m'
  unfolding linked_in
  chains_more {m'} wanted' w e = subst (λ (x : Mem). Chains y (place_of edge) wanted' x) (sym e) record {
    are = λ t lt. are' t lt (ℕ_discrete t to);
    edges = λ t lt. edges' t lt (ℕ_discrete t to);
    above = λ t lt. above' t lt (ℕ_discrete t to);
    few = λ t lt. few' t lt (ℕ_discrete t to);
  }
    where
      are' : (t : ℕ) → t < y.blocks → Dec (t ≡ to) → map source_of (edges_into m₃ t) ≡ wanted' t
      are' t lt (yes q) =
          ap (λ (x : ℕ). map source_of (edges_into m₃ x)) q ∙ ap (map source_of) into_new
          ∙ ap (λ (l : List ℕ). source_of edge ∷ l) (h.are to block ∙ ap wanted (sym q))
          ∙ sym (w t ∙ ap (λ (x : Bool). pick x (source_of edge ∷ wanted t) (wanted t)) (eq-eqb t to q))
      are' t lt (no q) =
          ap (map source_of) (into_other t lt q) ∙ h.are t lt
          ∙ sym (w t ∙ ap (λ (x : Bool). pick x (source_of edge ∷ wanted t) (wanted t)) (ne_eqb t to q))

      edges' : (t : ℕ) → t < y.blocks → Dec (t ≡ to) → AllBelow (edge_words y) (map place_of (edges_into m₃ t))
      edges' t lt (yes q) = subst (λ (x : ℕ). AllBelow (edge_words y) (map place_of (edges_into m₃ x))) (sym q)
          (subst (λ (l : List ℕ). AllBelow (edge_words y) (map place_of l)) (sym into_new) (inside, h.edges to block))
      edges' t lt (no q) = subst (λ (l : List ℕ). AllBelow (edge_words y) (map place_of l)) (sym (into_other t lt q)) (h.edges t lt)

      above' : (t : ℕ) → t < y.blocks → Dec (t ≡ to) → AllFrom (place_of edge) (map place_of (edges_into m₃ t))
      above' t lt (yes q) = subst (λ (x : ℕ). AllFrom (place_of edge) (map place_of (edges_into m₃ x))) (sym q)
          (subst (λ (l : List ℕ). AllFrom (place_of edge) (map place_of l)) (sym into_new)
          (omega arith, all-from_less (place_of edge) low (map place_of (edges_into m to)) (omega arith) (h.above to block)))
      above' t lt (no q) = subst (λ (l : List ℕ). AllFrom (place_of edge) (map place_of l)) (sym (into_other t lt q))
          (all-from_less (place_of edge) low (map place_of (edges_into m t)) (omega arith) (h.above t lt))

      few' : (t : ℕ) → t < y.blocks → Dec (t ≡ to) → word m₃ predecessor_count_cell t + place_of edge ≤ edge_words y
      few' t lt (yes q) = omega (arith, ap (word m₃ predecessor_count_cell) q, count-new, h.few to block)
      few' t lt (no q) = omega (arith, count-other t q, h.few t lt)

-- ---- the edges of one block, from the k-th on, before those of the blocks behind it; the first has its place at `base`
abbrev pub Partly : (ℕ → List ℕ) → Layout → ℕ → ℕ → ℕ → Mem → Type 0
Partly next y block base k m = Chains y (base + k) (λ b. edges_to b block (drop k (next block)) (predecessors_since next y (suc block) b)) m

module _ (next : ℕ → List ℕ) {y : Layout} {block : ℕ} (lt : block < y.blocks) {m : Mem} where
  -- there is room for them
  pub partly_room : Holds next y m → {low k : ℕ} → k ≡ word m successor_count_cell block → ChainedSince next y (suc block) low m
      → edges_before next block + k ≤ low
  partly_room h e c = omega (arith, c.room, h.counted block lt)

  -- one edge more
  pub partly_more : Sized (scratch_widths y) m → Holds next y m → edge_words y ≤ 4294967296 → (base k : ℕ) → 0 < k
      → k ≤ word m successor_count_cell block → {to : ℕ} {m' : Mem} → to ≡ successor_at m block (k - 1)
      → m' ≡ linked_in m (edge_from block (base + (k - 1))) to → Partly next y block base k m → Partly next y block base (k - 1) m'
  partly_more z h fit base k pos le {to} {m'} et em c =
      rw place at (chains_more z c (edge_from block (base + (k - 1))) to (omega (arith, place)) (omega (arith, place, c.few block lt))
      (rw at (h.below block (k - 1) lt (omega (arith, few))))
      (λ b. edges_to b block (drop (k - 1) (next block)) (predecessors_since next y (suc block) b)) step em)
    where
      few : k ≤ length (next block)
      few = omega (arith, h.counted block lt)

      small : base + (k - 1) < 4294967296
      small = omega (arith, c.few block lt)

      place : place_of (edge_from block (base + (k - 1))) ≡ base + (k - 1)
      place = place-from block (base + (k - 1)) small

      at : to ≡ get_or (next block) (k - 1) 0
      at = et ∙ h.stored block (k - 1) lt (omega (arith, few))

      back : suc (k - 1) ≡ k
      back = omega arith

      rest : drop (k - 1) (next block) ≡ to ∷ drop k (next block)
      rest =
          drop-cons (next block) (k - 1) 0 (omega (arith, few))
          ∙ ap₂ (λ (d : ℕ) (i : ℕ). d ∷ drop i (next block)) (sym at) back

      step : (b : ℕ) → edges_to b block (drop (k - 1) (next block)) (predecessors_since next y (suc block) b)
          ≡ pick (eqb b to) (source_of (edge_from block (base + (k - 1))) ∷ edges_to b block (drop k (next block)) (predecessors_since next y (suc block) b))
          (edges_to b block (drop k (next block)) (predecessors_since next y (suc block) b))
      step b =
          ap (λ (es : List ℕ). edges_to b block es (predecessors_since next y (suc block) b)) rest
          ∙ ap (λ (i : ℕ). pick (eqb b to) (i ∷ edges_to b block (drop k (next block)) (predecessors_since next y (suc block) b))
          (edges_to b block (drop k (next block)) (predecessors_since next y (suc block) b))) (sym (source_from block (base + (k - 1)) small))

  -- all edges of the block
  pub partly_all : (base k : ℕ) → k ≤ 0 → edges_before next block ≤ base → Partly next y block base k m → ChainedSince next y block base m
  partly_all base k none room c = record {
    chains = record {
      are = λ b l. c.are b l ∙ ap (λ (i : ℕ). edges_to b block (drop i (next block)) (predecessors_since next y (suc block) b)) zero' ∙ sym (whole b);
      edges = c.edges;
      above = λ b l. all-from_less base (base + k) (map place_of (edges_into m b)) (omega arith) (c.above b l);
      few = λ b l. omega (arith, c.few b l);
    };
    room = room;
  }
    where
      zero' : k ≡ 0
      zero' = omega arith

      whole : (b : ℕ) → predecessors_since next y block b ≡ edges_to b block (next block) (predecessors_since next y (suc block) b)
      whole b = let e : y.blocks - block ≡ suc (y.blocks - suc block) = omega arith in
          ap (λ (n : ℕ). predecessors_from b block (tabulate block n next)) e

-- the count of the block's edges is still the graph's
pub count-stays : {m m' : Mem} (block : ℕ) → Only chain_cells NoRow m m' → word m' successor_count_cell block ≡ word m successor_count_cell block
count-stays block f = same_word block (f.named successor_count_cell refl)

-- ---- no block yet, and all
module _ (next : ℕ → List ℕ) {y : Layout} {m m' : Mem} where
  pub chained_none : Holds next y m' → Cleared y predecessor_count_cell m m' → ChainedSince next y y.blocks (edge_words y) m'
  chained_none h c = record {
    chains = record {
      are = λ b l. ap (λ (es : List ℕ). map source_of es) (none b l) ∙ sym (over b);
      edges = λ b l. subst (λ (es : List ℕ). AllBelow (edge_words y) (map place_of es)) (sym (none b l)) tt;
      above = λ b l. subst (λ (es : List ℕ). AllFrom (edge_words y) (map place_of es)) (sym (none b l)) tt;
      few = λ b l. omega (arith, c.zeros b l);
    };
    room = h.few;
  }
    where
      none : (b : ℕ) → b < y.blocks → edges_into m' b ≡ []
      none b l = ap (λ (n : ℕ). chain_from m' n (word m' first_edge_cell b)) (c.zeros b l)

      over : (b : ℕ) → predecessors_since next y y.blocks b ≡ []
      over b = let e : y.blocks - y.blocks ≡ 0 = omega arith in
          ap (λ (n : ℕ). predecessors_from b y.blocks (tabulate y.blocks n next)) e

-- the block before c, as the last whose edges are to come
pub chained-back : (next : ℕ → List ℕ) {y : Layout} {m : Mem} {c low : ℕ} → 0 < c → ChainedSince next y c low m → ChainedSince next y (suc (c - 1)) low m
chained-back next {y} {m} {c} {low} h s = let e : c ≡ suc (c - 1) = omega arith in subst (λ (i : ℕ). ChainedSince next y i low m) e s

pub chained-all : (next : ℕ → List ℕ) (y : Layout) (m : Mem) (c low : ℕ) → c ≤ 0 → ChainedSince next y c low m → Chained next y m
chained-all next y m c low h s = record {
  are = λ b l. s.chains.are b l ∙ ap (λ (i : ℕ). predecessors_since next y i b) none ∙ ap (λ (n : ℕ). predecessors_from b 0 (tabulate 0 n next)) all;
  edges = s.chains.edges;
}
  where
    none : c ≡ 0
    none = omega arith

    all : y.blocks - 0 ≡ y.blocks
    all = omega arith
