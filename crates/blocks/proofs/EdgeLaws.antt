-- The words of a block's edges after they are put: the count, where each leads, and what stays. Assumes nothing.
use mathlib.Core.Logic.{◌≢◌}
use mathlib.Core.Path.{◌≡◌, refl, sym, subst, ◌∙◌}
use mathlib.Core.List.{List, [], ◌∷◌}
use Prim.Native.Nat.{ℕ, zero, suc, ◌+◌, ◌≤◌, ◌<◌}
use native.Mathlib.Omega.{arith}
use lib.ListN.{length, get_or}
use Rattle.memory.specs.Cells.{Mem, word, store, Sized}
use Rattle.memory.specs.Names.{block_of_cell, successor_cell, successor_count_cell}
use Rattle.memory.specs.Edges.{edge_place, edge_word, store_edge}
use Rattle.memory.specs.Frame.{Only, NoRow}
use Rattle.memory.specs.Scratch.{scratch_widths}
use Rattle.sizes.specs.declared.Layout.{Layout}
use Rattle.memory.proofs.CellLaws.{same_word, sized-store, word-store_other}
use Rattle.memory.proofs.FrameLaws.{only_none, only_then, only-more, only-cell}
use Rattle.memory.proofs.ScratchLaws.{word_put, place_blocks, place_successors}
use Rattle.blocks.specs.Words.{counted_edges, link_edges, put_edges}

-- ---- one edge

edge-only : (m : Mem) (b k v : ℕ) → Only (successor_cell ∷ []) NoRow m (store_edge m b k v)
edge-only m b k v = only-cell successor_cell _ (omega arith) refl

-- each other edge stays
edge_other : (m : Mem) (b k v d j : ℕ) → edge_place d j ≢ edge_place b k → edge_word (store_edge m b k v) d j ≡ edge_word m d j
edge_other m b k v d j ne = word-store_other m successor_cell (edge_place b k) v successor_cell (edge_place d j) (λ _. ne)

module _ (y : Layout) (b k v : ℕ) {m : Mem} (z : Sized (scratch_widths y) m) where
  edge-sized : Sized (scratch_widths y) (store_edge m b k v)
  edge-sized = sized-store (scratch_widths y) m successor_cell (edge_place b k) v z

  edge-put : b < y.blocks → k < 2 → edge_word (store_edge m b k v) b k ≡ v
  edge-put h l = word_put y z (place_successors y successor_cell (edge_place b k) (omega arith) (omega arith)) v

-- ---- edges from the k-th on

link_only : (b k : ℕ) (ts : List ℕ) (m : Mem) → Only (successor_cell ∷ []) NoRow m (link_edges b k ts m)
unfolding link_edges
link_only b k [] m = only_none m
link_only b k (t ∷ ts) m = only_then (edge-only m b k (word m block_of_cell t)) (link_only b (suc k) ts (store_edge m b k (word m block_of_cell t)))

-- each other edge stays
link_apart : (b k : ℕ) (ts : List ℕ) (m : Mem) (d j : ℕ) → ((i : ℕ) → k ≤ i → i < k + length ts → edge_place d j ≢ edge_place b i)
    → edge_word (link_edges b k ts m) d j ≡ edge_word m d j
unfolding link_edges
link_apart b k [] m d j h = refl
link_apart b k (t ∷ ts) m d j h =
    link_apart b (suc k) ts (store_edge m b k (word m block_of_cell t)) d j (λ i lo hi. h i (omega arith) (omega arith))
    ∙ edge_other m b k (word m block_of_cell t) d j (h k (omega arith) (omega arith))

-- where each of them leads
link_at : (y : Layout) (b k : ℕ) (ts : List ℕ) (m : Mem) (j : ℕ) → Sized (scratch_widths y) m → b < y.blocks → k + length ts ≤ 2 → j < length ts
    → edge_word (link_edges b k ts m) b (k + j) ≡ word m block_of_cell (get_or ts j 0)
unfolding link_edges
link_at y b k [] m j z h few l = absurd (omega arith)
link_at y b k (t ∷ ts) m zero z h few l =
    let q : k + 0 ≡ k = omega arith in
    rw q (link_apart b (suc k) ts (store_edge m b k (word m block_of_cell t)) b k (λ i lo hi w. omega arith)
    ∙ edge-put y b k (word m block_of_cell t) z h (omega arith))
link_at y b k (t ∷ ts) m (suc j) z h few l =
    let q : k + suc j ≡ suc k + j = omega arith in
    rw q (link_at y b (suc k) ts (store_edge m b k (word m block_of_cell t)) j (edge-sized y b k (word m block_of_cell t) z) h (omega arith) (omega arith)
    ∙ same_word (get_or ts j 0) ((edge-only m b k (word m block_of_cell t)).named block_of_cell refl))

-- ---- the count, and both edges cleared

-- the cells of the edges of a block
abbrev pub edge_cells : List ℕ
edge_cells = successor_count_cell ∷ successor_cell ∷ []

module _ (b n : ℕ) (m : Mem) where
  -- the count alone, then the first edge
  abbrev m₁ : Mem
  m₁ = store m successor_count_cell b n

  abbrev m₂ : Mem
  m₂ = store_edge m₁ b 0 0

  count-only : Only (successor_count_cell ∷ []) NoRow m m₁
  count-only = only-cell successor_count_cell _ (omega arith) refl

  clear-only : Only (successor_cell ∷ []) NoRow m₁ (counted_edges b n m)
  unfolding counted_edges
  clear-only = only_then (edge-only m₁ b 0 0) (edge-only m₂ b 1 0)

  counted-only : Only edge_cells NoRow m (counted_edges b n m)
  counted-only =
      only_then (only-more edge_cells NoRow refl (λ k h r. r) count-only) (only-more edge_cells NoRow refl (λ k h r. r) clear-only)

  counted-there : (d : ℕ) → d ≢ b → word (counted_edges b n m) successor_count_cell d ≡ word m successor_count_cell d
  counted-there d f =
      same_word d (clear-only.named successor_count_cell refl) ∙ word-store_other m successor_count_cell b n successor_count_cell d (λ _. f)

  -- an edge of another block
  other_edge : (d k : ℕ) → d ≢ b → k < 2 → edge_word (counted_edges b n m) d k ≡ edge_word m d k
  unfolding counted_edges
  other_edge d k f l =
      edge_other m₂ b 1 0 d k (λ w. omega arith) ∙ edge_other m₁ b 0 0 d k (λ w. omega arith)
      ∙ same_word (edge_place d k) (count-only.named successor_cell refl)

  module _ (y : Layout) (z : Sized (scratch_widths y) m) (h : b < y.blocks) where
    z₁ : Sized (scratch_widths y) m₁
    z₁ = sized-store (scratch_widths y) m successor_count_cell b n z

    z₂ : Sized (scratch_widths y) m₂
    z₂ = edge-sized y b 0 0 z₁

    counted-sized : Sized (scratch_widths y) (counted_edges b n m)
    unfolding counted_edges
    counted-sized = edge-sized y b 1 0 z₂

    counted-here : word (counted_edges b n m) successor_count_cell b ≡ n
    counted-here =
        same_word b (clear-only.named successor_count_cell refl)
        ∙ word_put y z (place_blocks y successor_count_cell b (omega arith) (omega arith) h) n

    cleared-edge : (k : ℕ) → k < 2 → edge_word (counted_edges b n m) b k ≡ 0
    unfolding counted_edges
    cleared-edge zero l = edge_other m₂ b 1 0 b 0 (λ w. omega arith) ∙ edge-put y b 0 0 z₁ h l
    cleared-edge (suc zero) l = edge-put y b 1 0 z₂ h l
    cleared-edge (suc (suc k)) l = absurd (omega arith)

-- ---- both together

-- what `successors` does: block b's edges lead to the blocks that begin at the instructions ts, and the words of other blocks stay
pub record Edged (b : ℕ) (ts : List ℕ) (m m' : Mem) : Type 0 where
  pub counted : word m' successor_count_cell b ≡ length ts
  pub edges : (k : ℕ) → k < length ts → edge_word m' b k ≡ word m block_of_cell (get_or ts k 0)
  pub unused : (k : ℕ) → k < 2 → length ts ≤ k → edge_word m' b k ≡ 0
  pub other_counts : (d : ℕ) → d ≢ b → word m' successor_count_cell d ≡ word m successor_count_cell d
  pub other_edges : (d k : ℕ) → d ≢ b → k < 2 → edge_word m' d k ≡ edge_word m d k
  pub only : Only edge_cells NoRow m m'

module _ (y : Layout) (b : ℕ) (ts : List ℕ) {m : Mem} (z : Sized (scratch_widths y) m) (h : b < y.blocks) (few : length ts ≤ 2) where
  -- counted, and nothing linked yet
  abbrev begun : Mem
  begun = counted_edges b (length ts) m

  linked : Only (successor_cell ∷ []) NoRow begun (put_edges b ts m)
  unfolding put_edges
  linked = link_only b 0 ts begun

  put-edged : Edged b ts m (put_edges b ts m)
  unfolding put_edges
  put-edged = record {
    counted = same_word b (linked.named successor_count_cell refl) ∙ counted-here b (length ts) m y z h;
    edges = λ k l.
        let q : 0 + k ≡ k = omega arith in
        rw q at (link_at y b 0 ts begun k (counted-sized b (length ts) m y z h) h (omega arith) l)
        ∙ same_word (get_or ts k 0) ((counted-only b (length ts) m).named block_of_cell refl);
    unused = λ k l g. link_apart b 0 ts begun b k (λ i lo hi w. omega arith) ∙ cleared-edge b (length ts) m y z h k l;
    other_counts = λ d f. same_word d (linked.named successor_count_cell refl) ∙ counted-there b (length ts) m d f;
    other_edges = λ d k f l. link_apart b 0 ts begun d k (λ i lo hi w. omega arith) ∙ other_edge b (length ts) m d k f l;
    only = only_then (counted-only b (length ts) m) (only-more edge_cells NoRow refl (λ k h r. r) linked);
  }

  pub edged : {m' : Mem} → m' ≡ put_edges b ts m → Edged b ts m m'
  edged e = subst (λ (w : Mem). Edged b ts m w) (sym e) put-edged
