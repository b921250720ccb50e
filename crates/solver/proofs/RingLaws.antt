-- What is kept between visits, through pushes, offers and pops. Assumes nothing.
use mathlib.Core.Path.{◌≡◌, refl, sym, ap, ◌∙◌, subst}
use mathlib.Core.List.{List, [], ◌∷◌}
use Prim.Native.Nat.{ℕ, zero, suc, ◌+◌, ◌*◌, ◌-◌, ◌≤◌, ◌<◌}
use native.Mathlib.Omega.{arith}
use native.Mathlib.Decide.{dec_lt, ℕ_discrete}
use borrow.Author.Tests.{eq-eqb, ne_eqb, lt-ltb, le-ltb}
use lib.ListN.{length, get_or, set, length-set}
use lib.Seq.{get_or-set_same, get_or-set_other}
use Rattle.dataflow.specs.Lists.{sum}
use Rattle.memory.specs.Cells.{Mem, cell, word, store, store_cell}
use Rattle.memory.specs.Names.{queued_cell, reachable_cell, ring_cell, first_row}
use Rattle.memory.specs.Scratch.{scratch_widths, Whole}
use Rattle.sizes.specs.declared.Layout.{Layout}
use Rattle.memory.proofs.CellLaws.{cell-store_same, cell-store_other, sized-store}
use Rattle.memory.proofs.ScratchLaws.{sized_among, sized_blocks}
use Rattle.solver.specs.declared.ring.Ring.{Ring}
use Rattle.solver.specs.Run.{At, at_of, wrap, pushed, offered, popped, Good, Offers}
use Rattle.memory.proofs.EdgeLaws.{SameEdges, same-cell, same_row, same_none, same_then, connected_kept}

-- ---- sums of marks

-- a word that changes changes the sum by as much
sum-set : (l : List ℕ) (i v : ℕ) → i < length l → sum (set l i v) + get_or l i 0 ≡ sum l + v
sum-set [] i v h = absurd (omega arith)
sum-set (x ∷ l) zero v h = omega arith
sum-set (x ∷ l) (suc i) v h = omega (arith, sum-set l i v (omega arith))

-- marks of at most 1 are no more than there are words
pub sum-few : (l : List ℕ) → ((i : ℕ) → get_or l i 0 ≤ 1) → sum l ≤ length l
sum-few [] h = omega arith
sum-few (x ∷ l) h = omega (arith, h 0, sum-few l (λ i. h (suc i)))

-- what holds of each word of a list, and of the new word, holds after a store
set_all : (P : ℕ → ℕ → Type 0) (l : List ℕ) (i v : ℕ) → ((j : ℕ) → P j (get_or l j 0)) → P i v → i < length l
    → (j : ℕ) → P j (get_or (set l i v) j 0)
set_all P l i v h p lt j = go (ℕ_discrete j i)
  where
    go : Dec (j ≡ i) → P j (get_or (set l i v) j 0)
    go (yes e) = rw (e, get_or-set_same l i v 0 lt) p
    go (no ne) = rw (get_or-set_other l i j v 0 ne) (h j)

-- ---- a place of the ring

-- before the end it is where it is
pub wrap-below : (y : Layout) (i : ℕ) → i < y.blocks → wrap y i ≡ i
wrap-below y i h = rw (lt-ltb i y.blocks h) refl

-- behind it it begins again
pub wrap-past : (y : Layout) (i : ℕ) → y.blocks ≤ i → wrap y i ≡ i - y.blocks
wrap-past y i h = rw (le-ltb i y.blocks h) refl

-- so it is a place
pub wrap-lt : (y : Layout) (i : ℕ) → i < 2 * y.blocks → wrap y i < y.blocks
wrap-lt y i h = go (dec_lt i y.blocks)
  where
    go : Dec (i < y.blocks) → wrap y i < y.blocks
    go (yes l) = rw (wrap-below y i l) l
    go (no n) = rw (wrap-past y i (omega arith)) (omega arith)

-- ---- a store into a row
pub good-row : (y : Layout) (m : Mem) {m' : Mem} (k : ℕ) (x : List ℕ) (g : Ring) → first_row ≤ k → m' ≡ store_cell m k x → Good y m g → Good y m' g
good-row y m k x g lo e h = rw e record {
  connected = connected_kept (same_row m k x lo) y h.connected;
  head = h.head;
  count = rw (cell-store_other m k x queued_cell (λ q. omega arith)) h.count;
  marks = rw (cell-store_other m k x queued_cell (λ q. omega arith)) h.marks;
  ring = rw (cell-store_other m k x ring_cell (λ q. omega arith)) h.ring;
}

-- ---- what the two stores of a push leave: block d has its mark, and stands at place i
module _ (m : Mem) (d i : ℕ) (h : queued_cell < length m) where
  -- the marks
  pub pushed_marks : cell (store (store m queued_cell d 1) ring_cell i d) queued_cell ≡ set (cell m queued_cell) d 1
  pushed_marks =
      cell-store_other (store m queued_cell d 1) ring_cell _ queued_cell (λ e. omega arith)
      ∙ cell-store_same m queued_cell (set (cell m queued_cell) d 1) h

  -- the ring
  pub pushed_ring : cell (store (store m queued_cell d 1) ring_cell i d) ring_cell ≡ set (cell m ring_cell) i d
  pushed_ring =
      cell-store_same (store m queued_cell d 1) ring_cell _ (omega (arith, length-set m queued_cell (set (cell m queued_cell) d 1)))
      ∙ ap (λ (ws : List ℕ). set ws i d) (cell-store_other m queued_cell (set (cell m queued_cell) d 1) ring_cell (λ e. omega arith))

module _ (y : Layout) (m : Mem) (z : Whole y m) where
  -- a mark a block
  marks_long : length (cell m queued_cell) ≡ y.blocks
  marks_long = sized_blocks y z queued_cell (omega arith) (omega arith)

  -- a place a block
  ring_long : length (cell m ring_cell) ≡ y.blocks
  ring_long = sized_blocks y z ring_cell (omega arith) (omega arith)

  -- no more blocks wait than there are
  pub good_count : (g : Ring) → Good y m g → g.count ≤ y.blocks
  good_count g h = omega (arith, h.count, sum-few (cell m queued_cell) h.marks, marks_long)

  -- ---- a block that had no mark joins the ring

  -- its edges and those of all others stay
  pub pushed_edges : (t : Mem) (g : Ring) (d : ℕ) → SameEdges m (pushed y d (at_of m t g)).mem
  unfolding pushed
  pushed_edges t g d =
      same_then (same-cell m queued_cell (set (cell m queued_cell) d 1) (omega arith) refl refl refl refl refl)
      (same-cell (store m queued_cell d 1) ring_cell _ (omega arith) refl refl refl refl refl)

  -- so does how wide the cells are
  pushed_whole : (t : Mem) (g : Ring) (d : ℕ) → Whole y (pushed y d (at_of m t g)).mem
  unfolding pushed
  pushed_whole t g d = sized-store (scratch_widths y) _ ring_cell _ d (sized-store (scratch_widths y) m queued_cell d 1 z)

  -- one mark more, and one block more that waits
  pub pushed_good : (t : Mem) (g : Ring) (d : ℕ) → d < y.blocks → word m queued_cell d ≡ 0 → Good y m g
      → Good y (pushed y d (at_of m t g)).mem (pushed y d (at_of m t g)).ring
  unfolding pushed
  pushed_good t g d hd u h = record {
    connected = connected_kept (pushed_edges t g d) y h.connected;
    head = h.head;
    count = rw (pushed_marks m d at among) (omega (arith, h.count, sum-set q d 1 (omega (arith, marks_long)), u));
    marks = rw (pushed_marks m d at among) (set_all (λ j v. v ≤ 1) q d 1 h.marks (omega arith) (omega (arith, marks_long)));
    ring = rw (pushed_ring m d at among) (λ i hi.
        set_all (λ j v. j < y.blocks → v < y.blocks) (cell m ring_cell) at d h.ring (λ _. hd) (omega (arith, ring_long, at_lt)) i hi);
  }
    where
      q : List ℕ
      q = cell m queued_cell

      at : ℕ
      at = wrap y (g.head + g.count)

      at_lt : at < y.blocks
      at_lt = wrap-lt y (g.head + g.count) (omega (arith, h.head, good_count g h))

      among : queued_cell < length m
      among = sized_among y z (omega arith)

  -- ---- the first block leaves the ring, its mark with it
  pub popped_good : (g : Ring) (b : ℕ) → b < y.blocks → Good y m g → Good y (store m queued_cell b 0) (popped y g)
  popped_good g b hb h = record {
    connected = connected_kept (same-cell m queued_cell _ (omega arith) refl refl refl refl refl) y h.connected;
    head = wrap-lt y (g.head + 1) (omega (arith, h.head));
    count = rw queued (omega (arith, h.count, h.marks b, sum-set q b 0 (omega (arith, marks_long))));
    marks = rw queued (set_all (λ j v. v ≤ 1) q b 0 h.marks (omega arith) (omega (arith, marks_long)));
    ring = rw (cell-store_other m queued_cell _ ring_cell (λ e. omega arith)) h.ring;
  }
    where
      q : List ℕ
      q = cell m queued_cell

      queued : cell (store m queued_cell b 0) queued_cell ≡ set q b 0
      queued = cell-store_same m queued_cell (set q b 0) (sized_among y z (omega arith))

-- ---- an offer of block d, whose word in REACHABLE is v and in QUEUED is u
module _ (y : Layout) (d : ℕ) (s : At) {v : ℕ} (e : v ≡ word s.mem reachable_cell d) where
  -- it is not reachable
  pub offer_unreachable : v ≡ 0 → s ≡ offered y d s
  unfolding offered
  offer_unreachable z = rw (eq-eqb (word s.mem reachable_cell d) 0 (sym e ∙ z)) refl

  -- it waits already
  pub offer_marked : {u : ℕ} → (v ≡ 0 → ⊥) → u ≡ word s.mem queued_cell d → (u ≡ 0 → ⊥) → s ≡ offered y d s
  unfolding offered
  offer_marked ne f nf =
      rw (ne_eqb (word s.mem reachable_cell d) 0 (λ q. ne (e ∙ q)), ne_eqb (word s.mem queued_cell d) 0 (λ q. nf (f ∙ q))) refl

  -- it joins the ring
  pub offer_new : {u : ℕ} → (v ≡ 0 → ⊥) → u ≡ word s.mem queued_cell d → u ≡ 0 → pushed y d s ≡ offered y d s
  unfolding offered
  offer_new ne f z =
      rw (ne_eqb (word s.mem reachable_cell d) 0 (λ q. ne (e ∙ q)), eq-eqb (word s.mem queued_cell d) 0 (sym f ∙ z)) refl

-- what an offer keeps
pub record Kept (y : Layout) (m : Mem) (s : At) : Type 0 where
  pub whole : Whole y s.mem
  pub good : Good y s.mem s.ring
  pub edges : SameEdges m s.mem

-- whichever way it goes
offered-kept : (y : Layout) (m : Mem) → Whole y m → (t : Mem) (g : Ring) (d : ℕ) → d < y.blocks → Good y m g
    → Kept y m (offered y d (at_of m t g))
offered-kept y m z t g d hd h = go (ℕ_discrete (word m reachable_cell d) 0) (ℕ_discrete (word m queued_cell d) 0)
  where
    s : At
    s = at_of m t g

    go : Dec (word m reachable_cell d ≡ 0) → Dec (word m queued_cell d ≡ 0) → Kept y m (offered y d (at_of m t g))
    go (yes q) r = subst (Kept y m) (offer_unreachable y d s refl q) (record { whole = z; good = h; edges = same_none m })
    go (no n) (yes q) =
        subst (Kept y m) (offer_new y d s refl n refl q)
        (record { whole = pushed_whole y m z t g d; good = pushed_good y m z t g d hd q h; edges = pushed_edges y m z t g d })
    go (no n) (no k) = subst (Kept y m) (offer_marked y d s refl n refl k) (record { whole = z; good = h; edges = same_none m })

-- as `ring::offer` ensures it
pub offers_kept : (y : Layout) (m : Mem) → Whole y m → {m' : Mem} {g g' : Ring} {d : ℕ} → d < y.blocks → Good y m g
    → Offers y d m g m' g' → Kept y m (at_of m' [] g')
offers_kept y m z {g = g} {d = d} hd h o = subst (Kept y m) (sym (o [])) (offered-kept y m z [] g d hd h)
