-- The ring's words as a queue, the marks as truth values, and lists of blocks. Assumes nothing.
use mathlib.Core.Path.{◌≡◌, refl, sym, ap, subst, ◌∙◌}
use mathlib.Core.Bool.{Bool, true, false}
use mathlib.Core.List.{List, [], ◌∷◌, ◌++◌, map, reverse_aux}
use Prim.Native.Nat.{ℕ, zero, suc, ◌+◌, ◌-◌, ◌≤◌, ◌<◌}
use native.Mathlib.Omega.{arith}
use native.Mathlib.Decide.{dec_lt}
use lib.ListN.{length, get_or, set, take, drop, replicate, get_or-map}
use lib.Seq.{get_or-set_same, get_or-set_other, drop-cons, take_at}
use Rattle.dataflow.specs.Lists.{sum}
use Rattle.dataflow.specs.Search.{unvisited}
use Rattle.sizes.specs.declared.Layout.{Layout}
use Rattle.edges.specs.Edges.{marked}
use Rattle.bitset.specs.Below.{AllBelow}
use Rattle.solver.specs.Run.{wrap}
use Rattle.solver.proofs.RingLaws.{wrap-below, wrap-past, wrap-lt}

-- ---- the queue

-- n words of the ring from place h on
unfoldable pub ring_words : Layout → List ℕ → ℕ → ℕ → List ℕ
ring_words y r h zero = []
ring_words y r h (suc n) = get_or r h 0 ∷ ring_words y r (wrap y (h + 1)) n

module _ (y : Layout) where
  -- one place further on
  wrap-next : (h n : ℕ) → h < y.blocks → n < y.blocks → wrap y (h + suc n) ≡ wrap y (wrap y (h + 1) + n)
  wrap-next h n lh ln = go (dec_lt (h + 1) y.blocks)
    where
      go : Dec (h + 1 < y.blocks) → wrap y (h + suc n) ≡ wrap y (wrap y (h + 1) + n)
      go (yes l) = let e : h + suc n ≡ h + 1 + n = omega arith in rw (wrap-below y (h + 1) l, e) refl
      go (no k) =
          let z : wrap y (h + 1) ≡ 0 = wrap-past y (h + 1) (omega arith) ∙ omega arith in
          let e : h + suc n - y.blocks ≡ 0 + n = omega arith in
          rw z (wrap-past y (h + suc n) (omega arith) ∙ (e ∙ sym (wrap-below y (0 + n) (omega arith))))

  -- a later place is another
  wrap-apart : (h n : ℕ) → h < y.blocks → suc n < y.blocks → h ≡ wrap y (h + suc n) → ⊥
  wrap-apart h n lh ln e = go (dec_lt (h + suc n) y.blocks)
    where
      go : Dec (h + suc n < y.blocks) → ⊥
      go (yes l) = omega (arith, e ∙ wrap-below y (h + suc n) l)
      go (no k) = omega (arith, e ∙ wrap-past y (h + suc n) (omega arith))

  -- a block put behind the last joins the end of the queue
  pub ring_push : (r : List ℕ) (h n d : ℕ) → length r ≡ y.blocks → h < y.blocks → n < y.blocks
      → ring_words y (set r (wrap y (h + n)) d) h (n + 1) ≡ ring_words y r h n ++ (d ∷ [])
  unfolding ring_words
  ring_push r h zero d l lh ln =
      let e : wrap y (h + 0) ≡ h = ap (wrap y) {x = h + 0} {y = h} (omega arith) ∙ wrap-below y h lh in
      rw (e, get_or-set_same r h d 0 (omega arith)) refl
  ring_push r h (suc n) d l lh ln =
      let q : suc n + 1 ≡ suc (n + 1) = omega arith in
      rw (q, get_or-set_other r (wrap y (h + suc n)) h d 0 (wrap-apart h n lh ln))
      (ap (λ (t : List ℕ). get_or r h 0 ∷ t)
      (subst (λ (k : ℕ). ring_words y (set r k d) (wrap y (h + 1)) (n + 1) ≡ ring_words y r (wrap y (h + 1)) n ++ (d ∷ []))
      (sym (wrap-next h n lh (omega arith))) (ring_push r (wrap y (h + 1)) n d l (wrap-lt y (h + 1) (omega arith)) (omega arith))))

  -- the word at the head is the first of the queue
  pub ring_pop : (r : List ℕ) (h n : ℕ) → (n ≡ 0 → ⊥) → ring_words y r h n ≡ get_or r h 0 ∷ ring_words y r (wrap y (h + 1)) (n - 1)
  unfolding ring_words
  ring_pop r h n p = let e : n ≡ suc (n - 1) = omega arith in rw e (let q : suc (n - 1) - 1 ≡ n - 1 = omega arith in rw q refl)

  -- an empty queue
  pub ring_none : (r : List ℕ) (h n : ℕ) → n ≡ 0 → ring_words y r h n ≡ []
  unfolding ring_words
  ring_none r h n e = ap (ring_words y r h) e

  -- words that do not wrap
  ring-straight : (r : List ℕ) (h n : ℕ) → h + n ≤ y.blocks → h + n ≤ length r → ring_words y r h n ≡ take n (drop h r)
  unfolding ring_words
  ring-straight r h zero fits long = refl
  ring-straight r h (suc zero) fits long = rw (drop-cons r h 0 (omega arith)) refl
  ring-straight r h (suc (suc n)) fits long =
      let e : wrap y (h + 1) ≡ suc h = wrap-below y (h + 1) (omega arith) ∙ omega arith in
      rw (e, drop-cons r h 0 (omega arith))
      (ap (λ (t : List ℕ). get_or r h 0 ∷ t) (ring-straight r (suc h) (suc n) (omega arith) (omega arith)))

  -- a ring that begins with the queue
  pub ring_full : (q rest : List ℕ) (n : ℕ) → length q ≡ n → n ≤ y.blocks → n ≤ length (q ++ rest) → ring_words y (q ++ rest) 0 n ≡ q
  ring_full q rest n e fits long = ring-straight (q ++ rest) 0 n (omega arith) (omega arith) ∙ take_at q rest n e

-- ---- the marks

-- the mark of a block
pub marks-at : (q : List ℕ) (d : ℕ) → get_or (map marked q) d false ≡ marked (get_or q d 0)
marks-at q d = get_or-map marked q d 0

-- a mark gone is at most one more that is missing
pub unvisited-clear : (l : List Bool) (i : ℕ) → unvisited (set l i false) ≤ suc (unvisited l)
unvisited-clear [] i = omega arith
unvisited-clear (true ∷ l) zero = omega arith
unvisited-clear (false ∷ l) zero = omega arith
unvisited-clear (true ∷ l) (suc i) = omega (arith, unvisited-clear l i)
unvisited-clear (false ∷ l) (suc i) = omega (arith, unvisited-clear l i)

-- of words that are 0 or 1 the sum and the marks that are missing are no more than the words
pub sum-marks : (l : List ℕ) → ((i : ℕ) → get_or l i 0 ≤ 1) → sum l + unvisited (map marked l) ≤ length l
sum-marks [] h = omega arith
sum-marks (zero ∷ l) h = omega (arith, sum-marks l (λ i. h (suc i)))
sum-marks (suc x ∷ l) h = omega (arith, h 0, sum-marks l (λ i. h (suc i)))

-- ---- lists of blocks

-- each place of blocks below n, and what stands past the end
pub below_at : (n : ℕ) (l : List ℕ) → 0 < n → AllBelow n l → (i : ℕ) → get_or l i 0 < n
below_at n [] h a i = h
below_at n (x ∷ l) h a zero = a.0
below_at n (x ∷ l) h a (suc i) = below_at n l h a.1 i

-- such lists turned round, without their first, and of zeros
pub below-reverse : (n : ℕ) (l r : List ℕ) → AllBelow n l → AllBelow n r → AllBelow n (reverse_aux l r)
below-reverse n [] r a b = b
below-reverse n (x ∷ l) r a b = below-reverse n l (x ∷ r) a.1 (a.0, b)

pub below-drop : (n k : ℕ) (l : List ℕ) → AllBelow n l → AllBelow n (drop k l)
below-drop n zero l a = a
below-drop n (suc k) [] a = tt
below-drop n (suc k) (x ∷ l) a = below-drop n k l a.1

pub below-zeros : (n k : ℕ) → 0 < n → AllBelow n (replicate k 0)
below-zeros n zero h = tt
below-zeros n (suc k) h = (h, below-zeros n k h)

-- the first k of a list whose first k places are below n
pub below-take : (n k : ℕ) (l : List ℕ) → ((i : ℕ) → i < k → get_or l i 0 < n) → AllBelow n (take k l)
below-take n zero l f = tt
below-take n (suc k) [] f = tt
below-take n (suc k) (x ∷ l) f = (f 0 (omega arith), below-take n k l (λ i lt. f (suc i) (omega arith)))
