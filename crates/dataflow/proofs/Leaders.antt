-- Leaders cut code into blocks as `graph` does, from each leader to the next; each instruction stands in exactly one block, at one place.
use mathlib.Core.Path.{◌≡◌, refl, sym, ◌∙◌, ap, subst}
use mathlib.Core.Bool.{Bool, true, false}
use mathlib.Core.List.Memᴰ
use mathlib.Core.List.{List, [], ◌∷◌, ◌++◌, map, Memᴰ, nil≢cons}
use mathlib.Core.List.{head-eq_of_cons-eq, tail-eq_of_cons-eq}
use mathlib.Core.Logic.{◌⊎◌, inl, inr}
use Prim.Native.Nat.{ℕ, zero, suc, ◌+◌, ◌≤◌, ◌<◌}
use native.Mathlib.Omega.{arith}
use native.Mathlib.Decide.{ℕ_discrete, dec_lt}
use native.Mathlib.Nat.{add-zero, add-suc, suc-add, zero-add}
use lib.ListN.{length, get_or, length-map, get_or-eq_default}
use Rattle.dataflow.specs.Lists.{pick, range, keep}
use Rattle.dataflow.specs.Blocks.{points_of}
use Rattle.dataflow.specs.Code.{Instruction, leader, prepend, head_or, blocks_from, blocks, leaders, body, block_graph}
use Rattle.dataflow.proofs.Lists.{mem-range, range-append, range-bounds, keep-mem, mem-get_or}

-- ── The starts ──

pub mem-keep : (f : ℕ → Bool) (l : List ℕ) (x : ℕ) → Memᴰ x l → f x ≡ true → Memᴰ x (keep f l)
mem-keep f [] x m e = absurd (Memᴰ.not-nil m)
mem-keep f (y ∷ l) x m e = go (f y) refl (Memᴰ.cases_cons m) (λ m'. mem-keep f l x m' e)
  where
    go : (t : Bool) → f y ≡ t → (x ≡ y) ⊎ Memᴰ x l → (Memᴰ x l → Memᴰ x (keep f l)) → Memᴰ x (pick t (y ∷ keep f l) (keep f l))
    go true q (inl z) below = Memᴰ.head z
    go true q (inr z) below = Memᴰ.tail (below z)
    go false q (inl z) below = absurd (mathlib.Core.Bool.true≢false (sym e ∙ (ap f z ∙ q)))
    go false q (inr z) below = below z

module _ (code : List Instruction) where
  starts_from : (k m : ℕ) → map (head_or 0) (blocks_from code k (suc m)) ≡ k ∷ keep (leader code) (range (suc k) m)
  starts_from k zero = go (leader code (suc k))
    where
      go : (t : Bool) → map (head_or 0) (prepend t k []) ≡ k ∷ []
      go true = refl
      go false = refl
  starts_from k (suc m) = go (leader code (suc k)) (blocks_from code (suc k) (suc m)) (starts_from (suc k) m)
    where
      go : (t : Bool) (r : List (List ℕ)) → map (head_or 0) r ≡ suc k ∷ keep (leader code) (range (suc (suc k)) m)
          → map (head_or 0) (prepend t k r) ≡ k ∷ pick t (suc k ∷ keep (leader code) (range (suc (suc k)) m))
          (keep (leader code) (range (suc (suc k)) m))
      go true r e = ap (λ (z : List ℕ). k ∷ z) e
      go false [] e = absurd (nil≢cons e)
      go false (c ∷ r) e = ap (λ (z : List ℕ). k ∷ z) (tail-eq_of_cons-eq e)

  -- The blocks' starts are the leaders, ascending.
  pub leaders_are : leaders code ≡ keep (leader code) (range 0 (length code))
  leaders_are = go (length code)
    where
      go : (n : ℕ) → map (head_or 0) (blocks_from code 0 n) ≡ keep (leader code) (range 0 n)
      go zero = refl
      go (suc m) = starts_from 0 m

  -- there are as many as blocks
  pub leaders_count : length (leaders code) ≡ length (blocks code)
  leaders_count = length-map (blocks code) (head_or 0)

  -- every leader starts a block
  pub leader_starts : (t : ℕ) → t < length code → leader code t ≡ true → Memᴰ t (leaders code)
  leader_starts t lt e = rw leaders_are (mem-keep (leader code) (range 0 (length code)) t (rw (zero-add t) at (mem-range 0 (length code) t lt)) e)

  -- and every block starts at one
  pub starts_lead : (t : ℕ) → Memᴰ t (leaders code) → (leader code t ≡ true) × (t < length code)
  starts_lead t m =
      let z = keep-mem (leader code) (range 0 (length code)) t (rw leaders_are at m) in
      (z.1, omega (arith, (range-bounds 0 (length code) t z.0).1))

  -- none is behind the end of the code
  pub leaders_below : (i : ℕ) → get_or (leaders code) i (length code) ≤ length code
  leaders_below i = go (dec_lt i (length (leaders code)))
    where
      go : Dec (i < length (leaders code)) → get_or (leaders code) i (length code) ≤ length code
      go (yes l) = omega (arith, (starts_lead _ (mem-get_or (leaders code) i (length code) l)).1)
      go (no l) = omega (arith, get_or-eq_default (leaders code) (length code) {n = i} (omega arith))

-- ── The blocks follow one another ──

-- the lists are not empty and follow one another, from k to stop
abbrev Consecutive : ℕ → ℕ → List (List ℕ) → Type 0
Consecutive k stop [] = k ≡ stop
Consecutive k stop (c ∷ r) = (c ≡ range k (length c)) × (0 < length c) × Consecutive (k + length c) stop r

module _ (code : List Instruction) where
  blocks-consecutive : (k m : ℕ) → Consecutive k (k + m) (blocks_from code k m)
  blocks-consecutive k zero = sym (add-zero k)
  blocks-consecutive k (suc m) = go (leader code (suc k)) (blocks_from code (suc k) m)
      (rw (← add-suc k m) at (rw (suc-add k m) at (blocks-consecutive (suc k) m)))
    where
      one : k + 1 ≡ suc k
      one = omega arith

      go : (t : Bool) (r : List (List ℕ)) → Consecutive (suc k) (k + suc m) r → Consecutive k (k + suc m) (prepend t k r)
      go true r h = (refl, omega arith, rw one h)
      go false [] h = (refl, omega arith, rw one h)
      go false (c ∷ r) h = (ap (λ (z : List ℕ). k ∷ z) h.0, omega arith, subst (λ (z : ℕ). Consecutive z (k + suc m) r) (omega arith) h.2)

first-start : (k stop : ℕ) (r : List (List ℕ)) → Consecutive k stop r → get_or (map (head_or 0) r) 0 stop ≡ k
first-start k stop [] h = sym h
first-start k stop (c ∷ r) h = ap (head_or 0) h.0 ∙ go (length c) h.1
  where
    go : (n : ℕ) → 0 < n → head_or 0 (range k n) ≡ k
    go zero lt = absurd (omega arith)
    go (suc n) lt = refl

block_of : (k stop : ℕ) (r : List (List ℕ)) (b : ℕ) (d : List ℕ) → Consecutive k stop r → b < length r
    → (get_or r b d ≡ range (get_or (map (head_or 0) r) b stop) (length (get_or r b d)))
    × (get_or (map (head_or 0) r) b stop + length (get_or r b d) ≡ get_or (map (head_or 0) r) (suc b) stop)
block_of k stop [] b d h lt = absurd (omega arith)
block_of k stop (c ∷ r) zero d h lt =
    let e : head_or 0 c ≡ k = first-start k stop (c ∷ r) h in (rw e h.0, rw e (sym (first-start (k + length c) stop r h.2)))
block_of k stop (c ∷ r) (suc b) d h lt = block_of (k + length c) stop r b d h.2 (omega arith)

-- ── One block, one place ──

range_at : (k n i : ℕ) → k ≤ i → i < k + n → (u : List ℕ) × (v : List ℕ) × (range k n ≡ u ++ (i ∷ v))
range_at k zero i le lt = absurd (omega arith)
range_at k (suc n) i le lt = go (ℕ_discrete i k) (λ l. range_at (suc k) n i l (omega arith))
  where
    go : Dec (i ≡ k) → (suc k ≤ i → (u : List ℕ) × (v : List ℕ) × (range (suc k) n ≡ u ++ (i ∷ v))) → (u : List ℕ) × (v : List ℕ)
        × (range k (suc n) ≡ u ++ (i ∷ v))
    go (yes e) below = ([], range (suc k) n, ap (λ (z : ℕ). z ∷ range (suc k) n) (sym e))
    go (no ne) below = let z = below (omega arith) in (k ∷ z.0, z.1, ap (λ (l : List ℕ). k ∷ l) z.2)

range-place : (k n : ℕ) (u : List ℕ) (i : ℕ) (v : List ℕ) → range k n ≡ u ++ (i ∷ v) → (i ≡ k + length u) × (length u < n)
range-place k zero [] i v e = absurd (nil≢cons e)
range-place k zero (x ∷ u) i v e = absurd (nil≢cons e)
range-place k (suc n) [] i v e = (sym (head-eq_of_cons-eq e) ∙ sym (add-zero k), omega arith)
range-place k (suc n) (x ∷ u) i v e = let z = range-place (suc k) n u i v (tail-eq_of_cons-eq e) in (omega (arith, z.0), omega (arith, z.1))

find : (k stop : ℕ) (r : List (List ℕ)) (i : ℕ) (d : List ℕ) → Consecutive k stop r → k ≤ i → i < stop
    → (b : ℕ) × (u : List ℕ) × (v : List ℕ) × (b < length r) × (get_or r b d ≡ u ++ (i ∷ v))
find k stop [] i d h le lt = absurd (omega arith)
find k stop (c ∷ r) i d h le lt = go (dec_lt i (k + length c)) (λ l. find (k + length c) stop r i d h.2 l lt)
  where
    go : Dec (i < k + length c) → (k + length c ≤ i → (b : ℕ) × (u : List ℕ) × (v : List ℕ) × (b < length r) × (get_or r b d ≡ u ++ (i ∷ v)))
        → (b : ℕ) × (u : List ℕ) × (v : List ℕ) × (b < suc (length r)) × (get_or (c ∷ r) b d ≡ u ++ (i ∷ v))
    go (yes l) below = let z = range_at k (length c) i le l in (0, z.0, z.1, omega arith, h.0 ∙ z.2)
    go (no n) below = let z = below (omega arith) in (suc z.0, z.1, z.2, omega (arith, z.3), z.4)

at_or_past : (k stop : ℕ) (r : List (List ℕ)) (b : ℕ) (d u : List ℕ) (i : ℕ) (v : List ℕ) → Consecutive k stop r → b < length r
    → get_or r b d ≡ u ++ (i ∷ v) → k ≤ i
at_or_past k stop [] b d u i v h lt e = absurd (omega arith)
at_or_past k stop (c ∷ r) zero d u i v h lt e = omega (arith, (range-place k (length c) u i v (sym h.0 ∙ e)).0)
at_or_past k stop (c ∷ r) (suc b) d u i v h lt e = omega (arith, at_or_past (k + length c) stop r b d u i v h.2 (omega arith) e)

same_place : (u u' : List ℕ) (i : ℕ) (v v' : List ℕ) → length u ≡ length u' → u ++ (i ∷ v) ≡ u' ++ (i ∷ v') → (u ≡ u') × (v ≡ v')
same_place [] [] i v v' l e = (refl, tail-eq_of_cons-eq e)
same_place [] (y ∷ u') i v v' l e = absurd (omega arith)
same_place (x ∷ u) [] i v v' l e = absurd (omega arith)
same_place (x ∷ u) (y ∷ u') i v v' l e = let z = same_place u u' i v v' (omega arith) (tail-eq_of_cons-eq e) in
    (rw (head-eq_of_cons-eq e, z.0) refl, z.1)

unique : (k stop : ℕ) (r : List (List ℕ)) (b b' : ℕ) (d u u' : List ℕ) (i : ℕ) (v v' : List ℕ) → Consecutive k stop r → b < length r → b' < length r
    → get_or r b d ≡ u ++ (i ∷ v) → get_or r b' d ≡ u' ++ (i ∷ v') → (b ≡ b') × (u ≡ u') × (v ≡ v')
unique k stop [] b b' d u u' i v v' h lt lt' e e' = absurd (omega arith)
unique k stop (c ∷ r) zero zero d u u' i v v' h lt lt' e e' =
    let z = same_place u u' i v v' (omega (
      arith,
      (range-place k (length c) u i v (sym h.0 ∙ e)).0,
      (range-place k (length c) u' i v'
          (sym h.0 ∙ e')).0,
    )) (sym e ∙ e') in
    (refl, z.0, z.1)
unique k stop (c ∷ r) zero (suc b') d u u' i v v' h lt lt' e e' =
    let z = range-place k (length c) u i v (sym h.0 ∙ e) in
    absurd (omega (arith, z.0, z.1, at_or_past (k + length c) stop r b' d u' i v' h.2 (omega arith) e'))
unique k stop (c ∷ r) (suc b) zero d u u' i v v' h lt lt' e e' =
    let z = range-place k (length c) u' i v' (sym h.0 ∙ e') in
    absurd (omega (arith, z.0, z.1, at_or_past (k + length c) stop r b d u i v h.2 (omega arith) e))
unique k stop (c ∷ r) (suc b) (suc b') d u u' i v v' h lt lt' e e' =
    let z = unique (k + length c) stop r b b' d u u' i v v' h.2 (omega arith) (omega arith) e e' in (ap suc z.0, z.1, z.2)

module _ (code : List Instruction) where
  all-consecutive : Consecutive 0 (length code) (blocks code)
  all-consecutive = rw (zero-add (length code)) at (blocks-consecutive code 0 (length code))

  -- Block b is the instructions from leader b to the next leader, or to the end of the code.
  pub block_range : (b : ℕ) → b < length (blocks code)
      → (body code b ≡ range (get_or (leaders code) b (length code)) (length (body code b)))
      × (get_or (leaders code) b (length code) + length (body code b) ≡ get_or (leaders code) (suc b) (length code))
  block_range b lt = block_of 0 (length code) (blocks code) b (length code ∷ []) all-consecutive lt

  -- Each instruction stands in a block,
  pub block_place : (i : ℕ) → i < length code → (b : ℕ) × (u : List ℕ) × (v : List ℕ) × (b < length (blocks code)) × (body code b ≡ u ++ (i ∷ v))
  block_place i lt = find 0 (length code) (blocks code) i (length code ∷ []) all-consecutive (omega arith) lt

  -- and in one only, at one place.
  pub block_place_unique : (b b' : ℕ) (u u' : List ℕ) (i : ℕ) (v v' : List ℕ) → b < length (blocks code) → b' < length (blocks code)
      → body code b ≡ u ++ (i ∷ v) → body code b' ≡ u' ++ (i ∷ v') → (b ≡ b') × (u ≡ u') × (v ≡ v')
  block_place_unique b b' u u' i v v' lt lt' e e' = unique 0 (length code) (blocks code) b b'
      (length code ∷ []) u u' i v v' all-consecutive lt lt' e e'

  -- The blocks, by start, are the whole code in order.
  pub blocks_cover : points_of (block_graph code) (range 0 (length (blocks code))) ≡ range 0 (length code)
  blocks_cover = joined-blocks (blocks code) 0 (λ i lt. ap (λ (b : ℕ). get_or (blocks code) b (length code ∷ [])) (zero-add i))
      ∙ joined-range (length code) (blocks code) all-consecutive
    where
      joined : List (List ℕ) → List ℕ
      joined [] = []
      joined (c ∷ r) = c ++ joined r

      joined-blocks : (r : List (List ℕ)) (k : ℕ) → ((i : ℕ) → i < length r → body code (k + i) ≡ get_or r i (length code ∷ []))
          → points_of (block_graph code) (range k (length r)) ≡ joined r
      joined-blocks [] k h = refl
      joined-blocks (c ∷ r) k h =
          rw (
            rw (add-zero k) at (h 0 (omega arith)),
            joined-blocks r (suc k)
                (λ i lt. let e : suc k + i ≡ k + suc i = omega arith in ap (body code) e ∙ h (suc i) (omega arith)),
          ) refl

      joined-from : (k stop : ℕ) (r : List (List ℕ)) → Consecutive k stop r → (n : ℕ) × (k + n ≡ stop) × (joined r ≡ range k n)
      joined-from k stop [] h = (0, omega arith, refl)
      joined-from k stop (c ∷ r) h =
          let z = joined-from (k + length c) stop r h.2 in (
            length c + z.0,
            omega (arith, z.1),
            rw z.2
                (ap (λ (l : List ℕ). l ++ range (k + length c) z.0) h.0 ∙ sym (range-append k (length c) z.0)),
          )

      joined-range : (stop : ℕ) (r : List (List ℕ)) → Consecutive 0 stop r → joined r ≡ range 0 stop
      joined-range stop r h =
          let z = joined-from 0 stop r h in
          let e : z.0 ≡ stop = omega (arith, z.1) in
          z.2 ∙ ap (range 0) e
