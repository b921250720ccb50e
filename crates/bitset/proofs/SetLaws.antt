-- What `member` says of each set that the contracts name, sets of equal members, and words that fit. Assumes nothing.
use mathlib.Core.Logic.{◌↔◌, ◌⊎◌, inl, inr}
use mathlib.Core.Path.{◌≡◌, refl, sym, ap, ap₂, ◌∙◌}
use mathlib.Core.Bool.{Bool, true, false, not, ◌&&◌, ◌||◌, or_comm, and_comm, or-true, and-eq-true_iff, false≢true}
use mathlib.Core.List.{List, [], ◌∷◌}
use Prim.Native.Nat.{ℕ, zero, suc, ◌+◌, ◌-◌, ◌*◌, ◌/◌, ◌%◌, ◌^◌, ◌≤◌, ◌<◌}
use native.Mathlib.Decide.{dec_lt, ℕ_discrete}
use native.Mathlib.Omega.{arith}
use Rattle.std.specs.Int.Bits.{or_zero_r}
use lib.Bits.{bit_and, bit_or, and_le_l, or_lt}
use lib.Dec.{eqb, lit<}
use lib.ListN.{length, get_or, set, replicate, length-set, length-replicate, get_or-replicate, get_or-eq_default}
use lib.Pow.{pow-lt}
use lib.Seq.{get_or-set_same, get_or-set_other, ext_get_or}
use borrow.Author.Tests.{eq-eqb, ne_eqb, eqb-true}
use Rattle.bitset.specs.Sets.{ones, member, Words}
use Rattle.bitset.specs.Operations.{inserted, removed, zipped, meet, join, difference, same, common, within}
use Rattle.bitset.proofs.Digits.{bit, bit-and, bit-or, bit_not, bit-zero, bit-ones, bit-pow, bits-tell}

-- ---- past the end, and rows of one word repeated
member-word : (ws : List ℕ) (i v : ℕ) → get_or ws (i / 64) 0 ≡ v → member ws i ≡ bit v (i % 64)
unfolding member
member-word ws i v e = ap (λ (x : ℕ). bit x (i % 64)) e

pub member-past : (ws : List ℕ) (i : ℕ) → length ws ≤ i / 64 → member ws i ≡ false
member-past ws i h = member-word ws i 0 (get_or-eq_default ws 0 h) ∙ bit-zero (i % 64)

pub member-zero : (w i : ℕ) → member (replicate w 0) i ≡ false
member-zero w i = go (dec_lt (i / 64) w)
  where
    go : Dec (i / 64 < w) → member (replicate w 0) i ≡ false
    go (yes h) = member-word (replicate w 0) i 0 (get_or-replicate w (i / 64) 0 0 h) ∙ bit-zero (i % 64)
    go (no h) = member-past (replicate w 0) i (omega (arith, length-replicate {A = ℕ} w 0))

pub member-ones : (w i : ℕ) → i / 64 < w → member (replicate w ones) i ≡ true
member-ones w i h = member-word (replicate w ones) i ones (get_or-replicate w (i / 64) ones 0 h) ∙ bit-ones (i % 64) (omega arith)

-- which of two numbers is asked about makes no difference
pub same-either_way : (i k : ℕ) → eqb i k ≡ eqb k i
same-either_way i k = go (ℕ_discrete i k)
  where
    go : Dec (i ≡ k) → eqb i k ≡ eqb k i
    go (yes e) = eq-eqb i k e ∙ sym (eq-eqb k i (sym e))
    go (no e) = ne_eqb i k e ∙ sym (ne_eqb k i (λ q. e (sym q)))

-- ---- one slot: g says what becomes of a slot, at whether it is slot i
module _ (ws : List ℕ) (i : ℕ) (h : i / 64 < length ws) where
  member-set : (v : ℕ) (g : Bool → Bool → Bool) → ((b : Bool) → g false b ≡ b)
      → ((j : ℕ) → j < 64 → bit v j ≡ g (eqb (i % 64) j) (bit (get_or ws (i / 64) 0) j))
      → (k : ℕ) → member (set ws (i / 64) v) k ≡ g (eqb i k) (member ws k)
  member-set v g other at k = go (ℕ_discrete (k / 64) (i / 64))
    where
      -- within one word, the slots are equal if their bits are
      here : k / 64 ≡ i / 64 → eqb (i % 64) (k % 64) ≡ eqb i k
      here e = at_bit (ℕ_discrete i k)
        where
          at_bit : Dec (i ≡ k) → eqb (i % 64) (k % 64) ≡ eqb i k
          at_bit (yes q) = eq-eqb (i % 64) (k % 64) (ap (λ (x : ℕ). x % 64) q) ∙ sym (eq-eqb i k q)
          at_bit (no q) = ne_eqb (i % 64) (k % 64) (λ r. q (omega arith)) ∙ sym (ne_eqb i k q)

      go : Dec (k / 64 ≡ i / 64) → member (set ws (i / 64) v) k ≡ g (eqb i k) (member ws k)
      go (yes e) =
          member-word (set ws (i / 64) v) k v (ap (λ (x : ℕ). get_or (set ws (i / 64) v) x 0) e ∙ get_or-set_same ws (i / 64) v 0 h)
          ∙ at (k % 64) (omega arith)
          ∙ ap₂ g (here e) (sym (member-word ws k (get_or ws (i / 64) 0) (ap (λ (x : ℕ). get_or ws x 0) e)))
      go (no e) =
          member-word (set ws (i / 64) v) k (get_or ws (k / 64) 0) (get_or-set_other ws (i / 64) (k / 64) v 0 e)
          ∙ sym (member-word ws k (get_or ws (k / 64) 0) refl) ∙ sym (other (member ws k))
          ∙ ap (λ (t : Bool). g t (member ws k)) (sym (ne_eqb i k (λ q. e (ap (λ (x : ℕ). x / 64) (sym q)))))

  abbrev word : ℕ
  word = get_or ws (i / 64) 0

  pub member_inserted : (k : ℕ) → member (inserted ws i) k ≡ (eqb i k || member ws k)
  unfolding inserted
  member_inserted =
      member-set (bit_or word (2 ^ (i % 64))) ◌||◌ (λ b. refl)
      (λ j l. bit-or word (2 ^ (i % 64)) j ∙ ap (λ (t : Bool). bit word j || t) (bit-pow (i % 64) j) ∙ or_comm (bit word j) (eqb (i % 64) j))

  pub member_removed : (k : ℕ) → member (removed ws i) k ≡ (not (eqb i k) && member ws k)
  unfolding removed
  member_removed =
      member-set (bit_and word (ones - 2 ^ (i % 64))) (λ e b. not e && b) (λ b. refl)
      (λ j l. bit-and word (ones - 2 ^ (i % 64)) j
      ∙ ap (λ (t : Bool). bit word j && t) (bit_not (2 ^ (i % 64)) j (pow-lt {j = 64} (omega arith)) l ∙ ap not (bit-pow (i % 64) j))
      ∙ and_comm (bit word j) (not (eqb (i % 64) j)))

  pub member_inserted_same : member (inserted ws i) i ≡ true
  member_inserted_same = member_inserted i ∙ ap (λ (t : Bool). t || member ws i) (eq-eqb i i refl)

  pub member_inserted_other : (k : ℕ) → (i ≡ k → ⊥) → member (inserted ws i) k ≡ member ws k
  member_inserted_other k ne = member_inserted k ∙ ap (λ (t : Bool). t || member ws k) (ne_eqb i k ne)

  pub member_removed_same : member (removed ws i) i ≡ false
  member_removed_same = member_removed i ∙ ap (λ (t : Bool). not t && member ws i) (eq-eqb i i refl)

  pub member_removed_other : (k : ℕ) → (i ≡ k → ⊥) → member (removed ws i) k ≡ member ws k
  member_removed_other k ne = member_removed k ∙ ap (λ (t : Bool). not t && member ws k) (ne_eqb i k ne)

-- ---- lengths, and word by word
pub length_inserted : (ws : List ℕ) (i : ℕ) → length (inserted ws i) ≡ length ws
unfolding inserted
length_inserted ws i = simp length-set

pub length_removed : (ws : List ℕ) (i : ℕ) → length (removed ws i) ≡ length ws
unfolding removed
length_removed ws i = simp length-set

pub length-zipped : (f : ℕ → ℕ → ℕ) (xs ys : List ℕ) → length (zipped f xs ys) ≡ length xs
unfolding zipped
length-zipped f [] ys = refl
length-zipped f (x ∷ xs) [] = ap suc (length-zipped f xs [])
length-zipped f (x ∷ xs) (y ∷ ys) = ap suc (length-zipped f xs ys)

pub get_or-zipped : (f : ℕ → ℕ → ℕ) (xs ys : List ℕ) (k : ℕ) → k < length xs → get_or (zipped f xs ys) k 0 ≡ f (get_or xs k 0) (get_or ys k 0)
unfolding zipped
get_or-zipped f [] ys k h = absurd (omega arith)
get_or-zipped f (x ∷ xs) [] zero h = refl
get_or-zipped f (x ∷ xs) [] (suc k) h = get_or-zipped f xs [] k (omega arith)
get_or-zipped f (x ∷ xs) (y ∷ ys) zero h = refl
get_or-zipped f (x ∷ xs) (y ∷ ys) (suc k) h = get_or-zipped f xs ys k (omega arith)

-- f on words is g on members, where it is so on the bit at hand; past the end, where g then says false
member-zipped : (f : ℕ → ℕ → ℕ) (g : Bool → Bool → Bool) (xs ys : List ℕ) (i : ℕ)
    → bit (f (get_or xs (i / 64) 0) (get_or ys (i / 64) 0)) (i % 64) ≡ g (bit (get_or xs (i / 64) 0) (i % 64)) (bit (get_or ys (i / 64) 0) (i % 64))
    → (length xs ≤ i / 64 → g false (member ys i) ≡ false) → member (zipped f xs ys) i ≡ g (member xs i) (member ys i)
member-zipped f g xs ys i at past = go (dec_lt (i / 64) (length xs))
  where
    go : Dec (i / 64 < length xs) → member (zipped f xs ys) i ≡ g (member xs i) (member ys i)
    go (yes h) =
        member-word (zipped f xs ys) i (f (get_or xs (i / 64) 0) (get_or ys (i / 64) 0)) (get_or-zipped f xs ys (i / 64) h) ∙ at
        ∙ sym (ap₂ g (member-word xs i (get_or xs (i / 64) 0) refl) (member-word ys i (get_or ys (i / 64) 0) refl))
    go (no h) =
        member-past (zipped f xs ys) i (omega (arith, length-zipped f xs ys)) ∙ sym (past (omega arith))
        ∙ ap (λ (t : Bool). g t (member ys i)) (sym (member-past xs i (omega arith)))

-- past the words of the second, a join has those of the first
pub joined_past : (xs ys : List ℕ) (k : ℕ) → length ys ≤ k → get_or (join xs ys) k 0 ≡ get_or xs k 0
unfolding zipped
joined_past [] ys k h = refl
joined_past (x ∷ xs) [] zero h = or_zero_r x
joined_past (x ∷ xs) [] (suc k) h = joined_past xs [] k (omega arith)
joined_past (x ∷ xs) (y ∷ ys) zero h = absurd (omega arith)
joined_past (x ∷ xs) (y ∷ ys) (suc k) h = joined_past xs ys k (omega arith)

pub member-meet : (xs ys : List ℕ) (i : ℕ) → member (meet xs ys) i ≡ (member xs i && member ys i)
member-meet xs ys i =
    member-zipped bit_and ◌&&◌ xs ys i (bit-and (get_or xs (i / 64) 0) (get_or ys (i / 64) 0) (i % 64)) (λ _. refl)

pub member-join : (xs ys : List ℕ) (i : ℕ) → i / 64 < length xs → member (join xs ys) i ≡ (member xs i || member ys i)
member-join xs ys i h =
    member-zipped bit_or ◌||◌ xs ys i (bit-or (get_or xs (i / 64) 0) (get_or ys (i / 64) 0) (i % 64)) (λ l. absurd (omega arith))

pub member-difference : (xs ys : List ℕ) (i : ℕ) → get_or ys (i / 64) 0 < 2 ^ 64
    → member (difference xs ys) i ≡ (member xs i && not (member ys i))
member-difference xs ys i h =
    let x : ℕ = get_or xs (i / 64) 0 in
    let y : ℕ = get_or ys (i / 64) 0 in
    member-zipped (λ x y. bit_and x (ones - y)) (λ a b. a && not b) xs ys i
    (bit-and x (ones - y) (i % 64) ∙ ap (λ (t : Bool). bit x (i % 64) && t) (bit_not y (i % 64) h (omega arith))) (λ _. refl)

-- ---- words that fit: each that is there, since past the end they count as 0
pub words-each : (w : ℕ) (ws : List ℕ) → length ws ≡ w → ((k : ℕ) → k < w → get_or ws k 0 < 2 ^ 64) → Words w ws
words-each w ws e at = record { long = e; fits = λ k. go k (dec_lt k w) }
  where
    go : (k : ℕ) → Dec (k < w) → get_or ws k 0 < 2 ^ 64
    go k (yes l) = at k l
    go k (no l) = rw (get_or-eq_default ws 0 {n = k} (omega arith)) (lit< tt)

module _ {w : ℕ} {ws : List ℕ} (h : Words w ws) where
  words-zipped : (f : ℕ → ℕ → ℕ) (ys : List ℕ) → ((k : ℕ) → f (get_or ws k 0) (get_or ys k 0) < 2 ^ 64) → Words w (zipped f ws ys)
  words-zipped f ys at =
      words-each w (zipped f ws ys) (length-zipped f ws ys ∙ h.long) (λ k l. rw (get_or-zipped f ws ys k (omega (arith, h.long))) (at k))

  pub words_meet : (ys : List ℕ) → Words w (meet ws ys)
  words_meet ys = words-zipped bit_and ys (λ k. omega (arith, h.fits k, and_le_l (get_or ws k 0) (get_or ys k 0)))

  pub words_join : (ys : List ℕ) → ((k : ℕ) → get_or ys k 0 < 2 ^ 64) → Words w (join ws ys)
  words_join ys q = words-zipped bit_or ys (λ k. or_lt 64 _ _ (h.fits k) (q k))

  pub words_difference : (ys : List ℕ) → Words w (difference ws ys)
  words_difference ys =
      words-zipped (λ x y. bit_and x (ones - y)) ys (λ k. omega (arith, h.fits k, and_le_l (get_or ws k 0) (ones - get_or ys k 0)))

pub words-replicate : (w v : ℕ) → v < 2 ^ 64 → Words w (replicate w v)
words-replicate w v h = words-each w (replicate w v) (length-replicate w v) (λ k l. rw (get_or-replicate w k v 0 l) h)

-- ---- equal sets
pub same_refl : (xs : List ℕ) → same xs xs ≡ true
unfolding same
same_refl [] = refl
same_refl (x ∷ xs) = rw (eq-eqb x x refl) (same_refl xs)

pub same-yes : (xs ys : List ℕ) → same xs ys ≡ true → xs ≡ ys
unfolding same
same-yes [] [] e = refl
same-yes [] (y ∷ ys) e = absurd (false≢true e)
same-yes (x ∷ xs) [] e = absurd (false≢true e)
same-yes (x ∷ xs) (y ∷ ys) e = go (eqb x y) refl e (λ q. same-yes xs ys q)
  where
    go : (t : Bool) → eqb x y ≡ t → (t && same xs ys) ≡ true → (same xs ys ≡ true → xs ≡ ys) → x ∷ xs ≡ y ∷ ys
    go true q e below = ap₂ ◌∷◌ (eqb-true x y q) (below e)
    go false q e below = absurd (false≢true e)

module _ {w : ℕ} {xs ys : List ℕ} (hx : Words w xs) (hy : Words w ys) where
  -- the rows are equal exactly if all their bits are
  pub same_exact : (xs ≡ ys) ↔ ((i : ℕ) → i < 64 * w → member xs i ≡ member ys i)
  unfolding member
  same_exact = (
    λ e i l. ap (λ (l : List ℕ). member l i) e,
    λ h. ext_get_or 0 xs ys (hx.long ∙ sym hy.long)
        (λ k l. bits-tell 64 (get_or xs k 0) (get_or ys k 0) (hx.fits k) (hy.fits k) (λ j lj. at h k j (omega (arith, hx.long)) lj)),
  )
    where
      at : ((i : ℕ) → i < 64 * w → member xs i ≡ member ys i) → (k j : ℕ) → k < w → j < 64 → bit (get_or xs k 0) j ≡ bit (get_or ys k 0) j
      at h k j lk lj =
          let q : (64 * k + j) / 64 ≡ k = omega arith in
          let r : (64 * k + j) % 64 ≡ j = omega arith in
          rw (q, r) at (h (64 * k + j) (omega arith))

  pub same_members : (same xs ys ≡ true) ↔ ((i : ℕ) → i < 64 * w → member xs i ≡ member ys i)
  same_members = (λ e. same_exact.0 (same-yes xs ys e), λ h. rw (same_exact.1 h) (same_refl ys))

-- ---- a set within another
pub within-member : (xs ys : List ℕ) → within xs ys ≡ true → (i : ℕ) → member xs i ≡ true → member ys i ≡ true
within-member xs ys e i h =
    go (member xs i) (member ys i) h (sym (member-meet xs ys i) ∙ ap (λ (l : List ℕ). member l i) (same-yes (meet xs ys) xs e))
  where
    go : (x y : Bool) → x ≡ true → (x && y) ≡ x → y ≡ true
    go true y h q = q
    go false y h q = absurd (false≢true h)

-- ---- zeros joined with a row are the row, and ones met with it
module _ {w : ℕ} {ws : List ℕ} (h : Words w ws) where
  pub join_zeros : join (replicate w 0) ws ≡ ws
  join_zeros =
      let z : Words w (replicate w 0) = words-replicate w 0 (lit< tt) in
      (same_exact (words_join z ws h.fits) h).1
      (λ i l. member-join (replicate w 0) ws i (omega (arith, length-replicate {A = ℕ} w 0))
      ∙ ap (λ (t : Bool). t || member ws i) (member-zero w i))

  pub meet_ones : meet (replicate w ones) ws ≡ ws
  meet_ones =
      (same_exact (words_meet (words-replicate w ones (lit< tt)) ws) h).1
      (λ i l. member-meet (replicate w ones) ws i ∙ ap (λ (t : Bool). t && member ws i) (member-ones w i (omega arith)))

-- ---- a common member
-- the word that has one
word-common : (xs ys : List ℕ) → common xs ys ≡ true → (k : ℕ) × (k < length xs) × (bit_and (get_or xs k 0) (get_or ys k 0) ≡ 0 → ⊥)
unfolding common
word-common [] ys e = absurd (false≢true e)
word-common (x ∷ xs) [] e = absurd (false≢true e)
word-common (x ∷ xs) (y ∷ ys) e = go (ℕ_discrete (bit_and x y) 0) (λ q. word-common xs ys q)
  where
    go : Dec (bit_and x y ≡ 0) → (common xs ys ≡ true → (k : ℕ) × (k < length xs) × (bit_and (get_or xs k 0) (get_or ys k 0) ≡ 0 → ⊥))
        → (k : ℕ) × (k < length (x ∷ xs)) × (bit_and (get_or (x ∷ xs) k 0) (get_or (y ∷ ys) k 0) ≡ 0 → ⊥)
    go (no ne) below = (0, omega arith, ne)
    go (yes z) below =
        let r = below (ap (λ (t : Bool). not t || common xs ys) (sym (eq-eqb (bit_and x y) 0 z)) ∙ e) in
        (suc r.0, omega (arith, r.1), r.2)

-- a word that has one tells it
common-word : (xs ys : List ℕ) (k : ℕ) → k < length xs → k < length ys → (bit_and (get_or xs k 0) (get_or ys k 0) ≡ 0 → ⊥) → common xs ys ≡ true
unfolding common
common-word [] ys k h g ne = absurd (omega arith)
common-word (x ∷ xs) [] k h g ne = absurd (omega arith)
common-word (x ∷ xs) (y ∷ ys) zero h g ne = ap (λ (t : Bool). not t || common xs ys) (ne_eqb (bit_and x y) 0 ne)
common-word (x ∷ xs) (y ∷ ys) (suc k) h g ne =
    ap (λ (t : Bool). not (eqb (bit_and x y) 0) || t) (common-word xs ys k (omega arith) (omega arith) ne) ∙ or-true (not (eqb (bit_and x y) 0))

-- among the first n bits of a number one is set, or none is
a_bit : (x n : ℕ) → ((j : ℕ) × (j < n) × (bit x j ≡ true)) ⊎ ((j : ℕ) → j < n → bit x j ≡ false)
a_bit x zero = inr (λ j l. absurd (omega arith))
a_bit x (suc n) = go (bit x n) refl (a_bit x n)
  where
    go : (t : Bool) → bit x n ≡ t → ((j : ℕ) × (j < n) × (bit x j ≡ true)) ⊎ ((j : ℕ) → j < n → bit x j ≡ false)
        → ((j : ℕ) × (j < suc n) × (bit x j ≡ true)) ⊎ ((j : ℕ) → j < suc n → bit x j ≡ false)
    go true e below = inl (n, omega arith, e)
    go false e (inl r) = inl (r.0, omega (arith, r.1), r.2)
    go false e (inr none) = inr (λ j l. at j l (ℕ_discrete j n))
      where
        at : (j : ℕ) → j < suc n → Dec (j ≡ n) → bit x j ≡ false
        at j l (yes q) = ap (bit x) q ∙ e
        at j l (no q) = none j (omega arith)

-- a word that is not 0 has a bit
some-bit : (x : ℕ) → x < 2 ^ 64 → (x ≡ 0 → ⊥) → (j : ℕ) × (j < 64) × (bit x j ≡ true)
some-bit x h ne = go (a_bit x 64)
  where
    go : ((j : ℕ) × (j < 64) × (bit x j ≡ true)) ⊎ ((j : ℕ) → j < 64 → bit x j ≡ false) → (j : ℕ) × (j < 64) × (bit x j ≡ true)
    go (inl r) = r
    go (inr none) = absurd (ne (bits-tell 64 x 0 h (lit< tt) (λ j l. none j l ∙ sym (bit-zero j))))

module _ {w : ℕ} {xs ys : List ℕ} (hx : Words w xs) (hy : Words w ys) where
  -- sets with a slot in common have one
  pub common_member : common xs ys ≡ true → (i : ℕ) × (i < 64 * w) × (member xs i ≡ true) × (member ys i ≡ true)
  unfolding member
  common_member e =
      let r = word-common xs ys e in
      let k : ℕ = r.0 in
      let x : ℕ = get_or xs k 0 in
      let y : ℕ = get_or ys k 0 in
      let b = some-bit (bit_and x y) (omega (arith, hx.fits k, and_le_l x y)) r.2 in
      let j : ℕ = b.0 in
      let p : (bit x j ≡ true) × (bit y j ≡ true) = (and-eq-true_iff (bit x j) (bit y j)).0 (sym (bit-and x y j) ∙ b.2) in
      let q : (64 * k + j) / 64 ≡ k = omega (arith, b.1) in
      let m : (64 * k + j) % 64 ≡ j = omega (arith, b.1) in
      (64 * k + j, omega (arith, b.1, r.1, hx.long), rw (q, m) p.0, rw (q, m) p.1)

  -- and sets that have one have a slot in common
  pub member_common : (i : ℕ) → i < 64 * w → member xs i ≡ true → member ys i ≡ true → common xs ys ≡ true
  unfolding member
  member_common i l p q =
      let k : ℕ = i / 64 in
      let x : ℕ = get_or xs k 0 in
      let y : ℕ = get_or ys k 0 in
      common-word xs ys k (omega (arith, hx.long)) (omega (arith, hy.long))
      (λ z. false≢true (sym (bit-zero (i % 64)) ∙ ap (λ (t : ℕ). bit t (i % 64)) (sym z) ∙ bit-and x y (i % 64) ∙ ap₂ ◌&&◌ p q))
