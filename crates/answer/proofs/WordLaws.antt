-- A set of slots as words: its words fit, and their bits tell the set. Assumes nothing.
use mathlib.Core.Path.{◌≡◌, refl, sym, ap, ◌∙◌}
use mathlib.Core.Bool.{Bool, true, false}
use mathlib.Core.List.{List}
use Prim.Native.Nat.{ℕ, zero, suc, ◌+◌, ◌*◌, ◌/◌, ◌%◌, ◌^◌, ◌<◌}
use native.Mathlib.Nat.{pow-suc}
use native.Mathlib.Omega.{arith}
use lib.Dec.{eqb}
use lib.ListN.{length, get_or}
use Rattle.bitset.specs.Sets.{digit, member, Words}
use Rattle.bitset.proofs.Digits.{bit, digit-next}
use Rattle.bitset.proofs.SetLaws.{same_exact, words-each}
use Rattle.answer.specs.Words.{one, number_of, words_from, words_of, Means}

-- ---- a truth value as a digit

-- it is below 2
one_below : (b : Bool) → one b < 2
one_below true = omega arith
one_below false = omega arith

-- and tells the value
one-is : (b : Bool) → eqb (one b) 1 ≡ b
one-is true = refl
one-is false = refl

-- ---- a number of bits

-- the last digit of a number
digit-first : (b m : ℕ) → b < 2 → digit (b + 2 * m) 0 ≡ b
unfolding digit
digit-first b m h = omega arith

-- the digits before it are those of half of the number
digit-later : (b m j : ℕ) → b < 2 → digit (b + 2 * m) (suc j) ≡ digit m j
digit-later b m j h = digit-next (b + 2 * m) j ∙ ap (λ (x : ℕ). digit x j) (omega arith)

module _ (f : ℕ → Bool) where
  -- a number of n bits is below 2 ^ n
  pub number_below : (k n : ℕ) → number_of f k n < 2 ^ n
  unfolding number_of
  number_below k zero = omega arith
  number_below k (suc n) = omega (arith, number_below (suc k) n, pow-suc 2 n, one_below (f k))

  -- and its bits are those of the set, from slot k on
  pub number_bit : (k n j : ℕ) → j < n → bit (number_of f k n) j ≡ f (k + j)
  unfolding number_of
  number_bit k zero j lt = absurd (omega arith)
  number_bit k (suc n) zero lt =
      ap (λ (x : ℕ). eqb x 1) (digit-first (one (f k)) (number_of f (suc k) n) (one_below (f k))) ∙ one-is (f k)
      ∙ ap f (let e : k ≡ k + 0 = omega arith in e)
  number_bit k (suc n) (suc j) lt =
      ap (λ (x : ℕ). eqb x 1) (digit-later (one (f k)) (number_of f (suc k) n) j (one_below (f k)))
      ∙ number_bit (suc k) n j (omega arith) ∙ ap f (let e : suc k + j ≡ k + suc j = omega arith in e)

  -- ---- the words of a set

  -- there are w of them
  words_long : (k w : ℕ) → length (words_from f k w) ≡ w
  unfolding words_from
  words_long k zero = refl
  words_long k (suc w) = ap suc (words_long (suc k) w)

  -- word j
  words-at : (k w j : ℕ) → j < w → get_or (words_from f k w) j 0 ≡ number_of f (64 * (k + j)) 64
  unfolding words_from
  words-at k zero j lt = absurd (omega arith)
  words-at k (suc w) zero lt = ap (λ (x : ℕ). number_of f (64 * x) 64) (let e : k ≡ k + 0 = omega arith in e)
  words-at k (suc w) (suc j) lt =
      words-at (suc k) w j (omega arith) ∙ ap (λ (x : ℕ). number_of f (64 * x) 64) (let e : suc k + j ≡ k + suc j = omega arith in e)

  -- each fits 64 bits
  pub words_of_lem : (w : ℕ) → Words w (words_of w f)
  words_of_lem w = words-each w (words_of w f) (words_long 0 w) (λ k lt. rw (words-at 0 w k lt) (number_below (64 * (0 + k)) 64))

  -- they stand for the set
  pub words_of_means : (w : ℕ) → Means w (words_of w f) f
  unfolding member
  words_of_means w i lt =
      ap (λ (x : ℕ). bit x (i % 64)) (words-at 0 w (i / 64) (omega arith)) ∙ number_bit (64 * (0 + i / 64)) 64 (i % 64) (omega arith)
      ∙ ap f (let e : 64 * (0 + i / 64) + i % 64 ≡ i = omega arith in e)

-- words that stand for a set are its words
pub means-words : {w : ℕ} {ws : List ℕ} {f : ℕ → Bool} → Words w ws → Means w ws f → ws ≡ words_of w f
means-words {w} {ws} {f} h e = (same_exact h (words_of_lem f w)).1 (λ i lt. e i lt ∙ sym (words_of_means f w i lt))
