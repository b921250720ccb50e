-- Sums of tables, and sums that saturate. Assumes nothing.
use mathlib.Core.Path.{◌≡◌, refl, sym, ap, ap₂, ◌∙◌}
use mathlib.Core.Bool.{Bool, true, false}
use mathlib.Core.List.{List, [], ◌∷◌, ◌++◌, map}
use Prim.Native.Nat.{ℕ, zero, suc, ◌+◌, ◌^◌, ◌<◌}
use native.Mathlib.Omega.{arith}
use Rattle.dataflow.specs.Lists.{pick, range, tabulate, keep, sum}
use Rattle.dataflow.proofs.Lists.{tabulate_append}
use Rattle.load.specs.Load.{saturated}

-- ---- tables of numbers
-- two lists of numbers, one behind the other
pub sum-append : (xs ys : List ℕ) → sum (xs ++ ys) ≡ sum xs + sum ys
sum-append [] ys = omega arith
sum-append (x ∷ xs) ys = omega (arith, sum-append xs ys)

-- a table in two parts
pub sum-parts : (k m n : ℕ) (f : ℕ → ℕ) → sum (tabulate k (m + n) f) ≡ sum (tabulate k m f) + sum (tabulate (k + m) n f)
sum-parts k m n f = ap sum (tabulate_append k m n f) ∙ sum-append (tabulate k m f) (tabulate (k + m) n f)

-- one number more
pub sum_more : (n : ℕ) (f : ℕ → ℕ) → sum (tabulate 0 (n + 1) f) ≡ sum (tabulate 0 n f) + f n
sum_more n f =
    let z : 0 + n ≡ n = omega arith in
    sum-parts 0 n 1 f ∙ ap (λ (i : ℕ). sum (tabulate 0 n f) + (f i + 0)) z ∙ omega arith

-- tables with the same entries, wherever they begin
pub sum_same : (k m n : ℕ) (f g : ℕ → ℕ) → ((i : ℕ) → i < n → f (k + i) ≡ g (m + i)) → sum (tabulate k n f) ≡ sum (tabulate m n g)
sum_same k m zero f g h = refl
sum_same k m (suc n) f g h =
    let ek : k + 0 ≡ k = omega arith in
    let em : m + 0 ≡ m = omega arith in
    ap₂ ◌+◌ (sym (ap f ek) ∙ h 0 (omega arith) ∙ ap g em)
    (sum_same (suc k) (suc m) n f g (λ i l. ap f (omega arith) ∙ h (suc i) (omega arith) ∙ ap g (omega arith)))

-- the sum of sums
pub sum_both : (k n : ℕ) (f g : ℕ → ℕ) → sum (tabulate k n (λ i. f i + g i)) ≡ sum (tabulate k n f) + sum (tabulate k n g)
sum_both k zero f g = omega arith
sum_both k (suc n) f g = omega (arith, sum_both (suc k) n f g)

-- what is kept of a range, each with its number: each number of the range, with 0 for what is not kept
pub kept-sum : (set : ℕ → Bool) (weight : ℕ → ℕ) (k n : ℕ)
    → sum (map weight (keep set (range k n))) ≡ sum (tabulate k n (λ i. pick (set i) (weight i) 0))
kept-sum set weight k zero = refl
kept-sum set weight k (suc n) = go (set k) (kept-sum set weight (suc k) n)
  where
    go : (t : Bool) → sum (map weight (keep set (range (suc k) n))) ≡ sum (tabulate (suc k) n (λ i. pick (set i) (weight i) 0))
        → sum (map weight (pick t (k ∷ keep set (range (suc k) n)) (keep set (range (suc k) n))))
        ≡ pick t (weight k) 0 + sum (tabulate (suc k) n (λ i. pick (set i) (weight i) 0))
    go true e = ap (λ (x : ℕ). weight k + x) e
    go false e = omega arith

-- ---- sums that saturate
-- what is added to a saturated sum
pub saturated-more : (a b : ℕ) → saturated (saturated a + b) ≡ saturated (a + b)
saturated-more a b = omega arith

-- a number of 64 bits
pub saturated-fits : (a : ℕ) → a < 2 ^ 64 → a ≡ saturated (a + 0)
saturated-fits a h = omega arith
