-- Laws of spending: in two parts; a total within the limit is never stopped; a total above it is stopped at the first sum above it.
use mathlib.Core.Path.{◌≡◌, refl, sym, ◌∙◌, ap}
use mathlib.Core.Bool.{Bool, true, false, true≢false}
use mathlib.Core.List.{List, [], ◌∷◌, ◌++◌}
use Prim.Native.Nat.{ℕ, ◌+◌, ◌-◌, ◌^◌, ◌≤◌, ◌<◌}
use native.Mathlib.Omega.{arith}
use native.Mathlib.Decide.{dec_le}
use lib.Dec.{leb, leb→le, le→leb}
use Rattle.dataflow.specs.Lists.{pick, sum}
use Rattle.dataflow.specs.Charges.{Spent, within, crossed, saturating_sum, spend, and_then}
use Rattle.dataflow.proofs.Bools.{test-true, true-test, not-true}

-- a list in two parts: the second is spent if the first was met
pub spend-append : (limit w : ℕ) (l m : List ℕ) → spend limit w (l ++ m) ≡ and_then (spend limit w l) (λ v. spend limit v m)
spend-append limit w [] m = refl
spend-append limit w (c ∷ l) m = go (leb (saturating_sum w c) limit) (spend-append limit (saturating_sum w c) l m)
  where
    go : (t : Bool) → spend limit (saturating_sum w c) (l ++ m) ≡ and_then (spend limit (saturating_sum w c) l) (λ v. spend limit v m)
        → pick t (spend limit (saturating_sum w c) (l ++ m)) (crossed (saturating_sum w c))
        ≡ and_then (pick t (spend limit (saturating_sum w c) l) (crossed (saturating_sum w c))) (λ v. spend limit v m)
    go true e = e
    go false e = refl

-- a sum that 64 bits hold does not saturate
pub sum-exact : (a b : ℕ) → a + b ≤ 2 ^ 64 - 1 → saturating_sum a b ≡ a + b
sum-exact a b h = omega arith

-- a total within the limit is never stopped
pub spend-within : (limit w : ℕ) (l : List ℕ) → limit ≤ 2 ^ 64 - 1 → w + sum l ≤ limit → spend limit w l ≡ within (w + sum l)
spend-within limit w [] big h = ap within (omega arith)
spend-within limit w (c ∷ l) big h = rw (sum-exact w c (omega arith), test-true (leb (w + c) limit) (le→leb (w + c) limit (omega arith)))
    (spend-within limit (w + c) l big (omega arith) ∙ ap within (omega arith))

-- and one above it is stopped, at a sum above the limit that is no more than the total
pub spend-crossed : (limit w : ℕ) (l : List ℕ) → limit < 2 ^ 64 - 1 → w ≤ limit → limit < w + sum l
    → (x : ℕ) × (spend limit w l ≡ crossed x) × (limit < x) × (x ≤ w + sum l)
spend-crossed limit w [] big le h = absurd (omega arith)
spend-crossed limit w (c ∷ l) big le h = go (dec_le (w + c) limit) (λ z. spend-crossed limit (w + c) l big z (omega arith))
  where
    go : Dec (w + c ≤ limit) → (w + c ≤ limit → (x : ℕ) × (spend limit (w + c) l ≡ crossed x) × (limit < x) × (x ≤ w + c + sum l))
        → (x : ℕ) × (spend limit w (c ∷ l) ≡ crossed x) × (limit < x) × (x ≤ w + (c + sum l))
    go (yes z) below =
        let y = below z in
        (y.0, rw (sum-exact w c (omega arith), test-true (leb (w + c) limit) (le→leb (w + c) limit z)) y.1, y.2, omega (arith, y.3))
    go (no z) below = (
      saturating_sum w c,
      rw (not-true (leb (saturating_sum w c) limit) (λ e. over (leb→le (saturating_sum w c) limit (true-test _ e)))) refl,
      omega arith,
      omega arith,
    )
      where
        over : saturating_sum w c ≤ limit → ⊥
        over q = omega arith

-- a lower limit that is not crossed leaves the same sum as a higher one
pub spend-limit : (limit higher w v : ℕ) (l : List ℕ) → limit ≤ higher → spend limit w l ≡ within v → spend higher w l ≡ within v
spend-limit limit higher w v [] le e = e
spend-limit limit higher w v (c ∷ l) le e = go (leb (saturating_sum w c) limit) refl e (λ e'. spend-limit limit higher (saturating_sum w c) v l le e')
  where
    go : (t : Bool) → leb (saturating_sum w c) limit ≡ t → pick t (spend limit (saturating_sum w c) l) (crossed (saturating_sum w c)) ≡ within v
        → (spend limit (saturating_sum w c) l ≡ within v → spend higher (saturating_sum w c) l ≡ within v) → spend higher w (c ∷ l) ≡ within v
    go true q e below =
        rw (test-true (leb (saturating_sum w c) higher)
        (le→leb (saturating_sum w c) higher (omega (arith, leb→le (saturating_sum w c) limit (true-test _ q))))) (below e)
    go false q e below = absurd (not-both e)
      where
        is_within : Spent → Bool
        is_within (within x) = true
        is_within (crossed x) = false

        not-both : crossed (saturating_sum w c) ≡ within v → ⊥
        not-both e = true≢false (sym (ap is_within e))

-- work handed in above the limit is stopped by the first charge, whatever it is: also by a charge of 0
pub spend-above : (limit w c : ℕ) (l : List ℕ) → limit < w → w ≤ 2 ^ 64 - 1 → spend limit w (c ∷ l) ≡ crossed (saturating_sum w c)
spend-above limit w c l above big = rw (not-true (leb (saturating_sum w c) limit) (λ e. over (leb→le (saturating_sum w c) limit (true-test _ e)))) refl
  where
    over : saturating_sum w c ≤ limit → ⊥
    over q = omega arith
