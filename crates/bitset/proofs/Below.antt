-- Numbers below a bound. Assumes nothing.
use mathlib.Core.Path.{◌≡◌}
use mathlib.Core.List.Memᴰ
use mathlib.Core.List.{List, [], ◌∷◌, ◌++◌, Memᴰ}
use mathlib.Core.Logic.{◌⊎◌, inl, inr}
use Prim.Native.Nat.{ℕ, zero, suc, ◌≤◌, ◌<◌}
use native.Mathlib.Omega.{arith}
use lib.ListN.{length, get_or}
use Rattle.bitset.specs.Below.{AllBelow}

-- each place of such a list, and each member
pub below-get_or : (n : ℕ) (l : List ℕ) (k d : ℕ) → AllBelow n l → k < length l → get_or l k d < n
below-get_or n [] k d a h = absurd (omega arith)
below-get_or n (x ∷ l) zero d a h = a.0
below-get_or n (x ∷ l) (suc k) d a h = below-get_or n l k d a.1 (omega arith)

pub below-mem : (n x : ℕ) (l : List ℕ) → AllBelow n l → Memᴰ x l → x < n
below-mem n x [] a m = absurd (Memᴰ.not-nil m)
below-mem n x (y ∷ l) a m = go (Memᴰ.cases_cons m) (below-mem n x l a.1)
  where
    go : (x ≡ y) ⊎ Memᴰ x l → (Memᴰ x l → x < n) → x < n
    go (inl e) f = omega (arith, a.0)
    go (inr q) f = f q

-- a list of which each place is
pub below_all : (n : ℕ) (l : List ℕ) (d : ℕ) → ((i : ℕ) → i < length l → get_or l i d < n) → AllBelow n l
below_all n [] d f = tt
below_all n (x ∷ l) d f = (f 0 (omega arith), below_all n l d (λ i h. f (suc i) (omega arith)))

-- a higher bound, and two lists
pub below_up : (n m : ℕ) (l : List ℕ) → n ≤ m → AllBelow n l → AllBelow m l
below_up n m [] h a = tt
below_up n m (x ∷ l) h a = let b = a.0 in (omega arith, below_up n m l h a.1)

pub below-append : (n : ℕ) (l m : List ℕ) → AllBelow n l → AllBelow n m → AllBelow n (l ++ m)
below-append n [] m a b = b
below-append n (x ∷ l) m a b = (a.0, below-append n l m a.1 b)
