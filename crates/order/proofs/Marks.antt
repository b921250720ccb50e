-- Words as truth values: how many are marks, and what a store does to them. Assumes nothing.
use mathlib.Core.Path.{◌≡◌, refl, ap}
use mathlib.Core.List.{List, [], ◌∷◌, map}
use Prim.Native.Nat.{ℕ, zero, suc, ◌≤◌, ◌<◌}
use native.Mathlib.Omega.{arith}
use lib.ListN.{length, get_or, set, replicate, length-set}
use Rattle.edges.specs.Edges.{marked}
use Rattle.edges.proofs.EdgeLaws.{flag-few}
use Rattle.order.specs.Turns.{marks}

-- at most as many marks as words
pub marks-fit : (l : List ℕ) → marks l ≤ length l
unfolding marks
marks-fit [] = omega arith
marks-fit (x ∷ l) = omega (arith, flag-few (marked x), marks-fit l)

-- a mark where there was none is one more
pub marks-set : (l : List ℕ) (i : ℕ) → i < length l → get_or l i 0 ≡ 0 → marks (set l i 1) ≡ suc (marks l)
unfolding marks
marks-set [] i lt e = absurd (omega arith)
marks-set (x ∷ l) zero lt e = rw e (omega arith)
marks-set (x ∷ l) (suc i) lt e = omega (arith, marks-set l i (omega arith) e)

-- so where a mark is missing there are fewer marks than words
pub marks-miss : (l : List ℕ) (i : ℕ) → i < length l → get_or l i 0 ≡ 0 → marks l < length l
marks-miss l i lt e = omega (arith, marks-set l i lt e, marks-fit (set l i 1), length-set l i 1)

pub marks-none : (n : ℕ) → marks (replicate n 0) ≡ 0
unfolding marks
marks-none zero = refl
marks-none (suc n) = omega (arith, marks-none n)

module _ {A B : Type 0} (f : A → B) where
  pub map_replicate : (n : ℕ) (a : A) → map f (replicate n a) ≡ replicate n (f a)
  map_replicate zero a = refl
  map_replicate (suc n) a = ap (λ (z : List B). f a ∷ z) (map_replicate n a)
