-- The kinds and the numbers 1 to 41 are one to one. Assumes nothing.
use mathlib.Core.Path.{◌≡◌, subst}
use mathlib.Core.Bool.{Bool}
use Prim.Native.Nat.{ℕ, ◌≤◌}
use native.Mathlib.Omega.{arith}
use lib.Dec.{T, eqb, eqb→eq}
use Rattle.operands.specs.Kinds.{kind_number, kinds, kind_of}
use Rattle.operands.specs.declared.kind.Kind.{Kind}
use Rattle.operands.proofs.Table.{every, at_kind}

pub kind_low : (k : Kind) → 1 ≤ kind_number k
kind_low k = grind arith

pub kind_high : (k : Kind) → kind_number k ≤ 41
kind_high k = grind arith

pub kind_back : (k : Kind) → kind_of (kind_number k) ≡ k
unfolding kinds
kind_back k = grind arith

pub number_back : (n : ℕ) → 1 ≤ n → n ≤ 41 → kind_number (kind_of n) ≡ n
unfolding kinds
number_back n l h = eqb→eq _ _ (at_kind (λ n. eqb (kind_number (kind_of n)) n) tt n l h)

-- a test at each kind
pub at_each : (f : Kind → Bool) → T (every (λ n. f (kind_of n)) 1 41) → (k : Kind) → T (f k)
at_each f t k =
    subst (λ (x : Kind). T (f x)) (kind_back k) (at_kind (λ n. f (kind_of n)) t (kind_number k) (kind_low k) (kind_high k))
