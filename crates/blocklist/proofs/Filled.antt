-- A list while it is filled: its first i elements, and the rest as it was. Assumes nothing.
use mathlib.Core.Path.{◌≡◌, refl, sym, ap, ◌∙◌}
use mathlib.Core.List.{List, [], ◌∷◌}
use Prim.Native.Nat.{ℕ, zero, suc, ◌+◌, ◌<◌}
use native.Mathlib.Nat.{add-suc, suc-add, zero-add, add-zero}
use native.Mathlib.Numerals.{add-one}
use native.Mathlib.Omega.{arith}
use lib.ListN.{length, set}
use Rattle.dataflow.specs.Lists.{tabulate}

module _ {A : Type 0} where
  -- ys with its first i replaced by f j, f (j + 1), ..
  unfoldable pub from : (ℕ → A) → ℕ → List A → ℕ → List A
  from f j ys zero = ys
  from f j [] (suc i) = []
  from f j (y ∷ ys) (suc i) = f j ∷ from f (suc j) ys i

  unfoldable pub filled : (ℕ → A) → List A → ℕ → List A
  filled f ys i = from f 0 ys i

module _ {A : Type 0} (f : ℕ → A) where
  length_from : (j : ℕ) (ys : List A) (i : ℕ) → length (from f j ys i) ≡ length ys
  unfolding from
  length_from j ys zero = refl
  length_from j [] (suc i) = refl
  length_from j (y ∷ ys) (suc i) = ap suc (length_from (suc j) ys i)

  step : (j : ℕ) (ys : List A) (i : ℕ) → i < length ys → set (from f j ys i) i (f (j + i)) ≡ from f j ys (suc i)
  unfolding from
  step j [] i h = absurd (omega arith)
  step j (y ∷ ys) zero h = ap (λ (n : ℕ). f n ∷ ys) (add-zero j)
  step j (y ∷ ys) (suc i) h =
      ap (λ (n : ℕ). f j ∷ set (from f (suc j) ys i) i (f n)) (add-suc j i ∙ sym (suc-add j i))
      ∙ ap (λ (l : List A). f j ∷ l) (step (suc j) ys i (omega arith))

  all : (j : ℕ) (ys : List A) → from f j ys (length ys) ≡ tabulate j (length ys) f
  unfolding from
  all j [] = refl
  all j (y ∷ ys) = ap (λ (l : List A). f j ∷ l) (all (suc j) ys)

  module _ (ys : List A) where
    pub filled_none : filled f ys 0 ≡ ys
    unfolding filled from
    filled_none = refl

    pub length_filled : (i : ℕ) → length (filled f ys i) ≡ length ys
    unfolding filled
    length_filled i = length_from 0 ys i

    pub filled_step : (i : ℕ) → i < length ys → set (filled f ys i) i (f i) ≡ filled f ys (i + 1)
    unfolding filled
    filled_step i h =
        ap (λ (n : ℕ). set (from f 0 ys i) i (f n)) (sym (zero-add i)) ∙ step 0 ys i h
        ∙ ap (λ (n : ℕ). from f 0 ys n) (sym (add-one i))

    pub filled_all : (i : ℕ) → i ≡ length ys → filled f ys i ≡ tabulate 0 (length ys) f
    unfolding filled
    filled_all i e = ap (λ (n : ℕ). from f 0 ys n) e ∙ all 0 ys
