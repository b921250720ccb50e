-- A choice by a test, lists of numbers, and tests over lists.
use Rattle.std.specs.Prelude.{Bool, true, false, ◌&&◌, ◌||◌, ℕ, zero, suc, ◌+◌, eqb}
use mathlib.Core.List.{List, [], ◌∷◌, Memᴰ}

abbrev pub pick : {A : Type 0} → Bool → A → A → A
pick true a b = a
pick false a b = b

-- a mark as a number
abbrev pub flag : Bool → ℕ
flag true = 1
flag false = 0

-- f k, f (k + 1), .., n of them
abbrev pub tabulate : {A : Type 0} → ℕ → ℕ → (ℕ → A) → List A
tabulate k zero f = []
tabulate k (suc n) f = f k ∷ tabulate (suc k) n f

-- k, k + 1, .., n of them
abbrev pub range : ℕ → ℕ → List ℕ
range k n = tabulate k n (λ i. i)

abbrev pub sum : List ℕ → ℕ
sum [] = 0
sum (x ∷ l) = x + sum l

module _ {A : Type 0} where
  abbrev pub every : (A → Bool) → List A → Bool
  every f [] = true
  every f (a ∷ l) = f a && every f l

  abbrev pub some : (A → Bool) → List A → Bool
  some f [] = false
  some f (a ∷ l) = f a || some f l

  abbrev pub keep : (A → Bool) → List A → List A
  keep f [] = []
  keep f (a ∷ l) = pick (f a) (a ∷ keep f l) (keep f l)

abbrev pub elem : ℕ → List ℕ → Bool
elem x l = some (λ y. eqb x y) l

-- no number stands twice
abbrev pub NoDup : List ℕ → Type 0
NoDup [] = Unit {0}
NoDup (x ∷ l) = (¬ (Memᴰ x l)) × NoDup l
