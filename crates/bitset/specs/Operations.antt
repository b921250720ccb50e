-- Sets of slots changed and compared: one slot put in or taken out, and whole sets word by word.
use Rattle.std.specs.Prelude.{Bool, true, false, not, ◌&&◌, ◌||◌, List, [], ◌∷◌, ℕ, ◌-◌, ◌/◌, ◌%◌, ◌^◌, eqb, get_or, set}
use Rattle.std.specs.Int.Bits.{bit_and, bit_or}
use Rattle.bitset.specs.Sets.{ones}

-- the set with slot i put in: `insert` of flow.rs
unfoldable pub inserted : List ℕ → ℕ → List ℕ
inserted ws i = set ws (i / 64) (bit_or (get_or ws (i / 64) 0) (2 ^ (i % 64)))

-- the set with slot i taken out
unfoldable pub removed : List ℕ → ℕ → List ℕ
removed ws i = set ws (i / 64) (bit_and (get_or ws (i / 64) 0) (ones - 2 ^ (i % 64)))

-- f of the two words at each place, as many as the first list has; what the second lacks counts as 0
unfoldable pub zipped : (ℕ → ℕ → ℕ) → List ℕ → List ℕ → List ℕ
zipped f [] ys = []
zipped f (x ∷ xs) [] = f x 0 ∷ zipped f xs []
zipped f (x ∷ xs) (y ∷ ys) = f x y ∷ zipped f xs ys

-- what is in both sets
abbrev pub meet : List ℕ → List ℕ → List ℕ
meet = zipped bit_and

-- what is in one of the sets
abbrev pub join : List ℕ → List ℕ → List ℕ
join = zipped bit_or

-- what is in the first set and not in the second
abbrev pub difference : List ℕ → List ℕ → List ℕ
difference = zipped (λ x y. bit_and x (ones - y))

-- whether two sets have the same words
unfoldable pub same : List ℕ → List ℕ → Bool
same [] [] = true
same [] (y ∷ ys) = false
same (x ∷ xs) [] = false
same (x ∷ xs) (y ∷ ys) = eqb x y && same xs ys

-- whether two sets have a slot in common
unfoldable pub common : List ℕ → List ℕ → Bool
common [] ys = false
common (x ∷ xs) [] = false
common (x ∷ xs) (y ∷ ys) = not (eqb (bit_and x y) 0) || common xs ys

-- whether each slot of the first set is in the second
abbrev pub within : List ℕ → List ℕ → Bool
within xs ys = same (meet xs ys) xs
