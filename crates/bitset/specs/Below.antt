-- Numbers below a bound: slots of a row, blocks of a graph, instructions of a script.
use Rattle.std.specs.Prelude.{List, [], ◌∷◌, ℕ, ◌<◌}
use Rattle.std.specs.Coded.{×_prop, Unit-prop, le_prop}

-- each number of a list is below a bound
abbrev pub AllBelow : ℕ → List ℕ → Type 0
AllBelow n [] = Unit {0}
AllBelow n (x ∷ xs) = (x < n) × AllBelow n xs

-- it has one proof at most, so that a struct may hold it
pub AllBelow-prop : (n : ℕ) (xs : List ℕ) → IsProp (AllBelow n xs)
AllBelow-prop n [] = Unit-prop
AllBelow-prop n (x ∷ xs) = ×_prop le_prop (AllBelow-prop n xs)
