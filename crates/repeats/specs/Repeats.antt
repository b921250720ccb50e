-- A number that stands twice in a list. Request 2: "Store tools that list a parameter slot twice have always meant two slots. From now on a repeat is
-- turned away".
use Rattle.std.specs.Prelude.{Bool, false, ◌||◌, List, [], ◌∷◌, ℕ}
use Rattle.operands.specs.Patterns.{among}

-- whether some number of a list stands in it again further on
unfoldable pub any_twice : List ℕ → Bool
any_twice [] = false
any_twice (x ∷ xs) = among x xs || any_twice xs
