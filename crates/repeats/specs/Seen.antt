-- How the code looks for repeats: by a set of the numbers before.
use Rattle.std.specs.Prelude.{Bool, false, ◌||◌, List, [], ◌∷◌, ℕ}
use Rattle.bitset.specs.Sets.{member}
use Rattle.bitset.specs.Operations.{inserted}

-- whether one of the numbers is in a set of those seen before, or stands twice
unfoldable pub twice_seen : List ℕ → List ℕ → Bool
twice_seen seen [] = false
twice_seen seen (x ∷ xs) = member seen x || twice_seen (inserted seen x) xs
