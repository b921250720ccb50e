-- The order of points.
use mathlib.Core.List.{List, [], ◌∷◌, Memᴰ, map}
use Rattle.std.specs.Prelude.{ℕ, ◌<◌}
use Rattle.verdict.specs.Points.{Point}

-- each number is below all later ones
abbrev pub Ascending : List ℕ → Type 0
Ascending [] = Unit {0}
Ascending (x ∷ l) = ((y : ℕ) → Memᴰ y l → x < y) × Ascending l

abbrev pub instructions_of : List Point → List ℕ
instructions_of = map (λ (pt : Point). pt.instruction)
