-- A row of a slice: w words from a base on; and the slice with other words there.
use Rattle.std.specs.Prelude.{List, ◌++◌, ◌⊎◌, ℕ, ◌+◌, ◌≤◌, length, take, drop}

-- the w words from base on
unfoldable pub row : List ℕ → ℕ → ℕ → List ℕ
row l base w = take w (drop base l)

-- l with the words of ys from base on
unfoldable pub patched : List ℕ → ℕ → List ℕ → List ℕ
patched l base ys = take base l ++ (ys ++ drop (base + length ys) l)

-- the rows of w words at d and at s have no word in common
abbrev pub Apart : ℕ → ℕ → ℕ → Type 0
Apart d s w = (d + w ≤ s) ⊎ (s + w ≤ d)
