-- What a step leaves alone. Cells with a name are told apart by a test that computes, rows by their numbers.
use Rattle.std.specs.Prelude.{◌≡◌, Bool, true, false, not, List, ℕ, ◌≤◌, ◌<◌, ltb}
use Rattle.dataflow.specs.Lists.{pick, elem}
use Rattle.memory.specs.Cells.{Mem, cell}
use Rattle.memory.specs.Names.{first_row, uses_row, defines_row}

-- cell k has a name, and is none of these
abbrev pub spared : List ℕ → ℕ → Bool
spared cs k = pick (ltb k first_row) (not (elem k cs)) false

-- no more changed than the named cells `cs` and the rows that `rows` tells
pub record Only (cs : List ℕ) (rows : ℕ → Type 0) (m m' : Mem) : Type 0 where
  pub named : (k : ℕ) → spared cs k ≡ true → cell m' k ≡ cell m k
  pub others : (k : ℕ) → first_row ≤ k → (rows k → ⊥) → cell m' k ≡ cell m k

-- no row; one row; the two rows of block b; those of the blocks before n
abbrev pub NoRow : ℕ → Type 0
NoRow k = ⊥

abbrev pub ThisRow : ℕ → ℕ → Type 0
ThisRow r k = k ≡ r

abbrev pub RowsOf : ℕ → ℕ → Type 0
RowsOf b k = (uses_row b ≤ k) × (k ≤ defines_row b)

abbrev pub RowsBefore : ℕ → ℕ → Type 0
RowsBefore n k = k < uses_row n
