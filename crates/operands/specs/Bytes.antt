-- Numbers in the bytes of a sheet, little-endian.
use Rattle.std.specs.Prelude.{List, [], ◌∷◌, ℕ, zero, suc, ◌+◌, ◌*◌, get_or}

-- the number of four bytes
abbrev pub number_in : List ℕ → ℕ
number_in b = get_or b 0 0 + 256 * get_or b 1 0 + 65536 * get_or b 2 0 + 16777216 * get_or b 3 0

-- the number of four bytes at an offset
abbrev pub u32_at : List ℕ → ℕ → ℕ
u32_at s at = get_or s at 0 + 256 * get_or s (at + 1) 0 + 65536 * get_or s (at + 2) 0 + 16777216 * get_or s (at + 3) 0

-- n numbers of four bytes, one after the other
unfoldable pub numbers_at : List ℕ → ℕ → ℕ → List ℕ
numbers_at s at zero = []
numbers_at s at (suc n) = u32_at s at ∷ numbers_at s (at + 4) n
