-- Where a record stands and what kind it has. Document 01: a record is a two-byte length (bytes after it, at least 2), a two-byte kind, then
-- the body.
use Rattle.std.specs.Prelude.{Bool, ◌||◌, List, ℕ, ◌+◌, ◌*◌, ◌-◌, ◌/◌, ltb, length, get_or}
use Rattle.operands.specs.Bytes.{numbers_at}

-- the number of two bytes at an offset, the low one first
abbrev pub u16_at : List ℕ → ℕ → ℕ
u16_at s at = get_or s at 0 + 256 * get_or s (at + 1) 0

-- the kind of the record at an offset
abbrev pub kind_at : List ℕ → ℕ → ℕ
kind_at s at = u16_at s (at + 2)

-- where it ends
abbrev pub end_at : List ℕ → ℕ → ℕ
end_at s at = at + 2 + u16_at s at

-- how many bytes its body has
abbrev pub body_length : List ℕ → ℕ → ℕ
body_length s at = end_at s at - (at + 4)

-- the fields of its body, each a u32
unfoldable pub fields_at : List ℕ → ℕ → List ℕ
fields_at s at = numbers_at s (at + 4) (body_length s at / 4)

-- 1, short sheet: fewer bytes left than the record needs, or length below 2
unfoldable pub short : List ℕ → ℕ → Bool
short s at = ltb (length s) (at + 4) || (ltb (u16_at s at) 2 || ltb (length s) (end_at s at))
