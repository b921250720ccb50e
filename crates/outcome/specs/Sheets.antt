-- Sheets written record by record, as document 01 lays them out: for cases.
use Rattle.std.specs.Prelude.{List, [], ◌∷◌, ◌++◌, ℕ, ◌+◌, ◌/◌, ◌%◌, length}
use Rattle.outcome.specs.Buffers.{joined}

-- a number as two and as four bytes, little-endian
abbrev pub u16 : ℕ → List ℕ
u16 n = n % 256 ∷ n / 256 % 256 ∷ []

abbrev pub u32 : ℕ → List ℕ
u32 n = n % 256 ∷ n / 256 % 256 ∷ n / 65536 % 256 ∷ n / 16777216 % 256 ∷ []

-- a record: length, kind, body
abbrev pub record_of : ℕ → List ℕ → List ℕ
record_of kind body = u16 (length body + 2) ++ (u16 kind ++ body)

-- an instruction, as kind and fields
pub record Line : Type 0 where
  pub kind : ℕ
  pub fields : List ℕ

-- a function: its id, parameters, the physical byte of each slot (types absent), and its code
abbrev pub sheet_of : ℕ → List ℕ → List ℕ → List Line → List ℕ
sheet_of id parameters slots code =
    record_of 256 (u32 id ++ (u32 (length slots) ++ u32 (length code)))
    ++ (record_of 257 (joined u32 parameters)
    ++ (joined (λ physical. record_of 258 (physical ∷ 0 ∷ [])) slots ++ joined (λ i. record_of i.kind (joined u32 i.fields)) code))
