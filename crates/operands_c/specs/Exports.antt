-- The answers of the exported functions, for any kind and any bytes.
use Rattle.std.specs.Prelude.{◌≡◌, Bool, true, false, ◌&&◌, List, ℕ, ◌/◌, ◌%◌, eqb, leb, length, Option, Some, None, MatchOption}
use Rattle.operands.specs.Choice.{pick}
use Rattle.operands.specs.Kinds.{kind_number}
use Rattle.operands.specs.Patterns.{fits}
use Rattle.operands.specs.Operands.{inputs_of, output_of, targets_of}
use Rattle.operands.specs.Bytes.{numbers_at}
use Rattle.operands.specs.Instructions.{values_of, nth, value_of}
use Rattle.operands.specs.declared.instruction.Instruction.{Instruction}

-- the answer where there is none: a number that no slot, target or count is
abbrev pub nothing : ℕ
nothing = 18446744073709551615

-- a kind of the table, and whole fields that fit its pattern
unfoldable pub well_formed : ℕ → List ℕ → Bool
well_formed kind body = leb 1 kind && (leb kind 41 && (eqb (length body % 4) 0 && fits kind (length body / 4)))

-- the values of the fields
abbrev pub values : List ℕ → List ℕ
values body = numbers_at body 0 (length body / 4)

-- the instruction of this kind whose fields are all of the bytes
abbrev pub Parses : ℕ → List ℕ → Option Instruction → Type 0
Parses kind body r =
    MatchOption r (well_formed kind body ≡ false)
    (λ i. (well_formed kind body ≡ true) × (kind_number i.kind ≡ kind) × (values_of i ≡ values body))

abbrev pub number_of : Option ℕ → ℕ
number_of (Some x) = x
number_of None = nothing

-- how many slots the instruction reads, its k-th input, its output, how many targets it names, and the k-th
unfoldable pub input_count : ℕ → List ℕ → ℕ
input_count kind body = pick (well_formed kind body) (length (inputs_of kind (values body))) nothing

unfoldable pub input : ℕ → List ℕ → ℕ → ℕ
input kind body k = pick (well_formed kind body) (number_of (nth (inputs_of kind (values body)) k)) nothing

unfoldable pub output : ℕ → List ℕ → ℕ
output kind body = pick (well_formed kind body) (number_of (value_of (output_of kind (values body)))) nothing

unfoldable pub target_count : ℕ → List ℕ → ℕ
target_count kind body = pick (well_formed kind body) (length (targets_of kind (values body))) nothing

unfoldable pub target : ℕ → List ℕ → ℕ → ℕ
target kind body k = pick (well_formed kind body) (number_of (nth (targets_of kind (values body)) k)) nothing
