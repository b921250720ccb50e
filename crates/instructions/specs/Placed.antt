-- An instruction where its record stands.
use Rattle.std.specs.Prelude.{◌≡◌, false, List, ℕ, ◌≤◌, map}
use Rattle.operands.specs.Bytes.{number_in}
use Rattle.operands.specs.Kinds.{kind_number}
use Rattle.format.specs.Heads.{short, kind_at, end_at, fields_at}
use Rattle.instructions.specs.declared.placed.Placed.{Placed}

-- an instruction record stands at an offset
pub record Stands (s : List ℕ) (at : ℕ) : Type 0 where
  pub whole : short s at ≡ false
  pub low : 1 ≤ kind_at s at
  pub high : kind_at s at ≤ 41

-- what the code holds is its instruction: the kind, the values of the fields, and where the next record begins
pub record IsPlaced (s : List ℕ) (at : ℕ) (p : Placed) : Type 0 where
  pub kind_is : kind_number p.kind ≡ kind_at s at
  pub values_are : map number_in p.fields.now ≡ fields_at s at
  pub next_is : p.next ≡ end_at s at
