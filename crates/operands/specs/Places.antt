-- Where operands stand among the fields of a record, and the values that stand there.
use Rattle.std.specs.Prelude.{List, [], ◌∷◌, ◌++◌, ℕ, eqb, get_or, drop}
use Rattle.operands.specs.Choice.{pick}

-- document 01: what a ? field holds where the operand is absent or a constant
abbrev pub absent : ℕ
absent = 4294967295

-- one field, one field that may be absent, or all fields from a place on
pub data Place : Type 0 where
  one : ℕ → Place
  optional : ℕ → Place
  rest : ℕ → Place

-- a value in front of the others, unless it is absent
abbrev pub present : ℕ → List ℕ → List ℕ
present x xs = pick (eqb x absent) xs (x ∷ xs)

-- the values that stand at these places among the field values v, in order, absent ones left out
unfoldable pub gathered : List Place → List ℕ → List ℕ
gathered [] v = []
gathered (one j ∷ ps) v = get_or v j absent ∷ gathered ps v
gathered (optional j ∷ ps) v = present (get_or v j absent) (gathered ps v)
gathered (rest j ∷ ps) v = drop j v ++ gathered ps v
