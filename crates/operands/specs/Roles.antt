-- The roles of a field in the code, by the numbers that the patterns give them.
use Rattle.std.specs.Prelude.{List, [], ◌∷◌, ℕ}
use Rattle.operands.specs.Patterns.{role_at}
use Rattle.operands.specs.declared.pattern.Role.{Role}
use Rattle.operands.specs.declared.pattern.Role.TheVariants.{Nothing, Output, Input, OptionalInput, OptionalOutput, Target, Module, Rest}

abbrev pub role_number : Role → ℕ
role_number Nothing = 0
role_number Output = 1
role_number Input = 2
role_number OptionalInput = 3
role_number OptionalOutput = 4
role_number Target = 5
role_number Module = 6
role_number Rest = 7

-- the roles of the first four fields of a record of the kind with this number
abbrev pub roles_at : ℕ → List ℕ
roles_at k = role_at k 0 ∷ role_at k 1 ∷ role_at k 2 ∷ role_at k 3 ∷ []
