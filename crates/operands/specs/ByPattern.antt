-- The operands of an instruction, by document 01's field patterns: how the code reads them.
use Rattle.std.specs.Prelude.{List, [], ◌∷◌, ◌++◌, ℕ, zero, suc, ◌+◌, eqb}
use Rattle.operands.specs.Choice.{pick}
use Rattle.operands.specs.Places.{Place, one, optional, rest}
use Rattle.operands.specs.Patterns.{D, S, Sopt, Dopt, T, role_at, fixed_at, list_at}
use Rattle.operands.specs.Operands.{Roles}

-- a single field as an operand of the class whose role is a, or b where it may be absent
abbrev pub single_place : ℕ → ℕ → ℕ → ℕ → List Place
single_place a b role j = pick (eqb role a) (one j ∷ []) (pick (eqb role b) (optional j ∷ []) [])

-- those among n fields of kind k, from field j on
unfoldable pub places_from : ℕ → ℕ → ℕ → ℕ → ℕ → List Place
places_from a b k j zero = []
places_from a b k j (suc n) = single_place a b (role_at k j) j ++ places_from a b k (j + 1) n

-- the single operands of a class: no pattern has more than four single fields
abbrev pub singles : ℕ → ℕ → ℕ → List Place
singles a b k = places_from a b k 0 4

-- L, which begins after the single fields
unfoldable pub list_place : ℕ → List Place
list_place k = pick (list_at k) (rest (fixed_at k) ∷ []) []

-- the operands of kind k, by its pattern; the inputs of L come before the single ones
unfoldable pub by_pattern : ℕ → Roles
by_pattern k = record { inputs = list_place k ++ singles S Sopt k; output = singles D Dopt k; targets = singles T T k }
