-- The fields of a record: what of the refusal table is due for one of them.
use Rattle.std.specs.Prelude.{Bool, false, ◌||◌, ◌&&◌, not, List, [], ◌∷◌, ℕ, ◌+◌, eqb, leb}
use Rattle.operands.specs.Places.{absent}
use Rattle.operands.specs.Patterns.{D, S, Sopt, Dopt, T, M, L, role_at}

-- a field that may hold `absent`: S? and D?
abbrev pub optional : ℕ → Bool
optional role = eqb role Sopt || eqb role Dopt

-- a field that names a slot: S?, D?, D, S and L
abbrev pub names_slot : ℕ → Bool
names_slot role = optional role || ((eqb role D || eqb role S) || eqb role L)

-- 3: M is at most 65,535
unfoldable pub bad_module : ℕ → ℕ → Bool
bad_module role x = eqb role M && not (leb x 65535)

-- 7, no such slot: slot at or above the slot count, unless it is absent where that may be
unfoldable pub no_slot : ℕ → ℕ → ℕ → Bool
no_slot slots role x = names_slot role && (leb slots x && not (optional role && eqb x absent))

-- 8, no such target: target at or above N
unfoldable pub no_target : ℕ → ℕ → ℕ → Bool
no_target n role x = eqb role T && leb n x

-- whether a test of role and value holds at a field of an instruction of kind k, from field j on
unfoldable pub any_field : (ℕ → ℕ → Bool) → ℕ → ℕ → List ℕ → Bool
any_field f k j [] = false
any_field f k j (x ∷ xs) = f (role_at k j) x || any_field f k (j + 1) xs

-- whether one of the numbers is at or above a bound
unfoldable pub any_above : ℕ → List ℕ → Bool
any_above n [] = false
any_above n (x ∷ xs) = leb n x || any_above n xs
