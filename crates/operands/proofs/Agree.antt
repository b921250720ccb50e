-- The operand table of demand 2: by the source and by the pattern an instruction has the same operands, at each of the 41 kinds and for any
-- field values. Assumes nothing.
use mathlib.Core.Path.{◌≡◌, refl, ap, sym, ◌∙◌}
use mathlib.Core.List.{List, [], ◌∷◌}
use Prim.Native.Nat.{ℕ, zero, suc, ◌+◌, ◌-◌, ◌≤◌, ◌<◌}
use native.Mathlib.Omega.{arith}
use lib.ListN.{get_or}
use Rattle.operands.specs.Places.{gathered}
use Rattle.operands.specs.Variants.{Variant, Unreachable, slot_inputs, slot_output, jump_targets, variants}
use Rattle.operands.specs.Patterns.{groups, pattern_in, pattern_of, role_in, role_at, fixed_at, list_at}
use Rattle.operands.specs.Operands.{Roles, roles_of, by_source, inputs_of, output_of, targets_of, first_of}
use Rattle.operands.specs.ByPattern.{by_pattern, list_place, places_from}

-- the operands of n kinds by their patterns, from kind k on
unfoldable patterned : ℕ → ℕ → List Roles
patterned k zero = []
patterned k (suc n) = by_pattern k ∷ patterned (k + 1) n

unfoldable sourced : List Variant → List Roles
sourced [] = []
sourced (v ∷ vs) = roles_of v ∷ sourced vs

-- the computed test: all 41 kinds at once
table : patterned 1 41 ≡ sourced variants
unfolding patterned sourced variants slot_inputs slot_output jump_targets by_pattern pattern_of pattern_in groups role_in role_at fixed_at list_at list_place places_from
table = refl

patterned-at : (i n k : ℕ) (d : Roles) → k < n → get_or (patterned i n) k d ≡ by_pattern (i + k)
unfolding patterned
patterned-at i zero k d h = absurd (omega arith)
patterned-at i (suc n) zero d h = ap by_pattern (omega arith)
patterned-at i (suc n) (suc k) d h = patterned-at (i + 1) n k d (omega arith) ∙ ap by_pattern (omega arith)

sourced-at : (vs : List Variant) (k : ℕ) (d : Variant) → get_or (sourced vs) k (roles_of d) ≡ roles_of (get_or vs k d)
unfolding sourced
sourced-at [] zero d = refl
sourced-at [] (suc k) d = refl
sourced-at (v ∷ vs) zero d = refl
sourced-at (v ∷ vs) (suc k) d = sourced-at vs k d

pub agree : (k : ℕ) → 1 ≤ k → k ≤ 41 → by_source k ≡ by_pattern k
unfolding by_source
agree k l h =
    sym (sourced-at variants (k - 1) Unreachable)
    ∙ ap (λ (t : List Roles). get_or t (k - 1) (roles_of Unreachable)) (sym table)
    ∙ patterned-at 1 41 (k - 1) (roles_of Unreachable) (omega arith)
    ∙ ap by_pattern (omega arith)

-- for any field values, however many L holds
pub inputs-agree : (k : ℕ) (v : List ℕ) → 1 ≤ k → k ≤ 41 → inputs_of k v ≡ gathered (by_pattern k).inputs v
unfolding inputs_of
inputs-agree k v l h = ap (λ (r : Roles). gathered r.inputs v) (agree k l h)

pub output-agree : (k : ℕ) (v : List ℕ) → 1 ≤ k → k ≤ 41 → output_of k v ≡ first_of (gathered (by_pattern k).output v)
unfolding output_of
output-agree k v l h = ap (λ (r : Roles). first_of (gathered r.output v)) (agree k l h)

pub targets-agree : (k : ℕ) (v : List ℕ) → 1 ≤ k → k ≤ 41 → targets_of k v ≡ gathered (by_pattern k).targets v
unfolding targets_of
targets-agree k v l h = ap (λ (r : Roles). gathered r.targets v) (agree k l h)
