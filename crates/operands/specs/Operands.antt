-- The operands of an instruction, by the source's operand functions. `Agree.agree` proves that document 01's field patterns give the same at all 41
-- kinds: the operand table of demand 2.
use Rattle.std.specs.Prelude.{List, [], ◌∷◌, ℕ, ◌-◌, get_or}
use Rattle.std.proofs.Math.Option.{Option, none, some}
use Rattle.operands.specs.Places.{Place, gathered}
use Rattle.operands.specs.Variants.{Variant, Unreachable, slot_inputs, slot_output, jump_targets, variants}

-- where a kind's inputs, output and targets stand
pub record Roles : Type 0 where
  pub inputs : List Place
  pub output : List Place
  pub targets : List Place

-- the operands of a variant, by the source
abbrev pub roles_of : Variant → Roles
roles_of v = record { inputs = slot_inputs v; output = slot_output v; targets = jump_targets v }

-- the operands of kind k, by the source
unfoldable pub by_source : ℕ → Roles
by_source k = roles_of (get_or variants (k - 1) Unreachable)

abbrev pub first_of : List ℕ → Option ℕ
first_of [] = none
first_of (x ∷ xs) = some x

-- the slots that an instruction of kind k with the field values v reads, in order, repeats kept
unfoldable pub inputs_of : ℕ → List ℕ → List ℕ
inputs_of k v = gathered (by_source k).inputs v

-- the slot that it writes
unfoldable pub output_of : ℕ → List ℕ → Option ℕ
output_of k v = first_of (gathered (by_source k).output v)

-- the instructions that it names as targets, in order, repeats kept
unfoldable pub targets_of : ℕ → List ℕ → List ℕ
targets_of k v = gathered (by_source k).targets v
