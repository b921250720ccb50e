-- `Sheet::check` meets its contract: what passed is sound. Assumes nothing.
use Rattle.instructions.proofs.Sound.{sound-checked}
use Rattle.instructions.proofs.checked.Sheet.check.Goals as goal

pub invariant_of-result : goal.invariant_of-result
invariant_of-result c = record { sound = sound-checked _ _ _ c.check.ensures c.in_ok-script.was }
