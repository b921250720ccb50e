-- `added::check` meets its contract. Assumes nothing.
use Rattle.added.proofs.check.Goals as goal

pub test-requires : goal.test-requires
test-requires c = let z = c.in_ok-checked.checked.sheet.sound in (z.few_code, z.few_slots)
