use Rattle.std.proofs.Common.{arith}
use Rattle.operands.specs.Roles.{role_number}
use Rattle.format.proofs.FitLaws.{below_bound, absent_fits}
use Rattle.format.proofs.fields.field_fits.Goals as goal

pub returns-then-x-bound : goal.returns-then-x-bound
returns-then-x-bound c =
    let a = c.args in
    λ _. below_bound a.counts.slots a.counts.instructions (role_number a.role) a.x (omega arith)

pub returns-in-OptionalInput : goal.returns-in-OptionalInput
returns-in-OptionalInput c =
    let a = c.args in
    λ _. absent_fits a.counts.slots a.counts.instructions (role_number a.role) a.x (grind arith) (omega arith)
