-- `flow_c::number` meets its contract. Assumes nothing.
use Rattle.std.proofs.Common.{arith}
use Rattle.flow_c.proofs.HostLaws.{number_small}
use Rattle.flow_c.proofs.number.Goals as goal

pub overflow_cast-result : goal.overflow_cast-result
overflow_cast-result c = record { fits = omega (arith, c.number.ensures, number_small c.args.why) }
