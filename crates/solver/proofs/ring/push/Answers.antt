-- `solver::ring::push` meets its contract: the place behind the last is a place. Assumes nothing.
use Rattle.std.proofs.Common.{arith}
use Rattle.solver.proofs.RingLaws.{wrap-lt}
use Rattle.solver.proofs.ring.push.Goals as goal

pub put-requires-2 : goal.put-requires-2
put-requires-2 g c = rw (c.wrapped-at.ensures, c.layout.ensures.is) (wrap-lt g.R.Run.layout _ (omega arith))
