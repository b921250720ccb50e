-- `solver::ring::offer` meets its contract: a block that has no mark joins the ring. Assumes nothing.
use Rattle.std.proofs.Common.{◌∙◌}
use Rattle.solver.proofs.RingLaws.{offer_new}
use Rattle.solver.proofs.ring.offer.Goals as goal

pub returns : goal.returns
returns g c =
    λ t. c.push.ensures t
    ∙ offer_new g.R.Run.layout c.args.block _ c.get.ensures.is c.if-get-eq0.false c.get-2.ensures.is c.if-get-ne0.false
