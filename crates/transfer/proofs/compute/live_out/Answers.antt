-- `transfer::compute::live_out` meets its contract: the row begins as the first one, then the others are joined. Assumes nothing.
use Rattle.transfer.specs.declared.direction.Direction.TheVariants.{Liveness}
use Rattle.transfer.specs.Transfer.{entry_of}
use Rattle.transfer.proofs.TransferLaws.{gathers_none, joins}
use Rattle.transfer.proofs.compute.live_out.Goals as goal

pub returns-then-n-eq0 : goal.returns-then-n-eq0
unfolding entry_of
returns-then-n-eq0 g c =
    let a = c.args in
    gathers_none Liveness g.R.Run.layout a.s.now a.t.now a.block c.get-n.ensures.is c.if-n-eq0.true c.fill.ensures

pub returns : goal.returns
returns g c =
    let a = c.args in
    joins g.R.Run.layout a.s.now a.t.now a.block c.if-n-eq0.false c.get-n.ensures.is _ c.load.ensures.stored
    (rw c.successor-to.ensures at c.row.ensures.is) c.load.ensures.fits c.join_rest.ensures
