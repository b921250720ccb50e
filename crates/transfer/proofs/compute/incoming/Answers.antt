-- `transfer::compute::incoming` meets its contract: the row begins with the first predecessor, then the others are met. Assumes nothing.
use Rattle.transfer.specs.declared.direction.Direction.TheVariants.{Initialization}
use Rattle.transfer.proofs.TransferLaws.{gathers_none, first_behind}
use Rattle.transfer.proofs.compute.incoming.Goals as goal

pub returns-then-n-eq0 : goal.returns-then-n-eq0
returns-then-n-eq0 g c =
    let a = c.args in
    gathers_none Initialization g.R.Run.layout a.s.now a.t.now a.block c.get-n.ensures.is c.if-n-eq0.true c.begin_initialized.ensures

pub meet_rest-requires : goal.meet_rest-requires
meet_rest-requires g c =
    let a = c.args in
    first_behind g.R.Run.layout a.s.now a.t.now a.block c.if-n-eq0.false c.get-n.ensures.is c.get-first.ensures.is
    (rw c.source.ensures at c.begin_met.ensures) c.requires.1 c.requires.0
