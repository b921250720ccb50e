-- `transfer::compute::begin_met` meets its contract: the parameters at block 0, then a predecessor. Assumes nothing.
use Rattle.transfer.specs.declared.direction.Direction.TheVariants.{Initialization}
use Rattle.transfer.proofs.TransferLaws.{gathers_one}
use Rattle.transfer.proofs.compute.begin_met.Goals as goal

pub returns : goal.returns
returns g c =
    let a = c.args in
    gathers_one Initialization g.R.Run.layout a.s.now a.t.now a.from _ c.begin_initialized.ensures c.meet_one.ensures
