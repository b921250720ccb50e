-- `transfer::compute::join_rest` meets its contract: the successors from the second on one by one. Assumes nothing.
use Rattle.transfer.proofs.TransferLaws.{joining_none, joining_more, joining_all}
use Rattle.transfer.proofs.compute.join_rest.Goals as goal

pub loop-k-init : goal.loop-k-init
loop-k-init g c = joining_none c.requires.1 c.requires.2 c.requires.0

pub loop-k-preserved : goal.loop-k-preserved
loop-k-preserved g c =
    let p = c.requires in
    joining_more c.loop-k.invariant c.loop-k-test.true p.1 p.2 p.0 c.successor-to.ensures c.join_set.ensures

pub returns : goal.returns
returns g c = joining_all c.loop-k.invariant c.loop-k-test.false
