-- `transfer::compute::meet_rest` meets its contract: the predecessors behind an edge one by one. Assumes nothing.
use Rattle.transfer.proofs.TransferLaws.{meeting_more, meeting_all}
use Rattle.transfer.proofs.compute.meet_rest.Goals as goal

pub loop-preserved : goal.loop-preserved
loop-preserved g c =
    meeting_more c.loop.invariant c.loop-test.true c.next_edge-edge.ensures c.source.ensures c.meet_one.ensures

pub returns : goal.returns
returns g c = meeting_all c.loop.invariant c.loop-test.false
