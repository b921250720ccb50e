-- `solver::seed::queue` meets its contract: the ring is filled word by word. Assumes nothing.
use Rattle.std.proofs.Common.{arith}
use Rattle.solver.proofs.SeedLaws.{seeding_more, seeding_all}
use Rattle.solver.proofs.seed.queue.Goals as goal

pub loop-i-preserved : goal.loop-i-preserved
loop-i-preserved g c =
    let a = c.args in
    let read = c.get-block.ensures in
    seeding_more g.R.Run.layout a.d a.n _ c.requires c.loop-i-test.true c.loop-i.invariant read.whole c.place-from.ensures read.is
    c.put.ensures.stored

pub returns : goal.returns
returns g c =
    let a = c.args in
    seeding_all g.R.Run.layout a.d a.n _ c.requires (omega arith) c.loop-i.invariant
