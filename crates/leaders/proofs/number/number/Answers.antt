-- `leaders::number::number` meets its contract. Assumes nothing.
use Rattle.leaders.proofs.NumberLaws.{going_more}
use Rattle.leaders.proofs.number.number.Goals as goal

pub loop-i-preserved : goal.loop-i-preserved
loop-i-preserved g c =
    let e = c.number_one-blocks.ensures in
    going_more c.loop-i.invariant (rw c.layout-i-end.ensures.is at c.loop-i-test.true) e.0 e.1
