-- `leaders::leaders::mark` meets its contract. Assumes nothing.
use Rattle.std.proofs.Common.{lt-ltb, le-ltb}
use Rattle.leaders.specs.Leaders.{mark_next}
use Rattle.leaders.proofs.MarkLaws.{targets_all}
use Rattle.leaders.proofs.leaders.mark.Goals as goal

pub returns-then-pc-layout : goal.returns-then-pc-layout
unfolding mark_next
returns-then-pc-layout g c =
    let all = targets_all c.in-None.ensures.steps.0 c.loop-target.invariant.marks in
    rw (← c.ends_block.ensures, c.if-ends_block.true, lt-ltb _ _ (rw c.layout.ensures.is at c.if-pc-layout.true), ← all) c.put-then-pc-layout.ensures.stored

pub returns-else-pc-layout : goal.returns-else-pc-layout
unfolding mark_next
returns-else-pc-layout g c =
    let all = targets_all c.in-None.ensures.steps.0 c.loop-target.invariant.marks in
    rw (← c.ends_block.ensures, c.if-ends_block.true, le-ltb _ _ (rw c.layout.ensures.is at c.if-pc-layout.false)) all
