use Rattle.std.proofs.Common.{arith}
use Rattle.bitset.proofs.LoopLaws.{tells_same, compared_more, compared_all}
use Rattle.bitset.proofs.same.Goals as goal

pub loop-k-init : goal.loop-k-init
loop-k-init c = tells_same.none

pub loop-k-preserved : goal.loop-k-preserved
loop-k-preserved c = compared_more tells_same c.args.a.now c.args.b.now c.requires c.loop-k.k c.loop-k.differ (omega arith) c.loop-k.invariant

pub returns : goal.returns
returns c = compared_all tells_same c.args.a.now c.args.b.now c.requires c.loop-k.k c.loop-k.differ (omega arith) c.loop-k.invariant
