use Rattle.std.proofs.Common.{arith}
use Rattle.bitset.proofs.LoopLaws.{tells_within, compared_more, compared_all}
use Rattle.bitset.proofs.within.Goals as goal

pub loop-k-init : goal.loop-k-init
loop-k-init c = tells_within.none

pub loop-k-preserved : goal.loop-k-preserved
loop-k-preserved c = compared_more tells_within c.args.a.now c.args.b.now c.requires c.loop-k.k c.loop-k.lacking (omega arith) c.loop-k.invariant

pub returns : goal.returns
returns c = compared_all tells_within c.args.a.now c.args.b.now c.requires c.loop-k.k c.loop-k.lacking (omega arith) c.loop-k.invariant
