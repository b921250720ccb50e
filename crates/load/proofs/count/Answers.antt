use Rattle.std.proofs.Common.{arith}
use Rattle.load.proofs.CountLaws.{counted_none, counted_stand, counted_more, counted_all}
use Rattle.load.proofs.count.Goals as goal

pub loop-j-init : goal.loop-j-init
loop-j-init c = counted_none

pub weight_word-word-requires : goal.weight_word-word-requires
weight_word-word-requires c = (counted_stand c.loop-j.invariant c.min-n.result c.requires.0 (omega (arith, c.min-n.ensures)), omega (arith, c.min-n.ensures))

pub loop-j-preserved : goal.loop-j-preserved
loop-j-preserved c =
    counted_more c.loop-j.invariant c.min-n.result c.loop-j-test.true c.requires.1 c.min-n.ensures c.weight_word-word.ensures c.count_word-total.ensures

pub returns : goal.returns
returns c = counted_all c.loop-j.invariant (omega arith) c.requires.1
