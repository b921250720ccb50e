-- `bitset::join_within` meets its contract: after k turns the first k words of the row are those of the join. Assumes nothing.
use Rattle.std.proofs.Common.{arith}
use Rattle.bitset.proofs.LoopLaws.{made-zipped, stored_none, stored-within, stored_all}
use Rattle.bitset.proofs.join_within.Goals as goal

pub loop-k-init : goal.loop-k-init
loop-k-init c = stored_none (made-zipped c.requires.0)

pub loop-k-preserved : goal.loop-k-preserved
loop-k-preserved c =
    stored-within (made-zipped c.requires.0) c.requires.2 c.loop-k.invariant (omega arith)

pub returns : goal.returns
returns c = stored_all (made-zipped c.requires.0) c.loop-k.invariant (omega arith)
