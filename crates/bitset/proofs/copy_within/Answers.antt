-- `bitset::copy_within` meets its contract: after k turns the first k words of the row are those of the other. Assumes nothing.
use Rattle.std.proofs.Common.{arith}
use Rattle.bitset.proofs.LoopLaws.{made_row, stored_none, stored-within, stored_all}
use Rattle.bitset.proofs.copy_within.Goals as goal

pub loop-k-init : goal.loop-k-init
loop-k-init c = stored_none (made_row c.requires.0 c.requires.1)

pub loop-k-preserved : goal.loop-k-preserved
loop-k-preserved c =
    stored-within (made_row c.requires.0 c.requires.1) c.requires.2 c.loop-k.invariant (omega arith)

pub returns : goal.returns
returns c = stored_all (made_row c.requires.0 c.requires.1) c.loop-k.invariant (omega arith)
