use Rattle.std.proofs.Common.{arith, length-take-le}
use Rattle.listing.proofs.TextLaws.{writes_none, writes_byte, writes_whole}
use Rattle.listing.proofs.text.LentText.word.Goals as goal

pub loop-byte-init : goal.loop-byte-init
loop-byte-init c = writes_none c.args.self.now

pub byte-requires : goal.byte-requires
byte-requires c =
    omega (arith, c.loop-byte.invariant.puts.next, length-take-le c.loop-byte.byte-index c.args.word.now (omega arith))

pub loop-byte-preserved : goal.loop-byte-preserved
loop-byte-preserved c =
    writes_byte c.args.word.now c.loop-byte.byte-index (omega arith) (cc) c.loop-byte.invariant c.byte.ensures

pub returns-clause-writes : goal.returns-clause-writes
returns-clause-writes c =
    writes_whole c.args.word.now c.loop-byte.byte-index (omega arith) c.loop-byte.invariant
