use Rattle.std.proofs.Common.{◌≡◌, ◌+◌, get_or, arith}
use Rattle.format.specs.Heads.{end_at}
use Rattle.load.proofs.WordCounts.{bit-made}
use Rattle.load.proofs.CountLaws.{weighed_none, weighed_lies, weighed_more, weighed_all}
use Rattle.load.proofs.weights.weight_word.Goals as goal

pub loop-k-init : goal.loop-k-init
loop-k-init c = weighed_none

pub bounds-s-next : goal.bounds-s-next
bounds-s-next c =
    let w = weighed_lies c.loop-k.invariant c.requires.0 c.loop-k-test.true in omega (arith, w.some_body, w.within)

pub u16_at-requires : goal.u16_at-requires
u16_at-requires c =
    let w = weighed_lies c.loop-k.invariant c.requires.0 c.loop-k-test.true in omega (arith, w.some_body, w.within)

pub loop-k-preserved : goal.loop-k-preserved
loop-k-preserved c =
    let l = c.loop-k in
    let next : l.next + (2 + c.u16_at.result) ≡ end_at c.args.s.now l.next = omega (arith, c.u16_at.ensures) in
    weighed_more l.invariant next (bit-made (get_or c.args.s.now (l.next + 4) 0) c.from.result l.k (omega arith) c.from.ensures)

pub returns : goal.returns
returns c = weighed_all c.loop-k.invariant (omega arith)
