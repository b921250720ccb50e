-- `bitset::replace_within` meets its contract: after k turns the first k words of the row are those of the result. Assumes nothing.
use Rattle.std.proofs.Common.{arith}
use Rattle.bitset.proofs.LoopLaws.{made_replaced, stored_none, stored_replaced, stored_all}
use Rattle.bitset.proofs.replace_within.Goals as goal

pub loop-k-init : goal.loop-k-init
loop-k-init c =
    let a = c.args in
    stored_none (made_replaced a.words.now a.d a.i a.j a.w c.requires.0)

pub loop-k-preserved : goal.loop-k-preserved
loop-k-preserved c =
    let l = c.loop-k in
    let a = c.args in
    let p = c.requires in
    stored_replaced a.words.now a.d a.i a.j a.w p.0 p.3 p.4 l.invariant (omega arith)

pub returns : goal.returns
returns c =
    let p = c.requires in
    let l = c.loop-k in
    let a = c.args in
    stored_all (made_replaced a.words.now a.d a.i a.j a.w p.0) l.invariant (omega arith)
