-- `awaits::charge_back` meets its contract: what the charges have come to at pc. Assumes nothing.
use Rattle.std.proofs.Common.{◌-◌, arith}
use Rattle.std.proofs.lemmas.Result.{err_from_is_err_and}
use Rattle.awaits.proofs.ChargeLaws.{back_more, back_over}
use Rattle.awaits.proofs.charge_back.Goals as goal

pub returns-in_err-left : goal.returns-in_err-left
returns-in_err-left g c =
    let a = c.args in
    let l = c.loop-pc in
    let p = err_from_is_err_and c.from_residual.result c.from_residual.ensures.1 in
    rw (p.1, p.2) (back_over a.s.now g.R.Run.limits a.meter a.start a.end a.place l.pc l.left l.invariant.charged (l.pc - 1) (omega arith) (omega arith)
    c.get.ensures.is (omega arith) c.in_err-left.ensures)

pub loop-pc-preserved : goal.loop-pc-preserved
loop-pc-preserved g c =
    let a = c.args in
    let l = c.loop-pc in
    record {
      low = omega arith;
      charged = back_more a.s.now g.R.Run.limits a.meter a.start a.end a.place l.pc l.left l.invariant.charged (l.pc - 1) (omega arith) (omega arith)
          c.get.ensures.is c.in_ok-left.ensures;
    }
