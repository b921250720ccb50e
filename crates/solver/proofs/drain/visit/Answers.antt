-- `solver::drain::visit` meets its contract: the ring's first block leaves, is computed and settled. Assumes nothing.
use Rattle.std.proofs.Common.{◌+◌, arith}
use Rattle.std.proofs.lemmas.Result.{err_from_is_err_and}
use Rattle.solver.specs.Run.{out_of}
use Rattle.solver.proofs.RunLaws.{charge_met, visited_over, visited_on, visit_good, first_block, went-less}
use Rattle.solver.proofs.drain.visit.Goals as goal

pub returns-in_err-left : goal.returns-in_err-left
returns-in_err-left g c =
    let a = c.args in
    let p = err_from_is_err_and c.from_residual.result c.from_residual.ensures.1 in
    let e = visited_over a.d g.R.Run.layout g.R.Run.limits a.s.now a.t.now a.from a.meter c.get-block.ensures.is c.put.ensures.stored
    c.in_err-left.ensures in
    rw (p.1, p.2) (e, tt)

pub settle-requires : goal.settle-requires
settle-requires g c =
    let a = c.args in
    let p = c.requires in
    let met = charge_met g.R.Run.limits a.meter _ p.3 c.in_ok-left.ensures in (
      first_block p.1 c.get-block.ensures.is,
      visit_good p.1 c.get-block.ensures.is c.get-block.ensures.whole c.put.ensures.stored a.d _ (rw c.view.ensures at c.compute.ensures) (rw c.layout.ensures.is at c.wrapped.ensures),
      met.1,
      p.3,
    )

pub returns : goal.returns
returns g c =
    let a = c.args in
    let met = charge_met g.R.Run.limits a.meter _ c.requires.3 c.in_ok-left.ensures in
    let o = out_of c.settle.new.s c.settle.new.t c.settle.result in (
      visited_on a.d g.R.Run.layout g.R.Run.limits a.s.now a.t.now a.from a.meter c.get-block.ensures.is c.put.ensures.stored
          c.in_ok-left.ensures (rw c.view.ensures at c.compute.ensures) (rw c.layout.ensures.is at c.wrapped.ensures) c.settle.ensures.0,
      went-less g.R.Run.layout g.R.Run.limits c.in_ok-left.left.work (a.meter.work + 1) o (omega (arith, met.0)) c.settle.ensures.1,
    )
