-- `solver::drain::drain` meets its contract: the run from here is the run from the start, and each visit has its work. Assumes nothing.
use Rattle.std.proofs.Common.{arith}
use Rattle.std.proofs.lemmas.Result.{err_from_is_err_and}
use Rattle.solver.specs.Run.{at_of}
use Rattle.solver.proofs.RunLaws.{ran_idle, ran_over, ran_more}
use Rattle.solver.proofs.drain.drain.Goals as goal

pub returns-in_err-waiting : goal.returns-in_err-waiting
returns-in_err-waiting g c =
    let l = c.loop-waiting in
    let a = c.args in
    let y = g.R.Run.layout in
    let p = err_from_is_err_and c.from_residual.result c.from_residual.ensures.1 in
    let s₀ = at_of a.s.now a.t.now a.from in
    let s = at_of l.s l.t l.waiting in
    rw (p.1, p.2) (ran_over a.d y g.R.Run.limits s₀ a.meter s l.left l.invariant c.loop-waiting-test.true c.in_err-waiting.ensures.0, tt)

pub loop-waiting-preserved : goal.loop-waiting-preserved
loop-waiting-preserved g c =
    let l = c.loop-waiting in
    let a = c.args in
    let y = g.R.Run.layout in
    ran_more a.d y g.R.Run.limits _ _ (at_of l.s l.t l.waiting) l.left l.invariant _ _ c.loop-waiting-test.true
    c.in_ok-waiting.ensures.0 c.in_ok-waiting.ensures.1

pub returns : goal.returns
returns g c =
    let l = c.loop-waiting in
    let a = c.args in
    let y = g.R.Run.layout in
    let none = c.loop-waiting-test.false in
    (ran_idle a.d y g.R.Run.limits _ _ (at_of l.s l.t l.waiting) l.left l.invariant none, omega (arith, none))
