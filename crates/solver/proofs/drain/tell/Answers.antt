-- `solver::drain::tell` meets its contract: one charge and one offer for each of them. Assumes nothing.
use Rattle.std.proofs.lemmas.Result.{err_from_is_err_and}
use Rattle.solver.proofs.RunLaws.{step_none, step_more, step_over, step_all}
use Rattle.solver.proofs.drain.tell.Goals as goal

pub loop-k-init : goal.loop-k-init
loop-k-init g c =
    let p = c.requires in
    step_none c.args.d _ _ _ _ _ c.args.block _ c.count-n.ensures.is c.first-edge.ensures c.count-n.ensures.whole p.1 p.2 p.0

pub returns-in_err-left : goal.returns-in_err-left
returns-in_err-left g c =
    let p = err_from_is_err_and c.from_residual.result c.from_residual.ensures.1 in
    λ t. rw (p.1, p.2) (step_over c.args.d _ _ _ _ _ c.args.block _ c.loop-k.invariant c.loop-k-test.true c.in_err-left.ensures t)

pub loop-k-preserved : goal.loop-k-preserved
loop-k-preserved g c =
    step_more c.args.d _ _ _ _ _ c.args.block _ c.loop-k.invariant c.loop-k-test.true c.requires.3 c.dependent-to.ensures
    c.behind-edge.ensures c.in_ok-left.ensures c.offer-waiting.ensures

pub returns : goal.returns
returns g c = step_all c.args.d _ _ _ _ _ c.args.block _ c.loop-k.invariant c.loop-k-test.false
