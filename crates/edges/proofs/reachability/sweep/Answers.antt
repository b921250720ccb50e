-- `edges::reachability::sweep` meets its contract. Assumes nothing.
use Rattle.std.proofs.Common.{refl, ap, ◌<◌, arith}
use Rattle.sizes.specs.declared.Layout.{Layout}
use Rattle.std.proofs.lemmas.Result.{err_from_is_err_and}
use Rattle.memory.proofs.FrameLaws.{only_none, only_then}
use Rattle.edges.proofs.EdgeLaws.{holds-only}
use Rattle.edges.proofs.SweepLaws.{swept-begun, swept_top, swept_popped, swept_more, swept_over, swept_empty, swept_out}
use Rattle.edges.proofs.SweepLaws.{reached_end, reached-over}
use Rattle.edges.proofs.reachability.sweep.Goals.{else-loop-taken-test, then-loop-taken-test+then-top-eq0}
use Rattle.edges.proofs.reachability.sweep.Goals as goal

pub loop-taken-init : goal.loop-taken-init
loop-taken-init g c = record { only = only_none _; swept = λ next h. swept-begun c.requires.1 }

pub push_successors-requires : goal.push_successors-requires
push_successors-requires g c =
    let l = c.loop-taken in
    let h = c.requires.0 in
    let w = l.invariant.swept h.0 h.1 in
    let some : 0 < l.top = omega arith in
    let e = c.get-block.ensures.is in
    (rw e (swept_top w some), (h.0, holds-only l.invariant.only refl refl h.1), (_, swept_popped w some e))

pub returns-in_err-top : goal.returns-in_err-top
returns-in_err-top g c =
    let l = c.loop-taken in
    let some : 0 < l.top = omega arith in
    let n = ap (λ (y : Layout). y.blocks) c.layout-taken-end.ensures.is in
    let p = err_from_is_err_and c.from_residual.result c.from_residual.ensures.1 in
    rw (p.1, p.2) (reached-over (only_then l.invariant.only c.push_successors.ensures.only)
    (λ next h. swept_over (l.invariant.swept next h) some c.get-block.ensures.is (omega (arith, n)) (holds-only l.invariant.only refl refl h)
    c.in_err-top.ensures))

pub loop-taken-preserved : goal.loop-taken-preserved
loop-taken-preserved g c =
    let l = c.loop-taken in
    let some : 0 < l.top = omega arith in
    let n = ap (λ (y : Layout). y.blocks) c.layout-taken-end.ensures.is in
    record {
      only = only_then l.invariant.only c.push_successors.ensures.only;
      swept = λ next h.
          swept_more (l.invariant.swept next h) some c.get-block.ensures.is (omega (arith, n))
          (holds-only l.invariant.only refl refl h) c.in_ok-top.ensures;
    }

pub returns : goal.returns
returns g c =
    let l = c.loop-taken.invariant in
    let n = ap (λ (y : Layout). y.blocks) c.layout-taken-end.ensures.is in
    elim c.loop-taken-test.branch [
      | else-loop-taken-test w ↦ reached_end l.only l.swept (λ next s. swept_out s (omega (arith, n)))
      | then-loop-taken-test+then-top-eq0 w ↦ reached_end l.only l.swept (λ next s. swept_empty s w.if-top-eq0.true)
    ]
