-- `order::search` meets its contract: after each turn the search has one turn less left, and one charge less to come. Assumes nothing.
use Rattle.std.proofs.Common.{ap, ◌+◌, arith}
use Rattle.std.proofs.lemmas.Result.{err_from_is_err_and}
use Rattle.sizes.specs.declared.Layout.{Layout}
use Rattle.memory.specs.Scratch.{edge_words}
use Rattle.order.proofs.FrameLaws.{held_kept}
use Rattle.order.proofs.TurnLaws.{good_room}
use Rattle.order.proofs.RunLaws.{going_start, going_more, going_over, going_empty, going_full}
use Rattle.order.proofs.search.Goals.{else-loop-turn-test, then-loop-turn-test+then-walk-eq0}
use Rattle.order.proofs.search.Goals as goal

pub loop-turn-init : goal.loop-turn-init
loop-turn-init g c = going_start _ _ _ _ c.layout-y.ensures.whole c.requires.0 c.requires.2

pub returns-in_err-left : goal.returns-in_err-left
returns-in_err-left g c =
    let l = c.loop-turn in
    let p = err_from_is_err_and c.from_residual.result c.from_residual.ensures.1 in
    rw (p.1, p.2) (going_over _ _ _ _ _ _ _ _ _ l.invariant (omega arith) c.in_err-left.ensures)

pub advance-walk-requires : goal.advance-walk-requires
advance-walk-requires g c =
    let i = c.loop-turn.invariant in
    (omega arith, held_kept i.only c.requires.1, i.good)

pub loop-turn-preserved : goal.loop-turn-preserved
loop-turn-preserved g c =
    let l = c.loop-turn in
    going_more _ _ _ _ _ _ _ _ _ l.invariant (omega arith) _ _ _ _ c.in_ok-left.ensures c.layout.ensures.whole c.advance-walk.ensures

pub returns : goal.returns
returns g c =
    let i = c.loop-turn.invariant in
    let n = ap (λ (y : Layout). y.blocks + edge_words y) c.layout-y.ensures.is in
    elim c.loop-turn-test.branch [
      | else-loop-turn-test w ↦ going_full _ _ _ _ _ _ _ _ _ i (omega (arith, n))
      | then-loop-turn-test+then-walk-eq0 w ↦ going_empty _ _ _ _ _ _ _ _ _ i w.if-walk-eq0.true
    ]
