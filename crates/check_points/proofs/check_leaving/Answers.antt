-- `check_points::check_leaving` meets its contract: leaving, the awaits may be checked. Assumes nothing.
use Rattle.std.proofs.lemmas.Result.{err_from_is_err_and}
use Rattle.std.proofs.Common.{refl, arith, rules}
use Rattle.check_points.proofs.SolvedLaws.{solved-connected}
use Rattle.check_points.proofs.CheckedLaws.{counted_span, counted_among, leaving, awaits_refused, awaits_reached}
use Rattle.check_points.proofs.check_leaving.Goals as goal

pub gather-requires : goal.gather-requires
gather-requires g c =
    let p = c.requires in
    (p.inside, solved-connected p.solved)

pub overflow_add-next : goal.overflow_add-next
overflow_add-next g c =
    omega (arith, c.requires.room, c.layout-2.ensures.bounded.awaits)

pub check_awaits-requires : goal.check_awaits-requires
check_awaits-requires g c =
    let span = counted_span c.requires in
    let lv = leaving c.layout.ensures.whole c.layout.ensures.words c.layout-2.ensures.whole c.layout-2.ensures.words c.requires (rw c.view.ensures at c.gather.ensures) in (
      lv.coded,
      span.ordered,
      span.inside,
      counted_among c.requires,
      c.requires.room,
    )

pub returns-in_err-left : goal.returns-in_err-left
returns-in_err-left g c =
    let lv = leaving c.layout.ensures.whole c.layout.ensures.words c.layout-2.ensures.whole c.layout-2.ensures.words c.requires (rw c.view.ensures at c.gather.ensures) in
    let p = err_from_is_err_and c.from_residual.result c.from_residual.ensures.1 in
    rw (p.1, p.2) (awaits_refused lv c.in_err-left.ensures refl)

pub returns : goal.returns
returns g c =
    let lv = leaving c.layout.ensures.whole c.layout.ensures.words c.layout-2.ensures.whole c.layout-2.ensures.words c.requires (rw c.view.ensures at c.gather.ensures) in
    awaits_reached lv c.in_ok-left.ensures refl
