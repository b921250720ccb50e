-- `order::postorder` meets its contract: the first charge is met, then the search runs from block 0. Assumes nothing.
use Rattle.std.proofs.Common.{sym}
use Rattle.std.proofs.lemmas.Result.{err_from_is_err_and}
use Rattle.order.proofs.FrameLaws.{held_kept}
use Rattle.order.proofs.RunLaws.{searched-over, searched-kept}
use Rattle.order.proofs.postorder.Goals as goal

pub returns-in_err-left : goal.returns-in_err-left
returns-in_err-left g c =
    let p = err_from_is_err_and c.from_residual.result c.from_residual.ensures.1 in
    rw (p.1, p.2) (searched-over _ _ _ _ (rw c.layout.ensures.is at c.in_err-left.ensures))

pub search-requires : goal.search-requires
search-requires g c =
    let p = c.requires in
    let t = c.start.ensures in
    (p.0, held_kept t.1 p.1, t.0)

pub returns : goal.returns
returns g c =
    searched-kept _ _ _ _ _ _ _ c.start.ensures.1
    (c.search.ensures c.args.meter (sym (rw c.layout.ensures.is at c.in_ok-left.ensures)))
