-- `order::look` meets its contract: the frame's edge is passed, and what it leads to is entered. Assumes nothing.
use Rattle.order.proofs.TurnLaws.{moved_marks, moved_counted, lead_below, looked}
use Rattle.order.proofs.look.Goals as goal

pub successor-to-requires : goal.successor-to-requires
successor-to-requires g c =
    let p = c.requires in
    let e = c.put.ensures.stored in
    let z = c.put.ensures.whole in
    (p.inside, moved_counted _ _ z _ _ _ _ p _ _ e, p.left, lead_below _ _ z _ _ _ _ p _ _ e)

pub enter-requires : goal.enter-requires
enter-requires g c =
    let p = c.requires in
    let e = c.put.ensures.stored in
    let z = c.put.ensures.whole in
    (rw c.successor-to.ensures (lead_below _ _ z _ _ _ _ p _ _ e), rw (moved_marks _ _ z _ _ _ _ p _ _ e) p.room)

pub returns : goal.returns
returns g c =
    looked _ _ c.put.ensures.whole _ _ _ _ c.requires _ _ _ _ c.put.ensures.stored c.successor-to.ensures c.enter.ensures
