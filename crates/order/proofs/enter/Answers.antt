-- `order::enter` meets its contract: a visited block changes nothing, an unvisited one is a frame more. Assumes nothing.
use Rattle.std.proofs.Common.{sym, ◌∙◌}
use Rattle.order.proofs.TurnLaws.{enter_room, enter_old, entered}
use Rattle.order.proofs.enter.Goals as goal

pub returns-then-get-ne0 : goal.returns-then-get-ne0
returns-then-get-ne0 g c = enter_old _ _ c.get.ensures.whole _ _ (λ q. c.if-get-ne0.true (c.get.ensures.is ∙ q))

pub returns : goal.returns
returns g c =
    let p = c.requires in
    let e = sym c.get.ensures.is ∙ c.if-get-ne0.false in
    let z = c.get.ensures.whole in
    entered _ _ z _ _ _ (c.put-3.ensures.stored ∙ (cc)) e p.0 (enter_room _ _ z _ _ e p.0 p.1)
