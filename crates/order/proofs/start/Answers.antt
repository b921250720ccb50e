-- `order::start` meets its contract: with no block visited, block 0 is entered. Assumes nothing.
use Rattle.std.proofs.Common.{◌∙◌}
use Rattle.order.proofs.TurnLaws.{begun}
use Rattle.order.proofs.start.Goals as goal

pub returns : goal.returns
returns g c = begun _ _ c.clear.ensures.whole c.requires _ (c.put-3.ensures.stored ∙ (cc))
