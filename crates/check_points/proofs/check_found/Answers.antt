-- `check_points::check_found` meets its contract: none to check, or as `check_leaving`. Assumes nothing.
use Rattle.check_points.proofs.CheckedLaws.{counted_span, none_charged}
use Rattle.check_points.proofs.check_found.Goals as goal

pub charge_back-requires : goal.charge_back-requires
charge_back-requires g c = let span = counted_span c.requires in (span.ordered, span.inside)

pub returns-then-found-eq0 : goal.returns-then-found-eq0
returns-then-found-eq0 g c = none_charged c.requires c.if-found-eq0.true (rw c.view.ensures at c.charge_back.ensures)
