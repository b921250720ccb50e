-- `fixed_points::rounds` meets its contract: the first round leaves what the second begins with. Assumes nothing.
use Rattle.std.proofs.Common.{rules}
use Rattle.fixed_points.proofs.FixedLaws.{ready_seedable, ready_again, rounds_over_as}
use Rattle.fixed_points.proofs.rounds.Goals as goal

pub propagate-requires : goal.propagate-requires
propagate-requires g c = (ready_seedable c.layout.ensures.whole c.requires.0, c.requires.1)

pub propagate-requires-2 : goal.propagate-requires-2
propagate-requires-2 g c =
    (ready_again c.in_ok-left.ensures c.requires.0 c.layout-2.ensures.whole, c.requires.1)

pub returns-in_err-left : goal.returns-in_err-left
returns-in_err-left g c = rounds_over_as c.layout.ensures.whole c.layout.ensures.words c.in_err-left.ensures (search rules)
