-- `fixed_points::fixed_points` meets its contract: the search leaves an order, and both rounds follow. Assumes nothing.
use Rattle.std.proofs.Common.{rules}
use Rattle.fixed_points.proofs.FixedLaws.{ready_searched, fixed_unordered}
use Rattle.fixed_points.proofs.fixed_points.Goals as goal

pub rounds-requires : goal.rounds-requires
rounds-requires g c = (ready_searched c.requires.0 c.in_ok-n.ensures, c.requires.1)

pub returns-in_err-n : goal.returns-in_err-n
returns-in_err-n g c = fixed_unordered c.in_err-n.ensures (search rules)
