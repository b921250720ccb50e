-- `graph::build_cells` meets its contract. Assumes nothing.
use Rattle.std.proofs.Common.{rules}
use Rattle.graph.proofs.GraphLaws.{built_over, join_held, block_there, reach_held, built_on}
use Rattle.graph.proofs.build_cells.Goals as goal

pub returns-in_err-left : goal.returns-in_err-left
returns-in_err-left g c = built_over c.in_err-left.ensures (search rules)

pub join-requires : goal.join-requires
join-requires g c = (c.requires.fits.slots, join_held c.in_ok-left.ensures c.requires)

pub reachability-requires : goal.reachability-requires
reachability-requires g c = (block_there c.in_ok-left.ensures c.requires, reach_held c.in_ok-left.ensures c.requires c.join.ensures)

pub returns : goal.returns
returns g c = built_on c.in_ok-left.ensures c.requires c.join.ensures c.reachability.ensures
