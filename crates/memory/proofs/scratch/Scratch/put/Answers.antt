use Rattle.std.proofs.Common.{arith}
use Rattle.memory.proofs.BackedLaws.{backed_whole, backed_inside, backed_small, backed_store}
use Rattle.memory.proofs.scratch.Scratch.put.Goals as goal

pub overflow_add-self : goal.overflow_add-self
overflow_add-self g c = omega (arith, backed_small _ c.self.invariant.holds c.self.view_is c.args.cell c.requires c.cell_start.ensures)

pub offset_bounds-self-inside-cell_start : goal.offset_bounds-self-inside-cell_start
offset_bounds-self-inside-cell_start g c = omega (arith, backed_small _ c.self.invariant.holds c.self.view_is c.args.cell c.requires c.cell_start.ensures)

pub bounds-self-inside-cell_start : goal.bounds-self-inside-cell_start
bounds-self-inside-cell_start g c = backed_inside _ c.self.invariant.holds c.self.view_is c.args.cell c.requires c.cell_start.ensures

pub returns-clause-stored : goal.returns-clause-stored
returns-clause-stored g c = backed_store _ c.self.invariant.holds c.self.view_is c.args.cell c.requires c.cell_start.ensures c.args.v

pub returns-clause-whole : goal.returns-clause-whole
returns-clause-whole g c = backed_whole _ c.self.invariant.holds c.self.view_is
