use Rattle.std.proofs.Common.{arith}
use Rattle.memory.proofs.BackedLaws.{backed_whole, backed_inside, backed_small, backed_word}
use Rattle.memory.proofs.views.ScratchView.get.Goals as goal

pub overflow_add-result : goal.overflow_add-result
overflow_add-result g c = omega (arith, backed_small _ c.self.invariant c.self.view_is c.args.cell c.requires c.cell_start.ensures)

pub offset_bounds-self-inside-cell_start : goal.offset_bounds-self-inside-cell_start
offset_bounds-self-inside-cell_start g c = omega (arith, backed_small _ c.self.invariant c.self.view_is c.args.cell c.requires c.cell_start.ensures)

pub bounds-self-inside-cell_start : goal.bounds-self-inside-cell_start
bounds-self-inside-cell_start g c = backed_inside _ c.self.invariant c.self.view_is c.args.cell c.requires c.cell_start.ensures

pub returns-clause-is : goal.returns-clause-is
returns-clause-is g c = backed_word _ c.self.invariant c.self.view_is c.args.cell c.requires c.cell_start.ensures

pub returns-clause-whole : goal.returns-clause-whole
returns-clause-whole g c = backed_whole _ c.self.invariant c.self.view_is
