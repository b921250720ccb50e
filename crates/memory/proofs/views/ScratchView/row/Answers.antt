use Rattle.memory.proofs.BackedLaws.{backed_row}
use Rattle.memory.proofs.views.ScratchView.row.Goals as goal

pub returns-clause-is : goal.returns-clause-is
returns-clause-is g c = backed_row _ c.self.invariant c.self.view_is c.args.row c.requires c.row_words.ensures
