use Rattle.memory.proofs.BackedLaws.{sets_backed_row}
use Rattle.memory.proofs.views.SetsView.row.Goals as goal

pub returns-clause-is : goal.returns-clause-is
returns-clause-is g c = sets_backed_row _ c.self.invariant c.self.view_is c.args.set c.requires c.set_words.ensures
