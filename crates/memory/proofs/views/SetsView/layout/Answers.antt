use Rattle.memory.proofs.BackedLaws.{sets_backed_whole, sets_backed_in_words}
use Rattle.memory.proofs.views.SetsView.layout.Goals as goal

pub returns-clause-whole : goal.returns-clause-whole
returns-clause-whole g c = sets_backed_whole _ c.self.invariant c.self.view_is

pub returns-clause-words : goal.returns-clause-words
returns-clause-words g c =
    sets_backed_in_words _ c.self.invariant c.self.view_is c.fit.ensures
