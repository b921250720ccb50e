use Rattle.std.proofs.Common.{rules}
use Rattle.memory.proofs.BackedLaws.{sets_backed_put}
use Rattle.memory.proofs.sets.Sets.store.Goals as goal

pub returns : goal.returns
returns g c =
    rw (← c.row.ensures.is, ← c.copy.ensures)
    (sets_backed_put _ c.self.invariant.holds c.self.view_is c.args.set c.requires.0 c.set_words.ensures _ (search rules))
