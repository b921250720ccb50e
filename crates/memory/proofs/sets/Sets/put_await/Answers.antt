use Rattle.std.proofs.Common.{◌∙◌}
use Rattle.memory.proofs.BackedLaws.{sets_backed_entry}
use Rattle.memory.proofs.sets.Sets.put_await.Goals as goal

pub returns : goal.returns
returns g c =
    let long = rw c.row.ensures.is at c.row.ensures.long in
    rw (c.copy.ensures ∙ c.row.ensures.is)
    (sets_backed_entry _ c.self.invariant.holds c.self.view_is c.requires.0 c.entry_words.ensures c.args.instruction _ long)
