use Rattle.std.proofs.Common.{ap, ◌∙◌, replicate, ℕ, rules}
use Rattle.memory.proofs.BackedLaws.{backed_whole, backed_long, backed_put}
use Rattle.memory.proofs.scratch.Scratch.clear.Goals as goal

pub returns-clause-stored : goal.returns-clause-stored
returns-clause-stored g c =
    let e = backed_long _ c.self.invariant.holds c.self.view_is c.args.cell c.cell_words.ensures in
    rw (c.fill.ensures.after (λ y q. q) ∙ ap (λ (n : ℕ). replicate n 0) e)
    (backed_put _ c.self.invariant.holds c.self.view_is c.args.cell c.cell_words.ensures _ (search (rules, e)))

pub returns-clause-whole : goal.returns-clause-whole
returns-clause-whole g c = backed_whole _ c.self.invariant.holds c.self.view_is
