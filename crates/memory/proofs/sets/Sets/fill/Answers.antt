use Rattle.std.proofs.Common.{ap, ◌∙◌, replicate, ℕ, rules}
use Rattle.memory.proofs.BackedLaws.{sets_backed_long, sets_backed_put}
use Rattle.memory.proofs.sets.Sets.fill.Goals as goal

pub returns : goal.returns
returns g c =
    let e = sets_backed_long _ c.self.invariant.holds c.self.view_is c.args.set c.requires c.set_words.ensures in
    rw (c.fill.ensures.after (λ y q. q) ∙ ap (λ (n : ℕ). replicate n c.args.v) e)
    (sets_backed_put _ c.self.invariant.holds c.self.view_is c.args.set c.requires c.set_words.ensures _ (search (rules, e)))
