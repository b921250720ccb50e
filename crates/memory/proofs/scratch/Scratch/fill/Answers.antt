use Rattle.std.proofs.Common.{ap, ◌∙◌, replicate, ℕ, rules}
use Rattle.memory.proofs.BackedLaws.{backed_row_long, backed_row_put}
use Rattle.memory.proofs.scratch.Scratch.fill.Goals as goal

pub returns : goal.returns
returns g c =
    let e = backed_row_long _ c.self.invariant.holds c.self.view_is c.args.row c.requires c.row_words.ensures in
    rw (c.fill.ensures.after (λ y q. q) ∙ ap (λ (n : ℕ). replicate n c.args.v) e)
    (backed_row_put _ c.self.invariant.holds c.self.view_is c.args.row c.requires c.row_words.ensures _ (search (rules, e)))
