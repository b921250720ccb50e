use Rattle.std.proofs.Common.{rules}
use Rattle.memory.proofs.BackedLaws.{backed_row, backed_row_put}
use Rattle.memory.proofs.scratch.Scratch.insert.Goals as goal

pub returns : goal.returns
returns g c =
    let r = backed_row _ c.self.invariant.holds c.self.view_is c.args.row c.requires.0 c.row_words.ensures in
    rw (← r, ← c.insert.ensures)
    (backed_row_put _ c.self.invariant.holds c.self.view_is c.args.row c.requires.0 c.row_words.ensures _ (search rules))
