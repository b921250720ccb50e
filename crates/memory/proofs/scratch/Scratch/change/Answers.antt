use Rattle.std.proofs.Common.{refl, sym, ap, ◌∙◌, length, rules, of_calls}
use Rattle.memory.proofs.BackedLaws.{backed_row, backed_row_long, backed_row_put}
use Rattle.memory.proofs.scratch.Scratch.change.Goals as goal

pub change-requires : goal.change-requires
change-requires g c =
    let e = backed_row _ c.self.invariant.holds c.self.view_is c.args.row c.requires.row c.row_words.ensures in
    let n = backed_row_long _ c.self.invariant.holds c.self.view_is c.args.row c.requires.row c.row_words.ensures in
    search (of_calls, e, n) parts 8

pub returns : goal.returns
returns g c =
    let n = backed_row_long _ c.self.invariant.holds c.self.view_is c.args.row c.requires.row c.row_words.ensures in
    let e = backed_row _ c.self.invariant.holds c.self.view_is c.args.row c.requires.row c.row_words.ensures in (
      c.change.new.arg2,
      record { shown = _; shows = e; left = _; met = c.change.ensures; leaves = refl },
      backed_row_put _ c.self.invariant.holds c.self.view_is c.args.row c.requires.row c.row_words.ensures _ (search rules),
      ap length (sym e) ∙ n,
    )
