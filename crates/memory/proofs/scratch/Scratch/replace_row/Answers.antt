use Rattle.std.proofs.Common.{arith}
use Rattle.memory.proofs.BackedLaws.{backed_apart, backed_replaced}
use Rattle.memory.proofs.scratch.Scratch.replace_row.Goals as goal

pub replace_within-requires : goal.replace_within-requires
replace_within-requires g c =
    let r = c.self.invariant.holds.room in (
      omega arith,
      omega arith,
      omega arith,
      backed_apart _ c.self.invariant.holds c.self.view_is c.args.into c.args.lost c.requires.0 c.requires.1 c.row_words-d.ensures c.row_words-k.ensures c.requires.3,
      backed_apart _ c.self.invariant.holds c.self.view_is c.args.into c.args.gained c.requires.0 c.requires.2 c.row_words-d.ensures c.row_words-j.ensures c.requires.4,
    )

pub returns : goal.returns
returns g c =
    let b = c.self.invariant.holds in
    let from = c.row_words-k.ensures in
    rw c.replace_within.ensures
    (backed_replaced _ b c.self.view_is c.args.into c.args.lost c.requires.0 c.requires.1 c.row_words-d.ensures from c.args.gained c.requires.2 c.row_words-j.ensures)
