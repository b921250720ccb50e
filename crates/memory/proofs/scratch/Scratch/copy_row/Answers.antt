use Rattle.std.proofs.Common.{arith}
use Rattle.memory.proofs.BackedLaws.{backed_apart, backed_row_copied}
use Rattle.memory.proofs.scratch.Scratch.copy_row.Goals as goal

pub copy_within-requires : goal.copy_within-requires
copy_within-requires g c =
    let r = c.self.invariant.holds.room in (
      omega arith,
      omega arith,
      backed_apart _ c.self.invariant.holds c.self.view_is c.args.into c.args.from c.requires.0 c.requires.1 c.row_words-d.ensures c.row_words-k.ensures c.requires.2,
    )

pub returns : goal.returns
returns g c =
    rw c.copy_within.ensures
    (backed_row_copied _ c.self.invariant.holds c.self.view_is c.args.into c.args.from c.requires.0 c.requires.1 c.row_words-d.ensures c.row_words-k.ensures)
