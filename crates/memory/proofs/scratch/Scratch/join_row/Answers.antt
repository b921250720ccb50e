use Rattle.std.proofs.Common.{arith}
use Rattle.memory.proofs.BackedLaws.{backed_apart, backed_joined}
use Rattle.memory.proofs.scratch.Scratch.join_row.Goals as goal

pub join_within-requires : goal.join_within-requires
join_within-requires g c =
    let r = c.self.invariant.holds.room in (
      omega arith,
      omega arith,
      backed_apart _ c.self.invariant.holds c.self.view_is c.args.into c.args.from c.requires.0 c.requires.1 c.row_words-d.ensures c.row_words-k.ensures c.requires.2,
    )

pub returns : goal.returns
returns g c =
    rw c.join_within.ensures
    (backed_joined _ c.self.invariant.holds c.self.view_is c.args.into c.args.from c.requires.0 c.requires.1 c.row_words-d.ensures c.row_words-k.ensures)
