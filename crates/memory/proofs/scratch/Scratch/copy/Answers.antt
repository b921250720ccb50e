use Rattle.std.proofs.Common.{arith}
use Rattle.memory.proofs.BackedLaws.{backed_end, backed_copy_room, backed_copy_apart, backed_copied}
use Rattle.memory.proofs.scratch.Scratch.copy.Goals as goal

pub copy_within-requires : goal.copy_within-requires
copy_within-requires g c =
    let b = c.self.invariant.holds in (
      backed_copy_room _ b c.self.view_is c.args.from c.cell_words-k.ensures c.args.into c.cell_start.ensures c.requires.0,
      omega (arith, backed_end _ b c.self.view_is c.args.from c.cell_words-k.ensures, c.cell_words-k.ensures.ends),
      backed_copy_apart _ b c.self.view_is c.args.from c.cell_words-k.ensures c.args.into c.cell_start.ensures c.requires.0 c.requires.1,
    )

pub returns : goal.returns
returns g c =
    rw c.copy_within.ensures
    (backed_copied _ c.self.invariant.holds c.self.view_is c.args.from c.cell_words-k.ensures c.args.into c.cell_start.ensures c.requires.0)
