use Rattle.std.proofs.Common.{◌≡◌, replicate, Ok}
use Rattle.budget.specs.Budget.{charged}
use Rattle.instructions.specs.Sound.{code_offset}
use Rattle.leaders.proofs.LeaderLaws.{Marking}
use Rattle.leaders.proofs.leaders.mark_all.Given as goal

abbrev pub invariant-loop-pc : goal.invariant-loop-pc
invariant-loop-pc g l = record {
  offset : l.at ≡ code_offset l.sheet.bytes.now l.sheet.script l.pc;
  charges : charged g.R.Run.limits l.initial.left (replicate l.pc 1) ≡ Ok l.left;
  marks : Marking l.sheet.bytes.now l.sheet.script l.initial.s l.s l.pc;
}
