use Rattle.leaders.proofs.NumberLaws.{Going}
use Rattle.leaders.proofs.number.number.Given as goal

abbrev pub invariant-loop-i : goal.invariant-loop-i
invariant-loop-i g l = Going g.R.Run.layout l.initial.s l.s l.i l.blocks
