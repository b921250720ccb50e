use Rattle.bitset.specs.Rows.{row}
use Rattle.bitset.proofs.LoopLaws.{Stored}
use Rattle.bitset.proofs.copy_within.Given as goal

abbrev pub invariant-loop-k : goal.invariant-loop-k
invariant-loop-k l = Stored l.initial.words l.d (row l.initial.words l.s l.w) l.w l.k l.words
