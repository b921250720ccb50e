use Rattle.bitset.proofs.LoopLaws.{Stored, replaced}
use Rattle.bitset.proofs.replace_within.Given as goal

abbrev pub invariant-loop-k : goal.invariant-loop-k
invariant-loop-k l = Stored l.initial.words l.d (replaced l.initial.words l.d l.i l.j l.w) l.w l.k l.words
