use Rattle.instructions.proofs.HostWords.{Bitted}
use Rattle.instructions.proofs.sets.host_word.Given as goal

abbrev pub invariant-loop-k : goal.invariant-loop-k
invariant-loop-k l = Bitted l.s l.first l.n l.next l.k l.bits
