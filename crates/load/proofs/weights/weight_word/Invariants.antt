use Rattle.load.proofs.CountLaws.{Weighed}
use Rattle.load.proofs.weights.weight_word.Given as goal

abbrev pub invariant-loop-k : goal.invariant-loop-k
invariant-loop-k l = Weighed l.s l.first l.next l.k l.bits
