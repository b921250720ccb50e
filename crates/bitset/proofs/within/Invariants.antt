use Rattle.std.proofs.Common.{ℕ, eqb}
use Rattle.bitset.specs.Operations.{within}
use Rattle.bitset.proofs.LoopLaws.{Compared}
use Rattle.bitset.proofs.within.Given as goal

abbrev pub invariant-loop-k : goal.invariant-loop-k
invariant-loop-k l = Compared within (λ (d : ℕ). eqb d 0) l.a l.b l.k l.lacking
