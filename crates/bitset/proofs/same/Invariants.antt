use Rattle.std.proofs.Common.{ℕ, eqb}
use Rattle.bitset.specs.Operations.{same}
use Rattle.bitset.proofs.LoopLaws.{Compared}
use Rattle.bitset.proofs.same.Given as goal

abbrev pub invariant-loop-k : goal.invariant-loop-k
invariant-loop-k l = Compared same (λ (d : ℕ). eqb d 0) l.a l.b l.k l.differ
