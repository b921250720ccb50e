use Rattle.std.proofs.Common.{ℕ, eqb, not}
use Rattle.bitset.specs.Operations.{common}
use Rattle.bitset.proofs.LoopLaws.{Compared}
use Rattle.bitset.proofs.common.Given as goal

abbrev pub invariant-loop-k : goal.invariant-loop-k
invariant-loop-k l = Compared common (λ (d : ℕ). not (eqb d 0)) l.a l.b l.k l.both
