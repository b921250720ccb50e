use Rattle.std.proofs.Common.{◌≡◌}
use Rattle.bitset.proofs.ZipLaws.{progress}
use Rattle.bitset.proofs.copy.Given as goal

abbrev pub invariant-loop-k : goal.invariant-loop-k
invariant-loop-k l = l.set ≡ progress (λ x y. y) l.initial.set l.other l.k
