use Rattle.std.proofs.Common.{◌≡◌, bit_or}
use Rattle.bitset.proofs.ZipLaws.{progress}
use Rattle.bitset.proofs.join.Given as goal

abbrev pub invariant-loop-k : goal.invariant-loop-k
invariant-loop-k l = l.set ≡ progress bit_or l.initial.set l.other l.k
