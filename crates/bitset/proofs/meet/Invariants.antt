use Rattle.std.proofs.Common.{◌≡◌, bit_and}
use Rattle.bitset.proofs.ZipLaws.{progress}
use Rattle.bitset.proofs.meet.Given as goal

abbrev pub invariant-loop-k : goal.invariant-loop-k
invariant-loop-k l = l.set ≡ progress bit_and l.initial.set l.other l.k
