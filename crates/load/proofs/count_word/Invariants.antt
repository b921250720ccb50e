use Rattle.std.proofs.Common.{◌≡◌, ◌+◌, length}
use Rattle.std.specs.Slice.Iter.{chunks_exact_rest, chunks_exact_size}
use Rattle.load.proofs.CountLaws.{Summed}
use Rattle.load.proofs.count_word.Given as goal

abbrev pub invariant-loop-entry : goal.invariant-loop-entry
invariant-loop-entry l = record {
  size : chunks_exact_size l.entry-iterator ≡ 1 + l.w;
  summed : Summed l.entries l.weights l.w l.j l.from (chunks_exact_rest l.entry-iterator) (length l.yielded) l.total;
}
