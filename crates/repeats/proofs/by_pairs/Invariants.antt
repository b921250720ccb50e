use Rattle.std.proofs.Common.{◌≡◌, map, drop}
use Rattle.operands.specs.Bytes.{number_in}
use Rattle.repeats.specs.Repeats.{any_twice}
use Rattle.repeats.proofs.by_pairs.Given as goal

abbrev pub invariant-loop-i : goal.invariant-loop-i
invariant-loop-i l =
    any_twice (map number_in l.numbers) ≡ any_twice (map number_in (drop l.i l.numbers))
