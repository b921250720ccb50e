use Rattle.std.proofs.Common.{◌≡◌, map, drop}
use Rattle.operands.specs.Bytes.{number_in}
use Rattle.repeats.specs.Repeats.{any_twice}
use Rattle.repeats.specs.Seen.{twice_seen}
use Rattle.repeats.proofs.by_map.Given as goal

abbrev pub invariant-loop-number : goal.invariant-loop-number
invariant-loop-number l =
    any_twice (map number_in l.numbers) ≡ twice_seen l.seen (map number_in (drop l.number-index l.numbers))
