-- `repeats::any_twice` meets its contract. Assumes nothing.
use Rattle.std.proofs.Common.{map, arith}
use Rattle.bitset.proofs.Below.{below_up}
use Rattle.operands.specs.Bytes.{number_in}
use Rattle.repeats.proofs.any_twice.Goals as goal

pub by_map-requires : goal.by_map-requires
by_map-requires c = below_up c.args.bound 65536 (map number_in c.args.numbers.now) (omega arith) c.requires
