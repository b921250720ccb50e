use Rattle.std.proofs.Common.{◌≡◌, ◌*◌}
use Rattle.bitset.specs.Below.{AllBelow}
use Rattle.bitset.specs.Sets.{member}
use Rattle.dataflow.specs.Lists.{every}
use Rattle.memory.specs.Cells.{cell}
use Rattle.memory.specs.Names.{state_row}
use Rattle.operands.specs.Instructions.{inputs_left}
use Rattle.reads.proofs.misses_input.Given as goal

abbrev pub invariant-loop-slot : goal.invariant-loop-slot
invariant-loop-slot g l = record {
  below : AllBelow (64 * g.R.Run.layout.words) (inputs_left l.slot-iterator);
  left : every (member (cell l.s (state_row g.R.Run.layout.blocks))) (inputs_left l.slot-iterator)
      ≡ every (member (cell l.s (state_row g.R.Run.layout.blocks))) (inputs_left l.initial.slot-iterator);
}
