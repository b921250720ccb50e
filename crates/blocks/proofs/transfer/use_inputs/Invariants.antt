use Rattle.std.proofs.Common.{◌≡◌, ◌*◌}
use Rattle.bitset.specs.Below.{AllBelow}
use Rattle.operands.specs.Instructions.{inputs_left}
use Rattle.blocks.proofs.UseLaws.{used_at}
use Rattle.blocks.proofs.transfer.use_inputs.Given as goal

abbrev pub invariant-loop-slot : goal.invariant-loop-slot
invariant-loop-slot g l = record {
  below : AllBelow (64 * g.R.Run.layout.words) (inputs_left l.slot-iterator);
  used : used_at l.block (inputs_left l.slot-iterator) l.s ≡ used_at l.block (inputs_left l.initial.slot-iterator) l.initial.s;
}
