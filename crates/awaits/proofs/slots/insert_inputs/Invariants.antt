use Rattle.std.proofs.Common.{◌≡◌, ◌*◌}
use Rattle.bitset.specs.Below.{AllBelow}
use Rattle.memory.specs.Named.{row_of}
use Rattle.operands.specs.Instructions.{inputs_left}
use Rattle.awaits.proofs.SlotLaws.{put_all}
use Rattle.awaits.proofs.slots.insert_inputs.Given as goal

abbrev pub invariant-loop-slot : goal.invariant-loop-slot
invariant-loop-slot g l = record {
  below : AllBelow (64 * g.R.Run.layout.words) (inputs_left l.slot-iterator);
  put : put_all (row_of g.R.Run.layout l.row) (inputs_left l.slot-iterator) l.s
      ≡ put_all (row_of g.R.Run.layout l.row) (inputs_left l.initial.slot-iterator) l.initial.s;
}
