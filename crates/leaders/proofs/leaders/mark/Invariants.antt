use Rattle.std.proofs.Common.{◌≡◌}
use Rattle.bitset.specs.Below.{AllBelow}
use Rattle.leaders.specs.Leaders.{mark_all}
use Rattle.operands.specs.Instructions.{targets_in, targets_left}
use Rattle.leaders.proofs.leaders.mark.Given as goal

abbrev pub invariant-loop-target : goal.invariant-loop-target
invariant-loop-target g l = record {
  below : AllBelow g.R.Run.layout.instructions (targets_left l.target-iterator);
  marks : mark_all (targets_left l.target-iterator) l.s ≡ mark_all (targets_in l.fn.instruction) l.initial.s;
}
