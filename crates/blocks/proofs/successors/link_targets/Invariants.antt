use Rattle.std.proofs.Common.{◌≡◌, ◌+◌, ◌≤◌, length}
use Rattle.bitset.specs.Below.{AllBelow}
use Rattle.operands.specs.Instructions.{targets_left}
use Rattle.blocks.specs.Words.{link_edges}
use Rattle.blocks.proofs.successors.link_targets.Given as goal

abbrev pub invariant-loop-k : goal.invariant-loop-k
invariant-loop-k g l = record {
  few : l.k-iterator.count + length (targets_left l.k-iterator.iter) ≤ 2;
  below : AllBelow g.R.Run.layout.instructions (targets_left l.k-iterator.iter);
  links : link_edges l.block l.k-iterator.count (targets_left l.k-iterator.iter) l.s ≡ link_edges l.block l.initial.k-iterator.count (targets_left l.initial.k-iterator.iter) l.initial.s;
}
