-- `blocks::successors::link_targets` meets its contract. Assumes nothing.
use Rattle.std.proofs.Common.{ap, ◌∙◌, arith, length, inl}
use Rattle.operands.specs.Instructions.{values_of, targets_left}
use Rattle.operands.specs.Kinds.{kind_number}
use Rattle.blocks.proofs.OperandLaws.{targets_few}
use Rattle.blocks.proofs.successors.link_targets.Goals as goal

-- two targets are no more than a number counts
pub loop-k-init-derived : goal.loop-k-init-derived
loop-k-init-derived g c =
    let e = ap targets_left c.enumerate-k-items.ensures.source ∙ c.targets.ensures in
    let few = targets_few (kind_number c.args.instruction.kind) (values_of c.args.instruction) in
    rw c.into_iter-k-iterator.ensures.into_iter_gives ((tt, tt, inl (omega (arith, ap length e, few, c.enumerate-k-items.ensures.count))), tt)
