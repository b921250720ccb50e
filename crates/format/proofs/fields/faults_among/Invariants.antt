use Rattle.std.proofs.Common.{take}
use Rattle.operands.specs.Kinds.{kind_number}
use Rattle.operands.specs.Instructions.{values_of}
use Rattle.format.specs.Answers.{FaultsIn}
use Rattle.format.proofs.fields.faults_among.Given as goal

abbrev pub invariant-loop-j : goal.invariant-loop-j
invariant-loop-j l = FaultsIn (kind_number l.i.kind) (take l.j (values_of l.i)) l.counts.slots l.counts.instructions l.faults
