use Rattle.transfer.proofs.TransferLaws.{Joining}
use Rattle.transfer.proofs.compute.join_rest.Given as goal

abbrev pub invariant-loop-k : goal.invariant-loop-k
invariant-loop-k g l = Joining g.R.Run.layout l.initial.s l.t l.block l.n l.k l.s
