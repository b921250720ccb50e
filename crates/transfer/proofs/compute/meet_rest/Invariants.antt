use Rattle.transfer.proofs.TransferLaws.{Meeting}
use Rattle.transfer.proofs.compute.meet_rest.Given as goal

abbrev pub invariant-loop : goal.invariant-loop
invariant-loop g l = Meeting g.R.Run.layout l.initial.s l.t l.n l.first l.counter l.edge l.s
