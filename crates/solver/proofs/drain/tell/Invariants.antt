use Rattle.solver.proofs.RunLaws.{Step}
use Rattle.solver.proofs.drain.tell.Given as goal

abbrev pub invariant-loop-k : goal.invariant-loop-k
invariant-loop-k g l =
    Step l.d g.R.Run.layout g.R.Run.limits l.initial.s l.initial.waiting l.initial.left l.block l.n l.k l.edge l.s l.waiting l.left
