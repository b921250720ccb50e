use Rattle.solver.proofs.SeedLaws.{Seeding}
use Rattle.solver.proofs.seed.queue.Given as goal

abbrev pub invariant-loop-i : goal.invariant-loop-i
invariant-loop-i g l = Seeding g.R.Run.layout l.d l.n l.initial.s l.i l.s
