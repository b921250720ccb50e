use Rattle.std.proofs.Common.{◌-◌}
use Rattle.solver.specs.Run.{at_of}
use Rattle.solver.proofs.RunLaws.{Ran}
use Rattle.solver.proofs.drain.drain.Given as goal

abbrev pub invariant-loop-waiting : goal.invariant-loop-waiting
invariant-loop-waiting g l =
    Ran l.d g.R.Run.layout g.R.Run.limits (at_of l.initial.s l.initial.t l.initial.waiting) l.initial.left
    (at_of l.s l.t l.waiting) l.left

abbrev pub decreases-loop-waiting : goal.decreases-loop-waiting
decreases-loop-waiting g l = g.R.Run.limits.work - l.left.work
