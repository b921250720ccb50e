use Rattle.order.proofs.RunLaws.{Going}
use Rattle.order.proofs.search.Given as goal

abbrev pub invariant-loop-turn : goal.invariant-loop-turn
invariant-loop-turn g l =
    Going g.R.Run.layout g.R.Run.limits l.initial.left l.initial.s l.s l.left l.walk.top l.walk.len l._turn
