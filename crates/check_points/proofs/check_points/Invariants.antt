use Rattle.reads.specs.Reads.{held_set}
use Rattle.check_points.proofs.TurnLaws.{Turned}
use Rattle.check_points.proofs.check_points.Given as goal

abbrev pub invariant-loop-block : goal.invariant-loop-block
invariant-loop-block g l =
    Turned l.sheet.bytes.now (held_set g.R.Run.layout l.initial.s) l.sheet.script g.R.Run.layout g.R.Run.limits l.initial.left l.block l.place l.left l.initial.s l.s l.initial.t l.t
