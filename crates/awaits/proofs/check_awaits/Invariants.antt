use Rattle.std.proofs.Common.{◌≤◌}
use Rattle.awaits.proofs.BackwardLaws.{Awaiting}
use Rattle.awaits.proofs.check_awaits.Given as goal

abbrev pub invariant-loop-pc : goal.invariant-loop-pc
invariant-loop-pc g l = record {
  low : l.start ≤ l.pc;
  awaiting : Awaiting l.sheet.bytes.now l.sheet.script g.R.Run.layout g.R.Run.limits l.initial.left l.left l.end l.pc l.place l.next l.initial.s l.s l.initial.t l.t;
}
