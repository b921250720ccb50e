use Rattle.script.specs.Script.{flow_code}
use Rattle.sheet.specs.Decode.{parts_of}
use Rattle.reads.proofs.FrontLaws.{Charging}
use Rattle.reads.proofs.charge_reads.Given as goal

abbrev pub invariant-loop-pc : goal.invariant-loop-pc
invariant-loop-pc g l = Charging (flow_code (parts_of l.sheet.bytes.now)) g.R.Run.limits l.initial.left l.left l.fn.start l.fn.end l.pc l.awaits
