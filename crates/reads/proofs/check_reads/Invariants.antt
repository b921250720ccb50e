use Rattle.script.specs.Script.{flow_code}
use Rattle.sheet.specs.Decode.{parts_of}
use Rattle.reads.specs.Reads.{held_set}
use Rattle.reads.proofs.ReadLaws.{Reading}
use Rattle.reads.proofs.check_reads.Given as goal

abbrev pub invariant-loop-pc : goal.invariant-loop-pc
invariant-loop-pc g l =
    Reading (flow_code (parts_of l.sheet.bytes.now)) (held_set g.R.Run.layout l.initial.s) g.R.Run.layout g.R.Run.limits l.initial.left l.left l.fn.start l.fn.end l.pc l.awaits
    l.initial.s l.s
