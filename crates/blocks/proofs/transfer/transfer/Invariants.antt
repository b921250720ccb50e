use Rattle.script.specs.Script.{flow_code}
use Rattle.sheet.specs.Decode.{parts_of}
use Rattle.blocks.specs.Blocks.{Ready}
use Rattle.blocks.proofs.TransferLaws.{Transferring}
use Rattle.blocks.proofs.transfer.transfer.Given as goal

abbrev pub invariant-loop-pc : goal.invariant-loop-pc
invariant-loop-pc g l = record {
  ready : Ready l.sheet.bytes.now l.sheet.script g.R.Run.layout l.s;
  going : Transferring (flow_code (parts_of l.sheet.bytes.now)) g.R.Run.limits l.initial.left l.left l.block l.fn.start l.pc l.initial.s l.s;
}
