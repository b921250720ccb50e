use Rattle.std.proofs.Common.{◌≡◌, length}
use Rattle.script.specs.Script.{flow_code}
use Rattle.sheet.specs.Decode.{parts_of}
use Rattle.blocks.proofs.BuildLaws.{Building}
use Rattle.blocks.proofs.blocks.blocks.Given as goal

abbrev pub invariant-loop-index : goal.invariant-loop-index
invariant-loop-index g l = record {
  long : length l.t ≡ length l.initial.t;
  building : Building (flow_code (parts_of l.sheet.bytes.now)) g.R.Run.layout g.R.Run.limits l.initial.left l.left l.index l.initial.s l.s l.t;
}
