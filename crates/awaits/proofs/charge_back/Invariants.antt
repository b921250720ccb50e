use Rattle.std.proofs.Common.{◌≡◌, ◌≤◌}
use Rattle.memory.specs.Cells.{word}
use Rattle.memory.specs.Names.{cost_cell}
use Rattle.verdict.specs.Points.{on}
use Rattle.awaits.proofs.ChargeLaws.{back_from}
use Rattle.awaits.proofs.charge_back.Given as goal

abbrev pub invariant-loop-pc : goal.invariant-loop-pc
invariant-loop-pc g l = record {
  low : l.start ≤ l.pc;
  charged : back_from (word l.s cost_cell) g.R.Run.limits l.initial.left l.end l.pc ≡ on l.left;
}
