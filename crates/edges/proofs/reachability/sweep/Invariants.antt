use Rattle.std.proofs.Common.{List, ℕ, ◌-◌}
use Rattle.edges.specs.Edges.{Holds}
use Rattle.edges.specs.Reachability.{sweep_cells}
use Rattle.memory.specs.Frame.{Only, NoRow}
use Rattle.edges.proofs.SweepLaws.{Swept}
use Rattle.edges.proofs.reachability.sweep.Given as goal

abbrev pub invariant-loop-taken : goal.invariant-loop-taken
invariant-loop-taken g l = record {
  only : Only sweep_cells NoRow l.initial.s l.s;
  swept : (next : ℕ → List ℕ) → Holds next g.R.Run.layout l.initial.s
      → Swept next g.R.Run.layout g.R.Run.limits l.initial.left (g.R.Run.layout.blocks - l._taken) l.top l.left l.s;
}
