use Rattle.std.proofs.Common.{List, ◌≡◌, ℕ, replicate}
use Rattle.budget.specs.Budget.{charged}
use Rattle.std.specs.Prelude.{Ok}
use Rattle.dataflow.specs.Search.{Sweep}
use Rattle.edges.specs.Edges.{Holds}
use Rattle.edges.specs.Reachability.{sweep_cells}
use Rattle.edges.specs.Stack.{Sweeps}
use Rattle.memory.specs.Frame.{Only, NoRow}
use Rattle.edges.proofs.SweepLaws.{Adding}
use Rattle.edges.proofs.reachability.push_successors.Given as goal

abbrev pub invariant-loop-k : goal.invariant-loop-k
invariant-loop-k g l = record {
  only : Only sweep_cells NoRow l.initial.s l.s;
  paid : charged g.R.Run.limits l.initial.left (replicate l.k 1) ≡ Ok l.left;
  adding : (next : ℕ → List ℕ) → Holds next g.R.Run.layout l.initial.s → (r : Sweep) → Sweeps g.R.Run.layout l.initial.high r l.initial.s
      → Adding next g.R.Run.layout l.block l.k l.high r l.s;
}
