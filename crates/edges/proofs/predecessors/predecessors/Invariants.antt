use Rattle.std.proofs.Common.{List, ℕ}
use Rattle.edges.specs.Chains.{ChainedSince}
use Rattle.edges.specs.Edges.{Holds}
use Rattle.edges.specs.Predecessors.{chain_cells}
use Rattle.memory.specs.Frame.{Only, NoRow}
use Rattle.edges.proofs.predecessors.predecessors.Given as goal

abbrev pub invariant-loop-block : goal.invariant-loop-block
invariant-loop-block g l = record {
  only : Only chain_cells NoRow l.initial.s l.s;
  chained : (next : ℕ → List ℕ) → Holds next g.R.Run.layout l.initial.s → ChainedSince next g.R.Run.layout l.block l.low l.s;
}
