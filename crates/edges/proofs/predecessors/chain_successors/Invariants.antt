use Rattle.std.proofs.Common.{List, ◌≡◌, ℕ, suc, ◌+◌}
use Rattle.edges.specs.Chains.{ChainedSince}
use Rattle.edges.specs.Edges.{Holds}
use Rattle.edges.specs.Predecessors.{chain_cells}
use Rattle.memory.specs.Frame.{Only, NoRow}
use Rattle.memory.specs.Scratch.{Whole}
use Rattle.edges.proofs.ChainLaws.{Partly}
use Rattle.edges.proofs.predecessors.chain_successors.Given as goal

abbrev pub invariant-loop-k : goal.invariant-loop-k
invariant-loop-k g l = record {
  only : Only chain_cells NoRow l.initial.s l.s;
  places : l.low ≡ l.base + l.n;
  whole : Whole g.R.Run.layout l.s;
  partly : (next : ℕ → List ℕ) → Holds next g.R.Run.layout l.initial.s → ChainedSince next g.R.Run.layout (suc l.block) l.low l.initial.s
      → Partly next g.R.Run.layout l.block l.base l.k l.s;
}
