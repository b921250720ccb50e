-- `edges::predecessors::predecessors` meets its contract. Assumes nothing.
use Rattle.std.proofs.Common.{refl, arith}
use Rattle.edges.specs.Predecessors.{chain_cells}
use Rattle.memory.specs.Names.{predecessor_count_cell}
use Rattle.edges.proofs.ChainLaws.{chained_none, chained-back, chained-all}
use Rattle.edges.proofs.EdgeLaws.{holds-only, cleared-cell, cleared-only}
use Rattle.memory.proofs.FrameLaws.{only_none, only_then}
use Rattle.edges.proofs.predecessors.predecessors.Goals as goal

pub chain_successors-low-requires : goal.chain_successors-low-requires
chain_successors-low-requires g c =
    let l = c.loop-block in
    let n = c.requires in
    let e = cleared-cell predecessor_count_cell (omega arith) c.clear.ensures.whole c.clear.ensures.stored in
    let h = holds-only (cleared-only chain_cells refl e) refl refl n.1 in (
      omega (arith, rw c.layout-y.ensures.is at l.auto.block),
      (n.0, holds-only l.invariant.only refl refl h, chained-back n.0 c.loop-block-test.true (l.invariant.chained n.0 h)),
    )

pub loop-block-init : goal.loop-block-init
loop-block-init g c =
    let e = cleared-cell predecessor_count_cell (omega arith) c.clear.ensures.whole c.clear.ensures.stored in
    rw c.layout-y.ensures.is record { only = only_none _; chained = λ next h. chained_none next h e }

pub loop-block-preserved : goal.loop-block-preserved
loop-block-preserved g c =
    let l = c.loop-block in
    let e = c.chain_successors-low.ensures in record {
      only = only_then l.invariant.only e.only;
      chained = λ next h.
          e.chains next (holds-only l.invariant.only refl refl h) (chained-back next c.loop-block-test.true (l.invariant.chained next h));
    }

pub returns : goal.returns
returns g c =
    let l = c.loop-block in
    let e = cleared-cell predecessor_count_cell (omega arith) c.clear.ensures.whole c.clear.ensures.stored in
    let f = cleared-only chain_cells refl e in
    record {
      chained = λ next h.
          chained-all next g.R.Run.layout _ l.block l.low c.loop-block-test.false (l.invariant.chained next (holds-only f refl refl h));
      only = only_then f l.invariant.only;
    }
