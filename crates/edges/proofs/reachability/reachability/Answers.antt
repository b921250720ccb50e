-- `edges::reachability::reachability` meets its contract. Assumes nothing.
use Rattle.std.proofs.Common.{refl, arith}
use Rattle.edges.specs.Reachability.{sweep_cells}
use Rattle.memory.specs.Names.{reachable_cell}
use Rattle.memory.proofs.FrameLaws.{only_then}
use Rattle.edges.proofs.EdgeLaws.{holds-only, cleared-cell, cleared-only}
use Rattle.edges.proofs.StackLaws.{search-stored, begun}
use Rattle.edges.proofs.SweepLaws.{reached-from}
use Rattle.edges.proofs.reachability.reachability.Goals as goal

pub sweep-requires : goal.sweep-requires
sweep-requires g c =
    let pre = c.requires in
    let e = cleared-cell reachable_cell (omega arith) c.clear.ensures.whole c.clear.ensures.stored in
    let f = search-stored 0 1 0 0 c.put.ensures.stored c.put-2.ensures.stored in (
      (pre.1.0, holds-only (only_then (cleared-only sweep_cells refl e) f) refl refl pre.1.1),
      begun c.put.ensures.whole pre.0 e.zeros c.put.ensures.stored c.put-2.ensures.stored,
    )

pub returns : goal.returns
returns g c =
    let e = cleared-cell reachable_cell (omega arith) c.clear.ensures.whole c.clear.ensures.stored in
    let f = search-stored 0 1 0 0 c.put.ensures.stored c.put-2.ensures.stored in
    reached-from (only_then (cleared-only sweep_cells refl e) f) c.sweep.ensures
