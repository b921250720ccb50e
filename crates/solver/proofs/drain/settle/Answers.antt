-- `solver::drain::settle` meets its contract: the same row ends the visit, another is stored and told. Assumes nothing.
use Rattle.std.proofs.Common.{arith}
use Rattle.solver.proofs.RunLaws.{settled_same, settled_new}
use Rattle.solver.proofs.drain.settle.Goals as goal

pub returns-then-same : goal.returns-then-same
returns-then-same g c =
    let a = c.args in
    let p = c.requires in (
      settled_same a.d g.R.Run.layout g.R.Run.limits a.block a.s.now a.t.now a.from a.meter c.kept-kept.ensures c.running-running.ensures
          (rw c.view.ensures at c.same.ensures) c.if-same.true,
      (p.1, omega arith, p.2),
    )

pub returns : goal.returns
returns g c =
    let a = c.args in
    let told = c.tell.ensures c.store.new.self in (
      settled_new a.d g.R.Run.layout g.R.Run.limits a.block a.s.now a.t.now a.from a.meter c.kept-kept.ensures c.running-running.ensures
          (rw c.view.ensures at c.same.ensures) c.if-same.false (rw c.view-2.ensures at c.store.ensures) told.0,
      told.1,
    )
