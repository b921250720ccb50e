-- `propagate::propagate` meets its contract. Assumes nothing.
use Rattle.std.proofs.Common.{sym}
use Rattle.std.proofs.lemmas.Result.{err_from_is_err_and}
use Rattle.std.specs.Prelude.{Ok, Err}
use Rattle.budget.proofs.BudgetLaws.{met-one}
use Rattle.propagate.proofs.RoundLaws.{good_seeded, propagated_as}
use Rattle.propagate.proofs.propagate.Goals as goal

pub drain-requires : goal.drain-requires
drain-requires g c =
    let a = c.args in (
      good_seeded a.d c.layout-2.ensures.whole c.requires.0 c.seed.ensures,
      (met-one g.R.Run.limits a.meter _ (sym c.in_ok-left.ensures)).1,
      c.requires.1,
    )

pub returns-in_err-rest : goal.returns-in_err-rest
returns-in_err-rest g c =
    let e = c.in_err-rest.ensures in
    let p = err_from_is_err_and c.from_residual-in_err-rest.result c.from_residual-in_err-rest.ensures.1 in
    rw (p.1, p.2) (propagated_as (Err _) c.layout-2.ensures.whole c.layout.ensures.whole c.requires.0 c.layout-2.ensures.is
    c.in_ok-left.ensures c.seed.ensures e.0 e.1)

pub returns : goal.returns
returns g c =
    let e = c.in_ok-rest.ensures in
    propagated_as (Ok _) c.layout-2.ensures.whole c.layout.ensures.whole c.requires.0 c.layout-2.ensures.is
    c.in_ok-left.ensures c.seed.ensures e.0 e.1
