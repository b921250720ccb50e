-- `examine::passed` meets its contract. Assumes nothing.
use Rattle.std.proofs.Common.{arith, rules}
use Rattle.budget.proofs.LimitLaws.{counted-below}
use Rattle.examine.proofs.ExamineLaws.{acceptable, accepts_on, refuses_on, judges_counted}
use Rattle.examine.proofs.passed.Goals as goal

pub judge-requires : goal.judge-requires
judge-requires c = counted-below c.args.limits _ c.counted.ensures

pub accept-requires : goal.accept-requires
accept-requires c =
    acceptable _ _ _ _ _ _ _ _ c.requires _ _ _ (judges_counted c.counted.ensures c.judge.ensures) _ c.in-Ok.is

pub returns-in-Ok : goal.returns-in-Ok
returns-in-Ok c =
    accepts_on _ _ _ _ _ _ _ _ c.requires _ _ _ (judges_counted c.counted.ensures c.judge.ensures) _ c.in-Ok.is (search rules)
    (omega (arith, c.judge.auto.t)) _ _ c.accept.ensures.answer c.accept.ensures.kept

pub returns-in-Err : goal.returns-in-Err
returns-in-Err c =
    refuses_on _ _ _ _ _ _ _ _ c.requires _ _ _ (judges_counted c.counted.ensures c.judge.ensures) _ c.in-Err.is
    (omega (arith, c.judge.auto.t)) _ _ c.refuse.ensures.answer c.refuse.ensures.cleared
