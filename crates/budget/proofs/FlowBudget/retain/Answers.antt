use Rattle.std.proofs.Common.{◌≡◌, refl, arith, le-leb}
use borrow.Author.Tests.{lt-leb}
use Rattle.dataflow.specs.Charges.{saturating_sum}
use Rattle.budget.specs.Budget.{retained}
use Rattle.budget.proofs.FlowBudget.retain.Goals as goal

pub returns-then-budget-limits : goal.returns-then-budget-limits
unfolding retained
returns-then-budget-limits c =
    let e : c.saturating_add.result ≡ saturating_sum c.args.self.retained c.args.bytes = omega arith in
    rw (← e, le-leb _ _ c.if-budget-limits.true) refl

pub returns-else-budget-limits : goal.returns-else-budget-limits
unfolding retained
returns-else-budget-limits c =
    let e : c.saturating_add.result ≡ saturating_sum c.args.self.retained c.args.bytes = omega arith in
    rw (← e, lt-leb _ _ c.if-budget-limits.false) refl
