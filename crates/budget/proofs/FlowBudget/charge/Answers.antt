use Rattle.std.proofs.Common.{arith}
use Rattle.budget.proofs.BudgetLaws.{charged_met, charged_over}
use Rattle.budget.proofs.FlowBudget.charge.Goals as goal

pub returns-then-budget-limits : goal.returns-then-budget-limits
returns-then-budget-limits c =
    charged_met c.args.limits c.args.self c.args.count _ (omega arith) c.if-budget-limits.true

pub returns-else-budget-limits : goal.returns-else-budget-limits
returns-else-budget-limits c =
    charged_over c.args.limits c.args.self c.args.count _ (omega arith) c.if-budget-limits.false
