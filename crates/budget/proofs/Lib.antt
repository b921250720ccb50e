-- Laws of charging a budget.
pub mod BudgetLaws
pub mod LimitLaws
