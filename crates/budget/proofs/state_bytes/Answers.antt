-- `budget::state_bytes` meets its contract. Assumes nothing.
use Rattle.std.proofs.Common.{arith}
use Rattle.budget.proofs.BudgetLaws.{state-small}
use Rattle.budget.proofs.state_bytes.Goals as goal

pub overflow_mul-result-2 : goal.overflow_mul-result-2
overflow_mul-result-2 c =
    record { fits = omega (arith, state-small c.args.blocks c.args.words (omega arith) (omega arith)) }

pub overflow_add-result-2 : goal.overflow_add-result-2
overflow_add-result-2 c =
    record { fits = omega (arith, state-small c.args.blocks c.args.words (omega arith) (omega arith)) }
