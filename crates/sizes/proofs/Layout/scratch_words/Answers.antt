-- `sizes::Layout::scratch_words` meets its contract. Assumes nothing.
use Rattle.std.proofs.Common.{mul-le-mul, arith}
use Rattle.sizes.proofs.Layout.scratch_words.Goals as goal

pub overflow_mul-result-3 : goal.overflow_mul-result-3
overflow_mul-result-3 c =
    omega (arith, mul-le-mul c.requires.1 c.requires.2)

pub overflow_add-result-2 : goal.overflow_add-result-2
overflow_add-result-2 c =
    omega (arith, mul-le-mul c.requires.1 c.requires.2)

pub overflow_add-result-3 : goal.overflow_add-result-3
overflow_add-result-3 c =
    omega (arith, mul-le-mul c.requires.1 c.requires.2)

pub overflow_add-result-4 : goal.overflow_add-result-4
overflow_add-result-4 c =
    omega (arith, mul-le-mul c.requires.1 c.requires.2)
