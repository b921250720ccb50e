-- `examine::examine` meets its contract: the checks refuse, or the judging says it. Assumes nothing.
use Rattle.std.proofs.Common.{sym}
use Rattle.examine.proofs.ExamineLaws.{examines_refused}
use Rattle.examine.proofs.examine.Goals as goal

pub returns-in-Err : goal.returns-in-Err
returns-in-Err c = examines_refused _ _ _ _ _ (sym c.in-Err.ensures.answer) c.refuse.ensures.answer c.refuse.ensures.cleared

pub passed-requires : goal.passed-requires
passed-requires c = rw c.in-Ok.ensures.0 (sym c.in-Ok.ensures.1.answer)

pub returns-in-Ok : goal.returns-in-Ok
returns-in-Ok c = rw c.in-Ok.ensures.0 at c.passed.ensures
