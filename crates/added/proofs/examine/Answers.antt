-- `added::examine` meets its contract. Assumes nothing.
use Rattle.std.proofs.Common.{refl}
use Rattle.added.proofs.ExamineLaws.{refuses, was_checked, passes}
use Rattle.added.proofs.examine.Goals as goal

pub returns-in-Err : goal.returns-in-Err
returns-in-Err c = refuses _ _ _ _ _ _ _ _ c.args.added _ _ c.in-Err.ensures c.refuse.ensures.answer c.refuse.ensures.cleared

pub passed-requires : goal.passed-requires
passed-requires c = was_checked _ _ _ c.args.added _ c.in-Ok.ensures

pub returns-in-Ok : goal.returns-in-Ok
returns-in-Ok c = passes _ _ _ _ _ _ _ _ _ c.args.added _ _ _ _ c.in-Ok.ensures refl c.unwrap_or.ensures c.passed.ensures
