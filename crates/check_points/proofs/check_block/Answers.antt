-- `check_points::check_block` meets its contract: the word REACHABLE is the mark. Assumes nothing.
use Rattle.check_points.proofs.CheckedLaws.{is_reached, block_passed}
use Rattle.check_points.proofs.check_block.Goals as goal

pub get-requires : goal.get-requires
get-requires g c = c.requires.inside

pub returns-then-get-eq-UNREACHABLE : goal.returns-then-get-eq-UNREACHABLE
returns-then-get-eq-UNREACHABLE g c =
    block_passed c.requires c.get.ensures.is g.R.Run.limits c.args.meter c.if-get-eq-UNREACHABLE.true

pub check_reached-requires : goal.check_reached-requires
check_reached-requires g c = (c.requires, is_reached c.requires c.get.ensures.is c.if-get-eq-UNREACHABLE.false)
