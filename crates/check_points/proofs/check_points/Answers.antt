-- `check_points::check_points` meets its contract: the run from here is the run from the start, and the blocks before have their entries.
-- Assumes nothing.
use Rattle.std.proofs.Common.{refl, arith, rules}
use Rattle.std.proofs.lemmas.Result.{err_from_is_err_and}
use Rattle.check_points.proofs.TurnLaws.{turned_none, turned_all, turned_held, block_held, turned_over, turned_more}
use Rattle.check_points.proofs.check_points.Goals as goal

pub loop-block-init : goal.loop-block-init
loop-block-init g c =
    turned_none g.R.Run.limits c.args.meter c.requires

pub check_block-requires : goal.check_block-requires
check_block-requires g c =
    turned_held c.loop-block.invariant (rw c.layout-block-end.ensures.is at c.loop-block-test.true)

pub returns-in_err-next : goal.returns-in_err-next
returns-in_err-next g c =
    let p = err_from_is_err_and c.from_residual.result c.from_residual.ensures.1 in
    rw (p.1, p.2) (turned_over c.loop-block.invariant (rw c.layout-block-end.ensures.is at c.loop-block-test.true) (block_held c.loop-block.invariant c.in_err-next.ensures) refl)

pub loop-block-preserved : goal.loop-block-preserved
loop-block-preserved g c =
    turned_more c.loop-block.invariant (rw c.layout-block-end.ensures.is at c.loop-block-test.true) (block_held c.loop-block.invariant c.in_ok-next.ensures) refl

pub returns : goal.returns
returns g c = turned_all c.loop-block.invariant (rw c.layout-block-end.ensures.is at c.loop-block-test.false)
