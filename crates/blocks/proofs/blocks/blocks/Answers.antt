-- `blocks::blocks::blocks` meets its contract. Assumes nothing.
use Rattle.std.proofs.Common.{refl, ap, ◌∙◌, arith, length}
use Rattle.std.proofs.lemmas.Result.{err_from_is_err_and}
use lib.ListN.{length-set}
use Rattle.memory.proofs.SetsLaws.{sets_count}
use Rattle.blocks.proofs.BuildLaws.{building_none, building_ready, building_more, built_over, built_all}
use Rattle.blocks.proofs.blocks.blocks.Goals as goal

pub loop-index-init : goal.loop-index-init
loop-index-init g c = record { long = refl; building = building_none }

pub block-requires : goal.block-requires
block-requires g c =
    (building_ready c.requires c.loop-index.invariant.building, rw c.layout-index-end.ensures.is at c.loop-index-test.true)

pub returns-in_err-left : goal.returns-in_err-left
returns-in_err-left g c =
    let p = err_from_is_err_and c.from_residual.result c.from_residual.ensures.1 in
    let h = rw c.layout-index-end.ensures.is at c.loop-index-test.true in
    rw (p.1, p.2) (built_over c.loop-index.invariant.building h c.in_err-left.ensures c.requires.fits.blocks refl)

pub loop-index-preserved : goal.loop-index-preserved
loop-index-preserved g c =
    let l = c.loop-index in
    let t = c.layout-index-end.ensures in
    let h = rw t.is at c.loop-index-test.true in record {
      long = ap length c.fresh.ensures ∙ length-set _ _ _ ∙ length-set _ _ _ ∙ l.invariant.long;
      building = building_more l.invariant.building h c.in_ok-left.ensures refl
          (omega (arith, h, l.invariant.long, t.whole.count, sets_count g.R.Run.layout)) c.fresh.ensures;
    }

pub returns : goal.returns
returns g c =
    let t = c.layout-index-end.ensures in
    let e = rw t.is at c.loop-index-test.false in
    let f = rw t.is at c.loop-index.auto.index-end in
    built_all c.loop-index.invariant.building (omega (arith, e, f)) c.requires.fits.blocks
