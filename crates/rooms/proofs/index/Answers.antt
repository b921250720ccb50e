-- `rooms::index` meets its contract. Assumes nothing.
use Rattle.std.proofs.Common.{refl}
use Rattle.std.proofs.lemmas.Result.{err_from_is_err_and}
use Rattle.instructions.proofs.Sound.{passed_sound}
use Rattle.leaders.proofs.IndexLaws.{first-marked}
use Rattle.rooms.proofs.RoomLaws.{charges_met, built_on}
use Rattle.rooms.proofs.index.Goals as goal

pub returns-in_err-left : goal.returns-in_err-left
returns-in_err-left g c =
    let p = err_from_is_err_and c.from_residual.result c.from_residual.ensures.1 in
    rw (p.1, p.2) (charges_met (passed_sound c.args.sheet.now) c.in_err-left.ensures)

pub number-blocks-requires : goal.number-blocks-requires
number-blocks-requires g c =
    let x = c.args.sheet.now in
    first-marked x.bytes.now x.script _ (passed_sound x) (c.in_ok-left.ensures.led _ refl)

pub returns : goal.returns
returns g c = built_on (passed_sound c.args.sheet.now) c.requires c.in_ok-left.ensures c.number-blocks.ensures
