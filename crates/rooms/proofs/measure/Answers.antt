-- `rooms::measure` meets its contract. Assumes nothing.
use Rattle.std.proofs.Common.{arith, rules}
use Rattle.std.proofs.lemmas.Result.{err_from_is_err_and}
use Rattle.instructions.proofs.Sound.{passed_sound}
use Rattle.rooms.proofs.RoomLaws.{measured_over, measured_on}
use Rattle.rooms.proofs.measure.Goals as goal

pub returns-in_err-left : goal.returns-in_err-left
returns-in_err-left c =
    let a = c.args in
    let p = err_from_is_err_and c.from_residual.result c.from_residual.ensures.1 in
    rw (p.1, p.2) (measured_over a.sheet.now.bytes.now a.sheet.now.script a.limits a.lent a.budget _ _ _ c.in_err-left.ensures)

pub invariant_of-marks : goal.invariant_of-marks
invariant_of-marks c = record {
  bounded = record {
    instructions = (passed_sound c.args.sheet.now).few_code;
    blocks = omega arith;
    words = omega arith;
    awaits = omega arith;
    extra = omega arith;
  };
}

pub returns : goal.returns
returns c =
    let a = c.args in
    measured_on a.sheet.now.bytes.now a.sheet.now.script a.limits a.lent a.budget _ _ _ _ c.in_ok-left.ensures (search (rules, c.count.ensures.counted))
