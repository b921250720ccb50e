-- `awaits::check_awaits` meets its contract: what the run has come to at pc. Assumes nothing.
use Rattle.std.proofs.Common.{refl, ◌-◌, arith}
use Rattle.std.proofs.lemmas.Result.{err_from_is_err_and}
use Rattle.script.specs.Script.{flow_code}
use Rattle.sheet.specs.Decode.{parts_of}
use Rattle.awaits.proofs.BackwardLaws.{awaiting_coded, awaiting_more, awaits_stopped, room-before}
use Rattle.awaits.proofs.check_awaits.Goals as goal

pub check_instruction-requires : goal.check_instruction-requires
check_instruction-requires g c =
    let a = c.args in
    let l = c.loop-pc in
    let i = c.loop-pc.invariant in (
      awaiting_coded c.requires.0 i.awaiting,
      omega arith,
      room-before (flow_code (parts_of a.sheet.now.bytes.now)) a.start a.end l.pc (l.pc - 1) a.place l.next (omega arith) (omega arith) (omega arith)
          c.requires.3 i.awaiting.places,
      omega (arith, i.awaiting.places, c.requires.4),
    )

pub returns-in_err-n : goal.returns-in_err-n
returns-in_err-n g c =
    let p = err_from_is_err_and c.from_residual.result c.from_residual.ensures.1 in
    rw (p.1, p.2) (awaits_stopped c.loop-pc.invariant.awaiting (omega arith) (omega arith) c.in_err-n.ensures (omega arith) refl)

pub loop-pc-preserved : goal.loop-pc-preserved
loop-pc-preserved g c =
    record { low = omega arith; awaiting = awaiting_more c.loop-pc.invariant.awaiting (omega arith) (omega arith) c.in_ok-n.ensures refl }
