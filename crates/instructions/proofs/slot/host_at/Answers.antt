use Rattle.std.proofs.Common.{◌≡◌, ◌∙◌, sym, ◌+◌, arith}
use Rattle.format.specs.Heads.{end_at}
use Rattle.sheet.specs.Decode.{is_host}
use Rattle.instructions.specs.Slots.{slot_record_at, host_slot_at}
use Rattle.instructions.proofs.SlotLaws.{plain_host}
use Rattle.instructions.proofs.slot.host_at.Goals as goal

pub returns-then-u16_at-eq4 : goal.returns-then-u16_at-eq4
unfolding host_slot_at
returns-then-u16_at-eq4 c =
    let s = c.args.s.now in
    let at = c.args.at in
    let n : at + 6 ≡ end_at s at = omega (arith, c.u16_at.ensures, c.if-u16_at-eq4.true) in
    rw (n, plain_host s at (sym c.u16_at.ensures ∙ c.if-u16_at-eq4.true))

pub returns : goal.returns
unfolding host_slot_at slot_record_at is_host
returns c = rw (c.is_host.ensures, c.any_slot_at-record.ensures)
