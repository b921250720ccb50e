-- `rooms::count` meets its contract. Assumes nothing.
use Rattle.std.proofs.Common.{sym, ◌∙◌}
use Rattle.instructions.proofs.Sound.{passed_sound}
use Rattle.rooms.proofs.RoomLaws.{counted_on, small}
use Rattle.rooms.proofs.count.Goals as goal

pub of-requires : goal.of-requires
of-requires g c = (passed_sound c.args.sheet.now).few_slots

pub rooms-requires : goal.rooms-requires
rooms-requires g c =
    let x = c.args.sheet.now in
    rw c.of.ensures (small x.bytes.now x.script (passed_sound x) 0 c.args.lent _ c.in_ok-blocks.ensures.1)

pub returns-clause-counted : goal.returns-clause-counted
returns-clause-counted g c =
    let x = c.args.sheet.now in
    let w = c.into_words-scratch.ensures in
    rw (c.requires.2, ← c.new.ensures)
    (counted_on x.bytes.now x.script _ _ _ _ _ (passed_sound x) c.in_ok-blocks.ensures (rw c.requires.1 at w.2) (w.1 ∙ sym c.requires.3.long)
    (rw (c.requires.2, c.of.ensures, c.budget.ensures) at c.rooms.ensures))
