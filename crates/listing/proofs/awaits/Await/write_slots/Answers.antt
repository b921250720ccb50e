use Rattle.std.proofs.Common.{arith, sym, ◌∙◌}
use Rattle.listing.proofs.SlotLaws.{text_with, text_without}
use Rattle.listing.proofs.awaits.Await.write_slots.Goals as goal
use Rattle.listing.proofs.awaits.Await.write_slots.Goals.{then-contains, else-contains}

pub loop-slot-preserved : goal.loop-slot-preserved
loop-slot-preserved c =
    let ws = c.args.self.now.slots.now in
    let so_far = c.loop-slot.invariant in
    elim c.if-contains.branch [
      | then-contains w ↦ rw w.out-is (record {
        short = omega (arith, so_far.short, w.number.ensures.short);
        writes = text_with ws c.loop-slot.slot (sym c.contains.ensures ∙ w.if-contains.true) so_far.writes w.number.ensures.writes;
      })
      | else-contains w ↦ rw w.out-is (record {
        short = omega (arith, so_far.short);
        writes = text_without ws c.loop-slot.slot (sym c.contains.ensures ∙ w.if-contains.false) so_far.writes;
      })
    ]
