use Rattle.std.proofs.Common.{◌+◌, ◌*◌, ◌≤◌}
use Rattle.listing.specs.Lines.{spaced}
use Rattle.listing.specs.Text.{Writes}
use Rattle.listing.proofs.SlotLaws.{slots_below}
use Rattle.listing.proofs.awaits.Await.write_slots.Given as goal

abbrev pub invariant-loop-slot : goal.invariant-loop-slot
invariant-loop-slot l = record {
  short : l.out.at ≤ l.initial.out.at + 21 * l.slot;
  writes : Writes l.initial.out l.out (spaced (slots_below l.self.slots.now l.slot));
}
