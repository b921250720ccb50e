use Rattle.std.proofs.Common.{◌≡◌}
use Rattle.records.specs.Records.{slot_fault}
use Rattle.sheet.proofs.WalkLaws.{Run}
use Rattle.sheet.proofs.walk.any_slots.Given as goal

abbrev pub invariant-loop-left : goal.invariant-loop-left
invariant-loop-left l =
    let s = l.initial.reader.sheet.now in record {
      same_sheet : l.reader.sheet ≡ l.initial.reader.sheet;
      run : Run (λ a. slot_fault s a) s l.initial.reader.at l.slots l.reader.at l.left;
    }

abbrev pub decreases-loop-left : goal.decreases-loop-left
decreases-loop-left l = l.left
