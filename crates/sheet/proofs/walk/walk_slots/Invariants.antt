use Rattle.std.proofs.Common.{◌≡◌, ◌-◌, ◌*◌}
use Rattle.records.specs.Records.{slot_fault}
use Rattle.sheet.specs.Scripts.{host_words}
use Rattle.sheet.proofs.WalkLaws.{Run}
use Rattle.sheet.proofs.walk.walk_slots.Given as goal

abbrev pub invariant-loop-word : goal.invariant-loop-word
invariant-loop-word l =
    let s = l.initial.reader.sheet.now in
    let first = l.initial.reader.at in
    let left = l.slots - 64 * l.word in record {
      same_sheet : l.reader.sheet ≡ l.initial.reader.sheet;
      run : Run (λ a. slot_fault s a) s first l.slots l.reader.at left;
      words : host_words s first l.slots 0 0 ≡ host_words s l.reader.at left (64 * l.word) l.host_words;
    }
