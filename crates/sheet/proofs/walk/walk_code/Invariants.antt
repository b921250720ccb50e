use Rattle.std.proofs.Common.{◌≡◌, ◌-◌, ◌≤◌}
use Rattle.records.specs.Records.{instruction_fault}
use Rattle.sheet.specs.Code.{code_from, no_code}
use Rattle.sheet.proofs.WalkLaws.{Run}
use Rattle.sheet.proofs.walk.walk_code.Given as goal

abbrev pub invariant-loop : goal.invariant-loop
invariant-loop l =
    let s = l.initial.reader.sheet.now in
    let first = l.initial.reader.at in
    let n = l.counts.instructions in
    record {
      same_sheet : l.reader.sheet ≡ l.initial.reader.sheet;
      few : l.code.awaits ≤ l.counter;
      run : Run (λ a. instruction_fault s l.counts.slots n a) s first n l.reader.at (n - l.counter);
      code : code_from s first n no_code ≡ code_from s l.reader.at (n - l.counter) l.code;
    }
