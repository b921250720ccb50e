-- The answer of the exported check, for any bytes.
use Rattle.std.specs.Prelude.{Result, Ok, Err}
use Rattle.format.specs.Refusals.{number_of}
use Rattle.sheet.specs.declared.script.Script.{Script}
use Rattle.sheet.specs.declared.script.Refused.{Refused}
use Rattle.sheet_c.specs.declared.SheetFacts.{SheetFacts}

-- number 0 and the script's facts; or the refusal's number and function id, and zeros
abbrev pub facts_of : Result Script Refused → SheetFacts
facts_of (Ok x) = record {
  number = 0;
  id = x.id;
  slots = x.slots;
  count = x.count;
  params_at = x.params_at;
  params = x.params;
  slots_at = x.slots_at;
  code_at = x.code_at;
  awaits = x.awaits;
}
facts_of (Err e) = record {
  number = number_of e.why;
  id = e.id;
  slots = 0;
  count = 0;
  params_at = 0;
  params = 0;
  slots_at = 0;
  code_at = 0;
  awaits = 0;
}
