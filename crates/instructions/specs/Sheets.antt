-- A sheet that was checked.
use Rattle.std.specs.Prelude.{◌≡◌, List, ℕ, Result, Ok, Err}
use Rattle.sheet.specs.declared.script.Refused.{Refused}
use Rattle.sheet.specs.Checks.{Checks}
use Rattle.instructions.specs.declared.checked.Sheet.{Sheet}
use Rattle.instructions.specs.declared.checked.CheckedSheet.{CheckedSheet}

-- the check answers these bytes with what is known of them, or why they are refused
abbrev pub SheetChecks : List ℕ → Result Sheet Refused → Type 0
SheetChecks s (Ok x) = (x.bytes.now ≡ s) × Checks s (Ok x.script)
SheetChecks s (Err e) = Checks s (Err e)

-- the sheet in such an answer
abbrev pub sheet_in : Result CheckedSheet Refused → Result Sheet Refused
sheet_in (Ok x) = Ok x.sheet
sheet_in (Err e) = Err e
