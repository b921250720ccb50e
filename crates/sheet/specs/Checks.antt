-- What the check of a sheet ensures: it answers what `decode` says, by the rows of the table, and where the parts stand.
use Rattle.std.specs.Prelude.{◌≡◌, List, ℕ, ◌+◌, ◌*◌, ◌≤◌, length, Result, Ok, Err}
use Rattle.format.specs.Refusals.{number_of}
use Rattle.sheet.specs.declared.script.Script.{Script}
use Rattle.sheet.specs.declared.script.Refused.{Refused}
use Rattle.sheet.specs.Decode.{parts_of, Decoded, refused, parts, decode}
use Rattle.sheet.specs.Rows.{Table}
use Rattle.sheet.specs.Scripts.{checked_of}

-- an answer in document 01's numbers
abbrev pub outcome_of : List ℕ → Result Script Refused → Decoded
outcome_of s (Err e) = refused (number_of e.why) e.id
outcome_of s (Ok x) = parts (parts_of s)

-- the parts of a script that passed lie in the sheet
pub record Inside (s : List ℕ) (x : Script) : Type 0 where
  pub params_end : x.params_at + 4 * x.params ≤ x.slots_at
  pub slots_end : x.slots_at ≤ x.code_at
  pub code_end : x.code_at ≤ length s

-- what `check` ensures
pub record Checks (s : List ℕ) (r : Result Script Refused) : Type 0 where
  -- it answers as defined
  pub answer : r ≡ checked_of s
  -- in document 01's numbers that is what the sheet means
  pub outcome : outcome_of s r ≡ decode s
  -- each of 1 to 9 and 17 exactly if the refusal table says so, and no other number
  pub table : Table s (outcome_of s r)
  -- and each offset of a script lies in the sheet
  pub inside : (x : Script) → r ≡ Ok x → Inside s x
