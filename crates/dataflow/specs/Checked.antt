-- What the sheet checks give: the side conditions of every law on code.
use Rattle.std.specs.Prelude.{◌≡◌, Bool, true, ℕ, suc, ◌*◌, ◌≤◌, ◌<◌, length}
use mathlib.Core.List.{List, Memᴰ}
use Rattle.dataflow.specs.Program.{EmptiesNothing}
use Rattle.dataflow.specs.Code.{Instruction, instruction_at, program}

-- Refusals 6 to 9 of document 01 are not due. Slots at or above the slot count are never read, written or parameters.
pub record Checked (code : List Instruction) (parameter : ℕ → Bool) (slots : ℕ) : Type 0 where
  -- 6
  pub some_code : 0 < length code
  -- 7
  pub reads_below : (i s : ℕ) → (program code parameter).reads i s ≡ true → s < slots
  pub writes_below : (i s : ℕ) → (program code parameter).writes i s ≡ true → s < slots
  pub parameters_below : (s : ℕ) → parameter s ≡ true → s < slots
  -- 8
  pub targets_below : (i t : ℕ) → Memᴰ t (instruction_at code i).targets → t < length code
  -- 9
  pub closed_end : (i : ℕ) → suc i ≡ length code → (instruction_at code i).ends ≡ true

-- code that passed the checks, and sets of so many words are wide enough for its slots
pub record Scripted (code : List Instruction) (parameter : ℕ → Bool) (words : ℕ) : Type 0 where
  pub slots : ℕ
  pub checked : Checked code parameter slots
  pub wide : slots ≤ 64 * words
  pub empties : EmptiesNothing (program code parameter)
