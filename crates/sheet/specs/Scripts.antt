-- What the code keeps of a sheet that passes, and the answer of its check.
use Rattle.std.specs.Prelude.{List, [], ◌∷◌, ℕ, zero, suc, ◌+◌, ◌/◌, Result, Ok, Err}
use Rattle.std.proofs.Math.Option.{Option, none, some}
use Rattle.operands.specs.Choice.{pick}
use Rattle.operands.specs.Kinds.{is_await}
use Rattle.format.specs.declared.refusal.Refusal.{Refusal}
use Rattle.format.specs.Heads.{end_at, body_length}
use Rattle.records.specs.Records.{plain_slot}
use Rattle.sheet.specs.declared.script.Script.{Script}
use Rattle.sheet.specs.declared.script.Refused.{Refused}
use Rattle.sheet.specs.Decode.{id_in, slots_in, count_in, parameters_at, slots_at, code_at, refusal, id_of, Instruction, parts_of}

-- how many instructions are awaits
unfoldable pub awaits_in : List Instruction → ℕ
awaits_in [] = 0
awaits_in (i ∷ is) = pick (is_await i.kind) 1 0 + awaits_in is

-- how many words of 64 slots there are up to the last slot whose record is not plain below the host types, so that no slot behind them is a host
-- slot: of n slots from slot i on, the first with its record at an offset, after m words
unfoldable pub host_words : List ℕ → ℕ → ℕ → ℕ → ℕ → ℕ
host_words s at zero i m = m
host_words s at (suc n) i m = host_words s (end_at s at) n (suc i) (pick (plain_slot s 1 at) m (i / 64 + 1))

-- what the code keeps of a sheet that passes
unfoldable pub script_of : List ℕ → Script
script_of s = record {
  id = id_in s;
  slots = slots_in s;
  count = count_in s;
  params_at = parameters_at s + 4;
  params = body_length s (parameters_at s) / 4;
  slots_at = slots_at s;
  code_at = code_at s;
  host_words = host_words s (slots_at s) (slots_in s) 0 0;
  awaits = awaits_in (parts_of s).code;
}

abbrev pub checked_by : Option Refusal → ℕ → Script → Result Script Refused
checked_by (some r) id x = Err (record { why = r; id = id })
checked_by none id x = Ok x

-- the answer: the refusal that is due with the function id, or the script
unfoldable pub checked_of : List ℕ → Result Script Refused
checked_of s = checked_by (refusal s) (id_of s) (script_of s)
