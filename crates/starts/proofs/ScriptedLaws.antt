-- The code of a sheet that passed meets what `fixed_points` asks of code. Assumes nothing.
use mathlib.Core.Path.{◌≡◌, refl, ap}
use mathlib.Core.Bool.{Bool, true}
use mathlib.Core.List.{List, []}
use Prim.Native.Nat.{ℕ, ◌*◌, ◌≤◌, ◌<◌}
use native.Mathlib.Decide.{dec_lt}
use native.Mathlib.Omega.{arith}
use Rattle.dataflow.specs.Lists.{elem}
use Rattle.dataflow.specs.Code.{Instruction, instruction_at}
use Rattle.sheet.specs.declared.script.Script.{Script}
use Rattle.sheet.specs.Decode.{parts_of}
use Rattle.instructions.specs.Sound.{Sound}
use Rattle.script.specs.Script.{flow_code}
use Rattle.script.proofs.ScriptLaws.{code_at, code_past}
use Rattle.starts.proofs.StartLaws.{checked-with}
use Rattle.dataflow.specs.Checked.{Scripted}

module _ (s : List ℕ) (x : Script) (sound : Sound s x) where
  -- no instruction of it empties a slot
  nothing-emptied : (i : ℕ) → (instruction_at (flow_code (parts_of s)) i).emptied ≡ []
  nothing-emptied i = go (dec_lt i x.count)
    where
      go : Dec (i < x.count) → (instruction_at (flow_code (parts_of s)) i).emptied ≡ []
      go (yes l) = ap (λ (v : Instruction). v.emptied) (code_at s x sound i l)
      go (no l) = ap (λ (v : Instruction). v.emptied) (code_past s x sound i (omega arith))

  -- with whatever slots of it as parameters
  module _ (parameter : ℕ → Bool) (below : (i : ℕ) → parameter i ≡ true → i < x.slots) where
    pub scripted : (words : ℕ) → x.slots ≤ 64 * words → Scripted (flow_code (parts_of s)) parameter words
    scripted words wide = record {
      slots = x.slots;
      checked = checked-with s x sound parameter below;
      wide = wide;
      empties = λ i t. ap (elem t) (nothing-emptied i);
    }

    -- its slots are the script's
    pub scripted_slots : (words : ℕ) (wide : x.slots ≤ 64 * words) → (scripted words wide).slots ≡ x.slots
    unfolding scripted
    scripted_slots words wide = refl
