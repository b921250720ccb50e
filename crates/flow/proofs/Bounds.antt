-- The six numbers of a block record of a script that passed the checks are below 2 ^ 32. Assumes nothing.
use mathlib.Core.Bool.{Bool}
use mathlib.Core.List.{List}
use Prim.Native.Nat.{ℕ, ◌^◌, ◌≤◌, ◌<◌}
use native.Mathlib.Decide.{dec_lt}
use native.Mathlib.Omega.{arith}
use lib.ListN.{length, get_or, get_or-eq_default}
use Rattle.dataflow.specs.Code.{Instruction, leaders, block_successors}
use Rattle.dataflow.proofs.Lists.{mem-get_or}
use Rattle.dataflow.proofs.Leaders.{leaders_below}
use Rattle.dataflow.proofs.CodeBlocks.{successors_below}
use Rattle.dataflow.specs.Lists.{flag}
use Rattle.sheet.specs.declared.script.Script.{Script}
use Rattle.sheet.specs.Decode.{parts_of}
use Rattle.instructions.specs.Sound.{Sound}
use Rattle.script.specs.Script.{flow_code, parameter_in}
use Rattle.script.proofs.ScriptLaws.{code_length, checked}
use Rattle.leaders.proofs.IndexLaws.{few_blocks}
use Rattle.edges.proofs.EdgeLaws.{flag-few}
use Rattle.blocks.proofs.CodeLaws.{few_successors}
use Rattle.blocks.proofs.ReadLaws.{targets_everywhere}

pub small-flag : (t : Bool) → flag t < 2 ^ 32
small-flag t = omega (arith, flag-few t)

module _ (s : List ℕ) (x : Script) (sound : Sound s x) where
  abbrev code : List Instruction
  code = flow_code (parts_of s)

  few : length code ≤ 65536
  few = omega (arith, code_length s x sound, sound.few_code)

  pub small_start : (i : ℕ) → get_or (leaders code) i (length code) < 2 ^ 32
  small_start i = omega (arith, leaders_below code i, few)

  pub small_count : (c : ℕ) → length (block_successors code c) < 2 ^ 32
  small_count c = omega (arith, few_successors code (targets_everywhere s x sound) c)

  pub small_successor : (c k : ℕ) → get_or (block_successors code c) k 0 < 2 ^ 32
  small_successor c k = go (dec_lt k (length (block_successors code c)))
    where
      go : Dec (k < length (block_successors code c)) → get_or (block_successors code c) k 0 < 2 ^ 32
      go (yes l) =
          omega (arith, successors_below code (parameter_in (parts_of s)) x.slots (checked s x sound) c _ (mem-get_or (block_successors code c) k 0 l), few_blocks s x sound, sound.few_code)
      go (no l) = omega (arith, get_or-eq_default (block_successors code c) 0 {n = k} (omega arith))
