-- The index of a script's blocks, as the words hold it: where each instruction's record stands, where each block begins, and which block
-- begins at a leader.
use Rattle.std.specs.Prelude.{◌≡◌, true, List, ℕ, ◌*◌, ◌≤◌, ◌<◌, length, get_or}
use Rattle.dataflow.specs.Code.{leader, leaders, index_of}
use Rattle.dataflow.specs.Results.{block_count}
use Rattle.memory.specs.Cells.{Mem, word}
use Rattle.memory.specs.Names.{block_of_cell, leader_cell, offset_cell}
use Rattle.sizes.specs.declared.Layout.{Layout}
use Rattle.sheet.specs.declared.script.Script.{Script}
use Rattle.sheet.specs.Decode.{parts_of}
use Rattle.instructions.specs.Sound.{code_offset}
use Rattle.script.specs.Script.{flow_code}

pub record Indexed (s : List ℕ) (x : Script) (m : Mem) : Type 0 where
  pub offsets : (i : ℕ) → i < x.count → word m offset_cell i ≡ code_offset s x i
  pub starts : (b : ℕ) → b < block_count (flow_code (parts_of s))
      → word m leader_cell b ≡ get_or (leaders (flow_code (parts_of s))) b (length (flow_code (parts_of s)))
  pub numbers : (t : ℕ) → t < x.count → leader (flow_code (parts_of s)) t ≡ true → word m block_of_cell t ≡ index_of t (leaders (flow_code (parts_of s)))

-- the layout is that of the script: its instructions, its blocks, and words enough for its slots
pub record Fits (s : List ℕ) (x : Script) (y : Layout) : Type 0 where
  pub instructions : y.instructions ≡ x.count
  pub blocks : y.blocks ≡ block_count (flow_code (parts_of s))
  pub few_blocks : y.blocks ≤ y.instructions
  pub slots : x.slots ≤ 64 * y.words
