-- The block list as structs, from the words of scratch.
use Rattle.std.specs.Prelude.{ℕ, ◌^◌, ◌%◌, ltb}
use Rattle.dataflow.specs.Lists.{pick}
use Rattle.memory.specs.Cells.{Mem, word}
use Rattle.memory.specs.Names.{start_cell, end_cell, reachable_cell, successor_count_cell}
use Rattle.memory.specs.Edges.{edge_word}
use Rattle.block_records.specs.declared.Block.{Block}
use Rattle.block_records.specs.Blocks.{zero_block}

-- block i from its words, each cut to 32 bits; the words of a script that passed fit
abbrev pub block_in : Mem → ℕ → Block
block_in m i = record {
  start = word m start_cell i % 2 ^ 32;
  end = word m end_cell i % 2 ^ 32;
  reachable = word m reachable_cell i % 2 ^ 32;
  successor_count = word m successor_count_cell i % 2 ^ 32;
  successor_0 = edge_word m i 0 % 2 ^ 32;
  successor_1 = edge_word m i 1 % 2 ^ 32;
}

-- record i of the list of so many blocks
unfoldable pub listed_block : Mem → ℕ → ℕ → Block
listed_block m blocks i = pick (ltb i blocks) (block_in m i) zero_block
