-- A block record as a struct.
use Rattle.std.specs.Prelude.{List, ℕ, get_or}
use Rattle.block_records.specs.declared.Block.{Block}

-- the struct of a block record: its six numbers, in their order
abbrev pub block_of : List ℕ → Block
block_of l = record {
  start = get_or l 0 0;
  end = get_or l 1 0;
  reachable = get_or l 2 0;
  successor_count = get_or l 3 0;
  successor_0 = get_or l 4 0;
  successor_1 = get_or l 5 0;
}

-- a record that holds no block
abbrev pub zero_block : Block
zero_block = record { start = 0; end = 0; reachable = 0; successor_count = 0; successor_0 = 0; successor_1 = 0 }
