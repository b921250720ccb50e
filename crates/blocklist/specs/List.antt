-- The block list as words: six a record, then zeros.
use Rattle.std.specs.Prelude.{List, [], ◌∷◌, ℕ, ◌/◌, ◌%◌, ltb, get_or}
use Rattle.dataflow.specs.Lists.{pick}
use Rattle.memory.specs.Cells.{Mem, word}
use Rattle.memory.specs.Names.{start_cell, end_cell, reachable_cell, successor_count_cell}
use Rattle.memory.specs.Edges.{edge_word}

-- the words of scratch that the record of block c is made of: start, end, reachable, successor count, two successors
abbrev pub record_in : Mem → ℕ → List ℕ
record_in m c =
    word m start_cell c ∷ word m end_cell c ∷ word m reachable_cell c ∷ word m successor_count_cell c
    ∷ edge_word m c 0 ∷ edge_word m c 1 ∷ []

-- word k of the list of so many blocks, and 0 behind them
unfoldable pub list_word : Mem → ℕ → ℕ → ℕ
list_word m blocks k = pick (ltb (k / 6) blocks) (get_or (record_in m (k / 6)) (k % 6) 0) 0
