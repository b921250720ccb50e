-- Numbering the blocks: from marks, one an instruction, to the blocks' starts and each instruction's block.
use Rattle.std.specs.Prelude.{◌≡◌, Bool, not, List, ℕ, suc, ◌+◌, ◌-◌, eqb, length, get_or, take}
use Rattle.dataflow.specs.Lists.{pick, tabulate, range, keep}
use Rattle.memory.specs.Cells.{Mem, cell, word, store}
use Rattle.memory.specs.Names.{block_of_cell, leader_cell}

-- whether instruction i is marked
abbrev pub marked : List ℕ → ℕ → Bool
marked ms i = not (eqb (get_or ms i 0) 0)

-- the marked ones among the first n instructions, ascending: where blocks begin
abbrev pub starts_of : List ℕ → ℕ → List ℕ
starts_of ms n = keep (marked ms) (range 0 n)

-- the number of each of the first n instructions' block: how many blocks begin up to it, less one
abbrev pub numbers_of : List ℕ → ℕ → List ℕ
numbers_of ms n = tabulate 0 n (λ i. length (starts_of ms (suc i)) - 1)

-- one instruction numbered, before which b blocks begin: the memory, and how many blocks begin up to it
unfoldable pub number_one : Mem → ℕ → ℕ → Mem
number_one m i b = pick (eqb (word m block_of_cell i) 0) (store m block_of_cell i (b - 1)) (store (store m leader_cell b i) block_of_cell i b)

unfoldable pub count_one : Mem → ℕ → ℕ → ℕ
count_one m i b = pick (eqb (word m block_of_cell i) 0) b (b + 1)

-- what numbering n marked instructions does: it answers how many blocks there are, the blocks' starts stand at the front of LEADER, and the
-- marks have become the numbers; two cells change
pub record Numbered (n : ℕ) (m m' : Mem) (blocks : ℕ) : Type 0 where
  pub count : blocks ≡ length (starts_of (cell m block_of_cell) n)
  pub starts : take blocks (cell m' leader_cell) ≡ starts_of (cell m block_of_cell) n
  pub numbers : cell m' block_of_cell ≡ numbers_of (cell m block_of_cell) n
  pub others : (k : ℕ) → (k ≡ block_of_cell → ⊥) → (k ≡ leader_cell → ⊥) → cell m' k ≡ cell m k
