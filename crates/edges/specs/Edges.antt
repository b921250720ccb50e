-- A graph of blocks in the words of scratch: how many successors each block has, and which.
use Rattle.std.specs.Prelude.{◌≡◌, Bool, true, false, List, [], ◌∷◌, ℕ, zero, suc, ◌+◌, ◌≤◌, ◌<◌, length, get_or}
use Rattle.memory.specs.Cells.{Mem, word}
use Rattle.memory.specs.Names.{successor_count_cell}
use Rattle.memory.specs.Edges.{successor_at}
use Rattle.memory.specs.Frame.{Only, NoRow}
use Rattle.memory.specs.Scratch.{edge_words}
use Rattle.sizes.specs.declared.Layout.{Layout}

-- a word as a truth value: a mark where it is not 0
abbrev pub marked : ℕ → Bool
marked zero = false
marked (suc n) = true

-- how many edges the blocks before c have
abbrev pub edges_before : (ℕ → List ℕ) → ℕ → ℕ
edges_before next zero = 0
edges_before next (suc c) = edges_before next c + length (next c)

-- The words hold the graph `next`: how many edges each block has, where each leads, and there are no more edges than have a word.
pub record Holds (next : ℕ → List ℕ) (y : Layout) (m : Mem) : Type 0 where
  pub counted : (b : ℕ) → b < y.blocks → word m successor_count_cell b ≡ length (next b)
  pub stored : (b k : ℕ) → b < y.blocks → k < length (next b) → successor_at m b k ≡ get_or (next b) k 0
  pub small : y.blocks ≤ 65536
  pub few : edges_before next y.blocks ≤ edge_words y
  pub below : (b k : ℕ) → b < y.blocks → k < length (next b) → get_or (next b) k 0 < y.blocks

-- some graph is held
abbrev pub Held : Layout → Mem → Type 0
Held y m = (next : ℕ → List ℕ) × Holds next y m

-- each word of cell k, which has a word a block, became 0; no other cell changed
pub record Cleared (y : Layout) (k : ℕ) (m m' : Mem) : Type 0 where
  pub zeros : (b : ℕ) → b < y.blocks → word m' k b ≡ 0
  pub only : Only (k ∷ []) NoRow m m'
