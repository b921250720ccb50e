-- Demand 2 on the rows of the sets buffer: both sets of every block, by paths.
use Rattle.std.specs.Prelude.{◌≡◌, ◌↔◌, Bool, true, List, ℕ, ◌<◌, replicate}
use Rattle.bitset.specs.Sets.{member, ones}
use Rattle.dataflow.specs.Code.{Instruction}
use Rattle.dataflow.specs.BlockPaths.{ReachedBlock, FilledThrough, LiveFrom}
use Rattle.memory.specs.Cells.{Mem, cell}
use Rattle.memory.specs.Names.{initialized_row, live_row}
use Rattle.sizes.specs.declared.Layout.{Layout}

-- the rows of every block: by paths if some path reaches it, else all ones and zero
pub record PathSets (code : List Instruction) (parameter : ℕ → Bool) (slots : ℕ) (y : Layout) (t : Mem) : Type 0 where
  pub initialized : (c : ℕ) → c < y.blocks → ReachedBlock code parameter c → (s : ℕ)
      → (member (cell t (initialized_row c)) s ≡ true) ↔ FilledThrough code parameter c s
  pub live : (c : ℕ) → c < y.blocks → ReachedBlock code parameter c → (s : ℕ)
      → (member (cell t (live_row c)) s ≡ true) ↔ LiveFrom code parameter c s
  pub initialized_below : (c : ℕ) → c < y.blocks → ReachedBlock code parameter c → (s : ℕ) → member (cell t (initialized_row c)) s ≡ true → s < slots
  pub live_below : (c : ℕ) → c < y.blocks → ReachedBlock code parameter c → (s : ℕ) → member (cell t (live_row c)) s ≡ true → s < slots
  pub unreached_initialized : (c : ℕ) → c < y.blocks → (ReachedBlock code parameter c → ⊥) → cell t (initialized_row c) ≡ replicate y.words ones
  pub unreached_live : (c : ℕ) → c < y.blocks → (ReachedBlock code parameter c → ⊥) → cell t (live_row c) ≡ replicate y.words 0
