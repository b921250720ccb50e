-- Records of the list, one by one. Assumes nothing.
use mathlib.Core.Path.{◌≡◌, refl}
use Prim.Native.Nat.{ℕ, ◌≤◌, ◌<◌}
use borrow.Author.Tests.{lt-ltb, le-ltb}
use Rattle.memory.specs.Cells.{Mem}
use Rattle.block_records.specs.Records.{block_in, listed_block}
use Rattle.block_records.specs.Blocks.{zero_block}
use Rattle.block_records.specs.declared.Block.{Block}

module _ (m : Mem) (i : ℕ) where
  -- a record before the last block, and one behind it
  pub listed_in : (blocks : ℕ) {r : Block} → i < blocks → r ≡ block_in m i → r ≡ listed_block m blocks i
  unfolding listed_block
  listed_in blocks l e = rw (lt-ltb i blocks l) e

  pub listed_behind : (blocks : ℕ) → blocks ≤ i → zero_block ≡ listed_block m blocks i
  unfolding listed_block
  listed_behind blocks l = rw (le-ltb i blocks l) refl
