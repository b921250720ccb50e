-- Word k of the list: of a block's record, or 0 behind the last one. Assumes nothing.
use mathlib.Core.Path.{◌≡◌, sym, ap}
use mathlib.Core.Bool.{Bool}
use Prim.Native.Nat.{ℕ, ◌/◌, ◌%◌, ◌≤◌, ◌<◌}
use borrow.Author.Tests.{le-ltb, lt-ltb}
use lib.ListN.{get_or}
use Rattle.dataflow.specs.Lists.{pick}
use Rattle.memory.specs.Cells.{Mem}
use Rattle.blocklist.specs.List.{record_in, list_word}

module _ (m : Mem) (blocks k : ℕ) where
  pub word_inside : k / 6 < blocks → get_or (record_in m (k / 6)) (k % 6) 0 ≡ list_word m blocks k
  unfolding list_word
  word_inside lt = sym (ap (λ (b : Bool). pick b (get_or (record_in m (k / 6)) (k % 6) 0) 0) (lt-ltb (k / 6) blocks lt))

  pub word_behind : blocks ≤ k / 6 → 0 ≡ list_word m blocks k
  unfolding list_word
  word_behind ge = sym (ap (λ (b : Bool). pick b (get_or (record_in m (k / 6)) (k % 6) 0) 0) (le-ltb (k / 6) blocks ge))
