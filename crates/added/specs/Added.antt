-- An added set of parameters: w words that a caller lends beside the sheet, slot i being bit i % 64 of word i / 64.
use Rattle.std.specs.Prelude.{◌≡◌, Bool, true, false, List, ℕ, ◌+◌, ◌-◌, ◌*◌, ◌/◌, ◌≤◌, ◌<◌, length}
use Rattle.bitset.specs.Sets.{member}
use Rattle.dataflow.specs.Lists.{some, range}

-- document 01: w, the words of a set of so many slots
abbrev pub width_of : ℕ → ℕ
width_of slots = (slots + 63) / 64

-- "a bit at or above the slot count" within the first w words
unfoldable pub strays : ℕ → List ℕ → Bool
strays slots added = some (member added) (range slots (64 * width_of slots - slots))

-- such a bit
pub record Stray (slots : ℕ) (added : List ℕ) : Type 0 where
  pub slot : ℕ
  pub above : slots ≤ slot
  pub within : slot < 64 * width_of slots
  pub is_set : member added slot ≡ true

-- a set that is taken: w words are there, and no bit of them is at or above the slot count
pub record Taken (slots : ℕ) (added : List ℕ) : Type 0 where
  pub long : width_of slots ≤ length added
  pub slots_only : strays slots added ≡ false
