-- The set that block 0 starts from: the parameters of the sheet, and the added ones.
use Rattle.std.specs.Prelude.{◌≡◌, Bool, true, ◌&&◌, ◌||◌, List, ℕ, ◌/◌, ◌%◌, ◌^◌, ◌<◌, eqb, ltb, length, get_or, set}
use Rattle.bitset.specs.Sets.{member}
use Rattle.dataflow.specs.Lists.{pick}
use Rattle.sheet.specs.Decode.{Parts}
use Rattle.script.specs.Script.{parameter_in}

-- the parameters with an added set, which is in words: the sheet's own, and of the added ones those below the slot count. Words that it lacks
-- count as zero.
unfoldable pub parameter_with : Parts → List ℕ → ℕ → Bool
parameter_with p added i = parameter_in p i || (ltb i p.slots && member added i)

-- a set without the bits past the slots in the word in which these end
abbrev pub cut_at : ℕ → List ℕ → List ℕ
cut_at slots row = pick (eqb (slots % 64) 0) row (set row (slots / 64) (get_or row (slots / 64) 0 % 2 ^ (slots % 64)))

-- what `join_added` does: a row of slots takes in the added ones; it is row before, and row' after
pub record Joins (slots : ℕ) (added row row' : List ℕ) : Type 0 where
  pub long : length row' ≡ length row
  pub members : ((i : ℕ) → member row i ≡ true → i < slots) → (i : ℕ) → member row' i ≡ (member row i || (ltb i slots && member added i))

-- what `insert_all` makes of a row of w words: it holds the parameters
pub record Starts (p : Parts) (added : List ℕ) (w : ℕ) (row : List ℕ) : Type 0 where
  pub long : length row ≡ w
  pub members : (i : ℕ) → member row i ≡ parameter_with p added i
