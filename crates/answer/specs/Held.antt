-- What the words of the sets buffer hold, read where document 01 lays them: "per block initialized at its exit, then live at its entry; then per
-- reachable await, ascending, its instruction and live words".
use Rattle.std.specs.Prelude.{Bool, List, ℕ, ◌+◌, ◌*◌, get_or, take, drop}
use Rattle.bitset.specs.Sets.{member}

-- v: the words of the buffer; w: the words of a set
module _ (v : List ℕ) (w : ℕ) where
  -- the w words from word `at` on
  abbrev pub row_at : ℕ → List ℕ
  row_at at = take w (drop at v)

  -- block c's row "initialized at its exit"
  abbrev pub initialized_words : ℕ → List ℕ
  initialized_words c = row_at (c * (2 * w))

  -- block c's row "live at its entry"
  abbrev pub live_words : ℕ → List ℕ
  live_words c = row_at (c * (2 * w) + w)

  -- of B blocks: the k-th await's instruction, and its set
  abbrev pub await_instruction : ℕ → ℕ → ℕ
  await_instruction blocks k = get_or v (blocks * (2 * w) + k * (1 + w)) 0

  abbrev pub await_set : ℕ → ℕ → ℕ → Bool
  await_set blocks k = member (row_at (blocks * (2 * w) + (k * (1 + w) + 1)))
