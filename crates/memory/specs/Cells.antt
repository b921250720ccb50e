-- A slice of words as a list of cells, by the cells' widths. Reading and writing a cell is reading and writing a list of lists, so that a
-- contract is one equation that says both what changed and that nothing else did.
use Rattle.std.specs.Prelude.{◌≡◌, List, [], ◌∷◌, ℕ, ◌+◌, ◌^◌, ◌≤◌, ◌<◌, length, get_or, set, take, drop}

-- cells, each a list of words
abbrev pub Mem : Type 0
Mem = List (List ℕ)

-- the cells of these widths, from the front of the words l; what lies behind them is in no cell
unfoldable pub cells : List ℕ → List ℕ → Mem
cells [] l = []
cells (n ∷ ns) l = take n l ∷ cells ns (drop n l)

-- how many words cells of these widths take
unfoldable pub total : List ℕ → ℕ
total [] = 0
total (n ∷ ns) = n + total ns

-- in a buffer of n words at least, those from `start` up to `end` are the w words of cell k of these widths
pub record Covers (ns : List ℕ) (k w n start end : ℕ) : Type 0 where
  pub starts : start ≡ total (take k ns)
  pub ends : end ≡ start + w
  pub fits : end ≤ n

-- cell k
abbrev pub cell : Mem → ℕ → List ℕ
cell m k = get_or m k []

-- word i of cell k
abbrev pub word : Mem → ℕ → ℕ → ℕ
word m k i = get_or (cell m k) i 0

-- the cells with the words ws in cell k
abbrev pub store_cell : Mem → ℕ → List ℕ → Mem
store_cell m k ws = set m k ws

-- the cells with the number v in word i of cell k
abbrev pub store : Mem → ℕ → ℕ → ℕ → Mem
store m k i v = set m k (set (cell m k) i v)

-- there are as many cells as widths, and each is so wide
pub record Sized (ns : List ℕ) (m : Mem) : Type 0 where
  pub count : length m ≡ length ns
  pub wide : (k : ℕ) → length (cell m k) ≡ get_or ns k 0

-- what stands in each cell are words of 64 bits
abbrev pub InWords : Mem → Type 0
InWords m = (k i : ℕ) → word m k i < 2 ^ 64
