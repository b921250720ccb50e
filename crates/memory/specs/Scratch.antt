-- The layout of scratch: document 01's words, as cells.
use Rattle.std.specs.Prelude.{◌≡◌, List, ◌++◌, ℕ, ◌+◌, ◌*◌, ◌≤◌, ◌<◌, get_or, replicate}
use Rattle.memory.specs.Cells.{Mem, cells, Sized}
use Rattle.memory.specs.Names.{first_row}
use Rattle.sizes.specs.declared.Layout.{Layout}
use Rattle.run.specs.Terms.{Loan}
use Rattle.sizes.specs.Sizes.{scratch_words}

-- how many edges there may be: two a block, and the extra ones
abbrev pub edge_words : Layout → ℕ
edge_words y = 2 * y.blocks + y.extra

-- four cells of a word an instruction; twelve of a word a block; two words a block for its successors; a word an edge; four rows a block, and
-- four more
unfoldable pub scratch_widths : Layout → List ℕ
scratch_widths y =
    replicate 4 y.instructions
    ++ (replicate 12 y.blocks ++ (replicate 1 (2 * y.blocks) ++ (replicate 1 (edge_words y) ++ replicate (4 * y.blocks + 4) y.words)))

-- how many cells there are
abbrev pub scratch_cells : Layout → ℕ
scratch_cells y = 22 + 4 * y.blocks

-- the words of scratch as cells
unfoldable pub scratch : Layout → List ℕ → Mem
scratch y l = cells (scratch_widths y) l

-- each cell of scratch is there, as wide as the layout says
abbrev pub Whole : Layout → Mem → Type 0
Whole y m = Sized (scratch_widths y) m

-- the sizes are those of a sheet that passed (instructions and blocks at most 65,536, words at most 1,024), and scratch holds n words, enough
pub record Room (y : Layout) (n : ℕ) : Type 0 where
  pub instructions : y.instructions ≤ 65536
  pub blocks : y.blocks ≤ 65536
  pub words : y.words ≤ 1024
  pub extra : y.extra ≤ 16777216
  pub fits : scratch_words y ≤ n

-- word i of cell k is there
pub record Place (y : Layout) (k i : ℕ) : Type 0 where
  pub among : k < scratch_cells y
  pub inside : i < get_or (scratch_widths y) k 0

-- cell k is a row of w words
pub record Row (y : Layout) (k : ℕ) : Type 0 where
  pub low : first_row ≤ k
  pub high : k < scratch_cells y

-- n words have the run's layout, and are enough for it
pub record Holds (y own : Layout) (n : ℕ) : Type 0 where
  pub same : own ≡ y
  pub room : Room own n

-- they are those that were lent for scratch, whose borrow has this name
pub record Backs (y own : Layout) (loan : Loan) (name n : ℕ) : Type 0 where
  pub holds : Holds y own n
  pub named : name ≡ loan.name
  pub long : n ≡ loan.length
