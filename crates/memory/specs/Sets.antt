-- The layout of the sets buffer: document 01's words, as cells.
use Rattle.std.specs.Prelude.{◌≡◌, List, ◌++◌, ℕ, ◌+◌, ◌*◌, ◌≤◌, ◌<◌, replicate}
use Rattle.memory.specs.Cells.{Mem, cells, Sized}
use Rattle.sizes.specs.declared.Layout.{Layout}
use Rattle.run.specs.Terms.{Loan}
use Rattle.sizes.specs.Sizes.{sets_words}

-- per block its initialized row and its live row; then per await its instruction and live words
unfoldable pub sets_widths : Layout → List ℕ
sets_widths y = replicate (2 * y.blocks) y.words ++ replicate y.awaits (1 + y.words)

-- the words of the sets buffer as cells
unfoldable pub sets : Layout → List ℕ → Mem
sets y l = cells (sets_widths y) l

-- each cell of the sets buffer is there, as wide as the layout says
abbrev pub SetsWhole : Layout → Mem → Type 0
SetsWhole y t = Sized (sets_widths y) t

-- the sizes are those of a sheet that passed, and the sets buffer holds n words, enough
pub record SetsRoom (y : Layout) (n : ℕ) : Type 0 where
  pub blocks : y.blocks ≤ 65536
  pub words : y.words ≤ 1024
  pub awaits : y.awaits ≤ 65536
  pub fits : sets_words y ≤ n

-- cell k is a block's row
abbrev pub SetsRow : Layout → ℕ → Type 0
SetsRow y k = k < 2 * y.blocks

-- cell k is an await's entry
pub record AwaitEntry (y : Layout) (k : ℕ) : Type 0 where
  pub low : 2 * y.blocks ≤ k
  pub high : k < 2 * y.blocks + y.awaits

-- n words have the run's layout, and are enough for it
pub record SetsHold (y own : Layout) (n : ℕ) : Type 0 where
  pub same : own ≡ y
  pub room : SetsRoom own n

-- they are those that were lent for the sets, whose borrow has this name
pub record SetsBack (y own : Layout) (loan : Loan) (name n : ℕ) : Type 0 where
  pub holds : SetsHold y own n
  pub named : name ≡ loan.name
  pub long : n ≡ loan.length
