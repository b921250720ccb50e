-- The words of a whole buffer: each row is a set of as many words as the layout says. Assumes nothing.
use mathlib.Core.Path.{◌∙◌}
use Prim.Native.Nat.{ℕ}
use Rattle.bitset.specs.Sets.{Words}
use Rattle.sizes.specs.declared.Layout.{Layout}
use Rattle.memory.specs.Cells.{Mem, cell, InWords}
use Rattle.memory.specs.Scratch.{Whole, Row}
use Rattle.memory.specs.Sets.{SetsWhole, SetsRow}
use Rattle.memory.proofs.ScratchLaws.{sized_row}
use Rattle.memory.proofs.SetsLaws.{width_sets_row}

pub row_in_words : {y : Layout} {m : Mem} → Whole y m → InWords m → {k : ℕ} → Row y k → Words y.words (cell m k)
row_in_words {y} z f {k} r = record { long = sized_row y z r; fits = f k }

pub set_in_words : (y : Layout) {t : Mem} → SetsWhole y t → InWords t → (k : ℕ) → SetsRow y k → Words y.words (cell t k)
set_in_words y z f k r = record { long = z.wide k ∙ width_sets_row y k r; fits = f k }
