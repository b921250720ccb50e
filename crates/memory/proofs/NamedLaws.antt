-- Cells and rows by name: how wide each is, and that it is there. Assumes nothing.
use mathlib.Core.Path.{◌≡◌, refl}
use Prim.Native.Nat.{ℕ, ◌+◌, ◌^◌, ◌<◌}
use Rattle.std.proofs.Common.{arith}
use Rattle.run.specs.Terms.{ScratchBounded}
use Rattle.sizes.specs.Sizes.{scratch_words}
use Rattle.sizes.specs.declared.Layout.{Layout}
use Rattle.memory.specs.declared.names.Cell.{Cell}
use Rattle.memory.specs.declared.names.Cell.TheVariants.{Offset, BlockOf, Leader, Cost, Start, End, Reachable, SuccessorCount, FirstEdge}
use Rattle.memory.specs.declared.names.Cell.TheVariants.{PredecessorCount, Order, Ring, Queued, StackBlock, StackEdge, Visited, Successor, NextEdge}
use Rattle.memory.specs.declared.names.SlotRow.{SlotRow}
use Rattle.memory.specs.declared.names.SlotRow.TheVariants.{Uses, Defines, Spare, State, LiveState, Parameters, Hosts}
use Rattle.memory.specs.declared.names.BlockSet.{BlockSet}
use Rattle.memory.specs.declared.names.BlockSet.TheVariants.{Initialized, Live}
use lib.ListN.{take}
use Rattle.memory.specs.Cells.{total, Covers}
use Rattle.memory.specs.Names.{await_entry}
use Rattle.memory.specs.Named.{cell_of, width_of, row_of, set_of, RowThere, SetThere}
use Rattle.memory.specs.Scratch.{scratch_widths, Place, Row}
use Rattle.memory.specs.Sets.{SetsRow, AwaitEntry}
use Rattle.memory.proofs.CellLaws.{width}
use Rattle.memory.proofs.ScratchLaws.{width_instructions, width_blocks, width_successors, width_links, scratch_fits, words_below}

-- no name is a row
pub cell-below : (c : Cell) → cell_of c < 18
cell-below Offset = omega arith
cell-below BlockOf = omega arith
cell-below Leader = omega arith
cell-below Cost = omega arith
cell-below Start = omega arith
cell-below End = omega arith
cell-below Reachable = omega arith
cell-below SuccessorCount = omega arith
cell-below FirstEdge = omega arith
cell-below PredecessorCount = omega arith
cell-below Order = omega arith
cell-below Ring = omega arith
cell-below Queued = omega arith
cell-below StackBlock = omega arith
cell-below StackEdge = omega arith
cell-below Visited = omega arith
cell-below Successor = omega arith
cell-below NextEdge = omega arith

pub cell_width : (y : Layout) (c : Cell) → width (scratch_widths y) (cell_of c) ≡ width_of y c
cell_width y Offset = width_instructions y _ (omega arith)
cell_width y BlockOf = width_instructions y _ (omega arith)
cell_width y Leader = width_instructions y _ (omega arith)
cell_width y Cost = width_instructions y _ (omega arith)
cell_width y Start = width_blocks y _ (omega arith) (omega arith)
cell_width y End = width_blocks y _ (omega arith) (omega arith)
cell_width y Reachable = width_blocks y _ (omega arith) (omega arith)
cell_width y SuccessorCount = width_blocks y _ (omega arith) (omega arith)
cell_width y FirstEdge = width_blocks y _ (omega arith) (omega arith)
cell_width y PredecessorCount = width_blocks y _ (omega arith) (omega arith)
cell_width y Order = width_blocks y _ (omega arith) (omega arith)
cell_width y Ring = width_blocks y _ (omega arith) (omega arith)
cell_width y Queued = width_blocks y _ (omega arith) (omega arith)
cell_width y StackBlock = width_blocks y _ (omega arith) (omega arith)
cell_width y StackEdge = width_blocks y _ (omega arith) (omega arith)
cell_width y Visited = width_blocks y _ (omega arith) (omega arith)
cell_width y Successor = width_successors y _ refl
cell_width y NextEdge = width_links y _ refl

pub cell_place : {y : Layout} (c : Cell) {i : ℕ} → i < width_of y c → Place y (cell_of c) i
cell_place {y} c h = record { among = omega (arith, cell-below c); inside = rw (cell_width y c) h }

-- a cell by the range of its words, in a layout that a script can have
module _ (y : Layout) (c : Cell) {start w : ℕ} (e : start ≡ total (take (cell_of c) (scratch_widths y))) (f : w ≡ width_of y c) where
  pub cell_covers : Covers (scratch_widths y) (cell_of c) (width_of y c) (scratch_words y) start (start + w)
  cell_covers = record { starts = e; ends = omega (arith, f); fits = omega (arith, e, f, cell_width y c, scratch_fits y (cell_of c)) }

  pub cell_small : ScratchBounded y → start + w < 2 ^ 40
  cell_small b = omega (arith, e, f, cell_width y c, scratch_fits y (cell_of c), words_below y b.instructions b.blocks b.words b.extra)

pub row_there : {y : Layout} (r : SlotRow) → RowThere y r → Row y (row_of y r)
row_there (Uses b) h = record { low = omega arith; high = omega arith }
row_there (Defines b) h = record { low = omega arith; high = omega arith }
row_there (Spare k) h = record { low = omega arith; high = omega arith }
row_there State h = record { low = omega arith; high = omega arith }
row_there LiveState h = record { low = omega arith; high = omega arith }
row_there Parameters h = record { low = omega arith; high = omega arith }
row_there Hosts h = record { low = omega arith; high = omega arith }

pub set_there : (y : Layout) (s : BlockSet) → SetThere y s → SetsRow y (set_of s)
set_there y (Initialized b) h = omega arith
set_there y (Live b) h = omega arith

pub entry_there : {y : Layout} {k : ℕ} → k < y.awaits → AwaitEntry y (await_entry y.blocks k)
entry_there h = record { low = omega arith; high = omega arith }
