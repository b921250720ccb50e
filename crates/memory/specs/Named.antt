-- The cells of both buffers, by the names that code has for them.
use Rattle.std.specs.Prelude.{ℕ, ◌*◌, ◌<◌}
use Rattle.sizes.specs.declared.Layout.{Layout}
use Rattle.memory.specs.declared.names.Cell.{Cell}
use Rattle.memory.specs.declared.names.Cell.TheVariants.{Offset, BlockOf, Leader, Cost, Start, End, Reachable, SuccessorCount, FirstEdge}
use Rattle.memory.specs.declared.names.Cell.TheVariants.{PredecessorCount, Order, Ring, Queued, StackBlock, StackEdge, Visited, Successor, NextEdge}
use Rattle.memory.specs.declared.names.SlotRow.{SlotRow}
use Rattle.memory.specs.declared.names.SlotRow.TheVariants.{Uses, Defines, Spare, State, LiveState, Parameters, Hosts}
use Rattle.memory.specs.declared.names.BlockSet.{BlockSet}
use Rattle.memory.specs.declared.names.BlockSet.TheVariants.{Initialized, Live}
use Rattle.memory.specs.Names.{offset_cell, block_of_cell, leader_cell, cost_cell, start_cell, end_cell, reachable_cell, successor_count_cell}
use Rattle.memory.specs.Names.{first_edge_cell, predecessor_count_cell, order_cell, ring_cell, queued_cell, stack_block_cell, stack_edge_cell}
use Rattle.memory.specs.Names.{visited_cell, successor_cell, next_edge_cell, uses_row, defines_row, spare_row, state_row, live_state_row, parameters_row}
use Rattle.memory.specs.Names.{hosts_row, initialized_row, live_row}
use Rattle.memory.specs.Scratch.{edge_words}

-- which cell of scratch it is
abbrev pub cell_of : Cell → ℕ
cell_of Offset = offset_cell
cell_of BlockOf = block_of_cell
cell_of Leader = leader_cell
cell_of Cost = cost_cell
cell_of Start = start_cell
cell_of End = end_cell
cell_of Reachable = reachable_cell
cell_of SuccessorCount = successor_count_cell
cell_of FirstEdge = first_edge_cell
cell_of PredecessorCount = predecessor_count_cell
cell_of Order = order_cell
cell_of Ring = ring_cell
cell_of Queued = queued_cell
cell_of StackBlock = stack_block_cell
cell_of StackEdge = stack_edge_cell
cell_of Visited = visited_cell
cell_of Successor = successor_cell
cell_of NextEdge = next_edge_cell

-- how many words it has
abbrev pub width_of : Layout → Cell → ℕ
width_of y Offset = y.instructions
width_of y BlockOf = y.instructions
width_of y Leader = y.instructions
width_of y Cost = y.instructions
width_of y Start = y.blocks
width_of y End = y.blocks
width_of y Reachable = y.blocks
width_of y SuccessorCount = y.blocks
width_of y FirstEdge = y.blocks
width_of y PredecessorCount = y.blocks
width_of y Order = y.blocks
width_of y Ring = y.blocks
width_of y Queued = y.blocks
width_of y StackBlock = y.blocks
width_of y StackEdge = y.blocks
width_of y Visited = y.blocks
width_of y Successor = 2 * y.blocks
width_of y NextEdge = edge_words y

-- which cell of scratch a row is
abbrev pub row_of : Layout → SlotRow → ℕ
row_of y (Uses b) = uses_row b
row_of y (Defines b) = defines_row b
row_of y (Spare k) = spare_row y.blocks k
row_of y State = state_row y.blocks
row_of y LiveState = live_state_row y.blocks
row_of y Parameters = parameters_row y.blocks
row_of y Hosts = hosts_row y.blocks

-- the row is there: its block is one of the blocks
abbrev pub RowThere : Layout → SlotRow → Type 0
RowThere y (Uses b) = b < y.blocks
RowThere y (Defines b) = b < y.blocks
RowThere y (Spare k) = k < 2 * y.blocks
RowThere y State = Unit {0}
RowThere y LiveState = Unit {0}
RowThere y Parameters = Unit {0}
RowThere y Hosts = Unit {0}

-- the same of the sets buffer
abbrev pub set_of : BlockSet → ℕ
set_of (Initialized b) = initialized_row b
set_of (Live b) = live_row b

abbrev pub SetThere : Layout → BlockSet → Type 0
SetThere y (Initialized b) = b < y.blocks
SetThere y (Live b) = b < y.blocks
