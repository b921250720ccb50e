-- What a visit computes, as rows of words: `incoming`, `live_out` and the transfer of solver.rs.
use Rattle.std.specs.Prelude.{List, [], ◌∷◌, ℕ, eqb, replicate}
use Rattle.bitset.specs.Sets.{ones}
use Rattle.bitset.specs.Operations.{meet, join, difference}
use Rattle.dataflow.specs.Lists.{pick}
use Rattle.memory.specs.Cells.{Mem, cell, word}
use Rattle.memory.specs.Names.{reachable_cell, uses_row, defines_row, state_row, live_state_row, parameters_row, initialized_row, live_row}
use Rattle.sizes.specs.declared.Layout.{Layout}
use Rattle.transfer.specs.declared.direction.Direction.{Direction}
use Rattle.transfer.specs.declared.direction.Direction.TheVariants.{Initialization, Liveness}
use Rattle.memory.specs.declared.names.SlotRow.{SlotRow}
use Rattle.memory.specs.declared.names.SlotRow.TheVariants.{State, LiveState}
use Rattle.memory.specs.declared.names.BlockSet.{BlockSet}
use Rattle.memory.specs.declared.names.BlockSet.TheVariants.{Initialized, Live}
use Rattle.memory.specs.Edges.{neighbors}
use Rattle.transfer.specs.Directions.{reads_of}

-- the row in which a round computes, and the set that it keeps for block b
abbrev pub running_of : Direction → SlotRow
running_of Initialization = State
running_of Liveness = LiveState

abbrev pub kept_of : Direction → ℕ → BlockSet
kept_of Initialization b = Initialized b
kept_of Liveness b = Live b

-- the row in which a round computes, by its cell
abbrev pub running_row : Direction → Layout → ℕ
running_row Initialization y = state_row y.blocks
running_row Liveness y = live_state_row y.blocks

-- and the row that it keeps for block b, in the sets buffer
abbrev pub kept_row : Direction → ℕ → ℕ
kept_row Initialization b = initialized_row b
kept_row Liveness b = live_row b

-- what a block begins with: the parameters at block 0 and all slots at another; or no slot
unfoldable pub entry_of : Direction → Layout → Mem → ℕ → List ℕ
entry_of Initialization y m b = pick (eqb b 0) (cell m (parameters_row y.blocks)) (replicate y.words ones)
entry_of Liveness y m b = replicate y.words 0

-- a row with what block p keeps: met with it if p is reachable; or joined with it
unfoldable pub gather_one : Direction → Mem → Mem → ℕ → List ℕ → List ℕ
gather_one Initialization m t p x = pick (eqb (word m reachable_cell p) 0) x (meet x (cell t (initialized_row p)))
gather_one Liveness m t p x = join x (cell t (live_row p))

unfoldable pub gather_all : Direction → Mem → Mem → List ℕ → List ℕ → List ℕ
gather_all d m t [] x = x
gather_all d m t (p ∷ ps) x = gather_all d m t ps (gather_one d m t p x)

-- flow.rs `incoming` and `live_out` of block b
unfoldable pub gathered : Direction → Layout → Mem → Mem → ℕ → List ℕ
gathered d y m t b = gather_all d m t (neighbors (reads_of d) m b) (entry_of d y m b)

-- the transfer of block b
unfoldable pub transferred : Direction → Mem → ℕ → List ℕ → List ℕ
transferred Initialization m b x = join x (cell m (defines_row b))
transferred Liveness m b x = join (difference x (cell m (defines_row b))) (cell m (uses_row b))

-- the new set of block b
unfoldable pub computed : Direction → Layout → Mem → Mem → ℕ → List ℕ
computed d y m t b = transferred d m b (gathered d y m t b)
