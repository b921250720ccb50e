-- The flow graph of code in the words of scratch, and the sets that a run begins with.
use Rattle.std.specs.Prelude.{◌≡◌, Bool, false, List, ℕ, ◌<◌, replicate}
use Rattle.bitset.specs.Sets.{member, ones}
use Rattle.dataflow.specs.BasicBlocks.{uses, defines}
use Rattle.dataflow.specs.Code.{Instruction, program, body, block_successors}
use Rattle.dataflow.specs.Results.{block_count, reachable}
use Rattle.memory.specs.Cells.{Mem, cell, word}
use Rattle.memory.specs.Names.{reachable_cell, uses_row, defines_row, parameters_row, initialized_row, live_row}
use Rattle.dataflow.specs.Lists.{flag}
use Rattle.sizes.specs.declared.Layout.{Layout}
use Rattle.edges.specs.Edges.{Holds}
use Rattle.edges.specs.Predecessors.{Chained}

-- the words of scratch hold the graph of the code: edges both ways, who is reachable, what each block uses and defines, and the parameters
pub record Flows (code : List Instruction) (parameter : ℕ → Bool) (y : Layout) (m : Mem) : Type 0 where
  pub blocks : y.blocks ≡ block_count code
  pub holds : Holds (block_successors code) y m
  pub chained : Chained (block_successors code) y m
  pub reached : (c : ℕ) → c < y.blocks → word m reachable_cell c ≡ flag (reachable code c)
  pub uses_are : (c : ℕ) → c < y.blocks → (i : ℕ) → member (cell m (uses_row c)) i ≡ uses (program code parameter) i false false (body code c)
  pub defines_are : (c : ℕ) → c < y.blocks → (i : ℕ) → member (cell m (defines_row c)) i ≡ defines (program code parameter) i false (body code c)
  pub parameters_are : (i : ℕ) → member (cell m (parameters_row y.blocks)) i ≡ parameter i

-- the sets are as flow.rs begins them: initialized all ones, live zero
pub record Fresh (y : Layout) (t : Mem) : Type 0 where
  pub initialized : (c : ℕ) → c < y.blocks → cell t (initialized_row c) ≡ replicate y.words ones
  pub live : (c : ℕ) → c < y.blocks → cell t (live_row c) ≡ replicate y.words 0
