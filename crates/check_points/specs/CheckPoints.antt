-- `check_points` of flow.rs over the words of both buffers: the answer is the run's, and the await facts stand in the sets buffer.
use Rattle.std.specs.Prelude.{◌≡◌, Bool, List, [], ℕ, suc, ◌+◌, ◌≤◌, ◌<◌, length, get_or, Ok}
use Rattle.dataflow.specs.Lists.{pick}
use Rattle.dataflow.specs.Code.{Instruction, leaders, body}
use Rattle.dataflow.specs.Results.{reachable, live_exit}
use Rattle.budget.specs.declared.FlowBudget.{FlowBudget}
use Rattle.budget.specs.declared.Limits.{Limits}
use Rattle.memory.specs.Cells.{Mem, cell, word}
use Rattle.memory.specs.Names.{start_cell, end_cell, state_row, live_state_row, await_entry}
use Rattle.memory.specs.Sets.{SetsRow}
use Rattle.sizes.specs.declared.Layout.{Layout}
use Rattle.sheet.specs.declared.script.Script.{Script}
use Rattle.sheet.specs.Decode.{parts_of}
use Rattle.script.specs.Script.{flow_code, host_in}
use Rattle.edges.specs.Flow.{Flows}
use Rattle.fixed_points.specs.FixedPoints.{Sets}
use Rattle.dataflow.specs.Checked.{Scripted}
use Rattle.verdict.specs.Points.{Point, awaits_run, block_run, points_run, await_points, points}
use Rattle.reads.specs.Reads.{Counting, checking_of, Coded, awaits_among}
use Rattle.awaits.specs.Awaits.{Entries}

-- the code of a sheet
abbrev pub code_of : List ℕ → List Instruction
code_of s = flow_code (parts_of s)

-- what the words hold before `check_points`, with whatever set of parameters: the code, its blocks and its flow graph, and both sets of every block
pub record Solved (s : List ℕ) (parameter : ℕ → Bool) (x : Script) (y : Layout) (m t : Mem) : Type 0 where
  pub coded : Coded s x y m
  pub scripted : Scripted (code_of s) parameter y.words
  pub flows : Flows (code_of s) parameter y m
  pub starts : (c : ℕ) → c < y.blocks → word m start_cell c ≡ get_or (leaders (code_of s)) c (length (code_of s))
  pub ends : (c : ℕ) → c < y.blocks → word m end_cell c ≡ get_or (leaders (code_of s)) (suc c) (length (code_of s))
  pub sets : Sets (code_of s) parameter y t
  pub awaits : y.awaits ≡ x.awaits

-- the await facts of block c, none if it is not reachable
abbrev pub facts_of : List ℕ → (ℕ → Bool) → ℕ → ℕ → List Point
facts_of s parameter words c =
    pick (reachable (code_of s) c) (await_points (code_of s) parameter (live_exit (code_of s) parameter words c) (body (code_of s) c)) []

-- `check_block` may begin: block c is one of the blocks, and the entries of its awaits and of those before it are there
pub record Facing (s : List ℕ) (parameter : ℕ → Bool) (x : Script) (y : Layout) (c place : ℕ) (m t : Mem) : Type 0 where
  pub solved : Solved s parameter x y m t
  pub inside : c < y.blocks
  pub room : place + length (facts_of s parameter y.words c) ≤ y.awaits

-- `check_found` may begin: block c is the instructions from start to end, with as many awaits as were found, and their entries are there
pub record Counted (s : List ℕ) (parameter : ℕ → Bool) (x : Script) (y : Layout) (c start end place found : ℕ) (m t : Mem) : Type 0 where
  pub solved : Solved s parameter x y m t
  pub inside : c < y.blocks
  pub start_is : start ≡ word m start_cell c
  pub end_is : end ≡ word m end_cell c
  pub found_are : found ≡ awaits_among (code_of s) start end
  pub room : place + found ≤ y.awaits

-- what `check_found` does: the awaits of block c from what is live at its exit
pub record FoundChecked (s : List ℕ) (parameter : ℕ → Bool) (x : Script) (y : Layout) (l : Limits) (b : FlowBudget) (c place found : ℕ) (m m' t t' : Mem) (r : Counting) : Type 0 where
  pub answer : checking_of r ≡ awaits_run (code_of s) parameter l y.words x.slots (host_in (parts_of s))
      (live_exit (code_of s) parameter y.words c) (body (code_of s) c) b
  pub count : (n : ℕ) (left : FlowBudget) → r ≡ Ok (n, left) → n ≡ place + found
  pub entries : (n : ℕ) (left : FlowBudget) → r ≡ Ok (n, left)
      → Entries y t' place (await_points (code_of s) parameter (live_exit (code_of s) parameter y.words c) (body (code_of s) c))
  pub earlier : (n : ℕ) (left : FlowBudget) → r ≡ Ok (n, left) → (k : ℕ) → k < await_entry y.blocks place → cell t' k ≡ cell t k
  pub others : (k : ℕ) → (k ≡ state_row y.blocks → ⊥) → (k ≡ live_state_row y.blocks → ⊥) → cell m' k ≡ cell m k

-- what `check_block` does with block c, before which `place` awaits are reached
pub record BlockChecked (s : List ℕ) (parameter : ℕ → Bool) (x : Script) (y : Layout) (l : Limits) (b : FlowBudget) (c place : ℕ) (m m' t t' : Mem) (r : Counting) : Type 0 where
  pub answer : checking_of r ≡ block_run (code_of s) parameter l y.words x.slots (host_in (parts_of s)) c b
  pub count : (n : ℕ) (left : FlowBudget) → r ≡ Ok (n, left) → n ≡ place + length (facts_of s parameter y.words c)
  pub entries : (n : ℕ) (left : FlowBudget) → r ≡ Ok (n, left) → Entries y t' place (facts_of s parameter y.words c)
  pub earlier : (n : ℕ) (left : FlowBudget) → r ≡ Ok (n, left) → (k : ℕ) → k < await_entry y.blocks place → cell t' k ≡ cell t k
  pub others : (k : ℕ) → (k ≡ state_row y.blocks → ⊥) → (k ≡ live_state_row y.blocks → ⊥) → cell m' k ≡ cell m k

-- what `check_points` does
pub record PointsChecked (s : List ℕ) (parameter : ℕ → Bool) (x : Script) (y : Layout) (l : Limits) (b : FlowBudget) (m m' t t' : Mem) (r : Counting) : Type 0 where
  pub answer : checking_of r ≡ points_run (code_of s) parameter l y.words x.slots (host_in (parts_of s)) b
  pub count : (n : ℕ) (left : FlowBudget) → r ≡ Ok (n, left) → n ≡ length (points (code_of s) parameter y.words)
  pub entries : (n : ℕ) (left : FlowBudget) → r ≡ Ok (n, left) → Entries y t' 0 (points (code_of s) parameter y.words)
  pub rows : (n : ℕ) (left : FlowBudget) → r ≡ Ok (n, left) → (k : ℕ) → SetsRow y k → cell t' k ≡ cell t k
  pub others : (k : ℕ) → (k ≡ state_row y.blocks → ⊥) → (k ≡ live_state_row y.blocks → ⊥) → cell m' k ≡ cell m k
