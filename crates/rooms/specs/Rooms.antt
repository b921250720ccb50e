-- Refusals 11 and the later 10: flow.rs `graph` up to where its state is known, and document 01's sizes of the lent buffers.
use Rattle.std.specs.Prelude.{List, ◌≡◌, ℕ, ◌≤◌, length, Result, Ok, Err}
use Rattle.dataflow.specs.Charges.{leader_charges, counting_charges}
use Rattle.dataflow.specs.Results.{block_count}
use Rattle.budget.specs.declared.FlowBudget.{FlowBudget}
use Rattle.budget.specs.declared.Limits.{Limits}
use Rattle.budget.specs.declared.OverWork.{OverWork}
use Rattle.budget.specs.Budget.{charged}
use Rattle.sizes.specs.declared.Layout.{Layout}
use Rattle.memory.specs.Cells.{Mem}
use Rattle.memory.specs.Scratch.{scratch, Room}
use Rattle.sizes.specs.Sizes.{layout_of}
use Rattle.sizes.specs.Stages.{Staged, rooms_of, if_met}
use Rattle.memory.specs.Sets.{SetsRoom}
use Rattle.sheet.specs.declared.script.Script.{Script}
use Rattle.sheet.specs.Decode.{parts_of}
use Rattle.script.specs.Script.{flow_code}
use Rattle.leaders.specs.Index.{Indexed, Fits}
use Rattle.sizes.specs.declared.Lent.{Lent}

-- what `index` does: the charges of the first loop, and if they are met, the blocks are counted and m holds their index
abbrev pub IndexBuilt : List ℕ → Script → Limits → FlowBudget → Mem → Result (ℕ × FlowBudget) OverWork → Type 0
IndexBuilt s x l b m (Ok r) =
    (charged l b (leader_charges (flow_code (parts_of s))) ≡ Ok r.1) × (r.0 ≡ block_count (flow_code (parts_of s))) × Indexed s x m
IndexBuilt s x l b m (Err e) = charged l b (leader_charges (flow_code (parts_of s))) ≡ Err e

-- what a stage leaves behind if it goes on: a layout of the script's sizes that both buffers hold, and the index of the blocks
pub record Indexes (s : List ℕ) (x : Script) (lent : Lent) (w' : List ℕ) (y : Layout) : Type 0 where
  pub fits : Fits s x y
  pub awaits : y.awaits ≡ x.awaits
  pub room : Room y (length w')
  pub sets_room : SetsRoom y lent.sets
  pub records : y.blocks ≤ lent.records
  pub index : Indexed s x (scratch y w')

-- what `count` does: the charges of the first loop, 11, 10; w are the words of scratch
pub record Counted (s : List ℕ) (x : Script) (l : Limits) (lent : Lent) (b : FlowBudget) (w w' : List ℕ) (r : Staged) : Type 0 where
  pub answer : r ≡ if_met (charged l b (leader_charges (flow_code (parts_of s))))
      (rooms_of l (layout_of x (block_count (flow_code (parts_of s)))) (length w) lent)
  pub indexes : (y : Layout) (left : FlowBudget) → r ≡ Ok (y, left) → Indexes s x lent w' y

-- what `measure` does: the same after the charges of the index
pub record Measured (s : List ℕ) (x : Script) (l : Limits) (lent : Lent) (b : FlowBudget) (w w' : List ℕ) (r : Staged) : Type 0 where
  pub answer : r ≡ if_met (charged l b (counting_charges (flow_code (parts_of s))))
      (rooms_of l (layout_of x (block_count (flow_code (parts_of s)))) (length w) lent)
  pub indexes : (y : Layout) (left : FlowBudget) → r ≡ Ok (y, left) → Indexes s x lent w' y
