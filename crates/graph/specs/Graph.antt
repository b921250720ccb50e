-- `graph` and `reachability` of flow.rs: the answer, and what both buffers hold where it goes on.
use Rattle.std.specs.Prelude.{◌≡◌, Bool, List, [], ℕ, ◌<◌, length, Ok}
use Rattle.bitset.specs.Sets.{member}
use Rattle.dataflow.specs.Charges.{building_charges}
use Rattle.budget.specs.declared.FlowBudget.{FlowBudget}
use Rattle.budget.specs.declared.Limits.{Limits}
use Rattle.budget.specs.Budget.{Charged, charged}
use Rattle.memory.specs.Cells.{Mem, cell, store_cell}
use Rattle.memory.specs.Names.{parameters_row}
use Rattle.memory.specs.Frame.{Only, ThisRow}
use Rattle.sizes.specs.declared.Layout.{Layout}
use Rattle.memory.specs.Scratch.{scratch}
use Rattle.memory.specs.Sets.{sets}
use Rattle.sheet.specs.declared.script.Script.{Script}
use Rattle.sheet.specs.Decode.{parts_of}
use Rattle.script.specs.Script.{flow_code}
use Rattle.leaders.specs.Index.{Indexed}
use Rattle.edges.specs.Predecessors.{Linked}
use Rattle.edges.specs.Flow.{Flows, Fresh}
use Rattle.blocks.specs.Blocks.{Block}
use Rattle.rooms.specs.Rooms.{Indexes}
use Rattle.sizes.specs.Stages.{Staged, stage, graph_of}

-- what the words of scratch hold of a script with whatever set of parameters: its index, every block, the flow graph
pub record Holding (s : List ℕ) (parameter : ℕ → Bool) (x : Script) (y : Layout) (m : Mem) : Type 0 where
  pub index : Indexed s x m
  pub block : (c : ℕ) → c < y.blocks → Block (flow_code (parts_of s)) parameter m c
  pub flows : Flows (flow_code (parts_of s)) parameter y m

-- what `graph` does: w and v are the words of scratch and of the sets buffer
pub record Graphed (s : List ℕ) (parameter : ℕ → Bool) (x : Script) (l : Limits) (records : ℕ) (b : FlowBudget) (w w' v v' : List ℕ) (r : Staged) : Type 0 where
  pub answer : r ≡ graph_of (flow_code (parts_of s)) x l (record { sets = length v; records = records }) (length w) b
  pub rooms : (y : Layout) (left : FlowBudget) → r ≡ Ok (y, left) → Indexes s x (record { sets = length v; records = records }) w' y
  pub holding : (y : Layout) (left : FlowBudget) → r ≡ Ok (y, left) → Holding s parameter x y (scratch y w')
  pub fresh : (y : Layout) (left : FlowBudget) → r ≡ Ok (y, left) → Fresh y (sets y v')

-- what `parameters` does: a row that holds them is stored
pub record Parameters (parameter : ℕ → Bool) (y : Layout) (m m' : Mem) : Type 0 where
  pub row : List ℕ
  pub stored : m' ≡ store_cell m (parameters_row y.blocks) row
  pub members : (i : ℕ) → member row i ≡ parameter i

-- what `join` does: the predecessors of whatever graph the words hold, then the row of the parameters
pub record Joined (parameter : ℕ → Bool) (y : Layout) (m m' : Mem) : Type 0 where
  pub between : Mem
  pub linked : Linked y m between
  pub parameters : (i : ℕ) → member (cell m' (parameters_row y.blocks)) i ≡ parameter i
  pub only : Only [] (ThisRow (parameters_row y.blocks)) between m'

-- what `build` does
pub record Built (s : List ℕ) (parameter : ℕ → Bool) (x : Script) (y : Layout) (l : Limits) (b : FlowBudget) (m m' t' : Mem) (r : Staged) : Type 0 where
  pub answer : r ≡ stage l (building_charges (flow_code (parts_of s))) y b
  pub holding : (y' : Layout) (left : FlowBudget) → r ≡ Ok (y', left) → Holding s parameter x y m'
  pub fresh : (y' : Layout) (left : FlowBudget) → r ≡ Ok (y', left) → Fresh y t'

-- what `build_cells` does
pub record BuiltCells (s : List ℕ) (parameter : ℕ → Bool) (x : Script) (y : Layout) (l : Limits) (b : FlowBudget) (m m' t' : Mem) (r : Charged) : Type 0 where
  pub answer : r ≡ charged l b (building_charges (flow_code (parts_of s)))
  pub holding : (left : FlowBudget) → r ≡ Ok left → Holding s parameter x y m'
  pub fresh : (left : FlowBudget) → r ≡ Ok left → Fresh y t'
