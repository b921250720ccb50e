-- What a block uses and what it defines, as rows of words: flow.rs `graph`, the second loop.
use Rattle.std.specs.Prelude.{◌≡◌, List, [], ◌∷◌, map, ℕ, ◌-◌, ◌≤◌, ◌<◌, Ok}
use Rattle.bitset.specs.Sets.{member}
use Rattle.bitset.specs.Operations.{inserted}
use Rattle.dataflow.specs.Lists.{pick, range}
use Rattle.dataflow.specs.Code.{Instruction, instruction_at}
use Rattle.dataflow.specs.Charges.{cost_at}
use Rattle.memory.specs.Cells.{Mem, cell, word}
use Rattle.memory.specs.Names.{cost_cell, uses_row, defines_row}
use Rattle.memory.specs.Frame.{Only, RowsOf}
use Rattle.budget.specs.declared.FlowBudget.{FlowBudget}
use Rattle.budget.specs.declared.Limits.{Limits}
use Rattle.budget.specs.Budget.{Charged, charged}
use Rattle.instructions.specs.Sets.{inserted_all}

-- each of the inputs is used unless it is in d
unfoldable pub used_in : List ℕ → List ℕ → List ℕ → List ℕ
used_in d [] u = u
used_in d (s ∷ l) u = used_in d l (pick (member d s) u (inserted u s))

-- what the instructions of a list use and define, from what is used and defined before them
pub record Transfer : Type 0 where
  pub uses : List ℕ
  pub defines : List ℕ

abbrev pub transfer_one : Instruction → Transfer → Transfer
transfer_one i r = record { uses = used_in r.defines i.inputs r.uses; defines = inserted_all i.outputs r.defines }

unfoldable pub transfer_all : List Instruction → List ℕ → Transfer → Transfer
transfer_all code [] r = r
transfer_all code (i ∷ l) r = transfer_all code l (transfer_one (instruction_at code i) r)

-- a block's two rows
abbrev pub rows_at : Mem → ℕ → Transfer
rows_at m b = record { uses = cell m (uses_row b); defines = cell m (defines_row b) }

-- what `transfer` does with block b's instructions, those from `start` to `end`: a charge for each, and if they are met, the two rows, and the
-- charges noted; three cells change
pub record Transferred (code : List Instruction) (l : Limits) (budget : FlowBudget) (b start end : ℕ) (m m' : Mem) (r : Charged) : Type 0 where
  pub charges : r ≡ charged l budget (map (cost_at code) (range start (end - start)))
  pub rows : (left : FlowBudget) → r ≡ Ok left → rows_at m' b ≡ transfer_all code (range start (end - start)) (rows_at m b)
  pub costs : (left : FlowBudget) → r ≡ Ok left → (i : ℕ) → start ≤ i → i < end → word m' cost_cell i ≡ cost_at code i
  pub other_costs : (i : ℕ) → i < start → word m' cost_cell i ≡ word m cost_cell i
  pub only : Only (cost_cell ∷ []) (RowsOf b) m m'
