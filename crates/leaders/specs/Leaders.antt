-- The first loop of `graph` in flow.rs: a charge an instruction, and the leaders marked.
use Rattle.std.specs.Prelude.{◌≡◌, Bool, ◌&&◌, ◌||◌, List, [], ◌∷◌, ℕ, suc, ◌+◌, ◌<◌, eqb, ltb, replicate, Ok}
use Rattle.dataflow.specs.Lists.{pick, range, some, elem, flag}
use Rattle.dataflow.specs.Code.{Instruction, instruction_at, leader}
use Rattle.memory.specs.Cells.{Mem, cell, word, store}
use Rattle.memory.specs.Names.{block_of_cell, offset_cell}
use Rattle.sizes.specs.declared.Layout.{Layout}
use Rattle.budget.specs.declared.FlowBudget.{FlowBudget}
use Rattle.budget.specs.declared.Limits.{Limits}
use Rattle.budget.specs.Budget.{Charged, charged}
use Rattle.sheet.specs.declared.script.Script.{Script}
use Rattle.sheet.specs.Decode.{parts_of}
use Rattle.instructions.specs.Sound.{code_offset}
use Rattle.script.specs.Script.{flow_code}

-- the layout of scratch before the blocks are known
abbrev pub marking : Script → Layout
marking x = record { instructions = x.count; blocks = 0; words = 0; awaits = 0; extra = 0 }

-- these instructions marked
unfoldable pub mark_all : List ℕ → Mem → Mem
mark_all [] m = m
mark_all (j ∷ js) m = mark_all js (store m block_of_cell j 1)

-- what follows instruction i marked, if it is one of n
unfoldable pub mark_next : ℕ → ℕ → Mem → Mem
mark_next n i m = pick (ltb (i + 1) n) (store m block_of_cell (i + 1) 1) m

-- what an instruction marks: if it ends a block, its targets and what follows it
abbrev pub marked_by : Bool → List ℕ → ℕ → ℕ → Mem → Mem
marked_by ends targets n i m = pick ends (mark_next n i (mark_all targets m)) m

-- j is a leader by the first n instructions: it is 0, or one of them ends a block and j follows it or is its target
abbrev pub leads : List Instruction → ℕ → ℕ → Bool
leads code j i = (instruction_at code i).ends && (eqb j (suc i) || elem j (instruction_at code i).targets)

abbrev pub led_by : List Instruction → ℕ → ℕ → Bool
led_by code n j = eqb j 0 || some (leads code j) (range 0 n)

-- before the first instruction only instruction 0 is marked
abbrev pub Begun : Script → Mem → Type 0
Begun x m = (j : ℕ) → j < x.count → word m block_of_cell j ≡ flag (eqb j 0)

-- the offsets of the instructions, and the leaders' marks
pub record Led (s : List ℕ) (x : Script) (m : Mem) : Type 0 where
  pub offsets : (i : ℕ) → i < x.count → word m offset_cell i ≡ code_offset s x i
  pub marks : (j : ℕ) → j < x.count → word m block_of_cell j ≡ flag (leader (flow_code (parts_of s)) j)

-- what `leaders` does: its charges, and if they are met, the offsets and the marks; two cells change
pub record Leads (s : List ℕ) (x : Script) (l : Limits) (b : FlowBudget) (m m' : Mem) (r : Charged) : Type 0 where
  pub charges : r ≡ charged l b (replicate x.count 1)
  pub led : (left : FlowBudget) → r ≡ Ok left → Led s x m'
  pub others : (k : ℕ) → (k ≡ offset_cell → ⊥) → (k ≡ block_of_cell → ⊥) → cell m' k ≡ cell m k
