-- The reads of one block, over the words: what `check_points` of flow.rs does there from the front.
use Rattle.std.specs.Prelude.{◌≡◌, Bool, false, List, [], ◌∷◌, ℕ, ◌*◌, ◌-◌, ◌≤◌, ◌<◌, length, Result, Ok, Err}
use Rattle.bitset.specs.Sets.{member}
use Rattle.dataflow.specs.Lists.{pick, range, keep}
use Rattle.dataflow.specs.BasicBlocks.{uses}
use Rattle.dataflow.specs.Code.{Instruction, program, await_at}
use Rattle.dataflow.specs.Charges.{cost_at}
use Rattle.budget.specs.declared.FlowBudget.{FlowBudget}
use Rattle.budget.specs.declared.Limits.{Limits}
use Rattle.budget.specs.Budget.{charged}
use Rattle.memory.specs.Cells.{Mem, cell, word}
use Rattle.memory.specs.Names.{cost_cell, offset_cell, uses_row, state_row, parameters_row, hosts_row}
use Rattle.sizes.specs.declared.Layout.{Layout}
use Rattle.sizes.specs.declared.Stopped.{Stopped}
use Rattle.sheet.specs.declared.script.Script.{Script}
use Rattle.sheet.specs.Decode.{parts_of}
use Rattle.instructions.specs.Sound.{Sound, code_offset}
use Rattle.script.specs.Script.{flow_code, host_in}
use Rattle.answer.specs.Words.{Means}
use Rattle.verdict.specs.Points.{Checking, stop, on, if_paid, reads_run}
use Rattle.operands.specs.Kinds.{is_await}

-- the parameters, as their row of scratch holds them: the set that block 0 starts from
abbrev pub held_set : Layout → Mem → ℕ → Bool
held_set y m = member (cell m (parameters_row y.blocks))

-- the instructions of a sheet that passed can be read, with their costs and, if there may be an await, the row of host slots
pub record Coded (s : List ℕ) (x : Script) (y : Layout) (m : Mem) : Type 0 where
  pub sound : Sound s x
  pub instructions : y.instructions ≡ x.count
  pub slots : x.slots ≤ 64 * y.words
  pub offsets : (i : ℕ) → i < x.count → word m offset_cell i ≡ code_offset s x i
  pub costs : (i : ℕ) → i < x.count → word m cost_cell i ≡ cost_at (flow_code (parts_of s)) i
  pub hosts : 0 < y.awaits → Means y.words (cell m (hosts_row y.blocks)) (host_in (parts_of s))

-- 1 for an await
abbrev pub await_count : ℕ → ℕ
await_count k = pick (is_await k) 1 0

-- how many awaits are among the instructions from start to end
abbrev pub awaits_among : List Instruction → ℕ → ℕ → ℕ
awaits_among code start end = length (keep (await_at code) (range start (end - start)))

-- what a check answers: a number of awaits and the budget to go on with, or a refusal
abbrev pub Counting : Type 0
Counting = Result (ℕ × FlowBudget) Stopped

-- an answer as that of the run
abbrev pub checking_of : Counting → Checking
checking_of (Ok r) = on r.1
checking_of (Err e) = stop e.why e.budget

-- what `check_reads` does with the instructions from start to end
pub record ReadsChecked (code : List Instruction) (parameter : ℕ → Bool) (y : Layout) (l : Limits) (b : FlowBudget) (start end : ℕ) (m m' : Mem) (r : Counting) : Type 0 where
  pub answer : (f : ℕ → Bool) → Means y.words (cell m (state_row y.blocks)) f → checking_of r ≡ reads_run code parameter l f (range start (end - start)) b
  pub counted : (n : ℕ) (left : FlowBudget) → r ≡ Ok (n, left) → n ≡ awaits_among code start end
  pub others : (k : ℕ) → (k ≡ state_row y.blocks → ⊥) → cell m' k ≡ cell m k

-- the row of a block's uses holds what the instructions from start to end use: `graph`'s `uses`
pub record Used (code : List Instruction) (parameter : ℕ → Bool) (c start end : ℕ) (m : Mem) : Type 0 where
  pub are : (i : ℕ) → member (cell m (uses_row c)) i ≡ uses (program code parameter) i false false (range start (end - start))

-- the costs of a list charged one by one, from the front
unfoldable pub front_run : (ℕ → ℕ) → Limits → List ℕ → FlowBudget → Checking
front_run cost l [] b = on b
front_run cost l (i ∷ is) b = if_paid (charged l b (cost i ∷ [])) (front_run cost l is)

-- what `charge_reads` does with the instructions from start to end
pub record ReadsCharged (code : List Instruction) (l : Limits) (b : FlowBudget) (start end : ℕ) (r : Counting) : Type 0 where
  pub answer : checking_of r ≡ front_run (cost_at code) l (range start (end - start)) b
  pub counted : (n : ℕ) (left : FlowBudget) → r ≡ Ok (n, left) → n ≡ awaits_among code start end
