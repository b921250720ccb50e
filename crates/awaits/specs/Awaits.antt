-- The awaits of one block, over the words: what `check_points` of flow.rs does there from the back.
use Rattle.std.specs.Prelude.{◌≡◌, Bool, true, List, [], ◌∷◌, ℕ, ◌+◌, ◌-◌, ◌<◌, length, Ok}
use Rattle.bitset.specs.Sets.{Words}
use Rattle.bitset.specs.Operations.{common, removed}
use Rattle.dataflow.specs.Lists.{pick, range}
use Rattle.dataflow.specs.Analyses.{live_transfer}
use Rattle.dataflow.specs.Code.{program, await_at}
use Rattle.budget.specs.declared.FlowBudget.{FlowBudget}
use Rattle.budget.specs.declared.Limits.{Limits}
use Rattle.format.specs.declared.refusal.Refusal.TheVariants.{HostOverAwait}
use Rattle.budget.specs.Budget.{charged, retained, facts_bytes}
use Rattle.memory.specs.Cells.{Mem, cell, word, store_cell}
use Rattle.memory.specs.Names.{cost_cell, live_state_row, hosts_row, await_entry}
use Rattle.sizes.specs.declared.Layout.{Layout}
use Rattle.sheet.specs.declared.script.Script.{Script}
use Rattle.sheet.specs.Decode.{parts_of}
use Rattle.script.specs.Script.{flow_code, host_in}
use Rattle.answer.specs.Words.{Means}
use Rattle.verdict.specs.Points.{Checking, stop, on, and_then, if_paid, if_kept, Point, point_run, awaits_run, await_points}
use Rattle.reads.specs.Reads.{Counting, checking_of, awaits_among}

-- a set with these slots taken out
unfoldable pub removed_all : List ℕ → List ℕ → List ℕ
removed_all [] ws = ws
removed_all (x ∷ xs) ws = removed_all xs (removed ws x)

-- an await by rows: the slot count is charged, then 14 if the rows have a slot in common, then its facts are retained, then 15
unfoldable pub await_rows : Layout → Limits → ℕ → Mem → FlowBudget → Checking
await_rows y l slots m b = if_paid (charged l b (slots ∷ [])) (λ b'. pick (common (cell m (hosts_row y.blocks)) (cell m (live_state_row y.blocks)))
    (stop HostOverAwait b') (if_kept (retained l b' (facts_bytes y.words))))

-- the words of the host slots and of the running live set are those of slices
pub record RowsFit (y : Layout) (m : Mem) : Type 0 where
  pub hosts : Words y.words (cell m (hosts_row y.blocks))
  pub live : Words y.words (cell m (live_state_row y.blocks))

-- what `check_point` does: nothing if there is no await; else its facts are put before entry `place`
pub record AwaitChecked (await : Bool) (y : Layout) (l : Limits) (slots : ℕ) (b : FlowBudget) (pc place : ℕ) (m t t' : Mem) (r : Counting) : Type 0 where
  pub answer : checking_of r ≡ pick await (await_rows y l slots m b) (on b)
  pub places : (n : ℕ) (left : FlowBudget) → r ≡ Ok (n, left) → n + pick await 1 0 ≡ place
  pub entry : (n : ℕ) (left : FlowBudget) → r ≡ Ok (n, left)
      → t' ≡ pick await (store_cell t (await_entry y.blocks n) (pc ∷ cell m (live_state_row y.blocks))) t
  pub room : (n : ℕ) (left : FlowBudget) → r ≡ Ok (n, left) → await ≡ true → await_entry y.blocks n < length t
  pub fit : await ≡ true → RowsFit y m

-- what `check_instruction` does at pc, whichever slots are parameters: its cost is charged, the live row becomes the one before it, and an await there is checked
pub record InstructionChecked (s : List ℕ) (x : Script) (y : Layout) (l : Limits) (b : FlowBudget) (pc place : ℕ) (m m' t t' : Mem) (r : Counting) : Type 0 where
  pub answer : (parameter g : ℕ → Bool) → Means y.words (cell m (live_state_row y.blocks)) g
      → checking_of r ≡ point_run (flow_code (parts_of s)) parameter l y.words x.slots (host_in (parts_of s)) pc
      (λ i. live_transfer (program (flow_code (parts_of s)) parameter) pc i (g i)) b
  pub row : (n : ℕ) (left : FlowBudget) → r ≡ Ok (n, left) → (parameter g : ℕ → Bool) → Means y.words (cell m (live_state_row y.blocks)) g
      → Means y.words (cell m' (live_state_row y.blocks)) (λ i. live_transfer (program (flow_code (parts_of s)) parameter) pc i (g i))
  pub places : (n : ℕ) (left : FlowBudget) → r ≡ Ok (n, left) → n + pick (await_at (flow_code (parts_of s)) pc) 1 0 ≡ place
  pub entry : (n : ℕ) (left : FlowBudget) → r ≡ Ok (n, left)
      → t' ≡ pick (await_at (flow_code (parts_of s)) pc) (store_cell t (await_entry y.blocks n) (pc ∷ cell m' (live_state_row y.blocks))) t
  pub room : (n : ℕ) (left : FlowBudget) → r ≡ Ok (n, left) → await_at (flow_code (parts_of s)) pc ≡ true → await_entry y.blocks n < length t
  pub others : (k : ℕ) → (k ≡ live_state_row y.blocks → ⊥) → cell m' k ≡ cell m k

-- an entry of the sets buffer holds an await's facts: its instruction, then its set
abbrev pub Entry : ℕ → List ℕ → Point → Type 0
Entry w ws p = (row : List ℕ) × (ws ≡ p.instruction ∷ row) × Means w row p.live

-- the entries from `first` on hold these points
abbrev pub Entries : Layout → Mem → ℕ → List Point → Type 0
Entries y t first [] = Unit {0}
Entries y t first (p ∷ ps) = Entry y.words (cell t (await_entry y.blocks first)) p × Entries y t (first + 1) ps

-- what `check_awaits` does with the instructions from start to end, whichever slots are parameters: its awaits' facts stand before entry `place`
pub record AwaitsChecked (s : List ℕ) (x : Script) (y : Layout) (l : Limits) (b : FlowBudget) (start end place : ℕ) (m m' t t' : Mem) (r : Counting) : Type 0 where
  pub answer : (parameter g : ℕ → Bool) → Means y.words (cell m (live_state_row y.blocks)) g
      → checking_of r ≡ awaits_run (flow_code (parts_of s)) parameter l y.words x.slots (host_in (parts_of s)) g (range start (end - start)) b
  pub places : (n : ℕ) (left : FlowBudget) → r ≡ Ok (n, left) → n + awaits_among (flow_code (parts_of s)) start end ≡ place
  pub entries : (n : ℕ) (left : FlowBudget) → r ≡ Ok (n, left) → (parameter g : ℕ → Bool) → Means y.words (cell m (live_state_row y.blocks)) g
      → Entries y t' n (await_points (flow_code (parts_of s)) parameter g (range start (end - start)))
  pub others : (k : ℕ) → (k ≡ live_state_row y.blocks → ⊥) → cell m' k ≡ cell m k
  pub other_sets : (n : ℕ) (left : FlowBudget) → r ≡ Ok (n, left) → (k : ℕ) → k < await_entry y.blocks n → cell t' k ≡ cell t k

-- the costs of a list charged one by one, from the back
unfoldable pub back_run : (ℕ → ℕ) → Limits → List ℕ → FlowBudget → Checking
back_run cost l [] b = on b
back_run cost l (i ∷ is) b = and_then (back_run cost l is b) (λ b'. if_paid (charged l b' (cost i ∷ [])) on)

-- what `charge_back` does with the instructions from start to end: their costs are charged, and the place is the same
pub record ChargedBack (l : Limits) (b : FlowBudget) (start end place : ℕ) (m : Mem) (r : Counting) : Type 0 where
  pub answer : checking_of r ≡ back_run (word m cost_cell) l (range start (end - start)) b
  pub places : (n : ℕ) (left : FlowBudget) → r ≡ Ok (n, left) → n ≡ place
