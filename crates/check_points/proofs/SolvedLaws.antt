-- What stays while the blocks are checked, and that a gathered row stands for the set at a block's entry or exit. Assumes nothing.
use mathlib.Core.Path.{◌≡◌, sym, ap, subst, ◌∙◌}
use mathlib.Core.Bool.{Bool}
use mathlib.Core.List.{List}
use Prim.Native.Nat.{ℕ, ◌^◌, ◌<◌}
use native.Mathlib.Omega.{arith}
use lib.ListN.{length, get_or}
use Rattle.bitset.specs.Sets.{member}
use Rattle.dataflow.specs.Code.{Instruction}
use Rattle.dataflow.specs.Results.{init_entry, live_exit}
use Rattle.budget.specs.declared.FlowBudget.{FlowBudget}
use Rattle.budget.specs.declared.Limits.{Limits}
use Rattle.memory.specs.Cells.{Mem, cell, word, store_cell, InWords}
use Rattle.memory.specs.Names.{offset_cell, cost_cell, start_cell, end_cell, first_row, state_row, live_state_row, hosts_row, parameters_row, initialized_row, live_row}
use Rattle.memory.specs.Edges.{Connected}
use Rattle.memory.specs.Scratch.{scratch_cells, Whole}
use Rattle.memory.specs.Sets.{SetsRow, SetsWhole}
use Rattle.sizes.specs.declared.Layout.{Layout}
use Rattle.memory.proofs.CellLaws.{cell-store_same, cell-store_other, same_word}
use Rattle.memory.proofs.ScratchLaws.{sized_among}
use Rattle.memory.proofs.WordLaws.{row_in_words, set_in_words}
use Rattle.sheet.specs.declared.script.Script.{Script}
use Rattle.edges.proofs.FlowLaws.{Still, flows-still}
use Rattle.transfer.specs.declared.direction.Direction.{Direction}
use Rattle.transfer.specs.declared.direction.Direction.TheVariants.{Initialization, Liveness}
use Rattle.transfer.specs.Transfer.{running_row, gathered}
use Rattle.fixed_points.specs.FixedPoints.{Sets}
use Rattle.fixed_points.proofs.CodeGraph.{connected}
use Rattle.fixed_points.proofs.Gathered.{incoming_bits, live_out_bits}
use Rattle.answer.specs.Words.{Means}
use Rattle.reads.specs.Reads.{Counting, held_set, Coded, ReadsChecked}
use Rattle.reads.proofs.ReadLaws as read
use Rattle.check_points.specs.CheckPoints.{code_of, Solved}

-- ---- what stays

-- of scratch only the running rows may change
pub record RunningOnly (y : Layout) (m m' : Mem) : Type 0 where
  pub others : (k : ℕ) → (k ≡ state_row y.blocks → ⊥) → (k ≡ live_state_row y.blocks → ⊥) → cell m' k ≡ cell m k

-- a change after another
pub running-then : {y : Layout} {m m₁ m' : Mem} → RunningOnly y m m₁ → RunningOnly y m₁ m' → RunningOnly y m m'
running-then h g = record { others = λ k a b. g.others k a b ∙ h.others k a b }

-- the graph's cells stay
pub still-running : {y : Layout} {m m' : Mem} → RunningOnly y m m' → Still y m m'
still-running {y} h = record {
  low = λ k lt. h.others k (λ e. omega arith) (λ e. omega arith);
  edges = λ k lo hi. h.others k (λ e. omega arith) (λ e. omega arith);
  parameters = h.others (parameters_row y.blocks) (λ e. omega arith) (λ e. omega arith);
}

module _ {y : Layout} {m m' : Mem} (h : RunningOnly y m m') where
  -- a word of the cells before the rows
  pub word_kept : (k i : ℕ) → k < first_row → word m' k i ≡ word m k i
  word_kept k i lt = same_word i (h.others k (λ e. omega arith) (λ e. omega arith))

  -- the row of the parameters
  pub held_kept : held_set y m' ≡ held_set y m
  held_kept = ap member (h.others (parameters_row y.blocks) (λ e. omega arith) (λ e. omega arith))

  -- the instructions can be read as before
  pub coded_kept : {s : List ℕ} {x : Script} → Coded s x y m → Coded s x y m'
  coded_kept c = read.coded_kept c (h.others offset_cell (λ e. omega arith) (λ e. omega arith)) (h.others cost_cell (λ e. omega arith) (λ e. omega arith))
      (h.others (hosts_row y.blocks) (λ e. omega arith) (λ e. omega arith))

  -- and so is all that the words hold
  pub solved_kept : {s : List ℕ} {parameter : ℕ → Bool} {x : Script} {t : Mem} → Solved s parameter x y m t → Solved s parameter x y m' t
  solved_kept p = record {
    coded = coded_kept p.coded;
    scripted = p.scripted;
    flows = flows-still (still-running h) p.flows;
    starts = λ c lt. word_kept start_cell c (omega arith) ∙ p.starts c lt;
    ends = λ c lt. word_kept end_cell c (omega arith) ∙ p.ends c lt;
    sets = p.sets;
    awaits = p.awaits;
  }

-- the sets of the blocks stay where the rows of the sets buffer do
pub sets-kept : {code : List Instruction} {parameter : ℕ → Bool} {y : Layout} {t t' : Mem}
    → ((k : ℕ) → SetsRow y k → cell t' k ≡ cell t k) → Sets code parameter y t → Sets code parameter y t'
sets-kept h g = record {
  initialized = λ c i lc li. ap (λ (ws : List ℕ). member ws i) (h (initialized_row c) (omega arith)) ∙ g.initialized c i lc li;
  live = λ c i lc li. ap (λ (ws : List ℕ). member ws i) (h (live_row c) (omega arith)) ∙ g.live c i lc li;
}

-- so what the words hold stays
pub solved-sets : {s : List ℕ} {parameter : ℕ → Bool} {x : Script} {y : Layout} {m t t' : Mem} → ((k : ℕ) → SetsRow y k → cell t' k ≡ cell t k)
    → Solved s parameter x y m t → Solved s parameter x y m t'
solved-sets h p = record {
  coded = p.coded;
  scripted = p.scripted;
  flows = p.flows;
  starts = p.starts;
  ends = p.ends;
  sets = sets-kept h p.sets;
  awaits = p.awaits;
}

-- `check_reads` changes the running state alone
pub reads-others : {code : List Instruction} {parameter : ℕ → Bool} {y : Layout} {l : Limits} {b : FlowBudget} {start end : ℕ} {m m' : Mem}
    {r : Counting} → ReadsChecked code parameter y l b start end m m' r → RunningOnly y m m'
reads-others p = record { others = λ k a b. p.others k a }

-- ---- gathering

-- `gather` changes a running row alone
pub gather-others : (d : Direction) {y : Layout} {m m' : Mem} (ws : List ℕ) → m' ≡ store_cell m (running_row d y) ws → RunningOnly y m m'
gather-others Initialization {y} {m} ws e =
    record { others = λ k a b. ap (λ (z : Mem). cell z k) e ∙ cell-store_other m (state_row y.blocks) ws k a }
gather-others Liveness {y} {m} ws e =
    record { others = λ k a b. ap (λ (z : Mem). cell z k) e ∙ cell-store_other m (live_state_row y.blocks) ws k b }

-- what `gather` requires of the edges
pub solved-connected : {s : List ℕ} {parameter : ℕ → Bool} {x : Script} {y : Layout} {m t : Mem} → Solved s parameter x y m t → Connected y m
solved-connected p = connected p.scripted p.flows

-- a row that was stored stands for what its words stand for
pub stored-means : (y : Layout) {m : Mem} → Whole y m → (w k : ℕ) (ws : List ℕ) (f : ℕ → Bool) {m' : Mem} → k < scratch_cells y
    → m' ≡ store_cell m k ws → Means w ws f → Means w (cell m' k) f
stored-means y {m} z w k ws f lt e h =
    subst (λ (v : List ℕ). Means w v f)
    (sym (ap (λ (z : Mem). cell z k) e ∙ cell-store_same m k ws (sized_among y z lt))) h

module _ {s : List ℕ} {parameter : ℕ → Bool} {x : Script} {y : Layout} {m t : Mem} (z : Whole y m) (fits : InWords m) (zt : SetsWhole y t) (fit : InWords t)
    (p : Solved s parameter x y m t) (c : ℕ) (lc : c < y.blocks) {m' : Mem} where
  -- the running state stands for what is initialized at the block's entry
  pub incoming_means : m' ≡ store_cell m (running_row Initialization y) (gathered Initialization y m t c)
      → Means y.words (cell m' (state_row y.blocks)) (init_entry (code_of s) parameter y.words c)
  incoming_means e =
      stored-means y z y.words (state_row y.blocks) _ _ (omega arith) e
      (incoming_bits p.scripted p.flows (λ k r. row_in_words z fits r) t (λ k r. set_in_words y zt fit k r) c lc p.sets)

  -- the running live set stands for what is live at its exit
  pub live_out_means : m' ≡ store_cell m (running_row Liveness y) (gathered Liveness y m t c)
      → Means y.words (cell m' (live_state_row y.blocks)) (live_exit (code_of s) parameter y.words c)
  live_out_means e =
      stored-means y z y.words (live_state_row y.blocks) _ _ (omega arith) e
      (live_out_bits p.scripted p.flows (λ k r. row_in_words z fits r) t (λ k r. set_in_words y zt fit k r) c lc p.sets)
