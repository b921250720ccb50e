-- flow.rs `check_points` as a run: the reachable blocks by start, each with its reads from the front and then its awaits from the back.
use Rattle.std.specs.Prelude.{Bool, ◌&&◌, List, [], ◌∷◌, ◌++◌, ℕ, Result, Ok, Err}
use Rattle.dataflow.specs.Lists.{pick, range, every, some}
use Rattle.dataflow.specs.Analyses.{init_transfer, live_along}
use Rattle.dataflow.specs.Code.{Instruction, instruction_at, program, body, await_at}
use Rattle.dataflow.specs.Results.{block_count, reachable, init_entry, live_exit}
use Rattle.dataflow.specs.Charges.{cost_at}
use Rattle.budget.specs.declared.FlowBudget.{FlowBudget}
use Rattle.budget.specs.declared.Limits.{Limits}
use Rattle.budget.specs.declared.OverFacts.{OverFacts}
use Rattle.budget.specs.Budget.{Charged, charged, retained, facts_bytes}
use Rattle.format.specs.declared.refusal.Refusal.{Refusal}
use Rattle.format.specs.declared.refusal.Refusal.TheVariants.{WorkLimit, UnfilledSlot, HostOverAwait, FactsLimit}

-- a refusal with the budget as charged, or the budget to go on with
pub data Checking : Type 0 where
  stop : Refusal → FlowBudget → Checking
  on : FlowBudget → Checking

-- what follows; a refusal stays
abbrev pub and_then : Checking → (FlowBudget → Checking) → Checking
and_then (stop r b) f = stop r b
and_then (on b) f = f b

-- 12 if a charge crossed the limit, else what follows
abbrev pub if_paid : Charged → (FlowBudget → Checking) → Checking
if_paid (Ok b) f = f b
if_paid (Err e) f = stop WorkLimit e.budget

-- 15 if retained facts crossed their limit
abbrev pub if_kept : Result FlowBudget OverFacts → Checking
if_kept (Ok b) = on b
if_kept (Err e) = stop FactsLimit e.budget

-- an await and its set
pub record Point : Type 0 where
  pub instruction : ℕ
  pub live : ℕ → Bool

module _ (code : List Instruction) (parameter : ℕ → Bool) (l : Limits) where
  -- the reads of a list, from the front: 13 at the first instruction with an input that is not in the set, which is f before the list
  unfoldable pub reads_run : (ℕ → Bool) → List ℕ → FlowBudget → Checking
  reads_run f [] b = on b
  reads_run f (i ∷ is) b = if_paid (charged l b (cost_at code i ∷ [])) (λ b'. pick (every f (instruction_at code i).inputs)
      (reads_run (λ s. init_transfer (program code parameter) i s (f s)) is b') (stop UnfilledSlot b'))

  -- words: the u64 words of a set; host: which of the slots are host slots
  module _ (words slots : ℕ) (host : ℕ → Bool) where
    -- an await with this set: the slot count is charged, then 14, then its facts are retained, then 15
    unfoldable pub await_run : (ℕ → Bool) → FlowBudget → Checking
    await_run live b = if_paid (charged l b (slots ∷ [])) (λ b'. pick (some (λ s. host s && live s) (range 0 slots)) (stop HostOverAwait b')
        (if_kept (retained l b' (facts_bytes words))))

    -- one instruction with the set before it
    unfoldable pub point_run : ℕ → (ℕ → Bool) → FlowBudget → Checking
    point_run i live b = if_paid (charged l b (cost_at code i ∷ [])) (λ b'. pick (await_at code i) (await_run live b') (on b'))

    -- the awaits of a list, from the back; the set is g behind the list
    unfoldable pub awaits_run : (ℕ → Bool) → List ℕ → FlowBudget → Checking
    awaits_run g [] b = on b
    awaits_run g (i ∷ is) b = and_then (awaits_run g is b) (point_run i (λ s. live_along (program code parameter) s (g s) (i ∷ is)))

    -- a block: "all reads are checked, and the first unfilled one leaves both loops, before its awaits are seen from the back"
    unfoldable pub block_run : ℕ → FlowBudget → Checking
    block_run c b = pick (reachable code c)
        (and_then (reads_run (init_entry code parameter words c) (body code c) b) (awaits_run (live_exit code parameter words c) (body code c))) (on b)

    unfoldable pub blocks_run : List ℕ → FlowBudget → Checking
    blocks_run [] b = on b
    blocks_run (c ∷ cs) b = and_then (block_run c b) (blocks_run cs)

    -- `check_points`
    unfoldable pub points_run : FlowBudget → Checking
    points_run = blocks_run (range 0 (block_count code))

module _ (code : List Instruction) (parameter : ℕ → Bool) where
  -- the awaits of a list with their sets, in order; the set is g behind the list
  unfoldable pub await_points : (ℕ → Bool) → List ℕ → List Point
  await_points g [] = []
  await_points g (i ∷ is) = pick (await_at code i) (record { instruction = i; live = λ s. live_along (program code parameter) s (g s) (i ∷ is) } ∷ await_points g is)
      (await_points g is)

  -- the awaits of the reachable ones among these blocks
  unfoldable pub block_points : ℕ → List ℕ → List Point
  block_points words [] = []
  block_points words (c ∷ cs) =
      pick (reachable code c) (await_points (live_exit code parameter words c) (body code c)) [] ++ block_points words cs

  -- the await facts: `check_points` sorts them by instruction
  unfoldable pub points : ℕ → List Point
  points words = block_points words (range 0 (block_count code))
