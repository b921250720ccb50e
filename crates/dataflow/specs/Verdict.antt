-- What flow.rs `check_points` looks for, and the verdict.
use Rattle.std.specs.Prelude.{◌≡◌, Bool, true, false, not, ◌&&◌, ◌||◌, List, [], ◌∷◌, ◌++◌, ℕ}
use Rattle.dataflow.specs.Program.{Program}
use Rattle.dataflow.specs.Paths.{Reached}
use Rattle.dataflow.specs.Analyses.{initialization, init_transfer, init_along, live_along}
use Rattle.dataflow.specs.Lists.{range, every, some}
use Rattle.dataflow.specs.Blocks.{BlockGraph, block_program}
use Rattle.dataflow.specs.Code.{Instruction, instruction_at, await_at, program, body}
use Rattle.dataflow.specs.Results.{block_count, reachable, init_entry, live_exit}

-- ── Over any program, with sets at the points ──

module _ {P S : Type 0} (p : Program P S) where
  -- 13: a reached point reads a slot that x says is not initialized before it.
  abbrev pub UnfilledFound : (P → S → Bool) → Type 0
  UnfilledFound x = (i : P) × (s : S) × Reached p i × (p.reads i s ≡ true) × (x i s ≡ false)

  -- 14: a host slot is in the set that y gives a reached await.
  abbrev pub HostFound : (P → Bool) → (S → Bool) → (P → S → Bool) → Type 0
  HostFound await host y = (i : P) × (s : S) × Reached p i × (await i ≡ true) × (y i s ≡ true) × (host s ≡ true)

-- ── With sets at the blocks ──

-- 13: a reached block has a point that reads a slot which x, carried from the block's entry to that point, says is not initialized.
pub record UnfilledInBlock {P S B : Type 0} (p : Program P S) (g : BlockGraph P B) (x : B → S → Bool) : Type 0 where
  pub block : B
  pub reached : Reached (block_program initialization p g) block
  pub front : List P
  pub point : P
  pub rest : List P
  pub is : g.body block ≡ front ++ (point ∷ rest)
  pub slot : S
  pub read : p.reads point slot ≡ true
  pub missing : init_along p slot (x block slot) front ≡ false

-- ── On code, as tests ──

module _ (code : List Instruction) (parameter : ℕ → Bool) where
  -- from the front: an input of some instruction of the list is not in the set, which is f before the list
  abbrev pub unfilled_read : (ℕ → Bool) → List ℕ → Bool
  unfilled_read f [] = false
  unfilled_read f (i ∷ l) =
      some (λ s. not (f s)) (instruction_at code i).inputs || unfilled_read (λ s. init_transfer (program code parameter) i s (f s)) l

  -- from the back: at some await of the list a host slot among `slots` is in the set, which is g behind the list
  abbrev pub host_saved : (ℕ → Bool) → List ℕ → (ℕ → Bool) → List ℕ → Bool
  host_saved host slots g [] = false
  host_saved host slots g (i ∷ l) =
      (await_at code i && some (λ s. host s && live_along (program code parameter) s (g s) (i ∷ l)) slots) || host_saved host slots g l

  -- 13 at block b, by sets of so many u64 words
  abbrev pub block_unfilled : ℕ → ℕ → Bool
  block_unfilled words b = unfilled_read (init_entry code parameter words b) (body code b)

  -- 14 at block b: the slots are those below the slot count
  abbrev pub block_holds : ℕ → ℕ → (ℕ → Bool) → ℕ → Bool
  block_holds words slots host b = host_saved host (range 0 slots) (live_exit code parameter words b) (body code b)

  -- The verdict: no reachable block has an unfilled read, and none has an await over a host slot. That it is demand 3's
  -- "accepted exactly when it isn't faulty" is the law `accepts_iff`.
  unfoldable pub accepts : ℕ → ℕ → (ℕ → Bool) → Bool
  accepts words slots host = every (λ b. not (reachable code b) || (not (block_unfilled words b) && not (block_holds words slots host b)))
      (range 0 (block_count code))
