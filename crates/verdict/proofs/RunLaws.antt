-- The run of `check_points` against the verdict: it goes on only if the script is accepted, and stops with 13 or 14 only on a fault.
use mathlib.Core.Path.{◌≡◌, refl, subst}
use mathlib.Core.Bool.{Bool, true, false, not, ◌&&◌, ◌||◌, or-true}
use mathlib.Core.List.{List, [], ◌∷◌}
use mathlib.Core.Logic.{◌⊎◌, inl, inr, ◌↔◌}
use Prim.Native.Nat.{ℕ, ◌*◌, ◌≤◌}
use Rattle.std.specs.Prelude.{Result, Ok, Err}
use Rattle.dataflow.specs.Lists.{pick, range, every, some}
use Rattle.dataflow.specs.Program.{Program}
use Rattle.dataflow.specs.Analyses.{init_transfer, live_along}
use Rattle.dataflow.specs.Demand.{Unfilled, Held, Faulty}
use Rattle.dataflow.specs.Code.{Instruction, instruction_at, program, body, await_at}
use Rattle.dataflow.specs.Checked.{Checked}
use Rattle.dataflow.specs.Results.{block_count, reachable, init_entry, live_exit}
use Rattle.dataflow.specs.Verdict.{unfilled_read, host_saved, block_unfilled, block_holds, accepts}
use Rattle.dataflow.specs.Charges.{cost_at}
use Rattle.dataflow.proofs.Bools.{not-true}
use Rattle.dataflow.proofs.Results.{reachable_iff}
use Rattle.dataflow.proofs.Verdict.{block_unfilled_iff, block_holds_iff, accepts_iff}
use Rattle.budget.specs.declared.FlowBudget.{FlowBudget}
use Rattle.budget.specs.declared.Limits.{Limits}
use Rattle.budget.specs.declared.OverFacts.{OverFacts}
use Rattle.budget.specs.Budget.{Charged, charged, retained, facts_bytes}
use Rattle.format.specs.declared.refusal.Refusal.{Refusal}
use Rattle.format.specs.declared.refusal.Refusal.TheVariants.{WorkLimit, UnfilledSlot, HostOverAwait, FactsLimit}
use Rattle.verdict.specs.Points.{Checking, stop, on, and_then, if_paid, if_kept}
use Rattle.verdict.specs.Points.{reads_run, await_run, point_run, awaits_run, block_run, blocks_run, points_run}

-- ── What a run says ──

-- going on says `fine`; a stop is 12 or 15, or it is 13 and says `unfilled`, or it is 14 and says `held`
data Says (fine unfilled held : Type 0) : Checking → Type 0 where
  goes_on : {b : FlowBudget} → fine → Says fine unfilled held (on b)
  out_of_work : {b : FlowBudget} → Says fine unfilled held (stop WorkLimit b)
  at_read : {b : FlowBudget} → unfilled → Says fine unfilled held (stop UnfilledSlot b)
  at_await : {b : FlowBudget} → held → Says fine unfilled held (stop HostOverAwait b)
  out_of_room : {b : FlowBudget} → Says fine unfilled held (stop FactsLimit b)

-- what follows from what is said is said
says_map : {fine unfilled held fine' unfilled' held' : Type 0} {c : Checking} → (fine → fine') → (unfilled → unfilled') → (held → held')
    → Says fine unfilled held c → Says fine' unfilled' held' c
says_map f u h (goes_on s) = goes_on (f s)
says_map f u h out_of_work = out_of_work
says_map f u h (at_read s) = at_read (u s)
says_map f u h (at_await s) = at_await (h s)
says_map f u h out_of_room = out_of_room

module _ {fine unfilled held : Type 0} where
  -- what follows, if it has no other grounds to stop
  says_then : {first : Type 0} {c : Checking} (f : FlowBudget → Checking) → Says first unfilled held c
      → (first → (b : FlowBudget) → Says fine unfilled held (f b)) → Says fine unfilled held (and_then c f)
  says_then f (goes_on {b = b} s) next = next s b
  says_then f out_of_work next = out_of_work
  says_then f (at_read s) next = at_read s
  says_then f (at_await s) next = at_await s
  says_then f out_of_room next = out_of_room

  -- a charge may stop with 12
  says-paid : (c : Charged) (f : FlowBudget → Checking) → ((b : FlowBudget) → Says fine unfilled held (f b)) → Says fine unfilled held (if_paid c f)
  says-paid (Ok b) f next = next b
  says-paid (Err x) f next = out_of_work

  -- retained facts may stop with 15
  says-kept : (c : Result FlowBudget OverFacts) → fine → Says fine unfilled held (if_kept c)
  says-kept (Ok b) s = goes_on s
  says-kept (Err x) s = out_of_room

-- some is missing exactly if not all are there
missing-some : (f : ℕ → Bool) (l : List ℕ) → some (λ s. not (f s)) l ≡ not (every f l)
missing-some f [] = refl
missing-some f (s ∷ l) = go (f s) (missing-some f l)
  where
    go : (t : Bool) → some (λ s. not (f s)) l ≡ not (every f l) → (not t || some (λ s. not (f s)) l) ≡ not (t && every f l)
    go true e = e
    go false e = refl

-- two tests that fail
or_none : (a b : Bool) → a ≡ false → b ≡ false → (a || b) ≡ false
or_none a b ea eb = rw (ea, eb) refl

-- and their denials
and_none : (a b : Bool) → a ≡ false → b ≡ false → (not a && not b) ≡ true
and_none a b ea eb = rw (ea, eb) refl

-- ── A block ──

module _ (code : List Instruction) (parameter : ℕ → Bool) (l : Limits) where
  abbrev p : Program ℕ ℕ
  p = program code parameter

  -- the reads of a list go on only if none is unfilled, and stop with 13 only if one is
  says-reads : (f : ℕ → Bool) (is : List ℕ) (b : FlowBudget)
      → Says (unfilled_read code parameter f is ≡ false) (unfilled_read code parameter f is ≡ true) ⊥ (reads_run code parameter l f is b)
  unfolding reads_run
  says-reads f [] b = goes_on refl
  says-reads f (i ∷ is) b = says-paid (charged l b (cost_at code i ∷ [])) _
      (λ b'. go b' (every f (instruction_at code i).inputs) refl (says-reads (λ s. init_transfer p i s (f s)) is b'))
    where
      after : Bool
      after = unfilled_read code parameter (λ s. init_transfer p i s (f s)) is

      go : (b' : FlowBudget) (t : Bool) → every f (instruction_at code i).inputs ≡ t
          → Says (after ≡ false) (after ≡ true) ⊥ (reads_run code parameter l (λ s. init_transfer p i s (f s)) is b')
          → Says ((some (λ s. not (f s)) (instruction_at code i).inputs || after) ≡ false)
          ((some (λ s. not (f s)) (instruction_at code i).inputs || after) ≡ true) ⊥
          (pick t (reads_run code parameter l (λ s. init_transfer p i s (f s)) is b') (stop UnfilledSlot b'))
      go b' true e below = rw (missing-some f (instruction_at code i).inputs, e) below
      go b' false e below = at_read (rw (missing-some f (instruction_at code i).inputs, e) refl)

  module _ (words slots : ℕ) (host : ℕ → Bool) where
    -- one await goes on only if its set holds no host slot, and stops with 14 only if it does
    says-await : (live : ℕ → Bool) (b : FlowBudget)
        → Says (some (λ s. host s && live s) (range 0 slots) ≡ false) ⊥ (some (λ s. host s && live s) (range 0 slots) ≡ true)
        (await_run code parameter l words slots host live b)
    unfolding await_run
    says-await live b = says-paid (charged l b (slots ∷ [])) _ (λ b'. go b' (some (λ s. host s && live s) (range 0 slots)))
      where
        go : (b' : FlowBudget) (t : Bool) → Says (t ≡ false) ⊥ (t ≡ true) (pick t (stop HostOverAwait b') (if_kept (retained l b' (facts_bytes words))))
        go b' true = at_await refl
        go b' false = says-kept (retained l b' (facts_bytes words)) refl

    -- and so with one instruction that may be an await
    says-point : (i : ℕ) (live : ℕ → Bool) (b : FlowBudget)
        → Says ((await_at code i && some (λ s. host s && live s) (range 0 slots)) ≡ false) ⊥
        ((await_at code i && some (λ s. host s && live s) (range 0 slots)) ≡ true) (point_run code parameter l words slots host i live b)
    unfolding point_run
    says-point i live b = says-paid (charged l b (cost_at code i ∷ [])) _ (λ b'. go b' (await_at code i))
      where
        go : (b' : FlowBudget) (t : Bool) → Says ((t && some (λ s. host s && live s) (range 0 slots)) ≡ false) ⊥
            ((t && some (λ s. host s && live s) (range 0 slots)) ≡ true) (pick t (await_run code parameter l words slots host live b') (on b'))
        go b' true = says-await live b'
        go b' false = goes_on refl

    -- and so with the awaits of a list
    says-awaits : (g : ℕ → Bool) (is : List ℕ) (b : FlowBudget)
        → Says (host_saved code parameter host (range 0 slots) g is ≡ false) ⊥ (host_saved code parameter host (range 0 slots) g is ≡ true)
        (awaits_run code parameter l words slots host g is b)
    unfolding awaits_run
    says-awaits g [] b = goes_on refl
    says-awaits g (i ∷ is) b = says_then _
        (says_map (λ e. e) (λ e. e) (λ e. rw e (or-true here)) (says-awaits g is b))
        (λ e b'. says_map (λ q. or_none here _ q e) (λ q. q) (λ q. rw q refl)
        (says-point i (λ s. live_along p s (g s) (i ∷ is)) b'))
      where
        here : Bool
        here = await_at code i && some (λ s. host s && live_along p s (g s) (i ∷ is)) (range 0 slots)

    -- the verdict's test of a block
    abbrev passing : ℕ → Bool
    passing c = not (reachable code c) || (not (block_unfilled code parameter words c) && not (block_holds code parameter words slots host c))

    -- the block is reachable and has an unfilled read,
    abbrev UnfilledAt : ℕ → Type 0
    UnfilledAt c = (reachable code c ≡ true) × (block_unfilled code parameter words c ≡ true)

    -- or an await over a host slot
    abbrev HeldAt : ℕ → Type 0
    HeldAt c = (reachable code c ≡ true) × (block_holds code parameter words slots host c ≡ true)

    -- a block goes on only if it passes, and stops with 13 or 14 only for what it has
    says-block : (c : ℕ) (b : FlowBudget) → Says (passing c ≡ true) (UnfilledAt c) (HeldAt c) (block_run code parameter l words slots host c b)
    unfolding block_run
    says-block c b = go (reachable code c) refl
      where
        reads : Checking
        reads = reads_run code parameter l (init_entry code parameter words c) (body code c) b

        go : (t : Bool) → reachable code c ≡ t
            → Says ((not t || (not (block_unfilled code parameter words c) && not (block_holds code parameter words slots host c))) ≡ true)
            (UnfilledAt c) (HeldAt c)
            (pick t (and_then reads (awaits_run code parameter l words slots host (live_exit code parameter words c) (body code c))) (on b))
        go true e = says_then _
            (says_map (λ q. q) (λ q. (e, q)) (λ q. absurd q) (says-reads (init_entry code parameter words c) (body code c) b))
            (λ u b'. says_map (λ h. and_none _ _ u h) (λ q. absurd q) (λ q. (e, q))
            (says-awaits (live_exit code parameter words c) (body code c) b'))
        go false e = goes_on refl

    -- and so with a list of blocks
    says-blocks : (cs : List ℕ) (b : FlowBudget) → Says (every passing cs ≡ true) ((c : ℕ) × UnfilledAt c) ((c : ℕ) × HeldAt c)
        (blocks_run code parameter l words slots host cs b)
    unfolding blocks_run
    says-blocks [] b = goes_on refl
    says-blocks (c ∷ cs) b = says_then _
        (says_map (λ e. e) (λ q. (c, q)) (λ q. (c, q)) (says-block c b))
        (λ e b'. says_map (λ q. rw e q) (λ q. q) (λ q. q) (says-blocks cs b'))

    -- ── The run ──

    -- going on, the script is accepted; at 13 and 14 there is such a block
    abbrev RunSays : Checking → Type 0
    RunSays = Says (accepts code parameter words slots host ≡ true) ((c : ℕ) × UnfilledAt c) ((c : ℕ) × HeldAt c)

    -- and so with all of them
    says-run : (b : FlowBudget) → RunSays (points_run code parameter l words slots host b)
    unfolding points_run accepts
    says-run b = says-blocks (range 0 (block_count code)) b

    -- A run that goes on has an accepted script.
    pub passes : (b left : FlowBudget) → points_run code parameter l words slots host b ≡ on left → accepts code parameter words slots host ≡ true
    passes b left e = go (subst RunSays e (says-run b))
      where
        go : RunSays (on left) → accepts code parameter words slots host ≡ true
        go (goes_on s) = s

    -- `check_points` has no other refusals.
    pub refusals : (b : FlowBudget) (r : Refusal) (left : FlowBudget) → points_run code parameter l words slots host b ≡ stop r left
        → (r ≡ WorkLimit) ⊎ ((r ≡ UnfilledSlot) ⊎ ((r ≡ HostOverAwait) ⊎ (r ≡ FactsLimit)))
    refusals b r left e = go r (subst RunSays e (says-run b))
      where
        go : (r : Refusal) → RunSays (stop r left)
            → (r ≡ WorkLimit) ⊎ ((r ≡ UnfilledSlot) ⊎ ((r ≡ HostOverAwait) ⊎ (r ≡ FactsLimit)))
        go r out_of_work = inl refl
        go r (at_read s) = inr (inl refl)
        go r (at_await s) = inr (inr (inl refl))
        go r out_of_room = inr (inr (inr refl))

    module _ (ch : Checked code parameter slots) (fits : slots ≤ 64 * words) where
      -- 13 has a path with an unfilled read,
      pub unfilled_given : (b left : FlowBudget) → points_run code parameter l words slots host b ≡ stop UnfilledSlot left → Unfilled p
      unfilled_given b left e = go (subst RunSays e (says-run b))
        where
          go : RunSays (stop UnfilledSlot left) → Unfilled p
          go (at_read z) = (block_unfilled_iff code parameter slots words ch fits).1
              (z.0, (reachable_iff code parameter slots words ch fits z.0).0 z.1.0, z.1.1)

      -- and 14 has a reached await whose least set holds a host slot.
      pub held_given : (b left : FlowBudget) → points_run code parameter l words slots host b ≡ stop HostOverAwait left → Held p (await_at code) host
      held_given b left e = go (subst RunSays e (says-run b))
        where
          go : RunSays (stop HostOverAwait left) → Held p (await_at code) host
          go (at_await z) = (block_holds_iff code parameter slots words ch fits host).1
              (z.0, (reachable_iff code parameter slots words ch fits z.0).0 z.1.0, z.1.1)

      -- A run that stops with 13 or 14 has a faulty script,
      pub stops_faulty : (b : FlowBudget) (r : Refusal) (left : FlowBudget) → points_run code parameter l words slots host b ≡ stop r left
          → (r ≡ UnfilledSlot) ⊎ (r ≡ HostOverAwait) → Faulty p (await_at code) host
      stops_faulty b r left e (inl q) = inl (unfilled_given b left (rw q at e))
      stops_faulty b r left e (inr q) = inr (held_given b left (rw q at e))

      -- so one that is not accepted.
      pub faulty_refused : (b : FlowBudget) (r : Refusal) (left : FlowBudget) → points_run code parameter l words slots host b ≡ stop r left
          → (r ≡ UnfilledSlot) ⊎ (r ≡ HostOverAwait) → accepts code parameter words slots host ≡ false
      faulty_refused b r left e q = not-true (accepts code parameter words slots host)
          (λ a. (accepts_iff code parameter slots words ch fits host).0 a (stops_faulty b r left e q))

      -- A run that meets no limit goes on exactly if the script is not faulty.
      pub accepted_iff : (b : FlowBudget) → ((left : FlowBudget) → ¬ (points_run code parameter l words slots host b ≡ stop WorkLimit left))
          → ((left : FlowBudget) → ¬ (points_run code parameter l words slots host b ≡ stop FactsLimit left))
          → ((left : FlowBudget) × (points_run code parameter l words slots host b ≡ on left)) ↔ (¬ (Faulty p (await_at code) host))
      accepted_iff b work facts = (
        (λ z. (accepts_iff code parameter slots words ch fits host).0 (passes b z.0 z.1)),
        λ ok. go ok (points_run code parameter l words slots host b) refl,
      )
        where
          which : ¬ (Faulty p (await_at code) host) → (r : Refusal) (left : FlowBudget) → points_run code parameter l words slots host b ≡ stop r left
              → (r ≡ WorkLimit) ⊎ ((r ≡ UnfilledSlot) ⊎ ((r ≡ HostOverAwait) ⊎ (r ≡ FactsLimit))) → ⊥
          which ok r left e (inl q) = work left (rw q at e)
          which ok r left e (inr (inl q)) = ok (stops_faulty b r left e (inl q))
          which ok r left e (inr (inr (inl q))) = ok (stops_faulty b r left e (inr q))
          which ok r left e (inr (inr (inr q))) = facts left (rw q at e)

          go : ¬ (Faulty p (await_at code) host) → (c : Checking) → points_run code parameter l words slots host b ≡ c
              → (left : FlowBudget) × (points_run code parameter l words slots host b ≡ on left)
          go ok (on left) e = (left, e)
          go ok (stop r left) e = absurd (which ok r left e (refusals b r left e))
