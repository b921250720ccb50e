-- What a run that goes on has retained: the facts of each point, in a saturating sum.
use mathlib.Core.Path.{◌≡◌, refl, sym, ◌∙◌, ap, subst}
use mathlib.Core.Bool.{Bool, true, false}
use mathlib.Core.List.{List, [], ◌∷◌, ◌++◌}
use Prim.Native.Nat.{ℕ, suc, ◌+◌, ◌*◌, ◌-◌, ◌^◌, ◌≤◌}
use native.Mathlib.Omega.{arith}
use native.Mathlib.Nat.{add-mul, suc-mul, zero-mul}
use lib.Dec.{leb}
use lib.ListN.{length, length-append}
use Rattle.std.specs.Prelude.{Ok, Err}
use Rattle.dataflow.specs.Lists.{pick, range, every, some}
use Rattle.dataflow.specs.Charges.{cost_at, Spent, within, crossed, saturating_sum, spend}
use Rattle.dataflow.proofs.Charges.{sum-exact}
use Rattle.dataflow.specs.Analyses.{init_transfer, live_along}
use Rattle.dataflow.specs.Code.{Instruction, instruction_at, program, body, await_at}
use Rattle.dataflow.specs.Results.{block_count, reachable, init_entry, live_exit}
use Rattle.budget.specs.declared.FlowBudget.{FlowBudget}
use Rattle.budget.specs.declared.Limits.{Limits}
use Rattle.budget.specs.Budget.{Charged, after_spent, budget_of, charged, over_facts, retained, facts_bytes}
use Rattle.format.specs.declared.refusal.Refusal.{Refusal}
use Rattle.format.specs.declared.refusal.Refusal.TheVariants.{UnfilledSlot, HostOverAwait}
use Rattle.verdict.specs.Points.{Checking, stop, on, and_then, if_paid, if_kept}
use Rattle.verdict.specs.Points.{reads_run, await_run, point_run, awaits_run, block_run, blocks_run, points_run}
use Rattle.verdict.specs.Points.{Point, await_points, block_points, points}

-- ── Saturating sums ──

-- nothing is added to a u64
sum-none : (r k : ℕ) → r ≤ 2 ^ 64 - 1 → saturating_sum r (0 * k) ≡ r
sum-none r k h = omega (arith, zero-mul k)

-- n times k, then k once more
sum_one : (r n k : ℕ) → saturating_sum (saturating_sum r (n * k)) k ≡ saturating_sum r (suc n * k)
sum_one r n k = omega (arith, suc-mul n k)

-- m times k, then n times k
sum_more : (r m n k : ℕ) → saturating_sum (saturating_sum r (m * k)) (n * k) ≡ saturating_sum r ((m + n) * k)
sum_more r m n k = omega (arith, add-mul m n k)

-- a saturating sum is a u64
sum_fits : (r n : ℕ) → saturating_sum r n ≤ 2 ^ 64 - 1
sum_fits r n = omega arith

-- ── One step ──

-- if it goes on, so much is retained
data Keeps (r : ℕ) : Checking → Type 0 where
  kept : {b : FlowBudget} → b.retained ≡ r → Keeps r (on b)
  stopped : {x : Refusal} {b : FlowBudget} → Keeps r (stop x b)

-- what follows keeps from what is retained so far
keeps_then : {r r' : ℕ} {c : Checking} (f : FlowBudget → Checking) → Keeps r c → ((b : FlowBudget) → b.retained ≡ r → Keeps r' (f b))
    → Keeps r' (and_then c f)
keeps_then f (kept {b = b} e) next = next b e
keeps_then f stopped next = stopped

-- charges leave the retained bytes as they are
charged-retained : (l : Limits) (b : FlowBudget) (cs : List ℕ) → (budget_of (charged l b cs)).retained ≡ b.retained
unfolding charged
charged-retained l b cs = go (spend l.work b.work cs)
  where
    go : (s : Spent) → (budget_of (after_spent b s)).retained ≡ b.retained
    go (within w) = refl
    go (crossed w) = refl

-- so what follows a charge keeps from the same bytes
keeps-paid : {r : ℕ} (l : Limits) (b : FlowBudget) (cs : List ℕ) (f : FlowBudget → Checking)
    → ((b' : FlowBudget) → b'.retained ≡ b.retained → Keeps r (f b')) → Keeps r (if_paid (charged l b cs) f)
keeps-paid {r} l b cs f next = go (charged l b cs) (charged-retained l b cs)
  where
    go : (c : Charged) → (budget_of c).retained ≡ b.retained → Keeps r (if_paid c f)
    go (Ok b') e = next b' e
    go (Err x) e = stopped

-- an await adds its facts
keeps-facts : (l : Limits) (b : FlowBudget) (n : ℕ) → Keeps (saturating_sum b.retained n) (if_kept (retained l b n))
unfolding retained
keeps-facts l b n = go (leb (saturating_sum b.retained n) l.facts)
  where
    next : FlowBudget
    next = record { work = b.work; retained = saturating_sum b.retained n }

    go : (t : Bool) → Keeps (saturating_sum b.retained n) (if_kept (pick t (Ok next) (over_facts next)))
    go true = kept refl
    go false = stopped

-- ── The run ──

module _ (code : List Instruction) (parameter : ℕ → Bool) (l : Limits) where
  -- reads retain nothing
  keeps-reads : (f : ℕ → Bool) (is : List ℕ) (b : FlowBudget) → Keeps b.retained (reads_run code parameter l f is b)
  unfolding reads_run
  keeps-reads f [] b = kept refl
  keeps-reads f (i ∷ is) b = keeps-paid l b (cost_at code i ∷ []) _
      (λ b' e. go b' e (every f (instruction_at code i).inputs) (keeps-reads (λ s. init_transfer (program code parameter) i s (f s)) is b'))
    where
      go : (b' : FlowBudget) → b'.retained ≡ b.retained → (t : Bool)
          → Keeps b'.retained (reads_run code parameter l (λ s. init_transfer (program code parameter) i s (f s)) is b')
          → Keeps b.retained
          (pick t (reads_run code parameter l (λ s. init_transfer (program code parameter) i s (f s)) is b') (stop UnfilledSlot b'))
      go b' e true below = subst
          (λ (r : ℕ). Keeps r (reads_run code parameter l (λ s. init_transfer (program code parameter) i s (f s)) is b')) e below
      go b' e false below = stopped

  module _ (words slots : ℕ) (host : ℕ → Bool) where
    -- an await retains its facts
    keeps-await : (live : ℕ → Bool) (b : FlowBudget)
        → Keeps (saturating_sum b.retained (facts_bytes words)) (await_run code parameter l words slots host live b)
    unfolding await_run
    keeps-await live b = keeps-paid l b (slots ∷ []) _ (λ b' e. go b' e (some _ (range 0 slots)))
      where
        go : (b' : FlowBudget) → b'.retained ≡ b.retained → (t : Bool)
            → Keeps (saturating_sum b.retained (facts_bytes words)) (pick t (stop HostOverAwait b') (if_kept (retained l b' (facts_bytes words))))
        go b' e true = stopped
        go b' e false = subst (λ (r : ℕ). Keeps (saturating_sum r (facts_bytes words)) (if_kept (retained l b' (facts_bytes words)))) e
            (keeps-facts l b' (facts_bytes words))

    -- an instruction retains facts if it is an await
    keeps-point : (i : ℕ) (live : ℕ → Bool) (b : FlowBudget)
        → Keeps (pick (await_at code i) (saturating_sum b.retained (facts_bytes words)) b.retained)
        (point_run code parameter l words slots host i live b)
    unfolding point_run
    keeps-point i live b = keeps-paid l b (cost_at code i ∷ []) _ (λ b' e. go b' e (await_at code i))
      where
        go : (b' : FlowBudget) → b'.retained ≡ b.retained → (t : Bool)
            → Keeps (pick t (saturating_sum b.retained (facts_bytes words)) b.retained)
            (pick t (await_run code parameter l words slots host live b') (on b'))
        go b' e true = subst (λ (r : ℕ). Keeps (saturating_sum r (facts_bytes words)) (await_run code parameter l words slots host live b')) e
            (keeps-await live b')
        go b' e false = kept e

    -- the awaits of a list retain the facts of its points
    keeps-awaits : (g : ℕ → Bool) (is : List ℕ) (b : FlowBudget) → b.retained ≤ 2 ^ 64 - 1
        → Keeps (saturating_sum b.retained (length (await_points code parameter g is) * facts_bytes words))
        (awaits_run code parameter l words slots host g is b)
    unfolding awaits_run await_points
    keeps-awaits g [] b h = kept (sym (sum-none b.retained (facts_bytes words) h))
    keeps-awaits g (i ∷ is) b h = keeps_then _ (keeps-awaits g is b h)
        (λ b' e. subst (λ (r : ℕ). Keeps r (point_run code parameter l words slots host i live b')) (go b' e (await_at code i)) (keeps-point i live b'))
      where
        live : ℕ → Bool
        live s = live_along (program code parameter) s (g s) (i ∷ is)

        go : (b' : FlowBudget) → b'.retained ≡ saturating_sum b.retained (length (await_points code parameter g is) * facts_bytes words) → (t : Bool)
            → pick t (saturating_sum b'.retained (facts_bytes words)) b'.retained
            ≡ saturating_sum b.retained (length (pick t (record { instruction = i; live = live } ∷ await_points code parameter g is)
            (await_points code parameter g is)) * facts_bytes words)
        go b' e true = ap (λ (r : ℕ). saturating_sum r (facts_bytes words)) e
            ∙ sum_one b.retained (length (await_points code parameter g is)) (facts_bytes words)
        go b' e false = e

    -- the points of one block
    abbrev points_in : ℕ → List Point
    points_in c = pick (reachable code c) (await_points code parameter (live_exit code parameter words c) (body code c)) []

    -- a block retains the facts of its points
    keeps-block : (c : ℕ) (b : FlowBudget) → b.retained ≤ 2 ^ 64 - 1
        → Keeps (saturating_sum b.retained (length (points_in c) * facts_bytes words)) (block_run code parameter l words slots host c b)
    unfolding block_run
    keeps-block c b h = go (reachable code c)
      where
        exit : ℕ → Bool
        exit = live_exit code parameter words c

        go : (t : Bool) → Keeps (saturating_sum b.retained (length (pick t (await_points code parameter exit (body code c)) []) * facts_bytes words))
            (pick t (and_then (reads_run code parameter l (init_entry code parameter words c) (body code c) b)
            (awaits_run code parameter l words slots host exit (body code c))) (on b))
        go true = keeps_then _ (keeps-reads (init_entry code parameter words c) (body code c) b)
            (λ b' e. subst (λ (r : ℕ). Keeps (saturating_sum r (length (await_points code parameter exit (body code c)) * facts_bytes words))
            (awaits_run code parameter l words slots host exit (body code c) b')) e
            (keeps-awaits exit (body code c) b' (omega (arith, e, h))))
        go false = kept (sym (sum-none b.retained (facts_bytes words) h))

    -- blocks retain the facts of their points
    keeps-blocks : (cs : List ℕ) (b : FlowBudget) → b.retained ≤ 2 ^ 64 - 1
        → Keeps (saturating_sum b.retained (length (block_points code parameter words cs) * facts_bytes words))
        (blocks_run code parameter l words slots host cs b)
    unfolding blocks_run block_points
    keeps-blocks [] b h = kept (sym (sum-none b.retained (facts_bytes words) h))
    keeps-blocks (c ∷ cs) b h = keeps_then _ (keeps-block c b h)
        (λ b' e. subst (λ (r : ℕ). Keeps r (blocks_run code parameter l words slots host cs b')) (total b' e)
        (keeps-blocks cs b' (subst (λ (r : ℕ). r ≤ 2 ^ 64 - 1) (sym e) (sum_fits b.retained (length (points_in c) * facts_bytes words)))))
      where
        total : (b' : FlowBudget) → b'.retained ≡ saturating_sum b.retained (length (points_in c) * facts_bytes words)
            → saturating_sum b'.retained (length (block_points code parameter words cs) * facts_bytes words)
            ≡ saturating_sum b.retained (length (points_in c ++ block_points code parameter words cs) * facts_bytes words)
        total b' e = ap (λ (r : ℕ). saturating_sum r (length (block_points code parameter words cs) * facts_bytes words)) e
            ∙ sum_more b.retained (length (points_in c)) (length (block_points code parameter words cs)) (facts_bytes words)
            ∙ ap (λ (n : ℕ). saturating_sum b.retained (n * facts_bytes words))
            (sym (length-append (points_in c) (block_points code parameter words cs)))

    -- A run that goes on has retained the facts of each point, in a saturating sum;
    pub retained_sum : (b left : FlowBudget) → b.retained ≤ 2 ^ 64 - 1 → points_run code parameter l words slots host b ≡ on left
        → left.retained ≡ saturating_sum b.retained (length (points code parameter words) * facts_bytes words)
    unfolding points_run points
    retained_sum b left h e = go (subst (Keeps _) e (keeps-blocks (range 0 (block_count code)) b h))
      where
        go : {r : ℕ} → Keeps r (on left) → left.retained ≡ r
        go (kept q) = q

    -- so their plain sum if that is a u64.
    pub retained_grows : (b left : FlowBudget) → b.retained + length (points code parameter words) * facts_bytes words ≤ 2 ^ 64 - 1
        → points_run code parameter l words slots host b ≡ on left
        → left.retained ≡ b.retained + length (points code parameter words) * facts_bytes words
    retained_grows b left h e =
        let n : ℕ = length (points code parameter words) * facts_bytes words in
        retained_sum b left (omega (arith, h)) e ∙ sum-exact b.retained n h
