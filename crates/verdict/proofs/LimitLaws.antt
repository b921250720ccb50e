-- A run that goes on under some limits goes on under any that are nowhere lower, with the same budget. Assumes nothing.
use mathlib.Core.Path.{◌≡◌, refl, ap, ◌∙◌}
use mathlib.Core.Bool.{Bool, true, false, ◌&&◌}
use mathlib.Core.List.{List, [], ◌∷◌}
use Prim.Native.Nat.{ℕ}
use native.Mathlib.Omega.{arith}
use Rattle.std.specs.Prelude.{Result, Ok, Err}
use Rattle.dataflow.specs.Lists.{pick, range, every, some}
use Rattle.dataflow.specs.Analyses.{init_transfer, live_along}
use Rattle.dataflow.specs.Code.{Instruction, instruction_at, await_at, program, body}
use Rattle.dataflow.specs.Results.{block_count, reachable, init_entry, live_exit}
use Rattle.dataflow.specs.Charges.{cost_at}
use Rattle.budget.specs.declared.FlowBudget.{FlowBudget}
use Rattle.budget.specs.declared.Limits.{Limits}
use Rattle.budget.specs.declared.OverFacts.{OverFacts}
use Rattle.budget.specs.Budget.{Charged, NowhereLower, charged, retained, facts_bytes}
use Rattle.budget.proofs.LimitLaws.{charged_higher, retained_higher}
use Rattle.format.specs.declared.refusal.Refusal.{Refusal}
use Rattle.format.specs.declared.refusal.Refusal.TheVariants.{UnfilledSlot, HostOverAwait}
use Rattle.verdict.specs.Points.{
  Checking,
  stop,
  on,
  and_then,
  if_paid,
  if_kept,
  reads_run,
  await_run,
  point_run,
  awaits_run,
  block_run,
  blocks_run,
  points_run,
}

-- ---- what went on, step by step

stopped : {r : Refusal} {b left : FlowBudget} → stop r b ≡ on left → ⊥
stopped e = let z : ◌≡◌ {A = ℕ} 0 1 = cc in omega arith

-- the charges were met, and what followed went on
paid-on : (c : Charged) (f : FlowBudget → Checking) (left : FlowBudget) → if_paid c f ≡ on left → (b : FlowBudget) × (c ≡ Ok b) × (f b ≡ on left)
paid-on (Ok b) f left e = (b, refl, e)
paid-on (Err x) f left e = absurd (stopped e)

kept_on : (c : Result FlowBudget OverFacts) (left : FlowBudget) → if_kept c ≡ on left → c ≡ Ok left
kept_on (Ok b) left e = let q : b ≡ left = cc in ap Ok q
kept_on (Err x) left e = absurd (stopped e)

then-on : (c : Checking) (f : FlowBudget → Checking) (left : FlowBudget) → and_then c f ≡ on left → (b : FlowBudget) × (c ≡ on b) × (f b ≡ on left)
then-on (on b) f left e = (b, refl, e)
then-on (stop r b) f left e = absurd (stopped e)

module _ (code : List Instruction) (parameter : ℕ → Bool) (l h : Limits) (le : NowhereLower l h) where
  -- a step that was paid, under both
  paid-higher : (b left : FlowBudget) (cs : List ℕ) (f g : FlowBudget → Checking) → if_paid (charged l b cs) f ≡ on left
      → ((b' : FlowBudget) → f b' ≡ on left → g b' ≡ on left) → if_paid (charged h b cs) g ≡ on left
  paid-higher b left cs f g e k =
      let p = paid-on (charged l b cs) f left e in
      ap (λ (c : Charged). if_paid c g) (charged_higher l h le b p.0 cs p.1) ∙ k p.0 p.2

  then-higher : (c d : Checking) (f g : FlowBudget → Checking) (left : FlowBudget) → and_then c f ≡ on left
      → ((b : FlowBudget) → c ≡ on b → d ≡ on b) → ((b : FlowBudget) → f b ≡ on left → g b ≡ on left) → and_then d g ≡ on left
  then-higher c d f g left e first rest =
      let p = then-on c f left e in
      ap (λ (x : Checking). and_then x g) (first p.0 p.1) ∙ rest p.0 p.2

  -- of two ways, the one that the test says
  pick-higher : (t : Bool) (x x' y y' : Checking) (left : FlowBudget) → pick t x y ≡ on left → (x ≡ on left → x' ≡ on left) → (y ≡ on left → y' ≡ on left)
      → pick t x' y' ≡ on left
  pick-higher true x x' y y' left e p q = p e
  pick-higher false x x' y y' left e p q = q e

  reads-higher : (f : ℕ → Bool) (is : List ℕ) (b left : FlowBudget) → reads_run code parameter l f is b ≡ on left → reads_run code parameter h f is b ≡ on left
  unfolding reads_run
  reads-higher f [] b left e = e
  reads-higher f (i ∷ is) b left e = paid-higher b left (cost_at code i ∷ []) _ _ e
      (λ b' q. pick-higher (every f (instruction_at code i).inputs) _ _ (stop UnfilledSlot b') (stop UnfilledSlot b') left q
      (reads-higher (λ s. init_transfer (program code parameter) i s (f s)) is b' left) (λ z. z))

  module _ (words slots : ℕ) (host : ℕ → Bool) where
    await-higher : (live : ℕ → Bool) (b left : FlowBudget) → await_run code parameter l words slots host live b ≡ on left
        → await_run code parameter h words slots host live b ≡ on left
    unfolding await_run
    await-higher live b left e = paid-higher b left (slots ∷ []) _ _ e
        (λ b' q. pick-higher (some (λ s. host s && live s) (range 0 slots)) (stop HostOverAwait b') (stop HostOverAwait b') _ _ left q (λ z. z)
        (λ z. ap if_kept (retained_higher l h le b' left (facts_bytes words) (kept_on (retained l b' (facts_bytes words)) left z))))

    point-higher : (i : ℕ) (live : ℕ → Bool) (b left : FlowBudget) → point_run code parameter l words slots host i live b ≡ on left
        → point_run code parameter h words slots host i live b ≡ on left
    unfolding point_run
    point-higher i live b left e = paid-higher b left (cost_at code i ∷ []) _ _ e
        (λ b' q. pick-higher (await_at code i) _ _ (on b') (on b') left q (await-higher live b' left) (λ z. z))

    awaits-higher : (g : ℕ → Bool) (is : List ℕ) (b left : FlowBudget) → awaits_run code parameter l words slots host g is b ≡ on left
        → awaits_run code parameter h words slots host g is b ≡ on left
    unfolding awaits_run
    awaits-higher g [] b left e = e
    awaits-higher g (i ∷ is) b left e = then-higher (awaits_run code parameter l words slots host g is b) (awaits_run code parameter h words slots host g is b) _ _ left e
        (awaits-higher g is b) (λ b' q. point-higher i (λ s. live_along (program code parameter) s (g s) (i ∷ is)) b' left q)

    block-higher : (c : ℕ) (b left : FlowBudget) → block_run code parameter l words slots host c b ≡ on left
        → block_run code parameter h words slots host c b ≡ on left
    unfolding block_run
    block-higher c b left e = pick-higher (reachable code c) _ _ (on b) (on b) left e
        (λ q. then-higher (reads_run code parameter l (init_entry code parameter words c) (body code c) b)
        (reads_run code parameter h (init_entry code parameter words c) (body code c) b) _ _ left q
        (reads-higher (init_entry code parameter words c) (body code c) b)
        (λ b' r. awaits-higher (live_exit code parameter words c) (body code c) b' left r)) (λ z. z)

    blocks-higher : (cs : List ℕ) (b left : FlowBudget) → blocks_run code parameter l words slots host cs b ≡ on left
        → blocks_run code parameter h words slots host cs b ≡ on left
    unfolding blocks_run
    blocks-higher [] b left e = e
    blocks-higher (c ∷ cs) b left e = then-higher (block_run code parameter l words slots host c b) (block_run code parameter h words slots host c b) _ _ left e
        (block-higher c b) (λ b' q. blocks-higher cs b' left q)

    -- `check_points`
    pub points_higher : (b left : FlowBudget) → points_run code parameter l words slots host b ≡ on left → points_run code parameter h words slots host b ≡ on left
    unfolding points_run
    points_higher b left e = blocks-higher (range 0 (block_count code)) b left e
