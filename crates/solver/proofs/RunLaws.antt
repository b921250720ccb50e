-- The run in steps: those who are told, a visit, and the visits until no block waits. Assumes nothing.
use mathlib.Core.Path.{◌≡◌, refl, sym, ap, ◌∙◌, subst}
use mathlib.Core.Bool.{Bool, true, false}
use mathlib.Core.List.{List, [], ◌∷◌}
use Prim.Native.Nat.{ℕ, zero, suc, ◌+◌, ◌-◌, ◌^◌, ◌≤◌, ◌<◌}
use native.Mathlib.Omega.{arith}
use borrow.Author.Tests.{eq-eqb, ne_eqb}
use Rattle.bitset.specs.Operations.{same}
use Rattle.budget.specs.declared.FlowBudget.{FlowBudget}
use Rattle.budget.specs.declared.Limits.{Limits}
use Rattle.budget.specs.declared.OverWork.{OverWork}
use Rattle.std.specs.Prelude.{Ok, Err}
use Rattle.budget.specs.Budget.{Charged, charged}
use Rattle.budget.proofs.BudgetLaws.{met-one}
use Rattle.memory.specs.Cells.{Mem, cell, word, store, store_cell}
use Rattle.memory.specs.Names.{queued_cell, ring_cell}
use Rattle.memory.specs.Scratch.{Whole}
use Rattle.sizes.specs.declared.Layout.{Layout}
use Rattle.transfer.specs.declared.direction.Direction.{Direction}
use Rattle.solver.specs.declared.ring.Ring.{Ring}
use Rattle.memory.specs.Edges.{count_of, neighbors, Connected}
use Rattle.transfer.specs.Directions.{dependents_of}
use Rattle.memory.specs.declared.names.SlotRow.{SlotRow}
use Rattle.memory.specs.declared.names.BlockSet.{BlockSet}
use Rattle.memory.specs.Named.{row_of, set_of}
use Rattle.transfer.specs.Transfer.{running_of, kept_of, running_row, kept_row, computed}
use Rattle.solver.specs.Run.{At, Out, stop, on, at_of, paid, onward, offered, told, settled, visit_charge, visited, run}
use Rattle.solver.specs.Run.{Good, Went, Offers, Tells, wrap}
use Rattle.memory.proofs.EdgeLaws.{SameEdges, same_none, same_then}
use Rattle.transfer.proofs.TransferLaws.{running-at, running-named, kept_named}
use Rattle.solver.specs.Dependents.{first_of, behind_of, dependent_at, dependents_from, Walks, Placed}
use Rattle.solver.proofs.DependentLaws.{dependents-all, dependents_more, dependents-over, dependents_next}
use Rattle.solver.proofs.DependentLaws.{walks_first, walks_block, walks_placed, walks_next, walks_stay}
use Rattle.solver.proofs.RingLaws.{Kept, good-row, good_count, popped_good, offers_kept}

-- a charge that was met: the sum did not saturate, since the limit is below the largest number
pub charge_met : (l : Limits) (b : FlowBudget) (n : ℕ) {b' : FlowBudget} → l.work < 2 ^ 64 - 1 → Ok b' ≡ charged l b (n ∷ [])
    → (b'.work ≡ b.work + n) × (b'.work ≤ l.work)
charge_met l b n lim e = omega (arith, met-one l b n (sym e))

-- ---- those who are told: of `es` those of `ds` are left; the words are m, the ring is g and b is left
module _ (y : Layout) (l : Limits) (m₀ : Mem) (g₀ : Ring) (b₀ : FlowBudget) (es : List ℕ) where
  pub record Telling (ds : List ℕ) (m : Mem) (g : Ring) (b : FlowBudget) : Type 0 where
    pub edges : SameEdges m₀ m
    pub whole : Whole y m
    pub good : Good y m g
    pub low : b₀.work ≤ b.work
    pub high : b.work ≤ l.work
    pub same : (t : Mem) → told y l ds (at_of m t g) b ≡ told y l es (at_of m₀ t g₀) b₀

module _ {y : Layout} {l : Limits} {m₀ : Mem} {g₀ : Ring} {b₀ : FlowBudget} {es ds : List ℕ} where
  -- before the first
  pub telling_none : ds ≡ es → Whole y m₀ → Good y m₀ g₀ → b₀.work ≤ l.work → Telling y l m₀ g₀ b₀ es ds m₀ g₀ b₀
  telling_none e z h lim = record {
    edges = same_none m₀;
    whole = z;
    good = h;
    low = omega arith;
    high = lim;
    same = λ t. ap (λ (cs : List ℕ). told y l cs (at_of m₀ t g₀) b₀) e;
  }

  module _ {m : Mem} {g : Ring} {b : FlowBudget} (r : Telling y l m₀ g₀ b₀ es ds m g b) where
    -- what is left to tell begins with a charge
    paying : {d : ℕ} {cs : List ℕ} → ds ≡ d ∷ cs → (t : Mem)
        → paid (charged l b (1 ∷ [])) (λ b'. told y l cs (offered y d (at_of m t g)) b') ≡ told y l es (at_of m₀ t g₀) b₀
    unfolding told
    paying e t = sym (ap (λ (xs : List ℕ). told y l xs (at_of m t g) b) e) ∙ r.same t

    -- the charge was met, and the block was offered
    pub telling_more : l.work < 2 ^ 64 - 1 → {d : ℕ} {cs : List ℕ} {b' : FlowBudget} {m' : Mem} {g' : Ring}
        → ds ≡ d ∷ cs → d < y.blocks → Ok b' ≡ charged l b (1 ∷ []) → Offers y d m g m' g' → Telling y l m₀ g₀ b₀ es cs m' g' b'
    telling_more lim {d} {cs} {b'} {m'} {g'} e hd ec o = record {
      edges = same_then r.edges kept.edges;
      whole = kept.whole;
      good = kept.good;
      low = omega (arith, met, r.low);
      high = met.1;
      same = λ t.
          ap (λ (s : At). told y l cs s b') (o t)
          ∙ ap (λ (c : Charged). paid c (λ x. told y l cs (offered y d (at_of m t g)) x)) ec ∙ paying e t;
    }
      where
        met : (b'.work ≡ b.work + 1) × (b'.work ≤ l.work)
        met = charge_met l b 1 lim ec

        kept : Kept y m (at_of m' [] g')
        kept = offers_kept y m r.whole hd r.good o

    -- the charge crossed the limit
    pub telling_over : {d : ℕ} {cs : List ℕ} {x : OverWork} → ds ≡ d ∷ cs → Err x ≡ charged l b (1 ∷ []) → Tells y l es m₀ g₀ b₀ m (Err x)
    telling_over {d} {cs} e ec = λ t.
        (ap (λ (a : Charged). paid a (λ z. told y l cs (offered y d (at_of m t g)) z)) ec ∙ paying e t, tt)

    -- all are told
    pub telling_all : ds ≡ [] → Tells y l es m₀ g₀ b₀ m (Ok (g, b))
    unfolding told
    telling_all e = λ t. (
      sym (ap (λ (xs : List ℕ). told y l xs (at_of m t g) b) e) ∙ r.same t,
      (r.good, r.low, r.high),
    )

-- ---- the same, and where the code stands: at the k-th of the n whom block c concerns, with edge e
module _ (d : Direction) (y : Layout) (l : Limits) (m₀ : Mem) (g₀ : Ring) (b₀ : FlowBudget) (c n : ℕ) where
  pub record Step (k e : ℕ) (m : Mem) (g : Ring) (b : FlowBudget) : Type 0 where
    pub telling : Telling y l m₀ g₀ b₀ (neighbors (dependents_of d) m₀ c) (dependents_from d m₀ c n k e) m g b
    pub walks : Walks d y m c n k e
    pub placed : k < n → Placed d y e
    pub to : k < n → dependent_at d m c k e < y.blocks
    pub head : g.head < y.blocks
    pub room : g.count ≤ y.blocks

  step : {k e : ℕ} {m : Mem} {g : Ring} {b : FlowBudget}
      → Telling y l m₀ g₀ b₀ (neighbors (dependents_of d) m₀ c) (dependents_from d m₀ c n k e) m g b → Walks d y m c n k e → Step k e m g b
  step {k} {e} {m} {g} r w = record {
    telling = r;
    walks = w;
    placed = λ h. walks_placed h y m c e d w;
    to = λ h. walks_block h y m c e d w;
    head = r.good.head;
    room = good_count y m r.whole g r.good;
  }

  -- before the first
  pub step_none : {e : ℕ} → n ≡ count_of (dependents_of d) m₀ c → e ≡ first_of d m₀ c → Whole y m₀ → Good y m₀ g₀ → b₀.work ≤ l.work
      → c < y.blocks → Step 0 e m₀ g₀ b₀
  step_none en ee z h lim hc = step (telling_none (dependents-all d m₀ c en ee) z h lim) (walks_first d h.connected hc en ee)

  module _ {k e : ℕ} {m : Mem} {g : Ring} {b : FlowBudget} (s : Step k e m g b) where
    -- the charge was met, and the block was offered
    pub step_more : k < n → l.work < 2 ^ 64 - 1 → {x f : ℕ} {b' : FlowBudget} {m' : Mem} {g' : Ring} → x ≡ dependent_at d m c k e
        → f ≡ behind_of d m e → Ok b' ≡ charged l b (1 ∷ []) → Offers y x m g m' g' → Step (k + 1) f m' g' b'
    step_more h lim {x} {f} {m' = m'} ex ef ec o =
        let to : x < y.blocks = rw ex (s.to h) in
        let kept = offers_kept y m s.telling.whole to s.telling.good o in
        step (telling_more s.telling lim (dependents_next s.telling.edges h d c e ex ef) to ec o)
        (walks_stay kept.edges d y c n (k + 1) f (walks_next h y m c e d s.walks ef))

    -- the charge crossed the limit
    pub step_over : k < n → {x : OverWork} → Err x ≡ charged l b (1 ∷ []) → Tells y l (neighbors (dependents_of d) m₀ c) m₀ g₀ b₀ m (Err x)
    step_over h ec = telling_over s.telling (dependents_more h d m₀ c e) ec

    -- all are told
    pub step_all : n ≤ k → Tells y l (neighbors (dependents_of d) m₀ c) m₀ g₀ b₀ m (Ok (g, b))
    step_all h = telling_all s.telling (dependents-over d m₀ c e h)

-- ---- the running row against the one that is kept, by their names
module _ (d : Direction) (y : Layout) (l : Limits) (c : ℕ) (m t : Mem) (g : Ring) (b : FlowBudget)
    {k : BlockSet} {r : SlotRow} (ek : k ≡ kept_of d c) (er : r ≡ running_of d)
    {v : Bool} (ev : v ≡ same (cell t (set_of k)) (cell m (row_of y r))) where
  by-row : v ≡ same (cell t (kept_row d c)) (cell m (running_row d y))
  by-row = rw (ek, er, kept_named d c, running-named d y) at ev

  -- the same: the visit is over
  pub settled_same : v ≡ true → on (at_of m t g) b ≡ settled d y l c (at_of m t g) b
  unfolding settled
  settled_same e = rw (← by-row, e) refl

  -- another: it is stored, and those are told whom it concerns
  pub settled_new : v ≡ false → {t' : Mem} → t' ≡ store_cell t (set_of k) (cell m (row_of y r))
      → {o : Out} → o ≡ told y l (neighbors (dependents_of d) m c) (at_of m t' g) b → o ≡ settled d y l c (at_of m t g) b
  unfolding settled
  settled_new e q f = rw (← by-row, e, ← rw (ek, er, kept_named d c, running-named d y) at q) f

-- ---- a visit of block c, the first of the ring; m₁ are the words without its mark
module _ (d : Direction) (y : Layout) (l : Limits) (m t : Mem) (g : Ring) (b : FlowBudget) {c : ℕ} {m₁ : Mem}
    (ec : c ≡ word m ring_cell g.head) (em : m₁ ≡ store m queued_cell c 0) where
  -- its charge crossed the limit
  pub visited_over : {x : OverWork} → Err x ≡ charged l b (visit_charge d y m₁ c ∷ []) → stop x.budget ≡ visited d y l (at_of m t g) b
  unfolding visited
  visited_over r = rw (← ec, ← em, ← r) refl

  -- its charge was met, and the running row m₂ is settled
  pub visited_on : {x : FlowBudget} {m₂ : Mem} {h : ℕ} → Ok x ≡ charged l b (visit_charge d y m₁ c ∷ [])
      → m₂ ≡ store_cell m₁ (running_row d y) (computed d y m₁ t c) → h ≡ wrap y (g.head + 1)
      → {o : Out} → o ≡ settled d y l c (at_of m₂ t (record { head = h; count = g.count - 1 })) x → o ≡ visited d y l (at_of m t g) b
  unfolding visited
  visited_on r e₂ eh f = rw (← ec, ← em, ← r, ← e₂, ← eh) f

-- ---- what a visit of block c, the first of the ring, keeps
module _ {y : Layout} {m : Mem} {g : Ring} (good : Good y m g) {c : ℕ} (ec : c ≡ word m ring_cell g.head) where
  -- it is a block
  pub first_block : c < y.blocks
  first_block = rw ec (good.ring g.head good.head)

  module _ (z : Whole y m) {m₁ : Mem} (em : m₁ ≡ store m queued_cell c 0) where
    popped : Good y m₁ (record { head = wrap y (g.head + 1); count = g.count - 1 })
    popped =
        subst (λ (w : Mem). Good y w (record { head = wrap y (g.head + 1); count = g.count - 1 })) (sym em)
        (popped_good y m z g c first_block good)

    -- the edges, without its mark
    pub unmarked_connected : Connected y m₁
    unmarked_connected = popped.connected

    -- the ring without it, and with the running row computed
    pub visit_good : (d : Direction) {m₂ : Mem} (x : List ℕ) {h : ℕ} → m₂ ≡ store_cell m₁ (running_row d y) x → h ≡ wrap y (g.head + 1)
        → Good y m₂ (record { head = h; count = g.count - 1 })
    visit_good d x e₂ eh =
        good-row y m₁ (running_row d y) x _ (omega (arith, (running-at d y).0)) e₂
        (subst (λ (i : ℕ). Good y m₁ (record { head = i; count = g.count - 1 })) (sym eh) popped)

-- ---- a run with less work behind it is one with so much
pub went-less : (y : Layout) (l : Limits) (w v : ℕ) (o : Out) → v ≤ w → Went y l w o → Went y l v o
went-less y l w v (stop b) h t = tt
went-less y l w v (on s b) h t = (t.0, omega (arith, t.1), t.2)

-- ---- the visits
module _ (d : Direction) (y : Layout) (l : Limits) (n : ℕ) (s : At) (b : FlowBudget) where
  -- no block waits
  run-idle : s.ring.count ≤ 0 → run d y l n s b ≡ on s b
  unfolding run
  run-idle h = go n
    where
      go : (k : ℕ) → run d y l k s b ≡ on s b
      go zero = refl
      go (suc k) = rw (eq-eqb s.ring.count 0 (omega arith)) refl

  -- a block waits, and there is fuel for its visit
  run-visit : 0 < n → 0 < s.ring.count → (o : Out) → visited d y l s b ≡ o → run d y l n s b ≡ onward o (λ s' b'. run d y l (n - 1) s' b')
  unfolding run
  run-visit h g o e =
      let q : n ≡ suc (n - 1) = omega arith in
      rw q (rw (ne_eqb s.ring.count 0 (λ z. omega arith), e, ← q) refl)

module _ (d : Direction) (y : Layout) (l : Limits) (s₀ : At) (b₀ : FlowBudget) where
  -- how many visits there can be
  abbrev fuel : ℕ
  fuel = l.work + 1 - b₀.work

  -- some visits have led from s₀ to s, each with some work: the run from here is the run from the start
  pub record Ran (s : At) (b : FlowBudget) : Type 0 where
    pub good : Good y s.mem s.ring
    pub limit : b.work ≤ l.work
    pub steps : ℕ
    pub work : b₀.work + steps ≤ b.work
    pub same : run d y l (l.work + 1 - b₀.work - steps) s b ≡ run d y l (l.work + 1 - b₀.work) s₀ b₀

  module _ (s : At) (b : FlowBudget) (r : Ran s b) where
    -- no block waits
    pub ran_idle : s.ring.count ≤ 0 → on s b ≡ run d y l fuel s₀ b₀
    ran_idle h = sym (run-idle d y l (fuel - r.steps) s b h) ∙ r.same

    -- a visit crossed the limit
    pub ran_over : {x : FlowBudget} → 0 < s.ring.count → stop x ≡ visited d y l s b → stop x ≡ run d y l fuel s₀ b₀
    ran_over {x} h e = sym (run-visit d y l (fuel - r.steps) s b (omega (arith, r.limit, r.work)) h (stop x) (sym e)) ∙ r.same

    -- one more visit
    pub ran_more : (s' : At) (b' : FlowBudget) → 0 < s.ring.count → on s' b' ≡ visited d y l s b → Went y l (b.work + 1) (on s' b') → Ran s' b'
    ran_more s' b' h e w = record {
      good = w.0;
      limit = w.2;
      steps = r.steps + 1;
      work = omega (arith, r.work, w.1);
      same =
          let q : fuel - (r.steps + 1) ≡ fuel - r.steps - 1 = omega arith in
          rw q (sym (run-visit d y l (fuel - r.steps) s b (omega (arith, r.limit, r.work)) h (on s' b') (sym e)) ∙ r.same);
    }
