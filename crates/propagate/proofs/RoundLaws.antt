-- A round over the words is the worklist run over rows, with its charges: what `propagate` takes from its calls. Assumes nothing.
use mathlib.Core.Path.{◌≡◌, refl, sym, ap, ap₂, ◌∙◌, subst}
use mathlib.Core.Bool.{Bool, true, false, true≢false, false≢true}
use mathlib.Core.List.{List, [], ◌∷◌, ◌++◌, map}
use Prim.Native.Nat.{ℕ, suc, ◌+◌, ◌-◌, ◌≤◌}
use native.Mathlib.Omega.{arith}
use lib.ListN.{length, take, drop, replicate, length-set, length-map, length-append, length-drop, length-replicate}
use Rattle.dataflow.specs.Worklist as worklist
use Rattle.dataflow.proofs.Worklist.{run_more}
use Rattle.budget.specs.declared.FlowBudget.{FlowBudget}
use Rattle.budget.specs.declared.Limits.{Limits}
use Rattle.budget.specs.declared.OverWork.{OverWork}
use Rattle.std.specs.Prelude.{Ok, Err}
use Rattle.budget.specs.Budget.{Charged, over, charged}
use Rattle.budget.proofs.BudgetLaws.{met_then, over_then, over-not_ok, met-one}
use Rattle.memory.specs.Cells.{Mem, cell, store_cell}
use Rattle.memory.specs.Names.{order_cell, queued_cell, reachable_cell, ring_cell}
use Rattle.memory.specs.Scratch.{scratch_cells, scratch_widths}
use Rattle.memory.specs.Sets.{sets_widths}
use Rattle.sizes.specs.declared.Layout.{Layout}
use Rattle.memory.specs.Cells.{Sized}
use Rattle.memory.proofs.CellLaws.{cell-store_same, cell-store_other}
use Rattle.memory.proofs.ScratchLaws.{scratch_count, sized_blocks}
use Rattle.memory.proofs.SetsLaws.{sets_count}
use Rattle.edges.specs.Edges.{marked}
use Rattle.bitset.specs.Below.{AllBelow}
use Rattle.transfer.specs.declared.direction.Direction.{Direction}
use Rattle.transfer.specs.declared.direction.Direction.TheVariants.{Initialization, Liveness}
use Rattle.solver.specs.declared.ring.Ring.{Ring}
use Rattle.solver.specs.Run.{At, Out, stop, on, Turn, at_of, out_of, paid, run, Good, Idle, queue_of, in_ring, cleared, seeded, full}
use Rattle.memory.proofs.EdgeLaws.{connected_kept}
use Rattle.solver.proofs.SeedLaws.{queue_length}
use Rattle.propagate.specs.Rounds.{row_solver, beginning, round_run, round_charges, Seedable, Propagated}
use Rattle.bitset.proofs.Below.{below-append}
use Rattle.propagate.proofs.RingWords.{ring_words, ring_none, ring_full, sum-marks, below_at, below-reverse, below-drop}
use Rattle.propagate.proofs.RingWords.{below-zeros, below-take}
use Rattle.propagate.proofs.Fixed.{Fixed, fixed_none, fixed_ring, fixed_queued, fixed_edges}
use Rattle.propagate.proofs.Simulation.{Simulates}
use Rattle.propagate.proofs.Visits.{charges_of, Follows, follows_run, longer_charges}

-- ---- the seeding

-- the blocks that wait are blocks where those of the order are
queue-below : (d : Direction) (n : ℕ) (l : List ℕ) → AllBelow n l → AllBelow n (queue_of d l)
queue-below Initialization n l h = below-reverse n l [] h tt
queue-below Liveness n l h = h

module _ (d : Direction) {y : Layout} {n : ℕ} {m : Mem} (z : Sized (scratch_widths y) m) (h : Seedable y m n) where
  abbrev m₁ : Mem
  m₁ = store_cell m queued_cell (cell m reachable_cell)

  abbrev m₂ : Mem
  m₂ = store_cell m₁ ring_cell (replicate y.blocks 0)

  -- the blocks that wait
  abbrev waiting : List ℕ
  waiting = queue_of d (take n (cell m order_cell))

  -- the order is as it was
  order-kept : cell m₂ order_cell ≡ cell m order_cell
  order-kept =
      cell-store_other m₁ ring_cell (replicate y.blocks 0) order_cell (λ e. omega arith)
      ∙ cell-store_other m queued_cell (cell m reachable_cell) order_cell (λ e. omega arith)

  -- no cell came or went
  count₁ : length m₁ ≡ scratch_cells y
  count₁ = length-set m queued_cell (cell m reachable_cell) ∙ z.count ∙ scratch_count y

  count₂ : length m₂ ≡ scratch_cells y
  count₂ = length-set m₁ ring_cell (replicate y.blocks 0) ∙ count₁

  -- what the seeding stores into the ring
  ring-seeded : cell (seeded d y n m) ring_cell ≡ waiting ++ drop n (replicate y.blocks 0)
  unfolding seeded in_ring cleared
  ring-seeded =
      cell-store_same m₂ ring_cell (queue_of d (take n (cell m₂ order_cell)) ++ drop n (cell m₂ ring_cell)) (omega (arith, count₂))
      ∙ ap₂ (λ (o : List ℕ) (r : List ℕ). queue_of d (take n o) ++ drop n r) order-kept
      (cell-store_same m₁ ring_cell (replicate y.blocks 0) (omega (arith, count₁)))

  -- the marks are those of the reachable blocks
  queued-seeded : cell (seeded d y n m) queued_cell ≡ cell m reachable_cell
  unfolding seeded in_ring cleared
  queued-seeded =
      cell-store_other m₂ ring_cell (queue_of d (take n (cell m₂ order_cell)) ++ drop n (cell m₂ ring_cell)) queued_cell (λ e. omega arith)
      ∙ cell-store_other m₁ ring_cell (replicate y.blocks 0) queued_cell (λ e. omega arith)
      ∙ cell-store_same m queued_cell (cell m reachable_cell) (omega (arith, z.count, scratch_count y))

  -- no cell came or went
  count-seeded : length (seeded d y n m) ≡ scratch_cells y
  unfolding seeded in_ring cleared
  count-seeded = length-set m₂ ring_cell (queue_of d (take n (cell m₂ order_cell)) ++ drop n (cell m₂ ring_cell)) ∙ count₂

  -- the rest is as it was
  fixed-seeded : Fixed d y m (seeded d y n m)
  unfolding seeded in_ring cleared
  fixed-seeded =
      fixed_ring (fixed_ring (fixed_queued fixed_none (cell m reachable_cell)) (replicate y.blocks 0))
      (queue_of d (take n (cell m₂ order_cell)) ++ drop n (cell m₂ ring_cell))

  -- n blocks wait
  waiting-long : length waiting ≡ n
  waiting-long =
      queue_length n (cell m order_cell) (omega (arith, sized_blocks y z order_cell (omega arith) (omega arith), h.count)) d

  -- each a block
  waiting-below : AllBelow y.blocks waiting
  waiting-below = queue-below d y.blocks (take n (cell m order_cell)) (below-take y.blocks n (cell m order_cell) h.order)

  -- the ring is as wide as before
  ring_long : length (waiting ++ drop n (replicate y.blocks 0)) ≡ y.blocks
  ring_long =
      length-append waiting (drop n (replicate y.blocks 0))
      ∙ omega (arith, waiting-long, length-drop {A = ℕ} n (replicate y.blocks 0), length-replicate {A = ℕ} y.blocks 0, h.count)

  -- scratch that was seeded is good to visit from
  pub seeded_good : Good y (seeded d y n m) (full n)
  seeded_good = record {
    connected = connected_kept (fixed_edges fixed-seeded) y h.connected;
    head = h.some;
    count = rw queued-seeded h.reached;
    marks = rw queued-seeded h.flags;
    ring = λ i lt. rw ring-seeded (below_at y.blocks (waiting ++ drop n (replicate y.blocks 0)) h.some
        (below-append y.blocks waiting (drop n (replicate y.blocks 0)) waiting-below
        (below-drop y.blocks n (replicate y.blocks 0) (below-zeros y.blocks y.blocks h.some))) i);
  }

  -- and holds the state that the worklist run begins with
  simulates-seeded : {t : Mem} → Sized (sets_widths y) t
      → Simulates d y m t (at_of (seeded d y n m) t (full n)) (beginning d y n m t).sets (beginning d y n m t).ring
  simulates-seeded {t} zt = record {
    fixed = fixed-seeded;
    other_sets = λ k f. refl;
    cells = count-seeded;
    ring_long = ap length ring-seeded ∙ ring_long;
    sets_long = omega (arith, zt.count, sets_count y);
    table = refl;
    queue = sym (ap (λ (x : List ℕ). ring_words y x 0 n) ring-seeded
        ∙ ring_full y waiting (drop n (replicate y.blocks 0)) n waiting-long h.count (omega (arith, ring_long, h.count)));
    marks = ap (map marked) (sym queued-seeded);
    head = h.some;
    room = omega (arith, h.reached, sum-marks (cell m reachable_cell) h.flags, sized_blocks y z reachable_cell (omega arith) (omega arith));
    marks_long = length-map (cell m reachable_cell) marked ∙ sized_blocks y z reachable_cell (omega arith) (omega arith);
    below = waiting-below;
  }

-- ---- the answers

-- that of the visits as that of the round
abbrev pub charged_of : Turn → Charged
charged_of (Ok p) = Ok p.1
charged_of (Err e) = Err e

-- the charges of the round crossed the limit
propagated_crossed : {d : Direction} {y : Layout} {l : Limits} {b : FlowBudget} {n : ℕ} {m m' t t' : Mem} {x : OverWork}
    → charged l b (round_charges d y (suc l.work) n m t) ≡ Err x → Propagated d y l b n m m' t t' (Err x)
propagated_crossed e = record {
  charges = sym e;
  ended = λ left q. absurd (over-not_ok q);
  rows = λ left q. absurd (over-not_ok q);
  others = λ left q. absurd (over-not_ok q);
  other_sets = λ left q. absurd (over-not_ok q);
}

-- so they did where the charge of the seeding did
pub propagated_over : {d : Direction} {y : Layout} {l : Limits} {b : FlowBudget} {n : ℕ} {m m' t t' : Mem} {x : OverWork}
    → charged l b ((y.blocks + n) ∷ []) ≡ Err x → Propagated d y l b n m m' t t' (Err x)
unfolding round_charges
propagated_over {y = y} {l = l} {b = b} {n = n} e = propagated_crossed (over_then l b ((y.blocks + n) ∷ []) _ e)

module _ (d : Direction) (y : Layout) (l : Limits) (b left : FlowBudget) (n : ℕ) (m t : Mem) (z : Sized (scratch_widths y) m)
    (zt : Sized (sets_widths y) t) (h : Seedable y m n) (met : charged l b ((y.blocks + n) ∷ []) ≡ Ok left) (low : left.work ≤ l.work) where
  abbrev fuel : ℕ
  fuel = l.work + 1 - left.work

  abbrev begun : worklist.State (List ℕ)
  begun = beginning d y n m t

  -- the run with the fuel of the words, and with that of the round
  abbrev short : worklist.State (List ℕ)
  short = worklist.run (row_solver d y m) fuel begun

  abbrev long : worklist.State (List ℕ)
  long = worklist.run (row_solver d y m) (suc l.work) begun

  -- what the words' run leaves of the round's fuel
  all-fuel : suc l.work ≡ fuel + left.work
  all-fuel = omega arith

  -- the words' run, as that of the worklist
  follows : Follows d y l m t begun short (run d y l fuel (at_of (seeded d y n m) t (full n)))
  follows = follows_run d y l m t h.connected fuel (at_of (seeded d y n m) t (full n)) begun (simulates-seeded d z h zt)

  -- the charges of the round are those of the seeding, those of the words' run, and further ones
  further : (cs : List ℕ) × (charges_of d y l m t long ≡ follows.charges ++ cs)
  further =
      let a = longer_charges d y l m t fuel left.work begun in (
        a.0,
        ap (λ (k : ℕ). charges_of d y l m t (worklist.run (row_solver d y m) k begun)) all-fuel ∙ a.1
            ∙ ap (λ (cs : List ℕ). cs ++ a.0) follows.more,
      )

  -- the charge of the seeding was met, so the visits' are made to what it left
  all-charges : charged l b (round_charges d y (suc l.work) n m t) ≡ charged l left (charges_of d y l m t long)
  unfolding round_charges round_run
  all-charges = met_then l b ((y.blocks + n) ∷ []) (charges_of d y l m t long) met

  -- a charge of the visits crossed the limit
  crossed-there : {x : OverWork} → charged l left follows.charges ≡ Err x → charged l b (round_charges d y (suc l.work) n m t) ≡ Err x
  crossed-there e = all-charges ∙ ap (charged l left) further.1 ∙ over_then l left follows.charges further.0 e

  -- ---- the run went to its end
  module _ {m' t' : Mem} {g : Ring} {x : FlowBudget} (e : charged l left follows.charges ≡ Ok x) (at : at_of m' t' g ≡ follows.at)
      (idle : g.count ≡ 0) where
    -- the words hold the state that the worklist ends with
    held : Simulates d y m t (at_of m' t' g) short.sets short.ring
    held = subst (λ (s : At). Simulates d y m t s short.sets short.ring) (sym at) follows.simulates

    -- no block waits
    empty : short.ring.queue ≡ []
    empty = held.queue ∙ ring_none y (cell m' ring_cell) g.head g.count idle

    -- so more fuel changes nothing
    whole : long ≡ short
    whole = ap (λ (k : ℕ). worklist.run (row_solver d y m) k begun) all-fuel ∙ run_more (row_solver d y m) fuel left.work begun empty

    -- the round went to its end
    met_all : Propagated d y l b n m m' t t' (Ok x)
    unfolding round_run
    met_all = record {
      charges = sym (all-charges ∙ ap (λ (q : worklist.State (List ℕ)). charged l left (charges_of d y l m t q)) whole
          ∙ ap (charged l left) follows.more ∙ e);
      ended = λ _ _. ap (λ (q : worklist.State (List ℕ)). q.ring.queue) whole ∙ empty;
      rows = λ _ _. sym (ap (λ (q : worklist.State (List ℕ)). q.sets) whole ∙ held.table);
      others = λ _ _. held.fixed.others;
      other_sets = λ _ _. held.other_sets;
    }

  -- by what the words' run answers
  answered : (m' t' : Mem) (r : Turn) → out_of m' t' r ≡ run d y l (l.work + 1 - left.work) (at_of (seeded d y n m) t (full n)) left
      → Idle (out_of m' t' r) → Propagated d y l b n m m' t t' (charged_of r)
  answered m' t' r e i = go r (charged l left follows.charges) refl (e ∙ follows.is left) i
    where
      stopped : Out → Bool
      stopped (stop x) = true
      stopped (on s x) = false

      left_of : Out → FlowBudget
      left_of (stop x) = x
      left_of (on s x) = x

      at_in : At → Out → At
      at_in s₀ (stop x) = s₀
      at_in s₀ (on s x) = s

      go : (r : Turn) (c : Charged) → charged l left follows.charges ≡ c → out_of m' t' r ≡ paid c (λ b'. on follows.at b')
          → Idle (out_of m' t' r) → Propagated d y l b n m m' t t' (charged_of r)
      go (Err x) (Ok x') q e i = absurd (true≢false (ap stopped e))
      go (Err x) (Err x') q e i = propagated_crossed (crossed-there (q ∙ ap over (sym (ap left_of e))))
      go (Ok p) (Ok x') q e i = met_all (q ∙ ap {B = Charged} (λ (x : FlowBudget). Ok x) (sym (ap left_of e))) (ap (at_in (at_of m' t' p.0)) e) i
      go (Ok p) (Err x') q e i = absurd (false≢true (ap stopped e))

-- the visits over the words are those of the worklist run, whatever they answer
pub propagated_on : {d : Direction} {y : Layout} {l : Limits} {b left : FlowBudget} {n : ℕ} {m t : Mem} → Sized (scratch_widths y) m
    → Sized (sets_widths y) t → Seedable y m n → charged l b ((y.blocks + n) ∷ []) ≡ Ok left → left.work ≤ l.work → (m' t' : Mem) (r : Turn)
    → out_of m' t' r ≡ run d y l (l.work + 1 - left.work) (at_of (seeded d y n m) t (full n)) left → Idle (out_of m' t' r)
    → Propagated d y l b n m m' t t' (charged_of r)
propagated_on {d} {y} {l} {b} {left} {n} {m} {t} z zt h met low m' t' r e i = answered d y l b left n m t z zt h met low m' t' r e i

-- ---- as the code calls them: scratch after the seeding under a name of its own, and the answer as it is handed on

-- what `drain` requires of scratch
pub good_seeded : (d : Direction) {y : Layout} {n : ℕ} {m m₁ : Mem} → Sized (scratch_widths y) m → Seedable y m n → m₁ ≡ seeded d y n m
    → Good y m₁ (full n)
good_seeded d {y} {n} z h e = subst (λ (x : Mem). Good y x (full n)) (sym e) (seeded_good d z h)

-- the charge of the seeding crossed the limit
pub propagated_over_as : {d : Direction} {y : Layout} {l : Limits} {b : FlowBudget} {n : ℕ} {m m' t t' : Mem} {c : Charged} {x : OverWork}
    → c ≡ charged l b ((y.blocks + n) ∷ []) → c ≡ Err x → Propagated d y l b n m m' t t' c
propagated_over_as {d} {y} {l} {b} {n} {m} {m'} {t} {t'} e q =
    subst (λ (k : Charged). Propagated d y l b n m m' t t' k) (sym q) (propagated_over (sym e ∙ q))

-- it was met, and the visits followed
pub propagated_as : {d : Direction} {y y₁ : Layout} {l : Limits} {b left : FlowBudget} {n : ℕ} {m m₁ m' t t' : Mem} (r : Turn)
    → Sized (scratch_widths y) m → Sized (sets_widths y) t → Seedable y m n → y₁ ≡ y → Ok left ≡ charged l b ((y₁.blocks + n) ∷ [])
    → m₁ ≡ seeded d y n m → out_of m' t' r ≡ run d y l (l.work + 1 - left.work) (at_of m₁ t (full n)) left → Idle (out_of m' t' r)
    → Propagated d y l b n m m' t t' (charged_of r)
propagated_as {d} {y} {l = l} {b = b} {left = left} {n = n} {m' = m'} {t = t} {t' = t'} r z zt h ey met em er i =
    let met' : charged l b ((y.blocks + n) ∷ []) ≡ Ok left = rw (← ey) (sym met) in
    propagated_on z zt h met' (met-one l b (y.blocks + n) met').1 m' t' r
    (er ∙ ap (λ (x : Mem). run d y l (l.work + 1 - left.work) (at_of x t (full n)) left) em) i
