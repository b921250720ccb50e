-- A visit over the words is a visit of the worklist with its charges, and so is the run. Assumes nothing.
use mathlib.Core.Path.{◌≡◌, refl, sym, ap, ap₂, ◌∙◌, subst}
use mathlib.Core.Bool.{Bool, true, false}
use mathlib.Core.List.{List, [], ◌∷◌, ◌++◌, append_assoc, append-nil}
use Prim.Native.Nat.{ℕ, zero, suc, ◌+◌, ◌*◌, ◌<◌}
use native.Mathlib.Omega.{arith}
use native.Mathlib.Decide.{ℕ_discrete}
use native.Mathlib.Nat.{zero-add, suc-add}
use borrow.Author.Tests.{eq-eqb, ne_eqb}
use lib.Dec.{eqb}
use lib.ListN.{length, get_or, set, replicate}
use Rattle.bitset.specs.Operations.{same}
use Rattle.dataflow.specs.Lists.{pick}
use Rattle.dataflow.specs.Worklist as worklist
use Rattle.dataflow.specs.Charges.{trace_charges, visit_charges}
use Rattle.dataflow.proofs.Worklist.{run_stop, run_go}
use Rattle.budget.specs.declared.FlowBudget.{FlowBudget}
use Rattle.budget.specs.declared.Limits.{Limits}
use Rattle.std.specs.Prelude.{Ok, Err}
use Rattle.budget.specs.Budget.{Charged, charged, and_charged}
use Rattle.budget.proofs.BudgetLaws.{charged-none, charged-append}
use Rattle.memory.specs.Cells.{Mem, cell, store_cell}
use Rattle.memory.specs.Names.{ring_cell}
use Rattle.sizes.specs.declared.Layout.{Layout}
use Rattle.memory.proofs.CellLaws.{cell-store_same}
use Rattle.transfer.specs.declared.direction.Direction.{Direction}
use Rattle.memory.specs.Edges.{neighbors, Connected}
use Rattle.transfer.specs.Directions.{reads_of, dependents_of}
use Rattle.transfer.specs.Transfer.{running_row, kept_row, computed}
use Rattle.solver.specs.Run.{At, Out, on, at_of, paid, onward, popped, offered, told, settled, visit_charge, first_in, unmarked, with_computed, visited}
use Rattle.solver.specs.Run.{run}
use Rattle.memory.proofs.EdgeLaws.{count_kept, neighbors_kept}
use Rattle.transfer.proofs.TransferLaws.{running-at}
use Rattle.propagate.specs.Rounds.{row_solver}
use Rattle.propagate.proofs.RingWords.{ring_none}
use Rattle.propagate.proofs.Fixed.{fixed_edges, fixed_computed, neighbors-long, rows_at}
use Rattle.propagate.proofs.Simulation.{Simulates, offered_all, behind, simulates_told, simulates_first, first_below, simulates_popped}
use Rattle.propagate.proofs.Simulation.{simulates_computed, simulates_stored}

-- a run in two parts
run-parts : {W : Type 0} (a : worklist.Solver W) (k j : ℕ) (q : worklist.State W)
    → worklist.run a (k + j) q ≡ worklist.run a j (worklist.run a k q)
unfolding worklist.run
run-parts a zero j q = rw (zero-add j) refl
run-parts {W = W} a (suc k) j q = rw (suc-add k j) (go q.ring.queue refl (λ q'. run-parts a k j q'))
  where
    go : (z : List ℕ) → q.ring.queue ≡ z
        → ((q' : worklist.State W) → worklist.run a (k + j) q' ≡ worklist.run a j (worklist.run a k q'))
        → worklist.on_first a (λ b r. worklist.run a (k + j) (worklist.visit a b r q)) z q
        ≡ worklist.run a j (worklist.on_first a (λ b r. worklist.run a k (worklist.visit a b r q)) z q)
    go [] e rest = sym (run_stop a j q e)
    go (b ∷ r) e rest = rest (worklist.visit a b r q)

-- ---- charges in parts

-- charges, then further charges
pub paid-append : (l : Limits) (cs ds : List ℕ) (f : FlowBudget → Out) (b : FlowBudget)
    → paid (charged l b cs) (λ b'. paid (charged l b' ds) f) ≡ paid (charged l b (cs ++ ds)) f
paid-append l cs ds f b = go (charged l b cs) ∙ ap (λ (c : Charged). paid c f) (sym (charged-append l b cs ds))
  where
    go : (c : Charged) → paid c (λ b'. paid (charged l b' ds) f) ≡ paid (and_charged c (λ b'. charged l b' ds)) f
    go (Ok b') = refl
    go (Err e) = refl

-- what follows is the same for every budget
paid-same : (c : Charged) (f g : FlowBudget → Out) → ((b : FlowBudget) → f b ≡ g b) → paid c f ≡ paid c g
paid-same (Ok b) f g e = e b
paid-same (Err x) f g e = refl

-- one charge for each block told
pub told-paid : (y : Layout) (l : Limits) (cs : List ℕ) (s : At) (b : FlowBudget)
    → told y l cs s b ≡ paid (charged l b (replicate (length cs) 1)) (λ b'. on (offered_all y cs s) b')
unfolding told offered_all
told-paid y l [] s b = ap (λ (c : Charged). paid c (λ b'. on s b')) (sym (charged-none l b))
told-paid y l (c ∷ cs) s b =
    paid-same (charged l b (1 ∷ [])) (λ b'. told y l cs (offered y c s) b')
    (λ b'. paid (charged l b' (replicate (length cs) 1)) (λ b''. on (offered_all y cs (offered y c s)) b''))
    (λ b'. told-paid y l cs (offered y c s) b')
    ∙ paid-append l (1 ∷ []) (replicate (length cs) 1) (λ b'. on (offered_all y cs (offered y c s)) b') b

module _ (d : Direction) (y : Layout) (l : Limits) (m₀ t₀ : Mem) where
  -- the charges of the visits so far
  abbrev pub charges_of : worklist.State (List ℕ) → List ℕ
  charges_of q = trace_charges y.words (neighbors (reads_of d) m₀) (neighbors (dependents_of d) m₀) q.trace

  -- f over the words takes state q to state q': it makes the charges that q' has more, and if they are met, the words hold q'
  pub record Follows (q q' : worklist.State (List ℕ)) (f : FlowBudget → Out) : Type 0 where
    pub at : At
    pub simulates : Simulates d y m₀ t₀ at q'.sets q'.ring
    pub charges : List ℕ
    pub more : charges_of q' ≡ charges_of q ++ charges
    pub is : (b : FlowBudget) → f b ≡ paid (charged l b charges) (λ b'. on at b')

  -- nothing is done
  pub follows_none : (s : At) (q : worklist.State (List ℕ)) → Simulates d y m₀ t₀ s q.sets q.ring → Follows q q (λ b. on s b)
  follows_none s q h = record {
    at = s;
    simulates = h;
    charges = [];
    more = sym (append-nil (charges_of q));
    is = λ b. ap (λ (c : Charged). paid c (λ b'. on s b')) (sym (charged-none l b));
  }

  -- one thing, then another
  pub follows_then : {q q' q'' : worklist.State (List ℕ)} {f : FlowBudget → Out} (g : At → FlowBudget → Out) → Follows q q' f
      → ((s : At) → Simulates d y m₀ t₀ s q'.sets q'.ring → Follows q' q'' (g s)) → Follows q q'' (λ b. onward (f b) g)
  follows_then {q} {q'} {q''} {f} g a rest = record {
    at = b.at;
    simulates = b.simulates;
    charges = a.charges ++ b.charges;
    more = b.more ∙ ap (λ (cs : List ℕ). cs ++ b.charges) a.more ∙ append_assoc (charges_of q) a.charges b.charges;
    is = λ x. ap (λ (o : Out). onward o g) (a.is x) ∙ go (charged l x a.charges)
        ∙ paid-append l a.charges b.charges (λ b'. on b.at b') x;
  }
    where
      b : Follows q' q'' (g a.at)
      b = rest a.at a.simulates

      go : (c : Charged) → onward (paid c (λ b'. on a.at b')) g ≡ paid c (λ b'. paid (charged l b' b.charges) (λ b''. on b.at b''))
      go (Ok x) = b.is x
      go (Err x) = refl

  -- ---- a visit
  module _ (h₀ : Connected y m₀) where
    abbrev solver : worklist.Solver (List ℕ)
    solver = row_solver d y m₀

    module _ (s : At) (q : worklist.State (List ℕ)) (h : Simulates d y m₀ t₀ s q.sets q.ring) (some : s.ring.count ≡ 0 → ⊥) where
      abbrev c : ℕ
      c = first_in s

      abbrev v : List ℕ
      v = solver.compute c q.sets

      abbrev ring' : worklist.Ring
      ring' = worklist.popped c (behind y s) q.ring

      -- the words with the new row computed
      abbrev s₂ : At
      s₂ = at_of (with_computed d y (unmarked s) s.sets c) s.sets (popped y s.ring)

      -- and with it stored
      abbrev s₃ : At
      s₃ = at_of (with_computed d y (unmarked s) s.sets c) (store_cell s.sets (kept_row d c) (cell s₂.mem (running_row d y))) (popped y s.ring)

      -- the block is one
      below : c < y.blocks
      below = first_below s h some

      -- the ring without it
      one : Simulates d y m₀ t₀ (at_of (unmarked s) s.sets (popped y s.ring)) q.sets ring'
      one = simulates_popped s h some

      -- the new row computed
      two : Simulates d y m₀ t₀ s₂ q.sets ring'
      two = simulates_computed (unmarked s) s.sets (popped y s.ring) (computed d y (unmarked s) s.sets c) one

      -- the running row holds the new row
      running : cell s₂.mem (running_row d y) ≡ v
      running =
          cell-store_same (unmarked s) (running_row d y) (computed d y (unmarked s) s.sets c) (omega (arith, one.cells, (running-at d y).1))
          ∙ fixed_computed one.fixed s.sets h₀ c below ∙ ap (solver.compute c) (sym h.table)

      -- the row that is kept is the table's
      kept : cell s.sets (kept_row d c) ≡ get_or q.sets c []
      kept = sym (ap (λ (z : List (List ℕ)). get_or z c []) h.table ∙ rows_at d y s.sets c below)

      -- the new row stored
      three : Simulates d y m₀ t₀ s₃ (set q.sets c v) ring'
      three = subst (λ (x : List ℕ). Simulates d y m₀ t₀ s₃ (set q.sets c x) ring') running
          (simulates_stored s₂.mem s.sets (popped y s.ring) c (cell s₂.mem (running_row d y)) below two)

      -- whom a change is told
      dependents : neighbors (dependents_of d) s₂.mem c ≡ neighbors (dependents_of d) m₀ c
      dependents = neighbors_kept (fixed_edges two.fixed) (dependents_of d) c

      -- what the visit is charged
      fee : visit_charge d y (unmarked s) c ≡ y.words * (length (neighbors (reads_of d) m₀ c) + 3) + 1
      fee = ap (λ (n : ℕ). y.words * (n + 3) + 1) (count_kept (fixed_edges one.fixed) (reads_of d) c ∙ sym (neighbors-long (reads_of d) m₀ c))

      -- a visit, by the test of the rows
      abbrev settling : Bool → FlowBudget → Out
      settling t b = pick t (on s₂ b) (told y l (neighbors (dependents_of d) m₀ c) s₃ b)

      -- the comparison and what follows it
      settled_is : (b : FlowBudget) → settled d y l c s₂ b ≡ settling (same (get_or q.sets c []) v) b
      unfolding settled
      settled_is b =
          ap₂ (λ (t : Bool) (ds : List ℕ). pick t (on s₂ b) (told y l ds s₃ b)) (ap₂ same kept running) dependents

      -- the charge before it
      visited-is : (b : FlowBudget)
          → visited d y l s b ≡ paid (charged l b (visit_charge d y (unmarked s) c ∷ [])) (settling (same (get_or q.sets c []) v))
      unfolding visited
      visited-is b = paid-same (charged l b (visit_charge d y (unmarked s) c ∷ [])) (λ b'. settled d y l c s₂ b')
          (settling (same (get_or q.sets c []) v)) settled_is

      -- by the answer of the comparison
      follows-settled : (t : Bool) → Follows q (worklist.settle solver t c v (behind y s) q)
          (λ b. paid (charged l b (visit_charge d y (unmarked s) c ∷ [])) (settling t))
      follows-settled true = record {
        at = s₂;
        simulates = two;
        charges = visit_charge d y (unmarked s) c ∷ [];
        more = ap (λ (n : ℕ). charges_of q ++ (n ∷ [])) (sym fee);
        is = λ b. refl;
      }
      follows-settled false = record {
        at = offered_all y (neighbors (dependents_of d) m₀ c) s₃;
        simulates = simulates_told (neighbors (dependents_of d) m₀ c) s₃ (h₀.ends (dependents_of d) c below) three;
        charges = visit_charge d y (unmarked s) c ∷ replicate (length (neighbors (dependents_of d) m₀ c)) 1;
        more = ap (λ (n : ℕ). charges_of q ++ (n ∷ replicate (length (neighbors (dependents_of d) m₀ c)) 1)) (sym fee);
        is = λ b. paid-same (charged l b (visit_charge d y (unmarked s) c ∷ [])) (λ b'. told y l (neighbors (dependents_of d) m₀ c) s₃ b')
            (λ b'. paid (charged l b' (replicate (length (neighbors (dependents_of d) m₀ c)) 1))
            (λ b''. on (offered_all y (neighbors (dependents_of d) m₀ c) s₃) b''))
            (λ b'. told-paid y l (neighbors (dependents_of d) m₀ c) s₃ b')
            ∙ paid-append l (visit_charge d y (unmarked s) c ∷ []) (replicate (length (neighbors (dependents_of d) m₀ c)) 1)
            (λ b''. on (offered_all y (neighbors (dependents_of d) m₀ c) s₃) b'') b;
      }

      -- a visit over the words is the visit of the worklist
      pub follows_visited : Follows q (worklist.visit solver (first_in s) (behind y s) q) (visited d y l s)
      follows_visited =
          let a = follows-settled (same (get_or q.sets c []) v) in
          record { at = a.at; simulates = a.simulates; charges = a.charges; more = a.more; is = λ b. visited-is b ∙ a.is b }

    -- ---- the run
    pub follows_run : (n : ℕ) (s : At) (q : worklist.State (List ℕ)) → Simulates d y m₀ t₀ s q.sets q.ring
        → Follows q (worklist.run solver n q) (run d y l n s)
    unfolding run worklist.run
    follows_run zero s q h = follows_none s q h
    follows_run (suc n) s q h = go (ℕ_discrete s.ring.count 0) (λ s' q' h'. follows_run n s' q' h')
      where
        go : Dec (s.ring.count ≡ 0)
            → ((s' : At) (q' : worklist.State (List ℕ)) → Simulates d y m₀ t₀ s' q'.sets q'.ring
            → Follows q' (worklist.run solver n q') (run d y l n s'))
            → Follows q (worklist.run solver (suc n) q)
            (λ b. pick (eqb s.ring.count 0) (on s b) (onward (visited d y l s b) (λ s' b'. run d y l n s' b')))
        go (yes e) rest =
            rw (eq-eqb s.ring.count 0 e)
            (subst (λ (z : worklist.State (List ℕ)). Follows q z (λ b. on s b)) (sym (run_stop solver (suc n) q none)) (follows_none s q h))
          where
            none : q.ring.queue ≡ []
            none = h.queue ∙ ring_none y (cell s.mem ring_cell) s.ring.head s.ring.count e
        go (no e) rest =
            rw (ne_eqb s.ring.count 0 e)
            (subst (λ (z : worklist.State (List ℕ)). Follows q z (λ b. onward (visited d y l s b) (λ s' b'. run d y l n s' b')))
            (sym (run_go solver n q (first_in s) (behind y s) (simulates_first s h e)))
            (follows_then (λ s' b'. run d y l n s' b') (follows_visited s q h e)
            (λ s' h'. rest s' (worklist.visit solver (first_in s) (behind y s) q) h')))

  -- ---- more visits make further charges

  -- the charges of one visit
  settle-charges : (t : Bool) (c : ℕ) (v : List ℕ) (w : List ℕ) (q : worklist.State (List ℕ))
      → (cs : List ℕ) × (charges_of (worklist.settle (row_solver d y m₀) t c v w q) ≡ charges_of q ++ cs)
  settle-charges true c v w q = (visit_charges y.words (neighbors (reads_of d) m₀) (neighbors (dependents_of d) m₀) (worklist.unchanged c), refl)
  settle-charges false c v w q = (visit_charges y.words (neighbors (reads_of d) m₀) (neighbors (dependents_of d) m₀) (worklist.changed c), refl)

  -- and of n more
  run-charges : (n : ℕ) (q : worklist.State (List ℕ)) → (cs : List ℕ) × (charges_of (worklist.run (row_solver d y m₀) n q) ≡ charges_of q ++ cs)
  unfolding worklist.run
  run-charges zero q = ([], sym (append-nil (charges_of q)))
  run-charges (suc n) q = go q.ring.queue (λ q'. run-charges n q')
    where
      go : (z : List ℕ)
          → ((q' : worklist.State (List ℕ)) → (cs : List ℕ) × (charges_of (worklist.run (row_solver d y m₀) n q') ≡ charges_of q' ++ cs))
          → (cs : List ℕ) × (charges_of (worklist.on_first (row_solver d y m₀)
          (λ c w. worklist.run (row_solver d y m₀) n (worklist.visit (row_solver d y m₀) c w q)) z q) ≡ charges_of q ++ cs)
      go [] rest = ([], sym (append-nil (charges_of q)))
      go (c ∷ w) rest =
          let x = (row_solver d y m₀).compute c q.sets in
          let a = settle-charges (same (get_or q.sets c []) x) c x w q in
          let b = rest (worklist.visit (row_solver d y m₀) c w q) in
          (a.0 ++ b.0, b.1 ∙ ap (λ (cs : List ℕ). cs ++ b.0) a.1 ∙ append_assoc (charges_of q) a.0 b.0)

  -- so a longer run has those of a shorter one, and further ones
  pub longer_charges : (k j : ℕ) (q : worklist.State (List ℕ))
      → (cs : List ℕ) × (charges_of (worklist.run (row_solver d y m₀) (k + j) q) ≡ charges_of (worklist.run (row_solver d y m₀) k q) ++ cs)
  longer_charges k j q =
      let a = run-charges j (worklist.run (row_solver d y m₀) k q) in (a.0, ap charges_of (run-parts (row_solver d y m₀) k j q) ∙ a.1)
