-- A round over rows of words, seen as bits, is the defined run on code: visit by visit, charge by charge, and in the sets that it ends with.
-- Assumes nothing.
use mathlib.Core.Path.{◌≡◌, refl, sym, ap, ap₂, ◌∙◌, subst}
use mathlib.Core.Bool.{Bool, true, false}
use mathlib.Core.List.{List, [], ◌∷◌, ◌++◌, map, reverse, reverse-reverse, Memᴰ}
use Prim.Native.Nat.{ℕ, zero, suc, ◌+◌, ◌*◌, ◌-◌, ◌≤◌, ◌<◌}
use native.Mathlib.Omega.{arith}
use native.Mathlib.Decide.{dec_le}
use lib.Dec.{lit<}
use lib.ListN.{length, take, replicate, length-map}
use lib.Seq.{ext_get_or}
use Rattle.bitset.specs.Sets.{ones, member, Words}
use Rattle.bitset.proofs.SetLaws.{member-zero, member-ones, words-replicate}
use Rattle.dataflow.specs.Analyses as analyses
use Rattle.dataflow.specs.Code.{Instruction, block_successors}
use Rattle.dataflow.specs.Lists.{tabulate}
use Rattle.dataflow.specs.Worklist as worklist
use Rattle.dataflow.specs.Framework.{Framework, bit_at, solver_of, begin, enough, solution}
use Rattle.dataflow.specs.Results.{block_count, predecessors, swept, searched, seed, result}
use Rattle.dataflow.specs.Charges.{visit_charges, trace_charges, propagate_charges}
use Rattle.dataflow.proofs.Lists.{tabulate_same}
use Rattle.dataflow.proofs.Results.{seed_sound, result_ends}
use Rattle.dataflow.proofs.Simulation.{Each, seen, run_seen}
use Rattle.dataflow.proofs.Worklist.{run_more, run_fuel}
use Rattle.budget.specs.declared.FlowBudget.{FlowBudget}
use Rattle.budget.specs.declared.Limits.{Limits}
use Rattle.budget.specs.declared.OverWork.{OverWork}
use Rattle.std.specs.Prelude.{Ok, Err}
use Rattle.budget.specs.Budget.{Charged, charged}
use Rattle.budget.proofs.BudgetLaws.{over_then}
use Rattle.memory.specs.Cells.{Mem, cell}
use Rattle.memory.specs.Names.{order_cell, reachable_cell}
use Rattle.memory.specs.Scratch.{scratch_widths}
use Rattle.sizes.specs.declared.Layout.{Layout}
use Rattle.memory.specs.Cells.{Sized}
use Rattle.memory.proofs.ScratchLaws.{sized_blocks}
use Rattle.transfer.specs.declared.direction.Direction.{Direction}
use Rattle.transfer.specs.declared.direction.Direction.TheVariants.{Initialization, Liveness}
use Rattle.memory.specs.Edges.{neighbors}
use Rattle.transfer.specs.Directions.{reads_of, dependents_of}
use Rattle.transfer.specs.Transfer.{kept_row}
use Rattle.solver.specs.Run.{queue_of}
use Rattle.propagate.specs.Rounds.{rows_of, row_solver, beginning, round_run, round_charges, Propagated}
use Rattle.propagate.proofs.RingWords.{marks-at}
use Rattle.propagate.proofs.Fixed.{rows_at, rows_long}
use Rattle.propagate.proofs.Visits.{charges_of, longer_charges}
use Rattle.edges.specs.Edges.{marked}
use Rattle.edges.specs.Flow.{Flows, Fresh}
use Rattle.dataflow.specs.Checked.{Scripted}
use Rattle.fixed_points.specs.Stages.{InOrder}
use Rattle.fixed_points.proofs.CodeGraph.{direction_of, neighbors_are, reachable_are}
use Rattle.fixed_points.proofs.Bits.{bits_of, bit-at, bits_are, Table, RowsOfWords, frame_of, agrees}

-- ---- rows as they begin

-- the word that rows are filled with before a round
abbrev pub first_word : Direction → ℕ
first_word Initialization = ones
first_word Liveness = 0

-- what its bits are
abbrev pub first_bit : Direction → Bool
first_bit Initialization = true
first_bit Liveness = false

-- the rows that a round keeps are as they began
pub record FreshIn (d : Direction) (y : Layout) (t : Mem) : Type 0 where
  pub rows : (c : ℕ) → c < y.blocks → cell t (kept_row d c) ≡ replicate y.words (first_word d)

-- those of either direction
pub fresh_in : (d : Direction) {y : Layout} {t : Mem} → Fresh y t → FreshIn d y t
fresh_in Initialization h = record { rows = h.initialized }
fresh_in Liveness h = record { rows = h.live }

-- the word fits
first_fits : (d : Direction) (w : ℕ) → Words w (replicate w (first_word d))
first_fits Initialization w = words-replicate w ones (lit< tt)
first_fits Liveness w = words-replicate w 0 (lit< tt)

-- a row as it began, seen as bits
first-bits : (d : Direction) (w : ℕ) → bits_of (64 * w) (replicate w (first_word d)) ≡ replicate (64 * w) (first_bit d)
first-bits Initialization w =
    sym (bits_are (64 * w) (replicate w ones) (λ i. true) (λ i lt. sym (member-ones w i (omega arith)))) ∙ tabulate_same 0 (64 * w) true
first-bits Liveness w =
    sym (bits_are (64 * w) (replicate w 0) (λ i. false) (λ i lt. sym (member-zero w i))) ∙ tabulate_same 0 (64 * w) false

-- a table of equal entries, seen through h
map-tabulate : {A B : Type 0} (h : A → B) (v : B) (k n : ℕ) (f : ℕ → A) → ((i : ℕ) → i < k + n → h (f i) ≡ v)
    → map h (tabulate k n f) ≡ replicate n v
map-tabulate h v k zero f e = refl
map-tabulate {B = B} h v k (suc n) f e =
    ap₂ (λ (x : B) (l : List B). x ∷ l) (e k (omega arith)) (map-tabulate h v (suc k) n f (λ i lt. e i (omega arith)))

module _ (d : Direction) (y : Layout) (t : Mem) where
  -- a bit of a row that a round keeps
  pub rows_bit : (v : Bool) (c i : ℕ) → c < y.blocks → i < 64 * y.words
      → bit_at v (map (bits_of (64 * y.words)) (rows_of d y t)) c i ≡ member (cell t (kept_row d c)) i
  rows_bit v c i lc li =
      bit-at (64 * y.words) (rows_of d y t) v c i (omega (arith, rows_long d y t)) li ∙ ap (λ (l : List ℕ). member l i) (rows_at d y t c lc)

  -- such rows are a table if they are of words
  pub rows_table : ((c : ℕ) → c < y.blocks → Words y.words (cell t (kept_row d c))) → Table y (rows_of d y t)
  rows_table h = record { count = rows_long d y t; each = λ c lt. subst (Words y.words) (sym (rows_at d y t c lt)) (h c lt) }

module _ {d : Direction} {y : Layout} {t : Mem} (fresh : FreshIn d y t) where
  -- rows as they began are of words
  fresh-table : Table y (rows_of d y t)
  fresh-table = rows_table d y t (λ c lt. subst (Words y.words) (sym (fresh.rows c lt)) (first_fits d y.words))

  -- and seen as bits, all are the first bit
  fresh-bits : map (bits_of (64 * y.words)) (rows_of d y t) ≡ replicate y.blocks (replicate (64 * y.words) (first_bit d))
  unfolding rows_of
  fresh-bits = map-tabulate (bits_of (64 * y.words)) (replicate (64 * y.words) (first_bit d)) 0 y.blocks (λ c. cell t (kept_row d c))
      (λ i lt. ap (bits_of (64 * y.words)) (fresh.rows i (omega arith)) ∙ first-bits d y.words)

-- ---- charges

-- the charges of a trace depend on the edges only
trace-same : (words : ℕ) {r r' e e' : ℕ → List ℕ} → ((b : ℕ) → r b ≡ r' b) → ((b : ℕ) → e b ≡ e' b) → (l : List worklist.Visit)
    → trace_charges words r e l ≡ trace_charges words r' e' l
trace-same words er ee [] = refl
trace-same words {r} {r'} {e} {e'} er ee (x ∷ l) = ap₂ (λ (a b : List ℕ). a ++ b) (trace-same words er ee l) (one x)
  where
    one : (x : worklist.Visit) → visit_charges words r e x ≡ visit_charges words r' e' x
    one (worklist.unchanged b) = ap (λ (z : List ℕ). (words * (length z + 3) + 1) ∷ []) (er b)
    one (worklist.changed b) =
        ap₂ (λ (z u : List ℕ). (words * (length z + 3) + 1) ∷ replicate (length u) 1) (er b) (ee b)

-- a round whose charges crossed the limit crosses it at the same sum, however many more visits are allowed
longer_over : (d : Direction) (y : Layout) (l : Limits) (b : FlowBudget) (n : ℕ) (m t : Mem) (k j : ℕ) {x : OverWork}
    → charged l b (round_charges d y k n m t) ≡ Err x → charged l b (round_charges d y (k + j) n m t) ≡ Err x
unfolding round_charges round_run
longer_over d y l b n m t k j {x} e =
    let more = longer_charges d y l m t k j (beginning d y n m t) in
    ap (λ (cs : List ℕ). charged l b ((y.blocks + n) ∷ cs)) more.1
    ∙ over_then l b ((y.blocks + n) ∷ charges_of d y l m t (worklist.run (row_solver d y m) k (beginning d y n m t))) more.0 e

-- ---- a ring and a state from their parts
abbrev ring_of : List ℕ → List Bool → worklist.Ring
ring_of q k = record { queue = q; marks = k }

abbrev state_of : List (List Bool) → worklist.Ring → worklist.State (List Bool)
state_of x r = record { sets = x; ring = r; trace = [] }

module _ {code : List Instruction} {parameter : ℕ → Bool} {y : Layout} {m : Mem} (s : Scripted code parameter y.words)
    (f : Flows code parameter y m) (z : Sized (scratch_widths y) m) (w : RowsOfWords y m) {n : ℕ} (o : InOrder code n m) where
  -- ---- the beginning

  -- the marks are those of the reachable blocks
  begun-marks : map marked (cell m reachable_cell) ≡ (swept code).visited
  begun-marks =
      ext_get_or false (map marked (cell m reachable_cell)) (swept code).visited (long ∙ sym visited-long)
      (λ i lt. marks-at (cell m reachable_cell) i ∙ reachable_are s f z i)
    where
      long : length (map marked (cell m reachable_cell)) ≡ y.blocks
      long = length-map (cell m reachable_cell) marked ∙ sized_blocks y z reachable_cell (omega arith) (omega arith)

      visited-long : length (swept code).visited ≡ y.blocks
      visited-long = (seed_sound code parameter s.slots y.words s.checked s.wide analyses.initialization).len ∙ sym f.blocks

  -- the ring is the one that the defined run begins with
  begun-ring : (d : Direction) → ring_of (queue_of d (take n (cell m order_cell))) (map marked (cell m reachable_cell)) ≡ seed code (direction_of d)
  begun-ring Initialization = ap₂ ring_of (ap reverse o.order ∙ reverse-reverse (searched code).finished) begun-marks
  begun-ring Liveness = ap₂ ring_of o.order begun-marks

  -- each block that waits is one
  begun-below : (d : Direction) → Each (λ b. b < y.blocks) (queue_of d (take n (cell m order_cell)))
  begun-below d c q = omega (
    arith,
    f.blocks,
    ((seed_sound code parameter s.slots y.words s.checked s.wide (direction_of d)).queued c
        (subst (λ (r : worklist.Ring). Memᴰ c r.queue) (begun-ring d) q)).2,
  )

  -- so are the rows
  begun-sets : (d : Direction) {t : Mem} → FreshIn d y t
      → map (bits_of (64 * y.words)) (rows_of d y t) ≡ (begin (frame_of code parameter y.words d) (seed code (direction_of d))).sets
  begun-sets Initialization fresh =
      fresh-bits fresh ∙ ap (λ (k : ℕ). replicate k (replicate (64 * y.words) true)) f.blocks
  begun-sets Liveness fresh = fresh-bits fresh ∙ ap (λ (k : ℕ). replicate k (replicate (64 * y.words) false)) f.blocks

  module _ {d : Direction} {t : Mem} (fresh : FreshIn d y t) where
    -- the framework of the direction
    abbrev frame : Framework
    frame = frame_of code parameter y.words d

    -- the ring that its run begins with
    abbrev ring : worklist.Ring
    ring = seed code (direction_of d)

    -- a state of the rows, seen as bits
    abbrev as_bits : worklist.State (List ℕ) → worklist.State (List Bool)
    as_bits = seen (bits_of (64 * y.words)) (row_solver d y m) (solver_of frame) (Table y) (λ b. b < y.blocks)

    -- the round begins as the defined run
    begun-seen : as_bits (beginning d y n m t) ≡ begin frame ring
    begun-seen = ap₂ state_of (begun-sets d fresh) (begun-ring d)

    -- ---- the run

    -- after any number of visits it is the defined run
    pub round_seen : (k : ℕ) → worklist.run (solver_of frame) k (begin frame ring) ≡ as_bits (round_run d y k n m t)
    unfolding round_run
    round_seen k =
        ap (worklist.run (solver_of frame) k) (sym begun-seen)
        ∙ run_seen (bits_of (64 * y.words)) (row_solver d y m) (solver_of frame) (Table y) (λ b. b < y.blocks) (agrees s f w z d) k
        (beginning d y n m t) (fresh-table fresh) (begun-below d)

    -- the visits that are always enough
    abbrev all : ℕ
    all = enough frame ring

    -- the round of so many visits, seen as bits, is the result
    result-seen : result code parameter y.words (direction_of d) ≡ as_bits (round_run d y all n m t)
    unfolding solution
    result-seen = round_seen all

    -- and has ended
    all-ended : (round_run d y all n m t).ring.queue ≡ []
    all-ended =
        sym (ap (λ (q : worklist.State (List Bool)). q.ring.queue) result-seen)
        ∙ result_ends code parameter s.slots y.words s.checked s.wide (direction_of d)

    -- ---- the charges

    -- those of the result are those of the round of so many visits
    result-charges : propagate_charges code parameter y.words (direction_of d) ≡ round_charges d y all n m t
    unfolding round_charges
    result-charges = go d (ap (λ (q : worklist.State (List Bool)). q.trace) result-seen)
      where
        same_first : block_count code + length (searched code).finished ≡ y.blocks + n
        same_first = omega (arith, f.blocks, o.len)

        go : (e : Direction) {l : List worklist.Visit} → (result code parameter y.words (direction_of e)).trace ≡ l
            → propagate_charges code parameter y.words (direction_of e)
            ≡ (y.blocks + n) ∷ trace_charges y.words (neighbors (reads_of e) m) (neighbors (dependents_of e) m) l
        go Initialization {l} e = ap₂ (λ (a : ℕ) (cs : List ℕ). a ∷ cs) same_first
            (ap (trace_charges y.words (predecessors code) (block_successors code)) e
            ∙ trace-same y.words (λ b. sym (neighbors_are s f z (reads_of Initialization) b))
            (λ b. sym (neighbors_are s f z (dependents_of Initialization) b)) l)
        go Liveness {l} e = ap₂ (λ (a : ℕ) (cs : List ℕ). a ∷ cs) same_first
            (ap (trace_charges y.words (block_successors code) (predecessors code)) e
            ∙ trace-same y.words (λ b. sym (neighbors_are s f z (reads_of Liveness) b))
            (λ b. sym (neighbors_are s f z (dependents_of Liveness) b)) l)

    -- a round that has ended is the round of so many visits
    ended-all : (k : ℕ) → (round_run d y k n m t).ring.queue ≡ [] → round_run d y k n m t ≡ round_run d y all n m t
    unfolding round_run
    ended-all k e = run_fuel (row_solver d y m) k all (beginning d y n m t) e all-ended

    -- and so is a longer one
    longer_all : (j : ℕ) → round_run d y (all + j) n m t ≡ round_run d y all n m t
    unfolding round_run
    longer_all j = run_more (row_solver d y m) all j (beginning d y n m t) all-ended

    -- equal runs have equal charges
    same-charges : (k : ℕ) → round_run d y k n m t ≡ round_run d y all n m t → round_charges d y k n m t ≡ round_charges d y all n m t
    unfolding round_charges
    same-charges k e =
        ap (λ (q : worklist.State (List ℕ)). (y.blocks + n)
        ∷ trace_charges y.words (neighbors (reads_of d) m) (neighbors (dependents_of d) m) q.trace) e

    module _ {l : Limits} {b : FlowBudget} {m' t' : Mem} {r : Charged} (p : Propagated d y l b n m m' t t' r) where
      -- the charges of the round are those of the defined run, met or not
      pub round_charges_lem : r ≡ charged l b (propagate_charges code parameter y.words (direction_of d))
      round_charges_lem = go r refl ∙ sym (ap (charged l b) result-charges)
        where
          over : (x : OverWork) → r ≡ Err x → Dec (suc l.work ≤ all) → Err x ≡ charged l b (round_charges d y all n m t)
          over x e (yes le) =
              let q : all ≡ suc l.work + (all - suc l.work) = omega arith in
              sym (ap (λ (k : ℕ). charged l b (round_charges d y k n m t)) q
              ∙ longer_over d y l b n m t (suc l.work) (all - suc l.work) (sym p.charges ∙ e))
          over x e (no gt) =
              let q : suc l.work ≡ all + (suc l.work - all) = omega arith in
              sym e ∙ p.charges ∙ ap (charged l b) (same-charges (suc l.work)
              (ap (λ (k : ℕ). round_run d y k n m t) q ∙ longer_all (suc l.work - all)))

          go : (c : Charged) → r ≡ c → r ≡ charged l b (round_charges d y all n m t)
          go (Ok left) e = p.charges ∙ ap (charged l b) (same-charges (suc l.work) (ended-all (suc l.work) (p.ended left e)))
          go (Err x) e = e ∙ over x e (dec_le (suc l.work) all)

      -- a round that was met leaves the sets that the defined run ends with
      pub round_sets : (left : FlowBudget) → r ≡ Ok left → (c i : ℕ) → c < y.blocks → i < 64 * y.words
          → member (cell t' (kept_row d c)) i ≡ bit_at (first_bit d) (result code parameter y.words (direction_of d)).sets c i
      round_sets left e c i lc li =
          sym (rows_bit d y t' (first_bit d) c i lc li)
          ∙ ap (λ (x : List (List Bool)). bit_at (first_bit d) x c i)
          (ap (map (bits_of (64 * y.words))) (p.rows left e
          ∙ ap (λ (q : worklist.State (List ℕ)). q.sets) (ended-all (suc l.work) (p.ended left e)))
          ∙ sym (ap (λ (q : worklist.State (List Bool)). q.sets) result-seen))
