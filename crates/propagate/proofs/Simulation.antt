-- The words of a round hold a state of the worklist run: an offer, a block taken and a row stored are those of the worklist. Assumes nothing.
use mathlib.Core.Path.{◌≡◌, refl, sym, ap, ap₂, ◌∙◌, subst}
use mathlib.Core.Bool.{Bool, true, false, not, ◌&&◌}
use mathlib.Core.List.{List, [], ◌∷◌, ◌++◌, map}
use Prim.Native.Nat.{ℕ, suc, ◌+◌, ◌-◌, ◌≤◌, ◌<◌}
use native.Mathlib.Omega.{arith}
use native.Mathlib.Decide.{ℕ_discrete}
use borrow.Author.Tests.{eq-eqb, ne_eqb}
use lib.Dec.{eqb}
use lib.ListN.{length, get_or, set, length-set}
use Rattle.dataflow.specs.Lists.{pick}
use Rattle.dataflow.specs.Worklist as worklist
use Rattle.dataflow.specs.Search.{unvisited}
use Rattle.dataflow.proofs.Lists.{map_set}
use Rattle.dataflow.proofs.Reachability.{unvisited-set}
use Rattle.memory.specs.Cells.{Mem, cell, word, store, store_cell}
use Rattle.memory.specs.Names.{queued_cell, reachable_cell, ring_cell, initialized_row}
use Rattle.memory.specs.Scratch.{scratch_cells}
use Rattle.sizes.specs.declared.Layout.{Layout}
use Rattle.memory.proofs.CellLaws.{cell-store_same, cell-store_other}
use Rattle.bitset.specs.Below.{AllBelow}
use Rattle.edges.specs.Edges.{marked}
use Rattle.edges.proofs.EdgeLaws.{marked-yes, marked-no}
use Rattle.transfer.specs.declared.direction.Direction.{Direction}
use Rattle.solver.specs.declared.ring.Ring.{Ring}
use Rattle.transfer.specs.Transfer.{running_row, kept_row}
use Rattle.solver.specs.Run.{At, at_of, wrap, popped, pushed, offered, first_in}
use Rattle.transfer.proofs.TransferLaws.{row_other}
use Rattle.solver.proofs.RingLaws.{wrap-lt, pushed_marks, pushed_ring}
use Rattle.propagate.specs.Rounds.{rows_of, row_solver}
use Rattle.bitset.proofs.Below.{below-append}
use Rattle.propagate.proofs.RingWords.{ring_words, ring_push, ring_pop, marks-at, unvisited-clear}
use Rattle.propagate.proofs.Fixed.{Fixed, fixed_ring, fixed_queued, fixed_running, fixed_reachable, rows-set}

-- The words of s, which were m₀ and t₀ at the beginning, hold the rows and the ring of a worklist state.
pub record Simulates (d : Direction) (y : Layout) (m₀ t₀ : Mem) (s : At) (rows : List (List ℕ)) (r : worklist.Ring) : Type 0 where
  pub fixed : Fixed d y m₀ s.mem
  pub other_sets : (k : ℕ) → ((c : ℕ) → c < y.blocks → k ≡ kept_row d c → ⊥) → cell s.sets k ≡ cell t₀ k
  -- the cells are there
  pub cells : length s.mem ≡ scratch_cells y
  pub ring_long : length (cell s.mem ring_cell) ≡ y.blocks
  pub sets_long : initialized_row y.blocks ≤ length s.sets
  -- they hold the state
  pub table : rows ≡ rows_of d y s.sets
  pub queue : r.queue ≡ ring_words y (cell s.mem ring_cell) s.ring.head s.ring.count
  pub marks : r.marks ≡ map marked (cell s.mem queued_cell)
  -- the ring has room for each block that has no mark, and each that waits is a block
  pub head : s.ring.head < y.blocks
  pub room : s.ring.count + unvisited r.marks ≤ y.blocks
  pub marks_long : length r.marks ≡ y.blocks
  pub below : AllBelow y.blocks r.queue

-- an offer to the ring
abbrev offer_to : Mem → ℕ → worklist.Ring → worklist.Ring
offer_to m₀ c r = worklist.offer (marked (word m₀ reachable_cell c) && not (worklist.mark r c)) c r

-- an offer of each of a list
unfoldable pub offered_all : Layout → List ℕ → At → At
offered_all y [] s = s
offered_all y (c ∷ cs) s = offered_all y cs (offered y c s)

-- those that wait behind the first
abbrev pub behind : Layout → At → List ℕ
behind y s = ring_words y (cell s.mem ring_cell) (wrap y (s.ring.head + 1)) (s.ring.count - 1)

module _ {d : Direction} {y : Layout} {m₀ t₀ : Mem} where
  -- ---- an offer

  module _ (s : At) {rows : List (List ℕ)} {r : worklist.Ring} (h : Simulates d y m₀ t₀ s rows r) (c : ℕ) (lt : c < y.blocks) where
    abbrev m₁ : Mem
    m₁ = store s.mem queued_cell c 1

    abbrev place : ℕ
    place = wrap y (s.ring.head + s.ring.count)

    abbrev m₂ : Mem
    m₂ = store m₁ ring_cell place c

    -- what the two stores of a push leave
    count₁ : length m₁ ≡ length s.mem
    count₁ = length-set s.mem queued_cell (set (cell s.mem queued_cell) c 1)

    ring₂ : cell m₂ ring_cell ≡ set (cell s.mem ring_cell) place c
    ring₂ = pushed_ring s.mem c place (omega (arith, h.cells))

    queued₂ : cell m₂ queued_cell ≡ set (cell s.mem queued_cell) c 1
    queued₂ = pushed_marks s.mem c place (omega (arith, h.cells))

    -- the mark of c, and whether it is reachable, as the words say
    mark-is : worklist.mark r c ≡ marked (word s.mem queued_cell c)
    mark-is = ap (λ (q : List Bool). get_or q c false) h.marks ∙ marks-at (cell s.mem queued_cell) c

    reachable-is : marked (word m₀ reachable_cell c) ≡ marked (word s.mem reachable_cell c)
    reachable-is = ap marked (sym (fixed_reachable h.fixed c))

    -- a block without a mark joins the ring
    simulates-pushed : word s.mem queued_cell c ≡ 0 → Simulates d y m₀ t₀ (pushed y c s) rows (worklist.offer true c r)
    unfolding pushed
    simulates-pushed e = record {
      fixed = fixed_ring (fixed_queued h.fixed (set (cell s.mem queued_cell) c 1)) (set (cell m₁ ring_cell) place c);
      other_sets = h.other_sets;
      cells = length-set m₁ ring_cell (set (cell m₁ ring_cell) place c) ∙ count₁ ∙ h.cells;
      ring_long = ap length ring₂ ∙ length-set (cell s.mem ring_cell) place c ∙ h.ring_long;
      sets_long = h.sets_long;
      table = h.table;
      queue = ap (λ (q : List ℕ). q ++ (c ∷ [])) h.queue
          ∙ sym (ap (λ (x : List ℕ). ring_words y x s.ring.head (s.ring.count + 1)) ring₂
          ∙ ring_push y (cell s.mem ring_cell) s.ring.head s.ring.count c h.ring_long h.head less);
      marks = ap (λ (q : List Bool). set q c true) h.marks ∙ sym (ap (map marked) queued₂ ∙ map_set marked (cell s.mem queued_cell) c 1);
      head = h.head;
      room = omega (arith, more, h.room);
      marks_long = length-set r.marks c true ∙ h.marks_long;
      below = below-append y.blocks r.queue (c ∷ []) h.below (lt, tt);
    }
      where
        more : suc (unvisited (set r.marks c true)) ≡ unvisited r.marks
        more = unvisited-set r.marks c (omega (arith, h.marks_long)) (mark-is ∙ marked-no (word s.mem queued_cell c) e)

        less : s.ring.count < y.blocks
        less = omega (arith, more, h.room)

    -- an offer over the words is an offer to the ring
    pub simulates_offered : Simulates d y m₀ t₀ (offered y c s) rows (offer_to m₀ c r)
    unfolding offered
    simulates_offered = go (ℕ_discrete (word s.mem reachable_cell c) 0) (ℕ_discrete (word s.mem queued_cell c) 0)
      where
        both : (a b : Bool) → marked (word m₀ reachable_cell c) ≡ a → worklist.mark r c ≡ b
            → worklist.offer (a && not b) c r ≡ offer_to m₀ c r
        both a b ea eb = ap₂ (λ (p : Bool) (q : Bool). worklist.offer (p && not q) c r) (sym ea) (sym eb)

        go : Dec (word s.mem reachable_cell c ≡ 0) → Dec (word s.mem queued_cell c ≡ 0)
            → Simulates d y m₀ t₀
            (pick (eqb (word s.mem reachable_cell c) 0) s (pick (eqb (word s.mem queued_cell c) 0) (pushed y c s) s)) rows (offer_to m₀ c r)
        go (yes p) q = rw (eq-eqb (word s.mem reachable_cell c) 0 p)
            (subst (λ (x : worklist.Ring). Simulates d y m₀ t₀ s rows x)
            (both false (worklist.mark r c) (reachable-is ∙ marked-no (word s.mem reachable_cell c) p) refl) h)
        go (no p) (yes q) = rw (ne_eqb (word s.mem reachable_cell c) 0 p, eq-eqb (word s.mem queued_cell c) 0 q)
            (subst (λ (x : worklist.Ring). Simulates d y m₀ t₀ (pushed y c s) rows x)
            (both true false (reachable-is ∙ marked-yes (word s.mem reachable_cell c) p) (mark-is ∙ marked-no (word s.mem queued_cell c) q))
            (simulates-pushed q))
        go (no p) (no q) = rw (ne_eqb (word s.mem reachable_cell c) 0 p, ne_eqb (word s.mem queued_cell c) 0 q)
            (subst (λ (x : worklist.Ring). Simulates d y m₀ t₀ s rows x)
            (both true true (reachable-is ∙ marked-yes (word s.mem reachable_cell c) p) (mark-is ∙ marked-yes (word s.mem queued_cell c) q))
            h)

  -- ---- all of a list

  -- an offer of each over the words is `enqueue`
  pub simulates_told : (cs : List ℕ) (s : At) {rows : List (List ℕ)} {r : worklist.Ring} → AllBelow y.blocks cs → Simulates d y m₀ t₀ s rows r
      → Simulates d y m₀ t₀ (offered_all y cs s) rows (worklist.enqueue (row_solver d y m₀).reachable cs r)
  unfolding offered_all
  simulates_told [] s a h = h
  simulates_told (c ∷ cs) s a h = simulates_told cs (offered y c s) a.1 (simulates_offered s h c a.0)

  -- ---- the first of the ring is taken

  module _ (s : At) {rows : List (List ℕ)} {r : worklist.Ring} (h : Simulates d y m₀ t₀ s rows r) (some : s.ring.count ≡ 0 → ⊥) where
    -- the word at the head is the first of the queue
    pub simulates_first : r.queue ≡ first_in s ∷ behind y s
    simulates_first = h.queue ∙ ring_pop y (cell s.mem ring_cell) s.ring.head s.ring.count some

    all-below : AllBelow y.blocks (first_in s ∷ behind y s)
    all-below = subst (λ (q : List ℕ). AllBelow y.blocks q) simulates_first h.below

    -- it is a block
    pub first_below : first_in s < y.blocks
    first_below = all-below.0

    -- the ring without it
    pub simulates_popped : Simulates d y m₀ t₀ (at_of (store s.mem queued_cell (first_in s) 0) s.sets (popped y s.ring)) rows
        (worklist.popped (first_in s) (behind y s) r)
    simulates_popped = record {
      fixed = fixed_queued h.fixed (set (cell s.mem queued_cell) (first_in s) 0);
      other_sets = h.other_sets;
      cells = length-set s.mem queued_cell (set (cell s.mem queued_cell) (first_in s) 0) ∙ h.cells;
      ring_long = ap length kept ∙ h.ring_long;
      sets_long = h.sets_long;
      table = h.table;
      queue = ap (λ (x : List ℕ). ring_words y x (wrap y (s.ring.head + 1)) (s.ring.count - 1)) (sym kept);
      marks = ap (λ (q : List Bool). set q (first_in s) false) h.marks
          ∙ sym (ap (map marked) (cell-store_same s.mem queued_cell (set (cell s.mem queued_cell) (first_in s) 0) (omega (arith, h.cells)))
          ∙ map_set marked (cell s.mem queued_cell) (first_in s) 0);
      head = wrap-lt y (s.ring.head + 1) (omega (arith, h.head));
      room = omega (arith, h.room, unvisited-clear r.marks (first_in s));
      marks_long = length-set r.marks (first_in s) false ∙ h.marks_long;
      below = all-below.1;
    }
      where
        kept : cell (store s.mem queued_cell (first_in s) 0) ring_cell ≡ cell s.mem ring_cell
        kept = cell-store_other s.mem queued_cell (set (cell s.mem queued_cell) (first_in s) 0) ring_cell (λ e. omega arith)

  -- ---- rows

  -- a row is computed in the running row
  pub simulates_computed : (m t : Mem) (g : Ring) (x : List ℕ) {rows : List (List ℕ)} {r : worklist.Ring} → Simulates d y m₀ t₀ (at_of m t g) rows r
      → Simulates d y m₀ t₀ (at_of (store_cell m (running_row d y) x) t g) rows r
  simulates_computed m t g x {r = r} h = record {
    fixed = fixed_running h.fixed x;
    other_sets = h.other_sets;
    cells = length-set m (running_row d y) x ∙ h.cells;
    ring_long = ap length (row_other d y m x ring_cell (omega arith)) ∙ h.ring_long;
    sets_long = h.sets_long;
    table = h.table;
    queue = h.queue ∙ ap (λ (c : List ℕ). ring_words y c g.head g.count) (sym (row_other d y m x ring_cell (omega arith)));
    marks = h.marks ∙ ap (map marked) (sym (row_other d y m x queued_cell (omega arith)));
    head = h.head;
    room = h.room;
    marks_long = h.marks_long;
    below = h.below;
  }

  -- a row is stored among those that the round keeps
  pub simulates_stored : (m t : Mem) (g : Ring) (c : ℕ) (x : List ℕ) {rows : List (List ℕ)} {r : worklist.Ring} → c < y.blocks
      → Simulates d y m₀ t₀ (at_of m t g) rows r → Simulates d y m₀ t₀ (at_of m (store_cell t (kept_row d c) x) g) (set rows c x) r
  simulates_stored m t g c x lt h = record {
    fixed = h.fixed;
    other_sets = λ k f. cell-store_other t (kept_row d c) x k (f c lt) ∙ h.other_sets k f;
    cells = h.cells;
    ring_long = h.ring_long;
    sets_long = omega (arith, h.sets_long, length-set t (kept_row d c) x);
    table = ap (λ (z : List (List ℕ)). set z c x) h.table ∙ sym (rows-set d y t c x lt h.sets_long);
    queue = h.queue;
    marks = h.marks;
    head = h.head;
    room = h.room;
    marks_long = h.marks_long;
    below = h.below;
  }
