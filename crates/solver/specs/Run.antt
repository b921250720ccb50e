-- The run of solver.rs `propagate` over the words: the ring, its marks and the rows, with every charge.
use Rattle.std.specs.Prelude.{List, [], ◌∷◌, ◌++◌, reverse, ◌≡◌, ℕ, zero, suc, ◌+◌, ◌*◌, ◌-◌, ◌≤◌, ◌<◌, eqb, ltb, take, drop, replicate, Result, Ok, Err}
use Rattle.bitset.specs.Operations.{same}
use Rattle.dataflow.specs.Lists.{pick, sum}
use Rattle.budget.specs.declared.FlowBudget.{FlowBudget}
use Rattle.budget.specs.declared.Limits.{Limits}
use Rattle.budget.specs.declared.OverWork.{OverWork}
use Rattle.budget.specs.Budget.{Charged, charged}
use Rattle.memory.specs.Cells.{Mem, cell, word, store, store_cell}
use Rattle.memory.specs.Names.{order_cell, queued_cell, reachable_cell, ring_cell}
use Rattle.sizes.specs.declared.Layout.{Layout}
use Rattle.transfer.specs.declared.direction.Direction.{Direction}
use Rattle.transfer.specs.declared.direction.Direction.TheVariants.{Initialization, Liveness}
use Rattle.solver.specs.declared.ring.Ring.{Ring}
use Rattle.memory.specs.Edges.{count_of, neighbors, Connected}
use Rattle.transfer.specs.Directions.{reads_of, dependents_of}
use Rattle.transfer.specs.Transfer.{running_row, kept_row, computed}

-- both buffers, with the ring's place
pub record At : Type 0 where
  pub mem : Mem
  pub sets : Mem
  pub ring : Ring

-- a charge crossed the limit, or the run goes on
pub data Out : Type 0 where
  stop : FlowBudget → Out
  on : At → FlowBudget → Out

abbrev pub at_of : Mem → Mem → Ring → At
at_of m t g = record { mem = m; sets = t; ring = g }

-- an answer of the code: the ring and the budget to go on with, or the charge that crossed the limit
abbrev pub Turn : Type 0
Turn = Result (Ring × FlowBudget) OverWork

-- what it says, with the buffers as they then are
abbrev pub out_of : Mem → Mem → Turn → Out
out_of m t (Ok p) = on (at_of m t p.0) p.1
out_of m t (Err e) = stop e.budget

abbrev pub paid : Charged → (FlowBudget → Out) → Out
paid (Ok b) f = f b
paid (Err e) f = stop e.budget

abbrev pub onward : Out → (At → FlowBudget → Out) → Out
onward (stop b) f = stop b
onward (on s b) f = f s b

-- a place of the ring
abbrev pub wrap : Layout → ℕ → ℕ
wrap y i = pick (ltb i y.blocks) i (i - y.blocks)

-- block d goes into the ring, with its mark
unfoldable pub pushed : Layout → ℕ → At → At
pushed y d s = at_of (store (store s.mem queued_cell d 1) ring_cell (wrap y (s.ring.head + s.ring.count)) d) s.sets
    (record { head = s.ring.head; count = s.ring.count + 1 })

-- if it is reachable and has no mark
unfoldable pub offered : Layout → ℕ → At → At
offered y d s = pick (eqb (word s.mem reachable_cell d) 0) s (pick (eqb (word s.mem queued_cell d) 0) (pushed y d s) s)

-- a charge and an offer for each of the blocks
unfoldable pub told : Layout → Limits → List ℕ → At → FlowBudget → Out
told y l [] s b = on s b
told y l (d ∷ ds) s b = paid (charged l b (1 ∷ [])) (λ b'. told y l ds (offered y d s) b')

-- the running row against the one that is kept: the same, or stored, and those told whom it concerns
unfoldable pub settled : Direction → Layout → Limits → ℕ → At → FlowBudget → Out
settled d y l c s b =
    pick (same (cell s.sets (kept_row d c)) (cell s.mem (running_row d y))) (on s b)
    (told y l (neighbors (dependents_of d) s.mem c)
    (at_of s.mem (store_cell s.sets (kept_row d c) (cell s.mem (running_row d y))) s.ring) b)

-- what is left of the ring without its first
abbrev pub popped : Layout → Ring → Ring
popped y g = record { head = wrap y (g.head + 1); count = g.count - 1 }

-- what a visit of block c is charged
abbrev pub visit_charge : Direction → Layout → Mem → ℕ → ℕ
visit_charge d y m c = y.words * (count_of (reads_of d) m c + 3) + 1

-- the first block of the ring, and scratch with its mark gone
abbrev pub first_in : At → ℕ
first_in s = word s.mem ring_cell s.ring.head

abbrev pub unmarked : At → Mem
unmarked s = store s.mem queued_cell (first_in s) 0

-- its new set in the running row
abbrev pub with_computed : Direction → Layout → Mem → Mem → ℕ → Mem
with_computed d y m t c = store_cell m (running_row d y) (computed d y m t c)

-- a visit of the first block of the ring
unfoldable pub visited : Direction → Layout → Limits → At → FlowBudget → Out
visited d y l s b =
    paid (charged l b (visit_charge d y (unmarked s) (first_in s) ∷ [])) (λ b'. settled d y l (first_in s)
    (at_of (with_computed d y (unmarked s) s.sets (first_in s)) s.sets (popped y s.ring)) b')

-- at most n visits
unfoldable pub run : Direction → Layout → Limits → ℕ → At → FlowBudget → Out
run d y l zero s b = on s b
run d y l (suc n) s b = pick (eqb s.ring.count 0) (on s b) (onward (visited d y l s b) (λ s' b'. run d y l n s' b'))

-- ---- what is kept between visits

pub record Good (y : Layout) (m : Mem) (g : Ring) : Type 0 where
  pub connected : Connected y m
  pub head : g.head < y.blocks
  -- the ring has room: no more blocks wait than have marks
  pub count : g.count ≤ sum (cell m queued_cell)
  pub marks : (i : ℕ) → word m queued_cell i ≤ 1
  pub ring : (i : ℕ) → i < y.blocks → word m ring_cell i < y.blocks

-- a run that went on is good, with at least so much work, and within the limit
abbrev pub Went : Layout → Limits → ℕ → Out → Type 0
Went y l w (stop b) = Unit {0}
Went y l w (on s b) = Good y s.mem s.ring × (w ≤ b.work) × (b.work ≤ l.work)

-- a run that went on to the end has no block waiting
abbrev pub Idle : Out → Type 0
Idle (stop b) = Unit {0}
Idle (on s b) = s.ring.count ≡ 0

-- ---- what the functions do that leave the sets buffer alone, whatever it holds

abbrev pub Pushes : Layout → ℕ → Mem → Ring → Mem → Ring → Type 0
Pushes y d m g m' g' = (t : Mem) → at_of m' t g' ≡ pushed y d (at_of m t g)

abbrev pub Offers : Layout → ℕ → Mem → Ring → Mem → Ring → Type 0
Offers y d m g m' g' = (t : Mem) → at_of m' t g' ≡ offered y d (at_of m t g)

abbrev pub Tells : Layout → Limits → List ℕ → Mem → Ring → FlowBudget → Mem → Turn → Type 0
Tells y l ds m g b m' r = (t : Mem) → (out_of m' t r ≡ told y l ds (at_of m t g) b) × Went y l b.work (out_of m' t r)

-- ---- the beginning

-- solver.rs: `order` reversed for initialization, as it is for liveness
abbrev pub queue_of : Direction → List ℕ → List ℕ
queue_of Initialization order = reverse order
queue_of Liveness order = order

-- which of n blocks of the order comes i-th
abbrev pub place_of : Direction → ℕ → ℕ → ℕ
place_of Initialization n i = n - 1 - i
place_of Liveness n i = i

-- the first n words of the ring become the first n of the order
unfoldable pub in_ring : Direction → ℕ → Mem → Mem
in_ring d n m = store_cell m ring_cell (queue_of d (take n (cell m order_cell)) ++ drop n (cell m ring_cell))

-- each reachable block has a mark, and the ring holds nothing of what was lent
unfoldable pub cleared : Layout → Mem → Mem
cleared y m = store_cell (store_cell m queued_cell (cell m reachable_cell)) ring_cell (replicate y.blocks 0)

-- and then the first n of the order
unfoldable pub seeded : Direction → Layout → ℕ → Mem → Mem
seeded d y n m = in_ring d n (cleared y m)

-- a ring of n blocks
abbrev pub full : ℕ → Ring
full n = record { head = 0; count = n }
