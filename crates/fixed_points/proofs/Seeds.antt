-- The order that the search leaves is one that a round can begin with: its blocks are reachable, each once, so no more than there are marks.
-- Assumes nothing.
use mathlib.Core.Path.{◌≡◌, refl, sym, ap, ◌∙◌, subst}
use mathlib.Core.Bool.{Bool}
use mathlib.Core.List.{List, [], ◌∷◌, Memᴰ}
use Prim.Native.Nat.{ℕ, zero, suc, ◌+◌, ◌≤◌, ◌<◌}
use native.Mathlib.Omega.{arith}
use lib.ListN.{length, get_or, set, length-reverse}
use lib.Seq.{get_or-set_other, get_or-take}
use Rattle.dataflow.specs.Analyses as analyses
use Rattle.dataflow.specs.Code.{Instruction}
use Rattle.dataflow.specs.Lists.{sum, NoDup, flag}
use Rattle.dataflow.specs.Results.{searched, postorder}
use Rattle.dataflow.proofs.Lists.{mem-get_or}
use Rattle.dataflow.proofs.Results.{seed_sound}
use Rattle.memory.specs.Cells.{Mem, cell, word}
use Rattle.memory.specs.Names.{order_cell, reachable_cell}
use Rattle.memory.specs.Scratch.{scratch_widths}
use Rattle.sizes.specs.declared.Layout.{Layout}
use Rattle.memory.specs.Cells.{Sized}
use Rattle.memory.proofs.ScratchLaws.{sized_blocks}
use Rattle.propagate.specs.Rounds.{Seedable}
use Rattle.edges.specs.Flow.{Flows}
use Rattle.dataflow.specs.Checked.{Scripted}
use Rattle.fixed_points.specs.Stages.{InOrder}
use Rattle.solver.proofs.RingLaws.{sum-few}
use Rattle.fixed_points.proofs.CodeGraph.{some_block, connected, flags_few}

-- ---- how many marks there are

-- a word cleared takes itself from the sum
sum-clear : (l : List ℕ) (i : ℕ) → sum (set l i 0) + get_or l i 0 ≡ sum l
sum-clear [] i = omega arith
sum-clear (x ∷ l) zero = omega arith
sum-clear (x ∷ l) (suc i) = omega (arith, sum-clear l i)

-- places that are marked, each once, are no more than the marks
pub places-few : (l ws : List ℕ) → NoDup l → ((c : ℕ) → Memᴰ c l → 1 ≤ get_or ws c 0) → length l ≤ sum ws
places-few [] ws once h = omega arith
places-few (x ∷ l) ws once h =
    omega (arith, sum-clear ws x, h x (Memᴰ.head refl), places-few l (set ws x 0) once.1 (λ c q. rest c q))
  where
    rest : (c : ℕ) → Memᴰ c l → 1 ≤ get_or (set ws x 0) c 0
    rest c q =
        rw (get_or-set_other ws x c 0 0 (λ e. once.0 (subst (λ (k : ℕ). Memᴰ k l) e q)))
        (h c (Memᴰ.tail q))

-- ---- what `propagate` requires
module _ {code : List Instruction} {parameter : ℕ → Bool} {y : Layout} {m : Mem} (s : Scripted code parameter y.words)
    (f : Flows code parameter y m) (z : Sized (scratch_widths y) m) {n : ℕ} (o : InOrder code n m) where
  -- each block of the postorder is a block, and marked
  order-marked : (c : ℕ) → Memᴰ c (postorder code) → (c < y.blocks) × (1 ≤ word m reachable_cell c)
  order-marked c q =
      let a = (seed_sound code parameter s.slots y.words s.checked s.wide analyses.liveness).queued c q in
      let lt : c < y.blocks = omega (arith, f.blocks, a.2) in
      (lt, rw (f.reached c lt ∙ ap flag a.1) (omega arith))

  -- so there are no more than marks
  order-few : n ≤ sum (cell m reachable_cell)
  order-few = omega (
    arith,
    o.len,
    length-reverse (searched code).finished,
    places-few (postorder code) (cell m reachable_cell)
        (seed_sound code parameter s.slots y.words s.checked s.wide analyses.liveness).once (λ c q. (order-marked c q).1),
  )

  -- a word of the order is one of them
  order-word : (i : ℕ) → i < n → word m order_cell i < y.blocks
  order-word i lt = rw (sym (get_or-take n (cell m order_cell) i 0 lt) ∙ ap (λ (l : List ℕ). get_or l i 0) o.order)
      (order-marked (get_or (postorder code) i 0)
      (mem-get_or (postorder code) i 0 (omega (arith, o.len, length-reverse (searched code).finished)))).0

  -- the words hold a graph and an order to begin a round with
  pub seedable : Seedable y m n
  seedable = record {
    connected = connected s f;
    some = some_block s f;
    count = omega (
      arith,
      order-few,
      sum-few (cell m reachable_cell) (flags_few s f z),
      sized_blocks y z reachable_cell (omega arith) (omega arith),
    );
    order = order-word;
    flags = flags_few s f z;
    reached = order-few;
  }
