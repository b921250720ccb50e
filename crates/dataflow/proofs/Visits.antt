-- The visit bound: a block is visited at most once, and once more for each bit of each edge along which it is told.
use mathlib.Core.Path.{◌≡◌, refl}
use mathlib.Core.Bool.{Bool, true, false}
use mathlib.Core.List.{List, [], ◌∷◌, Memᴰ}
use mathlib.Core.Logic.{◌⊎◌, inl, inr}
use Prim.Native.Nat.{ℕ, ◌+◌, ◌*◌, ◌≤◌, ◌<◌}
use native.Mathlib.Omega.{arith}
use native.Mathlib.Decide.{ℕ_discrete}
use lib.ListN.{length, get_or, set}
use lib.Seq.{get_or-set_same, get_or-set_other}
use lib.Dec.{eqb}
use Rattle.dataflow.specs.Worklist.{Ring, mark, State, enqueue, popped, SoundRing, settle, visit, run}
use Rattle.dataflow.specs.Framework.{Framework, same_bits, solver_of, begin, visits}
use Rattle.dataflow.proofs.Bools.{eqb-self, eqb-other}
use Rattle.dataflow.proofs.Ring.{enqueue_only}
use Rattle.dataflow.proofs.Worklist.{Invariant, run_ind}
use Rattle.dataflow.proofs.Bits.{bit, count_bits, count_over, count_over-le, count_over-lt, count_over-bound}
use Rattle.dataflow.proofs.Solution.{Monotone, Known, lawful, fewer, begun}

-- `from b` are the blocks whose change is told to b, one for each edge
module _ (f : Framework) (Reason : ℕ → ℕ → Type 0) (laws : Monotone f Reason) (from : ℕ → List ℕ)
    (told : (b c : ℕ) → Memᴰ b (f.dependents c) → Memᴰ c (from b)) where
  -- a visit is paid for by the mark that it clears, and a mark that it sets by a bit that changed
  abbrev Paid : State (List Bool) → Type 0
  Paid s = (b : ℕ) → visits b s.trace + bit (mark s.ring b) + count_over f.initial (from b) s.sets ≤ 1 + length (from b) * f.bits

  paid-visit : (c : ℕ) (q : List ℕ) (s : State (List Bool)) → s.ring.queue ≡ c ∷ q → Invariant (solver_of f) f.blocks (Known f Reason laws) s
      → Paid s
      → Paid (visit (solver_of f) c q s)
  paid-visit c q s eq h paid b = go (same_bits (get_or x c []) new) refl
    where
      x : List (List Bool)
      x = s.sets

      new : List Bool
      new = (solver_of f).compute c x

      r : Ring
      r = popped c q s.ring

      c_at : (mark s.ring c ≡ true) × (f.reachable c ≡ true) × (c < f.blocks)
      c_at = h.ring.queued c (rw eq (Memᴰ.head refl))

      cleared : Dec (b ≡ c) → bit (eqb b c) + bit (mark r b) ≤ bit (mark s.ring b)
      cleared (yes e) = rw (e, eqb-self c, get_or-set_same s.ring.marks c false false (rw h.ring.len c_at.2), c_at.0) (omega arith)
      cleared (no ne) = rw (eqb-other b c ne, get_or-set_other s.ring.marks c b false false ne) (omega arith)

      go : (t : Bool) → same_bits (get_or x c []) new ≡ t
          → visits b (settle (solver_of f) t c new q s).trace + bit (mark (settle (solver_of f) t c new q s).ring b)
          + count_over f.initial (from b) (settle (solver_of f) t c new q s).sets ≤ 1 + length (from b) * f.bits
      go true e = omega (arith, paid b, cleared (ℕ_discrete b c))
      go false e = last (mark (enqueue f.reachable (f.dependents c) r) b) refl
        where
          less : count_bits f.initial new < count_bits f.initial (get_or x c [])
          less = fewer f Reason laws c x h.len c_at.2 c_at.1 h.holds e

          c_in : c < length x
          c_in = rw h.len c_at.2

          no_more : count_over f.initial (from b) (set x c new) ≤ count_over f.initial (from b) x
          no_more = count_over-le f.initial (from b) x c new c_in (omega (arith, less))

          marked : (mark r b ≡ true) ⊎ Memᴰ b (f.dependents c)
              → bit (eqb b c) + visits b s.trace + 1 + count_over f.initial (from b) (set x c new) ≤ 1 + length (from b) * f.bits
          marked (inl z) = omega (arith, paid b, rw z at (cleared (ℕ_discrete b c)), no_more)
          marked (inr z) = omega (arith, paid b, cleared (ℕ_discrete b c), count_over-lt f.initial (from b) x c new c_in less (told b c z))

          last : (m : Bool) → mark (enqueue f.reachable (f.dependents c) r) b ≡ m
              → bit (eqb b c) + visits b s.trace + bit (mark (enqueue f.reachable (f.dependents c) r) b) + count_over f.initial (from b)
              (set x c new)
              ≤ 1 + length (from b) * f.bits
          last true z = rw z (marked (enqueue_only f.reachable f.blocks (f.dependents c) r b z))
          last false z = rw z (omega (arith, paid b, cleared (ℕ_discrete b c), no_more))

  module _ (r : Ring) (sound : SoundRing f.reachable f.blocks r) (all : (b : ℕ) → b < f.blocks → f.reachable b ≡ true → mark r b ≡ true) where
    pub visit_bound : (k b : ℕ) → visits b (run (solver_of f) k (begin f r)).trace ≤ 1 + length (from b) * f.bits
    visit_bound k b = omega (
      arith,
      run_ind (solver_of f) f.blocks (Known f Reason laws) (lawful f Reason laws) Paid paid-visit k (begin f r)
          (begun f Reason laws r sound all) first b,
    )
      where
        one : (t : Bool) → bit t ≤ 1
        one true = omega arith
        one false = omega arith

        first : Paid (begin f r)
        first b = omega (arith, one (mark r b), count_over-bound f.initial (from b) f.blocks f.bits)
