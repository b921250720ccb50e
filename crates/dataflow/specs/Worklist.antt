-- The worklist run of solver.rs `propagate`: a ring of waiting blocks with their marks, whatever the sets are.
use Rattle.std.specs.Prelude.{◌≡◌, Bool, true, false, not, ◌&&◌, ℕ, zero, suc, ◌<◌, length, get_or, set}
use mathlib.Core.List.{List, [], ◌∷◌, ◌++◌, Memᴰ}
use Rattle.dataflow.specs.Lists.{NoDup}

-- `pending`, the first to go standing first, and `queued`
pub record Ring : Type 0 where
  pub queue : List ℕ
  pub marks : List Bool

abbrev pub mark : Ring → ℕ → Bool
mark r b = get_or r.marks b false

-- a visit of a block, which leaves its set as it is or changes it
pub data Visit : Type 0 where
  unchanged changed : ℕ → Visit

pub record State (W : Type 0) : Type 0 where
  -- one set a block
  pub sets : List W
  pub ring : Ring
  -- the visits, the latest first
  pub trace : List Visit

-- d joins the end of the ring if t says so
abbrev pub offer : Bool → ℕ → Ring → Ring
offer true d r = record { queue = r.queue ++ (d ∷ []); marks = set r.marks d true }
offer false d r = r

-- of the dependents, those that are reachable and not marked join the ring
abbrev pub enqueue : (ℕ → Bool) → List ℕ → Ring → Ring
enqueue reachable [] r = r
enqueue reachable (d ∷ ds) r = enqueue reachable ds (offer (reachable d && not (mark r d)) d r)

-- b has left the front of the ring; q is what waits behind it
abbrev pub popped : ℕ → List ℕ → Ring → Ring
popped b q r = record { queue = q; marks = set r.marks b false }

-- The ring's invariant, for n blocks: there is a mark for each block, the marks say which blocks are queued, each of them once; and only
-- reachable ones are.
pub record SoundRing (reachable : ℕ → Bool) (n : ℕ) (r : Ring) : Type 0 where
  pub len : length r.marks ≡ n
  pub marked : (c : ℕ) → mark r c ≡ true → Memᴰ c r.queue
  pub queued : (c : ℕ) → Memᴰ c r.queue → (mark r c ≡ true) × (reachable c ≡ true) × (c < n)
  pub once : NoDup r.queue

-- One direction's run: how sets are compared, a block's new set from all sets, whom a change concerns, who takes part.
pub record Solver (W : Type 0) : Type 0 where
  -- what stands past the last block
  pub none : W
  pub same : W → W → Bool
  pub compute : ℕ → List W → W
  pub dependents : ℕ → List ℕ
  pub reachable : ℕ → Bool

module _ {W : Type 0} (a : Solver W) where
  abbrev pub set_of : List W → ℕ → W
  set_of x b = get_or x b a.none

  -- b's new set is v; t says whether it is the old one. A block that depends on itself is queued again: its mark is gone by then.
  abbrev pub settle : Bool → ℕ → W → List ℕ → State W → State W
  settle true b v q s = record { sets = s.sets; ring = popped b q s.ring; trace = unchanged b ∷ s.trace }
  settle false b v q s = record {
    sets = set s.sets b v;
    ring = enqueue a.reachable (a.dependents b) (popped b q s.ring);
    trace = changed b ∷ s.trace;
  }

  abbrev pub visit : ℕ → List ℕ → State W → State W
  visit b q s = let v : W = a.compute b s.sets in settle (a.same (set_of s.sets b) v) b v q s

  -- k on the first of the queue and the rest, if there is a first
  abbrev pub on_first : (ℕ → List ℕ → State W) → List ℕ → State W → State W
  on_first k [] s = s
  on_first k (b ∷ q) s = k b q

  -- at most n visits
  unfoldable pub run : ℕ → State W → State W
  run zero s = s
  run (suc n) s = on_first (λ b q. run n (visit b q s)) s.ring.queue s
