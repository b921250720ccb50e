-- A data-flow framework over sets of bits (Aho et al.), and the worklist's solution of it.
use Rattle.std.specs.Prelude.{Bool, true, false, ◌&&◌, List, [], ◌∷◌, ℕ, suc, ◌+◌, ◌*◌, eqb, length, get_or, replicate}
use Rattle.std.specs.Bool.{beq}
use Rattle.dataflow.specs.Lists.{pick, tabulate, sum}
use Rattle.dataflow.specs.Worklist.{Ring, Visit, unchanged, changed, State, Solver, run}

pub record Framework : Type 0 where
  -- what every bit of every set begins as: the top of the lattice
  pub initial : Bool
  pub blocks : ℕ
  -- how many bits a set has
  pub bits : ℕ
  pub dependents : ℕ → List ℕ
  pub reachable : ℕ → Bool
  -- bit s of block b's set, from the bits of all sets
  pub transfer : ℕ → (ℕ → ℕ → Bool) → ℕ → Bool

-- bit s of block b's set; d where there is none
abbrev pub bit_at : Bool → List (List Bool) → ℕ → ℕ → Bool
bit_at d x b s = get_or (get_or x b []) s d

abbrev pub same_bits : List Bool → List Bool → Bool
same_bits [] [] = true
same_bits [] (b ∷ y) = false
same_bits (a ∷ x) [] = false
same_bits (a ∷ x) (b ∷ y) = beq a b && same_bits x y

abbrev pub solver_of : Framework → Solver (List Bool)
solver_of f = record {
  none = [];
  same = same_bits;
  compute = λ b x. tabulate 0 f.bits (f.transfer b (bit_at f.initial x));
  dependents = f.dependents;
  reachable = f.reachable;
}

-- the state before the first visit
abbrev pub begin : Framework → Ring → State (List Bool)
begin f r = record { sets = replicate f.blocks (replicate f.bits f.initial); ring = r; trace = [] }

-- the edges along which a change is told
abbrev pub edges : Framework → ℕ
edges f = sum (tabulate 0 f.blocks (λ b. length (f.dependents b)))

-- visits that are always enough: each bit changes once at most, and a change queues no more blocks than there are edges
abbrev pub enough : Framework → Ring → ℕ
enough f r = f.blocks * f.bits * suc (edges f) + length r.queue

-- the run from a ring to its end
unfoldable pub solution : Framework → Ring → State (List Bool)
solution f r = run (solver_of f) (enough f r) (begin f r)

-- how often a block was visited
abbrev pub is_visit : ℕ → Visit → Bool
is_visit b (unchanged c) = eqb b c
is_visit b (changed c) = eqb b c

abbrev pub visits : ℕ → List Visit → ℕ
visits b [] = 0
visits b (x ∷ l) = pick (is_visit b x) 1 0 + visits b l
