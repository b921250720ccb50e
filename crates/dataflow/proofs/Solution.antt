-- The worklist's solution of a monotone framework: it ends, meets every equation, and has changed only bits for which there is a reason.
use mathlib.Core.Path.{◌≡◌, refl, sym, ◌∙◌, ap}
use mathlib.Core.Bool.{Bool, true, false, not, true≢false, false≢true}
use mathlib.Core.List.{List, [], ◌∷◌, Memᴰ}
use mathlib.Core.Logic.{◌≢◌}
use Prim.Native.Nat.{ℕ, zero, suc, ◌≤◌, ◌<◌}
use native.Mathlib.Omega.{arith}
use native.Mathlib.Decide.{ℕ_discrete, dec_lt}
use native.Mathlib.Nat.{mul-le-mul_right, zero-add}
use lib.ListN.{length, get_or, set, replicate, length-replicate, get_or-replicate, get_or-eq_default}
use lib.Seq.{get_or-set_same, get_or-set_other}
use Rattle.dataflow.specs.Worklist.{Ring, mark, State, SoundRing, settle, visit, run}
use Rattle.dataflow.specs.Framework.{Framework, bit_at, same_bits, solver_of, begin, edges, enough, solution}
use Rattle.dataflow.proofs.Lists.{length_tabulate, get_d_tabulate, tabulate_ext, sum-tabulate, get_or-same}
use Rattle.dataflow.proofs.Ring.{Below}
use Rattle.dataflow.proofs.Worklist.{Lawful, Invariant, run_inv, run_ind, run_ends, run_fuel, inv_end}
use Rattle.dataflow.proofs.Bits.{same_bits_lem, count_bits, count_all, count_all-set, count_all-replicate, fewer-bits}

module _ (f : Framework) where
  -- Reason b s is why bit s of block b may change
  pub record Monotone (Reason : ℕ → ℕ → Type 0) : Type 0 where
    pub below : (b : ℕ) → Below f.blocks (f.dependents b)
    -- a block's transfer looks only at the sets of blocks on which it depends
    pub local : (b c : ℕ) → ¬ (Memᴰ c (f.dependents b)) → (x y : ℕ → ℕ → Bool) → ((d : ℕ) → d ≢ b → (s : ℕ) → x d s ≡ y d s) → (s : ℕ)
        → f.transfer c x s ≡ f.transfer c y s
    pub mono : (b : ℕ) (x y : ℕ → ℕ → Bool) → ((c s : ℕ) → x c s ≡ f.initial → y c s ≡ f.initial) → (s : ℕ)
        → f.transfer b x s ≡ f.initial → f.transfer b y s ≡ f.initial
    -- from bits that changed for a reason a bit changes for a reason
    pub reason : (b : ℕ) → f.reachable b ≡ true → (x : ℕ → ℕ → Bool)
        → ((c s : ℕ) → f.reachable c ≡ true → s < f.bits → x c s ≡ not f.initial → Reason c s) → (s : ℕ) → s < f.bits
        → f.transfer b x s ≡ not f.initial → Reason b s

  abbrev new_set : ℕ → List (List Bool) → List Bool
  new_set = (solver_of f).compute

  abbrev bits_of : List (List Bool) → ℕ → ℕ → Bool
  bits_of x = bit_at f.initial x

  -- the new set's bits
  pub new_bit : (b : ℕ) (x : List (List Bool)) (s : ℕ) → s < f.bits → get_or (new_set b x) s f.initial ≡ f.transfer b (bits_of x) s
  new_bit b x s lt = get_d_tabulate 0 f.bits s (f.transfer b (bits_of x)) f.initial lt ∙ ap (f.transfer b (bits_of x)) (zero-add s)

  other-bit : (b : ℕ) (x : List (List Bool)) (y : List Bool) (c s : ℕ) → c ≢ b → bits_of (set x b y) c s ≡ bits_of x c s
  other-bit b x y c s ne = ap (λ (z : List Bool). get_or z s f.initial) (get_or-set_other x b c y [] ne)

  same_bit : (b : ℕ) (x : List (List Bool)) (y : List Bool) (s : ℕ) → b < length x → bits_of (set x b y) b s ≡ get_or y s f.initial
  same_bit b x y s lt = ap (λ (z : List Bool). get_or z s f.initial) (get_or-set_same x b y [] lt)

  -- before the first visit every bit is as it begins
  pub begun_bit : (r : Ring) (c s : ℕ) → bits_of (begin f r).sets c s ≡ f.initial
  begun_bit r c s = go f.blocks c
    where
      go : (m c : ℕ) → get_or (get_or (replicate m (replicate f.bits f.initial)) c []) s f.initial ≡ f.initial
      go zero c = refl
      go (suc m) zero = get_or-same f.bits s f.initial
      go (suc m) (suc c) = go m c

  module _ (Reason : ℕ → ℕ → Type 0) (laws : Monotone Reason) where
    -- what is known of the sets: their lengths, a reason for each changed bit, and that a transfer only ever changes more
    pub record Known (x : List (List Bool)) : Type 0 where
      pub lengths : (b : ℕ) → b < f.blocks → length (get_or x b []) ≡ f.bits
      pub reasons : (b s : ℕ) → f.reachable b ≡ true → s < f.bits → bits_of x b s ≡ not f.initial → Reason b s
      pub descends : (b s : ℕ) → b < f.blocks → f.reachable b ≡ true → s < f.bits → f.transfer b (bits_of x) s ≡ f.initial
          → bits_of x b s ≡ f.initial

    -- past the end of a set its bits are as they began
    past_end : (x : List (List Bool)) → Known x → (b s : ℕ) → b < f.blocks → f.bits ≤ s → bits_of x b s ≡ f.initial
    past_end x h b s lt le = get_or-eq_default (get_or x b []) f.initial (rw (h.lengths b lt) le)

    -- a bit that is as it began after a visit was so before it
    was_initial : (b : ℕ) (x : List (List Bool)) → length x ≡ f.blocks → b < f.blocks → f.reachable b ≡ true → Known x → (c s : ℕ)
        → bits_of (set x b (new_set b x)) c s ≡ f.initial → bits_of x c s ≡ f.initial
    was_initial b x l lt er h c s e = go (ℕ_discrete c b) (dec_lt s f.bits) e
      where
        go : Dec (c ≡ b) → Dec (s < f.bits) → bits_of (set x b (new_set b x)) c s ≡ f.initial → bits_of x c s ≡ f.initial
        go (no ne) d e = sym (other-bit b x (new_set b x) c s ne) ∙ e
        go (yes ec) (yes ls) e = rw ec (h.descends b s lt er ls
            (sym (new_bit b x s ls) ∙ (sym (same_bit b x (new_set b x) s (rw l lt)) ∙ (rw ec at e))))
        go (yes ec) (no ns) e = rw ec (past_end x h b s lt (omega arith))

    pub known_keeps : (b : ℕ) (x : List (List Bool)) → length x ≡ f.blocks → b < f.blocks → f.reachable b ≡ true → Known x
        → Known (set x b (new_set b x))
    known_keeps b x l lt er h = record {
      lengths = λ c lc. lengths' c lc (ℕ_discrete c b);
      reasons = λ c s ec ls e. reasons' c s ec ls (ℕ_discrete c b) e;
      descends = λ c s lc ec ls e. descends' c s lc ec ls (ℕ_discrete c b)
          (laws.mono c (bits_of (set x b (new_set b x))) (bits_of x) (was_initial b x l lt er h) s e);
    }
      where
        lengths' : (c : ℕ) → c < f.blocks → Dec (c ≡ b) → length (get_or (set x b (new_set b x)) c []) ≡ f.bits
        lengths' c lc (yes e) = rw (e, get_or-set_same x b (new_set b x) [] (rw l lt)) (length_tabulate 0 f.bits (f.transfer b (bits_of x)))
        lengths' c lc (no ne) = rw (get_or-set_other x b c (new_set b x) [] ne) (h.lengths c lc)

        at_b : (s : ℕ) → s < f.bits → bits_of (set x b (new_set b x)) b s ≡ f.transfer b (bits_of x) s
        at_b s ls = same_bit b x (new_set b x) s (rw l lt) ∙ new_bit b x s ls

        reasons' : (c s : ℕ) → f.reachable c ≡ true → s < f.bits → Dec (c ≡ b) → bits_of (set x b (new_set b x)) c s ≡ not f.initial → Reason c s
        reasons' c s ec ls (yes e) q = rw e (laws.reason b er (bits_of x) h.reasons s ls (sym (at_b s ls) ∙ (rw e at q)))
        reasons' c s ec ls (no ne) q = h.reasons c s ec ls (sym (other-bit b x (new_set b x) c s ne) ∙ q)

        descends' : (c s : ℕ) → c < f.blocks → f.reachable c ≡ true → s < f.bits → Dec (c ≡ b) → f.transfer c (bits_of x) s ≡ f.initial
            → bits_of (set x b (new_set b x)) c s ≡ f.initial
        descends' c s lc ec ls (yes e) q = rw e (at_b s ls ∙ (rw e at q))
        descends' c s lc ec ls (no ne) q = other-bit b x (new_set b x) c s ne ∙ h.descends c s lc ec ls q

    pub lawful : Lawful (solver_of f) f.blocks Known
    lawful = record {
      same_eq = same_bits_lem;
      dependents_below = laws.below;
      local = λ b c x y l lt free. tabulate_ext 0 f.bits _ _
          (laws.local b c free (bits_of (set x b y)) (bits_of x) (λ d ne s. other-bit b x y d s ne));
      keeps = known_keeps;
    }

    -- a set that changes has fewer bits as they began
    pub fewer : (b : ℕ) (x : List (List Bool)) → length x ≡ f.blocks → b < f.blocks → f.reachable b ≡ true → Known x
        → same_bits (get_or x b []) (new_set b x) ≡ false
        → count_bits f.initial (new_set b x) < count_bits f.initial (get_or x b [])
    fewer b x l lt er h e = fewer-bits f.initial (get_or x b []) (new_set b x)
        (h.lengths b lt ∙ sym (length_tabulate 0 f.bits (f.transfer b (bits_of x)))) less e
      where
        less : (i : ℕ) → get_or (new_set b x) i f.initial ≡ f.initial → get_or (get_or x b []) i f.initial ≡ f.initial
        less i q = was_initial b x l lt er h b i (same_bit b x (new_set b x) i (rw l lt) ∙ q)

    pub fewer_all : (b : ℕ) (x : List (List Bool)) → length x ≡ f.blocks → b < f.blocks → f.reachable b ≡ true → Known x
        → same_bits (get_or x b []) (new_set b x) ≡ false
        → count_all f.initial (set x b (new_set b x)) < count_all f.initial x
    fewer_all b x l lt er h e = omega (arith, count_all-set f.initial x b (new_set b x) (rw l lt), fewer b x l lt er h e)

    -- ── From a sound ring in which every reachable block waits ──

    module _ (r : Ring) (sound : SoundRing f.reachable f.blocks r)
        (all : (b : ℕ) → b < f.blocks → f.reachable b ≡ true → mark r b ≡ true) where
      not-self : (b : Bool) → b ≡ not b → ⊥
      not-self true e = true≢false e
      not-self false e = false≢true e

      pub begun : Invariant (solver_of f) f.blocks Known (begin f r)
      begun = record {
        len = length-replicate f.blocks _;
        ring = sound;
        settled = λ b lt er em. absurd (true≢false (sym (all b lt er) ∙ em));
        holds = record {
          lengths = λ b lt. rw (get_or-replicate f.blocks b (replicate f.bits f.initial) [] lt) (length-replicate f.bits f.initial);
          reasons = λ b s er ls e. absurd (not-self f.initial (sym (begun_bit r b s) ∙ e));
          descends = λ b s lt er ls e. begun_bit r b s;
        };
      }

      few : (b : ℕ) → b < f.blocks → length (f.dependents b) ≤ edges f
      few b lt = rw (zero-add b) at (sum-tabulate 0 f.blocks b (λ b. length (f.dependents b)) lt)

      -- Enough visits end the run,
      pub solution_ends : (solution f r).ring.queue ≡ []
      unfolding solution
      solution_ends = run_ends (solver_of f) f.blocks Known lawful (count_all f.initial) (edges f) few fewer_all (enough f r) (begin f r) begun
          (omega (arith, mul-le-mul_right (suc (edges f)) (count_all-replicate f.initial f.blocks f.bits)))

      -- and any other run that has ended has the same result.
      pub solution_fuel : (k : ℕ) → (run (solver_of f) k (begin f r)).ring.queue ≡ [] → run (solver_of f) k (begin f r) ≡ solution f r
      unfolding solution
      solution_fuel k e = run_fuel (solver_of f) k (enough f r) (begin f r) e solution_ends

      pub solution_invariant : Invariant (solver_of f) f.blocks Known (solution f r)
      unfolding solution
      solution_invariant = run_inv (solver_of f) f.blocks Known lawful (enough f r) (begin f r) begun

      -- Every reachable block meets its equation,
      pub solved : (b s : ℕ) → b < f.blocks → f.reachable b ≡ true → s < f.bits
          → bits_of (solution f r).sets b s ≡ f.transfer b (bits_of (solution f r).sets) s
      solved b s lt er ls =
          ap (λ (z : List Bool). get_or z s f.initial)
          (inv_end (solver_of f) f.blocks Known lawful (solution f r) solution_invariant solution_ends b lt er)
          ∙ new_bit b (solution f r).sets s ls

      -- and every changed bit has a reason.
      pub justified : (b s : ℕ) → f.reachable b ≡ true → s < f.bits → bits_of (solution f r).sets b s ≡ not f.initial → Reason b s
      justified b s er ls e = solution_invariant.holds.reasons b s er ls e

      -- The set of a block that is not reachable stays as it began.
      pub unreached_kept : (b : ℕ) → b < f.blocks → f.reachable b ≡ false → get_or (solution f r).sets b [] ≡ replicate f.bits f.initial
      unfolding solution
      unreached_kept b lt off =
          run_ind (solver_of f) f.blocks Known lawful (λ (s : State (List Bool)). get_or s.sets b [] ≡ replicate f.bits f.initial) kept
          (enough f r) (begin f r) begun
          (get_or-replicate f.blocks b (replicate f.bits f.initial) [] lt)
        where
          kept : (c : ℕ) (q : List ℕ) (s : State (List Bool)) → s.ring.queue ≡ c ∷ q → Invariant (solver_of f) f.blocks Known s
              → get_or s.sets b [] ≡ replicate f.bits f.initial → get_or (visit (solver_of f) c q s).sets b [] ≡ replicate f.bits f.initial
          kept c q s eq h e = go (same_bits (get_or s.sets c []) (new_set c s.sets))
            where
              other : b ≢ c
              other z = true≢false (sym (h.ring.queued c (rw eq (Memᴰ.head refl))).1 ∙ (ap f.reachable (sym z) ∙ off))

              go : (t : Bool) → get_or (settle (solver_of f) t c (new_set c s.sets) q s).sets b [] ≡ replicate f.bits f.initial
              go true = e
              go false = get_or-set_other s.sets c b (new_set c s.sets) [] other ∙ e
