-- The worklist run: off the ring every reachable block meets its equation; enough visits end it, and more change nothing.
use mathlib.Core.Path.{◌≡◌, refl, sym, ◌∙◌, ap, subst}
use mathlib.Core.Bool.{Bool, true, false, true≢false}
use mathlib.Core.List.Memᴰ
use mathlib.Core.List.{List, [], ◌∷◌, Memᴰ, nil≢cons}
use mathlib.Core.Logic.{◌≢◌}
use Prim.Native.Nat.{ℕ, zero, suc, ◌+◌, ◌*◌, ◌-◌, ◌≤◌, ◌<◌}
use native.Mathlib.Omega.{arith}
use native.Mathlib.Decide.{ℕ_discrete, dec_le}
use native.Mathlib.Nat.{mul-le-mul_right, suc-mul, zero-add, suc-add}
use lib.ListN.{length, set, length-set}
use lib.Seq.{get_or-set_same, get_or-set_other}
use Rattle.dataflow.specs.Worklist.{Ring, mark, State, enqueue, popped, SoundRing, Solver, set_of, settle, visit, on_first, run}
use Rattle.dataflow.proofs.Lists.{no_place}
use Rattle.dataflow.proofs.Ring.{Below, pop_sound, enqueue_sound, enqueue_mark, enqueue_hit, enqueue_length}

-- ── A run in steps ──

module _ {W : Type 0} (a : Solver W) where
  pub run_stop : (n : ℕ) (s : State W) → s.ring.queue ≡ [] → run a n s ≡ s
  unfolding run
  run_stop zero s e = refl
  run_stop (suc n) s e = ap (λ (q : List ℕ). on_first a (λ b q. run a n (visit a b q s)) q s) e

  pub run_go : (n : ℕ) (s : State W) (b : ℕ) (q : List ℕ) → s.ring.queue ≡ b ∷ q → run a (suc n) s ≡ run a n (visit a b q s)
  unfolding run
  run_go n s b q e = ap (λ (q : List ℕ). on_first a (λ b q. run a n (visit a b q s)) q s) e

  -- a run that has ended is the run, however many more visits are allowed
  pub run_more : (k m : ℕ) (s : State W) → (run a k s).ring.queue ≡ [] → run a (k + m) s ≡ run a k s
  unfolding run
  run_more zero m s e = rw (zero-add m) (run_stop m s e)
  run_more (suc k) m s e = rw (suc-add k m) (go s.ring.queue refl e (λ b q e'. run_more k m (visit a b q s) e'))
    where
      go : (q : List ℕ) → s.ring.queue ≡ q → (on_first a (λ b q. run a k (visit a b q s)) q s).ring.queue ≡ []
          → ((b : ℕ) (q : List ℕ) → (run a k (visit a b q s)).ring.queue ≡ [] → run a (k + m) (visit a b q s) ≡ run a k (visit a b q s))
          → on_first a (λ b q. run a (k + m) (visit a b q s)) q s ≡ on_first a (λ b q. run a k (visit a b q s)) q s
      go [] e₀ e below = refl
      go (b ∷ q) e₀ e below = below b q e

  -- one visit more, at the end: how a loop goes on
  pub run_snoc : (k : ℕ) (s : State W) (b : ℕ) (q : List ℕ) → (run a k s).ring.queue ≡ b ∷ q → run a (suc k) s ≡ visit a b q (run a k s)
  unfolding run
  run_snoc zero s b q e = run_go zero s b q e
  run_snoc (suc k) s b q e = go s.ring.queue refl e (λ c r e'. run_snoc k (visit a c r s) b q e')
    where
      go : (z : List ℕ) → s.ring.queue ≡ z → (on_first a (λ c r. run a k (visit a c r s)) z s).ring.queue ≡ b ∷ q
          → ((c : ℕ) (r : List ℕ) → (run a k (visit a c r s)).ring.queue ≡ b ∷ q
          → run a (suc k) (visit a c r s) ≡ visit a b q (run a k (visit a c r s)))
          → on_first a (λ c r. run a (suc k) (visit a c r s)) z s ≡ visit a b q (on_first a (λ c r. run a k (visit a c r s)) z s)
      go [] e₀ e below = absurd (nil≢cons (sym e₀ ∙ e))
      go (c ∷ r) e₀ e below = below c r e

  -- The result does not depend on the fuel: two runs that have ended are the same.
  pub run_fuel : (k m : ℕ) (s : State W) → (run a k s).ring.queue ≡ [] → (run a m s).ring.queue ≡ [] → run a k s ≡ run a m s
  run_fuel k m s ek em = go (dec_le k m)
    where
      go : Dec (k ≤ m) → run a k s ≡ run a m s
      go (yes le) = let e : m ≡ k + (m - k) = omega arith in sym (ap (λ (i : ℕ). run a i s) e ∙ run_more k (m - k) s ek)
      go (no gt) = let e : k ≡ m + (k - m) = omega arith in ap (λ (i : ℕ). run a i s) e ∙ run_more m (k - m) s em

-- ── The invariant ──

module _ {W : Type 0} (a : Solver W) (n : ℕ) (Holds : List W → Type 0) where
  -- what a solver over n blocks must keep to; Holds is what is known of the sets
  pub record Lawful : Type 0 where
    pub same_eq : (u v : W) → a.same u v ≡ true → u ≡ v
    pub dependents_below : (b : ℕ) → Below n (a.dependents b)
    -- a set enters only the equations of the blocks that depend on its block
    pub local : (b c : ℕ) (x : List W) (v : W) → length x ≡ n → b < n → ¬ (Memᴰ c (a.dependents b)) → a.compute c (set x b v) ≡ a.compute c x
    pub keeps : (b : ℕ) (x : List W) → length x ≡ n → b < n → a.reachable b ≡ true → Holds x → Holds (set x b (a.compute b x))

  -- Every reachable block that is not queued meets its equation.
  pub record Invariant (s : State W) : Type 0 where
    pub len : length s.sets ≡ n
    pub ring : SoundRing a.reachable n s.ring
    pub settled : (b : ℕ) → b < n → a.reachable b ≡ true → mark s.ring b ≡ false → set_of a s.sets b ≡ a.compute b s.sets
    pub holds : Holds s.sets

  module _ (laws : Lawful) where
    -- After a change every reachable dependent waits, the block itself included if it depends on itself.
    pub dependents_queued : (b : ℕ) (v : W) (q : List ℕ) (s : State W) → s.ring.queue ≡ b ∷ q → SoundRing a.reachable n s.ring
        → (c : ℕ) → Memᴰ c (a.dependents b) → a.reachable c ≡ true → mark (settle a false b v q s).ring c ≡ true
    dependents_queued b v q s eq h c m er =
        enqueue_hit a.reachable n (a.dependents b) (popped b q s.ring) (laws.dependents_below b)
        (pop_sound a.reachable n b q s.ring eq h) c m er

    pub visit_inv : (b : ℕ) (q : List ℕ) (s : State W) → s.ring.queue ≡ b ∷ q → Invariant s → Invariant (visit a b q s)
    visit_inv b q s eq h = go (a.same (set_of a s.sets b) (a.compute b s.sets)) refl
      where
        x : List W
        x = s.sets

        v : W
        v = a.compute b x

        r : Ring
        r = popped b q s.ring

        sound : SoundRing a.reachable n r
        sound = pop_sound a.reachable n b q s.ring eq h.ring

        b_at : (mark s.ring b ≡ true) × (a.reachable b ≡ true) × (b < n)
        b_at = h.ring.queued b (rw eq (Memᴰ.head refl))

        b_in : b < length x
        b_in = rw h.len b_at.2

        other : (c : ℕ) → c ≢ b → mark r c ≡ mark s.ring c
        other c ne = get_or-set_other s.ring.marks b c false false ne

        -- the set is the old one
        unchanged-meets : set_of a x b ≡ v → (c : ℕ) → c < n → a.reachable c ≡ true → mark r c ≡ false → Dec (c ≡ b) → set_of a x c ≡ a.compute c x
        unchanged-meets e c lt eo em (yes ec) = rw ec e
        unchanged-meets e c lt eo em (no ne) = h.settled c lt eo (sym (other c ne) ∙ em)

        -- it is new: what is still unmarked does not depend on b
        free : (c : ℕ) → a.reachable c ≡ true → mark (enqueue a.reachable (a.dependents b) r) c ≡ false → ¬ (Memᴰ c (a.dependents b))
        free c eo em m = true≢false (sym (dependents_queued b v q s eq h.ring c m eo) ∙ em)

        unmarked : (c : ℕ) (t : Bool) → mark r c ≡ t → mark (enqueue a.reachable (a.dependents b) r) c ≡ false → mark r c ≡ false
        unmarked c true e em = absurd (true≢false (sym (enqueue_mark a.reachable n (a.dependents b) r (laws.dependents_below b) sound c e) ∙ em))
        unmarked c false e em = e

        changed-meets : (c : ℕ) → c < n → a.reachable c ≡ true → mark (enqueue a.reachable (a.dependents b) r) c ≡ false → Dec (c ≡ b)
            → set_of a (set x b v) c ≡ a.compute c (set x b v)
        changed-meets c lt eo em (yes ec) = rw (laws.local b c x v h.len b_at.2 (free c eo em), ec) (get_or-set_same x b v a.none b_in)
        changed-meets c lt eo em (no ne) =
            rw (laws.local b c x v h.len b_at.2 (free c eo em), get_or-set_other x b c v a.none ne)
            (h.settled c lt eo (sym (other c ne) ∙ unmarked c (mark r c) refl em))

        go : (t : Bool) → a.same (set_of a x b) v ≡ t → Invariant (settle a t b v q s)
        go true e = record {
          len = h.len;
          ring = sound;
          settled = λ c lt eo em. unchanged-meets (laws.same_eq _ _ e) c lt eo em
              (ℕ_discrete c b);
          holds = h.holds;
        }
        go false e = record {
          settled = λ c lt eo em. changed-meets c lt eo em (ℕ_discrete c b);
          ring = enqueue_sound a.reachable n (a.dependents b) r (laws.dependents_below b) sound;
          len = length-set x b v ∙ h.len;
          holds = laws.keeps b x h.len b_at.2 b_at.1 h.holds;
        }

    -- A changed block that depends on itself is queued again.
    pub self_loop : (b : ℕ) (q : List ℕ) (s : State W) → s.ring.queue ≡ b ∷ q → Invariant s
        → a.same (set_of a s.sets b) (a.compute b s.sets) ≡ false → Memᴰ b (a.dependents b) → Memᴰ b (visit a b q s).ring.queue
    self_loop b q s eq h changed m = (visit_inv b q s eq h).ring.marked b
        (subst (λ (t : Bool). mark (settle a t b (a.compute b s.sets) q s).ring b ≡ true) (sym changed)
        (dependents_queued b (a.compute b s.sets) q s eq h.ring b m (h.ring.queued b (rw eq (Memᴰ.head refl))).1))

    pub run_inv : (k : ℕ) (s : State W) → Invariant s → Invariant (run a k s)
    unfolding run
    run_inv zero s h = h
    run_inv (suc k) s h = go s.ring.queue refl (λ b q e. run_inv k (visit a b q s) (visit_inv b q s e h))
      where
        go : (q : List ℕ) → s.ring.queue ≡ q → ((b : ℕ) (q : List ℕ) → s.ring.queue ≡ b ∷ q → Invariant (run a k (visit a b q s)))
            → Invariant (on_first a (λ b q. run a k (visit a b q s)) q s)
        go [] e below = h
        go (b ∷ q) e below = below b q e

    -- what each visit keeps, the run a keeps
    pub run_ind : (K : State W → Type 0) → ((b : ℕ) (q : List ℕ) (s : State W) → s.ring.queue ≡ b ∷ q → Invariant s → K s → K (visit a b q s))
        → (k : ℕ) (s : State W) → Invariant s → K s → K (run a k s)
    unfolding run
    run_ind K f zero s h y = y
    run_ind K f (suc k) s h y = go s.ring.queue refl (λ b q e. run_ind K f k (visit a b q s) (visit_inv b q s e h) (f b q s e h y))
      where
        go : (q : List ℕ) → s.ring.queue ≡ q → ((b : ℕ) (q : List ℕ) → s.ring.queue ≡ b ∷ q → K (run a k (visit a b q s)))
            → K (on_first a (λ b q. run a k (visit a b q s)) q s)
        go [] e below = y
        go (b ∷ q) e below = below b q e

    -- with nothing queued, every reachable block meets its equation
    pub inv_end : (s : State W) → Invariant s → s.ring.queue ≡ [] → (b : ℕ) → b < n → a.reachable b ≡ true
        → set_of a s.sets b ≡ a.compute b s.sets
    inv_end s h e b lt eo = h.settled b lt eo (off (mark s.ring b) refl)
      where
        off : (t : Bool) → mark s.ring b ≡ t → mark s.ring b ≡ false
        off true em = absurd (Memᴰ.not-nil (rw e at (h.ring.marked b em)))
        off false em = em

    -- ── Enough visits ──

    module _ (weight : List W → ℕ) (wide : ℕ) (narrow : (b : ℕ) → b < n → length (a.dependents b) ≤ wide)
        (falls : (b : ℕ) (x : List W) → length x ≡ n → b < n → a.reachable b ≡ true → Holds x → a.same (set_of a x b) (a.compute b x) ≡ false
        → weight (set x b (a.compute b x)) < weight x) where
      abbrev pub visits_left : State W → ℕ
      visits_left s = weight s.sets * suc wide + length s.ring.queue

      pub visit_left : (b : ℕ) (q : List ℕ) (s : State W) → s.ring.queue ≡ b ∷ q → Invariant s → visits_left (visit a b q s) < visits_left s
      visit_left b q s eq h = go (a.same (set_of a s.sets b) (a.compute b s.sets)) refl
        where
          len-q : length s.ring.queue ≡ suc (length q)
          len-q = ap length eq

          b_at : (mark s.ring b ≡ true) × (a.reachable b ≡ true) × (b < n)
          b_at = h.ring.queued b (rw eq (Memᴰ.head refl))

          drop : (w w' m m' k d : ℕ) → w' < w → m' ≤ k + d → m ≡ suc k → d ≤ wide → w' * suc wide + m' < w * suc wide + m
          drop w w' m m' k d lt le e le' = omega (arith, mul-le-mul_right (suc wide) lt, suc-mul w' (suc wide))

          go : (t : Bool) → a.same (set_of a s.sets b) (a.compute b s.sets) ≡ t
              → visits_left (settle a t b (a.compute b s.sets) q s) < visits_left s
          go true e = omega (arith, len-q)
          go false e = drop (weight s.sets) (weight (set s.sets b (a.compute b s.sets))) (length s.ring.queue) _ (length q)
              (length (a.dependents b))
              (falls b s.sets h.len b_at.2 b_at.1 h.holds e) (enqueue_length a.reachable n (a.dependents b) _) len-q
              (narrow b b_at.2)

      pub run_ends : (k : ℕ) (s : State W) → Invariant s → visits_left s ≤ k → (run a k s).ring.queue ≡ []
      unfolding run
      run_ends zero s h le = no_place s.ring.queue (omega arith)
      run_ends (suc k) s h le = go s.ring.queue refl
          (λ b q e. run_ends k (visit a b q s) (visit_inv b q s e h) (omega (arith, visit_left b q s e h)))
        where
          go : (q : List ℕ) → s.ring.queue ≡ q → ((b : ℕ) (q : List ℕ) → s.ring.queue ≡ b ∷ q → (run a k (visit a b q s)).ring.queue ≡ [])
              → (on_first a (λ b q. run a k (visit a b q s)) q s).ring.queue ≡ []
          go [] e below = e
          go (b ∷ q) e below = below b q e
