-- A run over one kind of sets is, seen through h, the run over another kind: how the run over rows of words becomes the run over bits.
use mathlib.Core.Path.{◌≡◌, refl, ap, ◌∙◌}
use mathlib.Core.Bool.{Bool, true, false, not, ◌&&◌}
use mathlib.Core.Logic.{◌⊎◌, inl, inr}
use mathlib.Core.List.Memᴰ
use mathlib.Core.List.{List, [], ◌∷◌, map, Memᴰ}
use Prim.Native.Nat.{ℕ, zero, suc}
use lib.ListN.{set}
use Rattle.dataflow.specs.Worklist.{Ring, mark, State, offer, enqueue, popped, Solver, set_of, settle, visit, on_first, run}
use Rattle.dataflow.proofs.Lists.{map_set}

-- R holds of every block of the list
abbrev pub Each : (ℕ → Type 0) → List ℕ → Type 0
Each R l = (c : ℕ) → Memᴰ c l → R c

module _ (R : ℕ → Type 0) (reachable : ℕ → Bool) where
  offer-each : (t : Bool) (d : ℕ) (r : Ring) → R d → Each R r.queue → Each R (offer t d r).queue
  offer-each false d r hd h c m = h c m
  offer-each true d r hd h c m = go (Memᴰ.append_cases r.queue m)
    where
      go : Memᴰ c r.queue ⊎ Memᴰ c (d ∷ []) → R c
      go (inl q) = h c q
      go (inr q) = rw (Memᴰ.eq_of_singleton q) hd

  enqueue-each : (ds : List ℕ) (r : Ring) → Each R ds → Each R r.queue → Each R (enqueue reachable ds r).queue
  enqueue-each [] r hd h = h
  enqueue-each (d ∷ ds) r hd h = enqueue-each ds (offer (reachable d && not (mark r d)) d r) (λ c m. hd c (Memᴰ.tail m))
      (offer-each (reachable d && not (mark r d)) d r (hd d (Memᴰ.head refl)) h)

enqueue-same : (f g : ℕ → Bool) → ((b : ℕ) → f b ≡ g b) → (ds : List ℕ) (r : Ring) → enqueue f ds r ≡ enqueue g ds r
enqueue-same f g e [] r = refl
enqueue-same f g e (d ∷ ds) r = rw (e d) (enqueue-same f g e ds (offer (g d && not (mark r d)) d r))

-- P is what is known of the sets, R of the blocks that are queued
module _ {W X : Type 0} (h : W → X) (a : Solver W) (z : Solver X) (P : List W → Type 0) (R : ℕ → Type 0) where
  pub record Agrees : Type 0 where
    pub tests : (b : ℕ) (x : List W) → R b → P x → z.same (set_of z (map h x) b) (z.compute b (map h x)) ≡ a.same (set_of a x b) (a.compute b x)
    pub computes : (b : ℕ) (x : List W) → R b → P x → z.compute b (map h x) ≡ h (a.compute b x)
    pub dependents : (b : ℕ) → z.dependents b ≡ a.dependents b
    pub reachable : (b : ℕ) → z.reachable b ≡ a.reachable b
    pub keeps : (b : ℕ) (x : List W) → R b → P x → P (set x b (a.compute b x))
    pub nexts : (b : ℕ) → R b → Each R (a.dependents b)

  -- the same state, seen through h
  abbrev pub seen : State W → State X
  seen s = record { sets = map h s.sets; ring = s.ring; trace = s.trace }

  module _ (agrees : Agrees) where
    visit-seen : (b : ℕ) (q : List ℕ) (s : State W) → R b → P s.sets → visit z b q (seen s) ≡ seen (visit a b q s)
    visit-seen b q s hb p = rw (agrees.tests b s.sets hb p, agrees.computes b s.sets hb p)
        (go (a.same (set_of a s.sets b) (a.compute b s.sets)))
      where
        go : (t : Bool) → settle z t b (h (a.compute b s.sets)) q (seen s) ≡ seen (settle a t b (a.compute b s.sets) q s)
        go true = refl
        go false = rw (
          agrees.dependents b,
          enqueue-same z.reachable a.reachable agrees.reachable (a.dependents b)
              (popped b q s.ring),
          map_set h s.sets b (a.compute b s.sets),
        ) refl

    visit-keeps : (b : ℕ) (q : List ℕ) (s : State W) → R b → P s.sets → Each R q → P (visit a b q s).sets × Each R (visit a b q s).ring.queue
    visit-keeps b q s hb p hq = go (a.same (set_of a s.sets b) (a.compute b s.sets))
      where
        go : (t : Bool) → P (settle a t b (a.compute b s.sets) q s).sets × Each R (settle a t b (a.compute b s.sets) q s).ring.queue
        go true = (p, hq)
        go false = (agrees.keeps b s.sets hb p, enqueue-each R a.reachable (a.dependents b) _ (agrees.nexts b hb) hq)

    pub run_seen : (n : ℕ) (s : State W) → P s.sets → Each R s.ring.queue → run z n (seen s) ≡ seen (run a n s)
    unfolding run
    run_seen zero s p hq = refl
    run_seen (suc n) s p hq = go s.ring.queue hq
        (λ b q hb hq'. ap (run z n) (visit-seen b q s hb p)
        ∙ run_seen n (visit a b q s) (visit-keeps b q s hb p hq').0 (visit-keeps b q s hb p hq').1)
      where
        go : (l : List ℕ) → Each R l → ((b : ℕ) (q : List ℕ) → R b → Each R q → run z n (visit z b q (seen s)) ≡ seen (run a n (visit a b q s)))
            → on_first z (λ b q. run z n (visit z b q (seen s))) l (seen s) ≡ seen (on_first a (λ b q. run a n (visit a b q s)) l s)
        go [] hl below = refl
        go (b ∷ q) hl below = below b q (hl b (Memᴰ.head refl)) (λ c m. hl c (Memᴰ.tail m))
