-- BACKWARD: an assignment that meets the flow equations, and has added only what some path reads, is what is live: the least saved set.
use mathlib.Core.Path.{◌≡◌, refl}
use mathlib.Core.Bool.{Bool, true, false, ◌||◌, or-true}
use mathlib.Core.List.{List, [], ◌∷◌, Memᴰ}
use mathlib.Core.Logic.{inl, inr, ◌↔◌}
use Rattle.dataflow.specs.Program.{Program}
use Rattle.dataflow.specs.Paths.{Path, stop, step, Reached}
use Rattle.dataflow.specs.Analyses.{written, Live}
use Rattle.dataflow.specs.Demand.{Saves, Least}
use Rattle.dataflow.specs.Equations.{LiveEquation, LiveExact}
use Rattle.dataflow.proofs.Bools.{or_no_left, or_no_right, or_first, same_truth}
use Rattle.dataflow.proofs.Paths.{reached_next}

module _ {P S : Type 0} (p : Program P S) where
  -- live before a successor and not written here is live here
  pub live_step : {i j : P} (s : S) → Memᴰ j (p.successors i) → p.writes i s ≡ false → Live p j s → Live p i s
  live_step {i} s d ew v = (i ∷ v.0, v.1, step d v.2, v.3, rw ew v.4)

  pub live_here : {i : P} (s : S) → p.reads i s ≡ true → Live p i s
  live_here {i} s e = ([], i, stop, e, refl)

  -- what meets the equations holds every live slot
  pub live_complete : (x : P → S → Bool) → ((i : P) → Reached p i → (s : S) → LiveEquation p x i s → x i s ≡ true)
      → (i : P) → Reached p i → (s : S) → Live p i s → x i s ≡ true
  live_complete x meets i r s v = back v.2 r v.3 v.4
    where
      back : {a b : P} {l : List P} → Path p.successors a l b → Reached p a → p.reads b s ≡ true → written p l s ≡ false → x a s ≡ true
      back stop r e n = meets _ r s (inl e)
      back (step {i = a} {j = c} {l = m} d w) r e n =
          meets a r s (inr (or_no_left _ (written p m s) n, (c, d, back w (reached_next p r d) e (or_no_right (p.writes a s) _ n))))

  pub backward : (x : P → S → Bool) → ((i : P) → Reached p i → (s : S) → LiveEquation p x i s → x i s ≡ true)
      → ((i : P) → Reached p i → (s : S) → x i s ≡ true → Live p i s) → LiveExact p x
  backward x meets within = record { is_live = within; has_live = live_complete x meets }

  -- The live slots are the least saved set.
  pub live_least : (i : P) (x : S → Bool) → ((s : S) → (x s ≡ true) ↔ Live p i s) → Least p i x
  live_least i x h = record { saves = λ l j s w e. one l j s w e; least = λ y g s e. two y g s ((h s).0 e) }
    where
      one : (l : List P) (j : P) (s : S) → Path p.successors i l j → p.reads j s ≡ true → (x s || written p l s) ≡ true
      one l j s w e = go (written p l s) refl
        where
          go : (b : Bool) → written p l s ≡ b → (x s || b) ≡ true
          go true n = or-true (x s)
          go false n = rw ((h s).1 (l, j, w, e, n))

      two : (y : S → Bool) → Saves p i y → (s : S) → Live p i s → y s ≡ true
      two y g s v = or_first (y s) (written p v.0 s) (g v.0 v.1 s v.2 v.3) v.4

  -- Two least sets are equal: "exactly one saved set".
  pub least_unique : (i : P) (x y : S → Bool) → Least p i x → Least p i y → (s : S) → x s ≡ y s
  least_unique i x y a b s = same_truth (x s) (y s) (a.least y b.saves s) (b.least x a.saves s)

  -- Of an exact assignment, the set at a point is the least saved set there.
  pub exact_least : (x : P → S → Bool) → LiveExact p x → (i : P) → Reached p i → Least p i (x i)
  exact_least x b i r = live_least i (x i) (λ s. (b.is_live i r s, b.has_live i r s))
