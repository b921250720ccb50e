-- With exact sets at the points: the checks find what demand 3 calls faulty, so a program is accepted exactly if it is not faulty.
use mathlib.Core.Path.{◌≡◌, sym, ◌∙◌}
use mathlib.Core.Bool.{Bool, true, false, ◌||◌}
use mathlib.Core.List.{List}
use mathlib.Core.Logic.{inl, inr, ◌↔◌}
use Rattle.dataflow.specs.Program.{Program, EmptiesNothing}
use Rattle.dataflow.specs.Paths.{Path, Reached}
use Rattle.dataflow.specs.Analyses.{written, Lost}
use Rattle.dataflow.specs.Demand.{Unfilled, Least, Held, Faulty}
use Rattle.dataflow.specs.Equations.{InitExact, LiveExact}
use Rattle.dataflow.specs.Verdict.{UnfilledFound, HostFound}
use Rattle.dataflow.proofs.Bools.{or_no_left, or_no_right, not-true}
use Rattle.dataflow.proofs.Analyses.{filled_plain}
use Rattle.dataflow.proofs.Forward.{lost_not_init}
use Rattle.dataflow.proofs.Backward.{exact_least}

module _ {P S : Type 0} (p : Program P S) where
  -- 13: an unfilled read is found exactly if some path has one.
  pub unfilled_iff : (x : P → S → Bool) → InitExact p x → Unfilled p ↔ UnfilledFound p x
  unfilled_iff x exact = (there, back)
    where
      there : Unfilled p → UnfilledFound p x
      there u = (
        u.point,
        u.slot,
        (u.before, u.path),
        u.read,
        not-true (x u.point u.slot) (λ e. lost_not_init p u.point u.slot (u.before, u.path, u.unfilled)
            (exact.is_init u.point (u.before, u.path) u.slot e)),
      )

      back : UnfilledFound p x → Unfilled p
      back v = let w : Lost p v.0 v.1 = exact.is_lost v.0 v.2 v.1 v.4 in
          record { before = w.0; point = v.0; slot = v.1; path = w.1; read = v.3; unfilled = w.2 }

  -- 14: a host slot is found in an await's set exactly if the await's least set holds one.
  pub held_iff : (await : P → Bool) (host : S → Bool) (y : P → S → Bool) → LiveExact p y → Held p await host ↔ HostFound p await host y
  held_iff await host y exact = (there, back)
    where
      there : Held p await host → HostFound p await host y
      there h = (
        h.point,
        h.slot,
        h.reached,
        h.is_await,
        h.is_least.least (y h.point) (exact_least p y exact h.point h.reached).saves h.slot h.in_saved,
        h.is_host,
      )

      back : HostFound p await host y → Held p await host
      back v = record {
        point = v.0;
        is_await = v.3;
        reached = v.2;
        saved = y v.0;
        is_least = exact_least p y exact v.0 v.2;
        slot = v.1;
        in_saved = v.4;
        is_host = v.5;
      }

  -- Demand 3's words, where nothing is emptied: a path from the entry reads a slot that is "neither a parameter nor written earlier on that path".
  pub unfilled_words : EmptiesNothing p
      → Unfilled p ↔ ((l : List P) × (i : P) × (s : S) × Path p.successors p.entry l i × (p.reads i s ≡ true) × (p.parameter s ≡ false)
      × (written p l s ≡ false))
  unfilled_words keeps = (there, back)
    where
      there : Unfilled p → (l : List P) × (i : P) × (s : S) × Path p.successors p.entry l i × (p.reads i s ≡ true)
          × (p.parameter s ≡ false) × (written p l s ≡ false)
      there u = (u.before, u.point, u.slot, u.path, u.read, or_no_left (p.parameter u.slot) _ n, or_no_right (p.parameter u.slot) _ n)
        where
          n : (p.parameter u.slot || written p u.before u.slot) ≡ false
          n = sym (filled_plain p keeps u.before u.slot) ∙ u.unfilled

      back : (l : List P) × (i : P) × (s : S) × Path p.successors p.entry l i × (p.reads i s ≡ true) × (p.parameter s ≡ false)
          × (written p l s ≡ false) → Unfilled p
      back z = record {
        before = z.0;
        point = z.1;
        slot = z.2;
        path = z.3;
        read = z.4;
        unfilled = filled_plain p keeps z.0 z.2 ∙ (rw z.5 z.6);
      }

  -- Of a program that is not faulty, the least set of a reached await "holds no host handle".
  pub no_host : (await : P → Bool) (host : S → Bool) → ¬ (Faulty p await host) → (i : P) → await i ≡ true → Reached p i → (x : S → Bool) → Least p i x
      → (s : S) → x s ≡ true → host s ≡ false
  no_host await host ok i ea r x least s e =
      not-true (host s) (λ h. ok (inr (record {
        point = i;
        is_await = ea;
        reached = r;
        saved = x;
        is_least = least;
        slot = s;
        in_saved = e;
        is_host = h;
      })))

  -- "accepted exactly when it isn't faulty"
  pub sound_iff : (await : P → Bool) (host : S → Bool) (x y : P → S → Bool) → InitExact p x → LiveExact p y
      → ((¬ (UnfilledFound p x)) × (¬ (HostFound p await host y))) ↔ (¬ (Faulty p await host))
  sound_iff await host x y init live = (there, λ h. ((λ f. h (inl ((unfilled_iff x init).1 f))), λ f. h (inr ((held_iff await host y live).1 f))))
    where
      there : (¬ (UnfilledFound p x)) × (¬ (HostFound p await host y)) → Faulty p await host → ⊥
      there h (inl u) = h.0 ((unfilled_iff x init).0 u)
      there h (inr u) = h.1 ((held_iff await host y live).0 u)
