-- The two runs over a flow graph end with the path definitions.
use mathlib.Core.Path.{◌≡◌, refl, sym, ◌∙◌, ap, subst}
use mathlib.Core.Bool.{Bool, true, false, not, ◌&&◌, ◌||◌, true≢false, and-false}
use mathlib.Core.List.{List, [], ◌∷◌, ◌++◌, Memᴰ}
use mathlib.Core.Logic.{◌⊎◌, inl, inr}
use Prim.Native.Nat.{ℕ, ◌<◌}
use native.Mathlib.Decide.{dec_lt}
use lib.Dec.{eqb, ltb, ltb→lt, lt→ltb}
use Rattle.dataflow.specs.Paths.{Path, stop, Reached}
use Rattle.dataflow.specs.Analyses.{initialization, liveness, init_transfer, init_along, filled, live_transfer, Lost, Live}
use Rattle.dataflow.specs.Equations.{InitEquation, LiveEquation, InitExact, LiveExact}
use Rattle.dataflow.specs.Lists.{every}
use Rattle.dataflow.specs.Worklist.{Ring, mark, SoundRing}
use Rattle.dataflow.specs.Framework.{bit_at, begin, solution}
use Rattle.dataflow.specs.FlowGraph.{FlowGraph, incoming, live_out, framework, init_at_exit, init_at_entry, live_at_entry}
use Rattle.dataflow.proofs.Bools.{or_no_left, or_no_right, and_left, and_right, and_no, not-no, not-true, test-true, true-test, eqb_is}
use Rattle.dataflow.proofs.Bools.{eqb-self, live-cases, live-pass}
use Rattle.dataflow.proofs.Lists.{every_ext, some_ext, every_at, every_no, every_to, some_at, some_to}
use Rattle.dataflow.proofs.Paths.{path_snoc, reached_next}
use Rattle.dataflow.proofs.Analyses.{init_append, transfer_mono}
use Rattle.dataflow.proofs.Forward.{forward}
use Rattle.dataflow.proofs.Backward.{backward, live_step, live_here}
use Rattle.dataflow.proofs.Ring.{Below}
use Rattle.dataflow.proofs.Solution.{Monotone, begun_bit, solved, justified}

module _ (g : FlowGraph) where
  open g use {program, predecessors, reachable, blocks, bits}

  -- The entry is met with its predecessors too: the parameters, and what each reachable predecessor has at its exit.
  pub entry_met : (x : ℕ → ℕ → Bool) (s : ℕ)
      → incoming g x program.entry s ≡ (program.parameter s && every (λ c. not (reachable c) || x c s) (predecessors program.entry))
  entry_met x s = rw (eqb-self program.entry) refl

  -- Initialized sets begin full, live sets empty.
  pub init_begins : (r : Ring) (b s : ℕ) → bit_at true (begin (framework g initialization) r).sets b s ≡ true
  init_begins = begun_bit (framework g initialization)

  pub live_begins : (r : Ring) (b s : ℕ) → bit_at false (begin (framework g liveness) r).sets b s ≡ false
  live_begins = begun_bit (framework g liveness)

  -- below the bits of a set, what is initialized or live at an entry is what the rows say
  pub init_entry_row : (r : Ring) (b s : ℕ) → s < bits → init_at_entry g r b s ≡ incoming g (init_at_exit g r) b s
  unfolding init_at_entry
  init_entry_row r b s ls = rw (test-true (ltb s bits) (lt→ltb s bits ls)) refl

  pub live_entry_row : (r : Ring) (b s : ℕ) → s < bits → live_at_entry g r b s ≡ bit_at false (solution (framework g liveness) r).sets b s
  unfolding live_at_entry
  live_entry_row r b s ls = rw (test-true (ltb s bits) (lt→ltb s bits ls)) refl

  -- what a flow graph must keep to
  pub record SoundGraph : Type 0 where
    pub successors_below : (b : ℕ) → Below blocks (program.successors b)
    pub predecessors_below : (b : ℕ) → Below blocks (predecessors b)
    pub predecessor_of : (b c : ℕ) → Memᴰ c (predecessors b) → Memᴰ b (program.successors c)
    pub predecessor_to : (b c : ℕ) → Memᴰ b (program.successors c) → Memᴰ c (predecessors b)
    pub reachable_reached : (b : ℕ) → reachable b ≡ true → Reached program b
    pub reached_reachable : (b : ℕ) → Reached program b → reachable b ≡ true
    pub reached_below : (b : ℕ) → Reached program b → b < blocks
    -- slots past the bits of a set are never read, written or parameters
    pub reads_below : (b s : ℕ) → program.reads b s ≡ true → s < bits
    pub writes_below : (b s : ℕ) → program.writes b s ≡ true → s < bits
    pub parameters_below : (s : ℕ) → program.parameter s ≡ true → s < bits

  module _ (sg : SoundGraph) where
    below-test : (s : ℕ) → s < bits → ltb s bits ≡ true
    below-test s ls = test-true (ltb s bits) (lt→ltb s bits ls)

    test_below : (s : ℕ) (t : Bool) → (ltb s bits && t) ≡ true → s < bits
    test_below s t e = ltb→lt s bits (true-test _ (and_left (ltb s bits) t e))

    -- ── Initialization ──

    -- some path to b leaves the slot unfilled after b
    abbrev pub LostAfter : ℕ → ℕ → Type 0
    LostAfter b s = (l : List ℕ) × Path program.successors program.entry l b × (init_transfer program b s (filled program l s) ≡ false)

    incoming-lost : (x : ℕ → ℕ → Bool) (b s : ℕ) → ((c : ℕ) → reachable c ≡ true → x c s ≡ false → LostAfter c s) → incoming g x b s ≡ false
        → Lost program b s
    incoming-lost x b s lost e = top (and_no _ _ e)
      where
        entry : eqb b program.entry ≡ true → program.parameter s ≡ false → Lost program b s
        entry eb ep = ([], subst (λ (k : ℕ). Path program.successors program.entry [] k) (sym (eqb_is b program.entry eb)) stop, ep)

        far : (c : ℕ) × Memᴰ c (predecessors b) × ((not (reachable c) || x c s) ≡ false) → Lost program b s
        far z = let v : LostAfter z.0 s = lost z.0 (not-no (reachable z.0) (or_no_left _ (x z.0 s) z.2))
            (or_no_right (not (reachable z.0)) _ z.2) in (
              v.0 ++ (z.0 ∷ []),
              path_snoc v.1 (sg.predecessor_of b z.0 z.1),
              rw
                  (init_append program s (program.parameter s) v.0 (z.0 ∷ [])) v.2,
            )

        top : ((not (eqb b program.entry) || program.parameter s) ≡ false) ⊎ (every (λ c. not (reachable c) || x c s) (predecessors b) ≡ false)
            → Lost program b s
        top (inl h) = entry (not-no (eqb b program.entry) (or_no_left _ (program.parameter s) h)) (or_no_right (not (eqb b program.entry)) _ h)
        top (inr h) = far (every_no _ (predecessors b) h)

    pub init_monotone : Monotone (framework g initialization) LostAfter
    init_monotone = record {
      reason = λ b er x h s ls e. reason-at b er x s (λ c ec q'. h c s ec ls q') e;
      below = sg.successors_below;
      local = λ b c free x y agree s. ap (λ (z : Bool). init_transfer program c s ((not (eqb c program.entry) || program.parameter s) && z))
          (every_ext _ _ (predecessors c) (λ d m. ap (λ (z : Bool). not (reachable d) || z)
          (agree d (λ e. free (subst (λ (k : ℕ). Memᴰ c (program.successors k)) e (sg.predecessor_of c d m))) s)));
      mono = λ b x y h s. transfer_mono program b s (incoming g x b s) (incoming g y b s) (λ e. mono-in b x y h s e);
    }
      where
        mono-in : (b : ℕ) (x y : ℕ → ℕ → Bool) → ((c s : ℕ) → x c s ≡ true → y c s ≡ true) → (s : ℕ) → incoming g x b s ≡ true
            → incoming g y b s ≡ true
        mono-in b x y h s e = rw (and_left (not (eqb b program.entry) || program.parameter s) _ e)
            (every_to _ (predecessors b) (λ c m. one (not (reachable c)) (x c s) (y c s) (h c s)
            (every_at _ (predecessors b) (and_right (not (eqb b program.entry) || program.parameter s) _ e) c m)))
          where
            one : (k u w : Bool) → (u ≡ true → w ≡ true) → (k || u) ≡ true → (k || w) ≡ true
            one true u w h e = refl
            one false u w h e = h e

        reason-at : (b : ℕ) → reachable b ≡ true → (x : ℕ → ℕ → Bool) (s : ℕ) → ((c : ℕ) → reachable c ≡ true → x c s ≡ false → LostAfter c s)
            → init_transfer program b s (incoming g x b s) ≡ false → LostAfter b s
        reason-at b er x s h e = go (program.writes b s) (program.empties b s) refl refl e
          where
            go : (w m : Bool) → program.writes b s ≡ w → program.empties b s ≡ m → (w || (not m && incoming g x b s)) ≡ false → LostAfter b s
            go true m ew em e = absurd (true≢false e)
            go false true ew em e = let r : Reached program b = sg.reachable_reached b er in (r.0, r.1, rw (ew, em) refl)
            go false false ew em e = let z : Lost program b s = incoming-lost x b s h e in (z.0, z.1, rw (ew, em) z.2)

    -- ── Liveness ──

    pub live_monotone : Monotone (framework g liveness) (Live program)
    live_monotone = record {
      reason = λ b er x h s ls e. reason-at b er x s (λ c ec e'. h c s ec ls e') e;
      below = sg.predecessors_below;
      local = λ b c free x y agree s. ap (λ (z : Bool). live_transfer program c s z)
          (some_ext _ _ (program.successors c) (λ d m. agree d
          (λ e. free (sg.predecessor_to b c (subst (λ (k : ℕ). Memᴰ k (program.successors c)) e m))) s));
      mono = λ b x y h s e. mono_at b x y h s e;
    }
      where
        reason-at : (b : ℕ) → reachable b ≡ true → (x : ℕ → ℕ → Bool) (s : ℕ) → ((c : ℕ) → reachable c ≡ true → x c s ≡ true → Live program c s)
            → live_transfer program b s (live_out g x b s) ≡ true → Live program b s
        reason-at b er x s h e = go (live-cases _ _ _ e)
          where
            far : program.writes b s ≡ false → (c : ℕ) × Memᴰ c (program.successors b) × (x c s ≡ true) → Live program b s
            far ew z = live_step program s z.1 ew
                (h z.0 (sg.reached_reachable z.0 (reached_next program (sg.reachable_reached b er) z.1)) z.2)

            go : (program.reads b s ≡ true) ⊎ ((program.writes b s ≡ false) × (live_out g x b s ≡ true)) → Live program b s
            go (inl z) = live_here program s z
            go (inr z) = far z.0 (some_at _ (program.successors b) z.1)

        mono_at : (b : ℕ) (x y : ℕ → ℕ → Bool) → ((c s : ℕ) → x c s ≡ false → y c s ≡ false) → (s : ℕ)
            → live_transfer program b s (live_out g x b s) ≡ false → live_transfer program b s (live_out g y b s) ≡ false
        mono_at b x y h s e = not-true (live_transfer program b s (live_out g y b s)) (λ e'. true≢false (sym (rise (live-cases _ _ _ e')) ∙ e))
          where
            up : (c : ℕ) (t : Bool) → x c s ≡ t → y c s ≡ true → x c s ≡ true
            up c true e₁ e₂ = e₁
            up c false e₁ e₂ = absurd (true≢false (sym e₂ ∙ h c s e₁))

            rise : (program.reads b s ≡ true) ⊎ ((program.writes b s ≡ false) × (live_out g y b s ≡ true))
                → live_transfer program b s (live_out g x b s) ≡ true
            rise (inl z) = rw z refl
            rise (inr z) = let w = some_at _ (program.successors b) z.1 in
                live-pass (program.reads b s) (program.writes b s) _ z.0
                (some_to (λ c. x c s) (program.successors b) w.0 w.1 (up w.0 (x w.0 s) refl w.2))

    -- ── From a sound ring in which every reachable block waits ──

    module _ (r : Ring) (ready : SoundRing reachable blocks r) (all : (b : ℕ) → b < blocks → reachable b ≡ true → mark r b ≡ true) where
      pub exit_solved : (b s : ℕ) → Reached program b → s < bits → init_at_exit g r b s ≡ init_transfer program b s (incoming g (init_at_exit g r) b s)
      exit_solved b s h ls = solved (framework g initialization) LostAfter init_monotone r ready all b s (sg.reached_below b h)
          (sg.reached_reachable b h) ls

      -- and, from the sets at the entries
      pub exit_of_entry : (b s : ℕ) → Reached program b → s < bits → init_at_exit g r b s ≡ init_transfer program b s (init_at_entry g r b s)
      unfolding init_at_entry
      exit_of_entry b s h ls = exit_solved b s h ls ∙ sym (rw (below-test s ls) refl)

      exit-lost : (b s : ℕ) → reachable b ≡ true → s < bits → init_at_exit g r b s ≡ false → LostAfter b s
      exit-lost b s er ls e = justified (framework g initialization) LostAfter init_monotone r ready all b s er ls e

      -- FORWARD, of the run: at the end the sets at the entries are the meet over all paths.
      pub run_init : InitExact program (init_at_entry g r)
      unfolding init_at_entry
      run_init = forward program _ meets drops
        where
          meets : (j : ℕ) → Reached program j → (s : ℕ) → (ltb s bits && incoming g (init_at_exit g r) j s) ≡ true
              → InitEquation program (λ b s. ltb s bits && incoming g (init_at_exit g r) b s) j s
          meets j h s e = (parameter-at, filled_at)
            where
              ls : s < bits
              ls = test_below s _ e

              inc : incoming g (init_at_exit g r) j s ≡ true
              inc = and_right (ltb s bits) _ e

              parameter-at : j ≡ program.entry → program.parameter s ≡ true
              parameter-at ej = get (and_left (not (eqb j program.entry) || program.parameter s) _ inc)
                where
                  get : (not (eqb j program.entry) || program.parameter s) ≡ true → program.parameter s ≡ true
                  get z = rw (ej, eqb-self program.entry) at z

              filled_at : (i : ℕ) → Reached program i → Memᴰ j (program.successors i)
                  → init_transfer program i s (ltb s bits && incoming g (init_at_exit g r) i s) ≡ true
              filled_at i hi d = rw (below-test s ls) (sym (exit_solved i s hi ls) ∙ bit)
                where
                  bit : init_at_exit g r i s ≡ true
                  bit = rw (sg.reached_reachable i hi) at
                      (every_at _ (predecessors j) (and_right (not (eqb j program.entry) || program.parameter s) _ inc) i
                      (sg.predecessor_to j i d))

          past : (j : ℕ) → Reached program j → (s : ℕ) → ¬ (s < bits) → Lost program j s
          past j h s nl = (h.0, h.1, rw (not-true (program.parameter s) (λ e. nl (sg.parameters_below s e))) (none h.0))
            where
              none : (l : List ℕ) → init_along program s false l ≡ false
              none [] = refl
              none (i ∷ l) = rw (not-true (program.writes i s) (λ e. nl (sg.writes_below i s e)), and-false (not (program.empties i s))) (none l)

          drops : (j : ℕ) → Reached program j → (s : ℕ) → (ltb s bits && incoming g (init_at_exit g r) j s) ≡ false → Lost program j s
          drops j h s e = go (dec_lt s bits)
            where
              go : Dec (s < bits) → Lost program j s
              go (yes ls) = incoming-lost (init_at_exit g r) j s (λ c ec e'. exit-lost c s ec ls e') (rw (below-test s ls) at e)
              go (no nl) = past j h s nl

      -- BACKWARD, of the run: at the end the sets are what is live at the entries.
      pub run_live : LiveExact program (live_at_entry g r)
      unfolding live_at_entry
      run_live = backward program _ meets (λ i h s e. within i h s e)
        where
          live : ℕ → ℕ → Bool
          live = bit_at false (solution (framework g liveness) r).sets

          within : (i : ℕ) → Reached program i → (s : ℕ) → (ltb s bits && live i s) ≡ true → Live program i s
          within i h s e = justified (framework g liveness) (Live program) live_monotone r ready all i s (sg.reached_reachable i h)
              (test_below s _ e) (and_right (ltb s bits) _ e)

          put : (i : ℕ) → Reached program i → (s : ℕ) → s < bits → live_transfer program i s (live_out g live i s) ≡ true
              → (ltb s bits && live i s) ≡ true
          put i h s ls e = rw (
            below-test s ls,
            solved (framework g liveness) (Live program) live_monotone r ready all i s (sg.reached_below i h)
                (sg.reached_reachable i h) ls,
          ) e

          meets : (i : ℕ) → Reached program i → (s : ℕ) → LiveEquation program (λ b s. ltb s bits && live b s) i s → (ltb s bits && live i s) ≡ true
          meets i h s (inl z) = put i h s (sg.reads_below i s z) (rw z refl)
          meets i h s (inr z) = put i h s (test_below s _ z.1.2)
              (live-pass (program.reads i s) (program.writes i s) _ z.0
              (some_to (λ c. live c s) (program.successors i) z.1.0 z.1.1 (and_right (ltb s bits) _ z.1.2)))
