-- Live sets that are exact at the blocks, carried back through a block, are exact at its points; so they are the least saved sets there.
use mathlib.Core.Path.{◌≡◌, refl, sym, ◌∙◌, ap, subst}
use mathlib.Core.Bool.{Bool, true, false, ◌||◌, false≢true}
use mathlib.Core.List.{List, [], ◌∷◌, ◌++◌, Memᴰ}
use mathlib.Core.Logic.{◌⊎◌, inl, inr, ◌↔◌}
use lib.Seq.{append_snoc}
use Rattle.dataflow.specs.Program.{Program}
use Rattle.dataflow.specs.Paths.{Path, stop, step, Reached}
use Rattle.dataflow.specs.Analyses.{liveness, written, live_along, Live}
use Rattle.dataflow.specs.Demand.{Least}
use Rattle.dataflow.specs.Equations.{LiveExact}
use Rattle.dataflow.specs.Blocks.{BlockGraph, exposed, block_program, points_of}
use Rattle.dataflow.specs.BasicBlocks.{BasicBlocks, Place}
use Rattle.dataflow.proofs.Bools.{or_no_left, or_no_right, live-cases, live-pass}
use Rattle.dataflow.proofs.Paths.{path_append, reached_next}
use Rattle.dataflow.proofs.Analyses.{written_append}
use Rattle.dataflow.proofs.Backward.{live_step, live_here, live_least}
use Rattle.dataflow.proofs.BlockPaths.{written_points, flatten_path, within, place}

module _ {P S B : Type 0} (p : Program P S) (g : BlockGraph P B) (bs : BasicBlocks p g) where
  open g use {body, first, successors as blockNext}

  -- a read that is exposed in a list lies behind what doesn't write
  exposed_at : (s : S) (l : List P) → exposed p l s ≡ true
      → (u : List P) × (i : P) × (v : List P) × (l ≡ u ++ (i ∷ v)) × (p.reads i s ≡ true) × (written p u s ≡ false)
  exposed_at s [] e = absurd (false≢true e)
  exposed_at s (i ∷ l) e = go (live-cases _ _ _ e) (λ e'. exposed_at s l e')
    where
      go : (p.reads i s ≡ true) ⊎ ((p.writes i s ≡ false) × (exposed p l s ≡ true))
          → (exposed p l s ≡ true → (u : List P) × (j : P) × (v : List P) × (l ≡ u ++ (j ∷ v)) × (p.reads j s ≡ true) × (written p u s ≡ false))
          → (u : List P) × (j : P) × (v : List P) × (i ∷ l ≡ u ++ (j ∷ v)) × (p.reads j s ≡ true) × (written p u s ≡ false)
      go (inl h) below = ([], i, l, refl, h, refl)
      go (inr h) below = let q = below h.1 in (i ∷ q.0, q.1, q.2, ap (λ (m : List P). i ∷ m) q.3, q.4, rw h.0 q.5)

  exposed-of : (s : S) (u : List P) (i : P) (v : List P) → p.reads i s ≡ true → written p u s ≡ false → exposed p (u ++ (i ∷ v)) s ≡ true
  exposed-of s [] i v e n = rw e refl
  exposed-of s (a ∷ u) i v e n = live-pass (p.reads a s) (p.writes a s) _ (or_no_left _ (written p u s) n)
      (exposed-of s u i v e (or_no_right (p.writes a s) _ n))

  -- ── Live at the entry of a block: among the blocks, and among the points ──

  pub live_from_blocks : (c : B) (s : S) → Live (block_program liveness p g) c s → Live p (first c) s
  live_from_blocks c s h = go (exposed_at s (body h.1) h.3)
    where
      go : (u : List P) × (i : P) × (v : List P) × (body h.1 ≡ u ++ (i ∷ v)) × (p.reads i s ≡ true) × (written p u s ≡ false) → Live p (first c) s
      go q = (
        points_of g h.0 ++ q.0,
        q.1,
        path_append (flatten_path p g bs h.2) (within p g bs h.1 q.0 q.1 q.2 q.3),
        q.4,
        rw (written_append p s (points_of g h.0) q.0, ← written_points p g s h.0, h.4) q.5,
      )

  pub live_to_blocks : (c : B) (s : S) → Live p (first c) s → Live (block_program liveness p g) c s
  live_to_blocks c s h = go (place p g bs h.2 c [] (bs.starts c).0 (bs.starts c).1)
    where
      go : Place g c h.0 h.1 → Live (block_program liveness p g) c s
      go y = (
        y.passed,
        y.block,
        y.way,
        rw y.is (exposed-of s y.front h.1 y.rest h.3 (or_no_right (written p (points_of g y.passed) s) _ n)),
        written_points p g s y.passed ∙ or_no_left _ (written p y.front s) n,
      )
        where
          n : (written p (points_of g y.passed) s || written p y.front s) ≡ false
          n = sym (written_append p s (points_of g y.passed) y.front) ∙ (rw y.all at h.4)

  -- Demand 2: what is live at a block's entry, among the blocks, is what is live before its first point.
  pub live_first_iff : (c : B) (s : S) → Live (block_program liveness p g) c s ↔ Live p (first c) s
  live_first_iff c s = (live_from_blocks c s, live_to_blocks c s)

  -- ── Carried back through a block: y at the entries, out at the exits ──

  module _ (y : B → S → Bool) (exact : LiveExact (block_program liveness p g) y) (out : B → S → Bool)
      (out_of_lem : (b : B) (s : S) → out b s ≡ true → (c : B) × Memᴰ c (blockNext b) × (y c s ≡ true))
      (out-to : (b : B) (s : S) (c : B) → Memᴰ c (blockNext b) → y c s ≡ true → out b s ≡ true) where
    -- what the sets say is live at a point of a reached block is live there
    pub point_live : (b : B) → Reached (block_program liveness p g) b → (u : List P) (i : P) (v : List P) → body b ≡ u ++ (i ∷ v) → (s : S)
        → live_along p s (out b s) (i ∷ v) ≡ true → Live p i s
    point_live b r u i [] e s h = go (live-cases _ _ _ h)
      where
        far : p.writes i s ≡ false → (c : B) × Memᴰ c (blockNext b) × (y c s ≡ true) → Live p i s
        far ew q = let z : Live p (first q.0) s = live_from_blocks q.0 s
            (exact.is_live q.0 (reached_next (block_program liveness p g) r q.1) s q.2) in
            live_step p s (bs.leaves_to b u i e q.0 q.1) ew z

        go : (p.reads i s ≡ true) ⊎ ((p.writes i s ≡ false) × (out b s ≡ true)) → Live p i s
        go (inl q) = live_here p s q
        go (inr q) = far q.0 (out_of_lem b s q.1)
    point_live b r u i (j ∷ v) e s h = go (live-cases _ _ _ h) (λ h'. point_live b r (u ++ (i ∷ [])) j v (rw (append_snoc u i (j ∷ v)) e) s h')
      where
        go : (p.reads i s ≡ true) ⊎ ((p.writes i s ≡ false) × (live_along p s (out b s) (j ∷ v) ≡ true))
            → (live_along p s (out b s) (j ∷ v) ≡ true → Live p j s) → Live p i s
        go (inl q) below = live_here p s q
        go (inr q) below = let z : Live p j s = below q.1 in live_step p s (bs.inside_to b u i j v e) q.0 z

    -- and what is live there, the sets say
    pub live_point : {i j : P} {l : List P} → Path p.successors i l j → (b : B) → Reached (block_program liveness p g) b → (u v : List P)
        → body b ≡ u ++ (i ∷ v) → (s : S)
        → p.reads j s ≡ true → written p l s ≡ false → live_along p s (out b s) (i ∷ v) ≡ true
    live_point stop b r u v e s h n = rw h refl
    live_point (step {i = i} {j = k} {k = z} {l = t} d w) b r u [] e s h n = live-pass (p.reads i s) (p.writes i s) _
        (or_no_left _ (written p t s) n) (far (bs.leaves_of b u i e k d))
      where
        far : (c : B) × Memᴰ c (blockNext b) × (k ≡ first c) → out b s ≡ true
        far q = out-to b s q.0 q.1 (exact.has_live q.0 (reached_next (block_program liveness p g) r q.1) s
            (live_to_blocks q.0 s (t, z, subst (λ (a : P). Path p.successors a t z) q.2 w, h, or_no_right (p.writes i s) _ n)))
    live_point (step {i = i} {j = k} {l = t} d w) b r u (k' ∷ v) e s h n =
        let q : k ≡ k' = bs.inside_of b u i k' v e k d in
        live-pass (p.reads i s) (p.writes i s) _ (or_no_left _ (written p t s) n)
        (rw (← q) (live_point w b r (u ++ (i ∷ [])) v (rw (append_snoc u i (k ∷ v), q) e) s h (or_no_right (p.writes i s) _ n)))

    -- The set at a point of a reached block is the least saved set there.
    pub point_least : (b : B) → Reached (block_program liveness p g) b → (u : List P) (i : P) (v : List P) → body b ≡ u ++ (i ∷ v)
        → Least p i (λ s. live_along p s (out b s) (i ∷ v))
    point_least b r u i v e = live_least p i (λ s. live_along p s (out b s) (i ∷ v))
        (λ s. (point_live b r u i v e s, λ h. live_point h.2 b r u v e s h.3 h.4))
