-- Initialized sets that are exact at the blocks, carried through a block, are exact at its points.
use mathlib.Core.Path.{◌≡◌, refl, sym, ◌∙◌}
use mathlib.Core.Bool.{Bool, true, false, true≢false}
use mathlib.Core.List.{List, ◌∷◌, ◌++◌}
use mathlib.Core.Logic.{◌↔◌}
use Rattle.dataflow.specs.Program.{Program}
use Rattle.dataflow.specs.Paths.{Path, Reached}
use Rattle.dataflow.specs.Analyses.{initialization, init_along, filled, Lost}
use Rattle.dataflow.specs.Demand.{Unfilled}
use Rattle.dataflow.specs.Equations.{InitExact}
use Rattle.dataflow.specs.Blocks.{BlockGraph, block_program, points_of}
use Rattle.dataflow.specs.BasicBlocks.{BasicBlocks, Place}
use Rattle.dataflow.specs.Verdict.{UnfilledInBlock}
use Rattle.dataflow.proofs.Bools.{not-true}
use Rattle.dataflow.proofs.Paths.{path_append}
use Rattle.dataflow.proofs.Analyses.{init_append, along_mono}
use Rattle.dataflow.proofs.BlockPaths.{init_points, within, entry_path, entry_place}

module _ {P S B : Type 0} (p : Program P S) (g : BlockGraph P B) (bs : BasicBlocks p g) (x : B → S → Bool)
    (exact : InitExact (block_program initialization p g) x) where
  open g use {body, successors as blockNext, entry as blockEntry}

  -- what the sets say is unfilled at a point of a reached block is left unfilled by some path to it
  pub point_lost : (b : B) → Reached (block_program initialization p g) b → (u : List P) (i : P) (v : List P) → body b ≡ u ++ (i ∷ v) → (s : S)
      → init_along p s (x b s) u ≡ false → Lost p i s
  point_lost b r u i v e s n = go (x b s) refl n
    where
      on : (l : List B) → Path blockNext blockEntry l b
          → init_along p s (init_along (block_program initialization p g) s (p.parameter s) l) u ≡ false → Lost p i s
      on l w h = (
        points_of g l ++ u,
        path_append (entry_path p g bs w) (within p g bs b u i v e),
        rw (init_append p s (p.parameter s) (points_of g l) u, ← init_points p g s (p.parameter s) l) h,
      )

      low : (f : Bool) → init_along p s true u ≡ false → init_along p s f u ≡ false
      low true h = h
      low false h = not-true (init_along p s false u) (λ e. true≢false (sym (along_mono p s false true u (λ _. refl) e) ∙ h))

      go : (f : Bool) → x b s ≡ f → init_along p s f u ≡ false → Lost p i s
      go true e h = on r.0 r.1 (low _ h)
      go false e h = let q : Lost (block_program initialization p g) b s = exact.is_lost b r s e in on q.0 q.1 (rw q.2 h)

  -- what the sets say is filled where a path stands is filled on that path
  pub place_filled : {l : List P} {i : P} (y : Place g blockEntry l i) (s : S) → init_along p s (x y.block s) y.front ≡ true
      → filled p l s ≡ true
  place_filled y s e = rw (
    y.all,
    init_append p s (p.parameter s) (points_of g y.passed) y.front,
    ← init_points p g s (p.parameter s)
        y.passed,
  )
      (along_mono p s (x y.block s) (init_along (block_program initialization p g) s (p.parameter s) y.passed) y.front
      (λ e'. exact.is_init y.block (y.passed, y.way) s e' y.passed y.way) e)

  -- 13: some path has an unfilled read exactly if the check of the blocks finds one.
  pub unfilled_in_block : Unfilled p ↔ UnfilledInBlock p g x
  unfilled_in_block = (there, back)
    where
      there : Unfilled p → UnfilledInBlock p g x
      there h = let y : Place g blockEntry h.before h.point = entry_place p g bs h.path in
          record {
            block = y.block;
            reached = (y.passed, y.way);
            front = y.front;
            point = h.point;
            rest = y.rest;
            is = y.is;
            slot = h.slot;
            read = h.read;
            missing = not-true (init_along p h.slot (x y.block h.slot) y.front)
                (λ e. true≢false (sym (place_filled y h.slot e) ∙ h.unfilled));
          }

      back : UnfilledInBlock p g x → Unfilled p
      back h = let q : Lost p h.point h.slot = point_lost h.block h.reached h.front h.point h.rest h.is h.slot
          h.missing in
          record { before = q.0; point = h.point; slot = h.slot; path = q.1; read = h.read; unfilled = q.2 }
