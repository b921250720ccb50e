-- Paths of blocks and paths of their points correspond.
use mathlib.Core.Path.{◌≡◌, refl, sym, ◌∙◌, ap, subst}
use mathlib.Core.Bool.{Bool}
use mathlib.Core.List.{List, [], ◌∷◌, ◌++◌, Memᴰ, append_assoc, append-nil, head-eq_of_cons-eq}
use lib.Seq.{append_snoc}
use Rattle.dataflow.specs.Program.{Program}
use Rattle.dataflow.specs.Paths.{Path, stop, step, Reached}
use Rattle.dataflow.specs.Analyses.{initialization, liveness, written, init_along}
use Rattle.dataflow.specs.Blocks.{BlockGraph, block_program, points_of}
use Rattle.dataflow.specs.BasicBlocks.{BasicBlocks, Place}
use Rattle.dataflow.proofs.Paths.{path_append}
use Rattle.dataflow.proofs.Analyses.{written_append, init_append}
use Rattle.dataflow.proofs.Blocks.{init_gen_kill}

module _ {P S B : Type 0} (p : Program P S) (g : BlockGraph P B) where
  -- along a list of blocks is along their points
  pub init_points : (s : S) (f : Bool) (l : List B) → init_along (block_program initialization p g) s f l ≡ init_along p s f (points_of g l)
  init_points s f [] = refl
  init_points s f (b ∷ l) = rw (← init_gen_kill p s f (g.body b), init_append p s f (g.body b) (points_of g l))
      (init_points s (init_along p s f (g.body b)) l)

  pub written_points : (s : S) (l : List B) → written (block_program liveness p g) l s ≡ written p (points_of g l) s
  written_points s [] = refl
  written_points s (b ∷ l) = rw (written_append p s (g.body b) (points_of g l), written_points s l) refl

module _ {P S B : Type 0} (p : Program P S) (g : BlockGraph P B) (bs : BasicBlocks p g) where
  open g use {body, first, successors as blockNext, entry as blockEntry}

  -- ── From blocks to points ──

  -- from inside a block to its end, and on to a successor
  through : (b : B) (u : List P) (i : P) (v : List P) → body b ≡ u ++ (i ∷ v) → (c : B) → Memᴰ c (blockNext b)
      → Path p.successors i (i ∷ v) (first c)
  through b u i [] e c d = step (bs.leaves_to b u i e c d) stop
  through b u i (j ∷ v) e c d = step (bs.inside_to b u i j v e) (through b (u ++ (i ∷ [])) j v (rw (append_snoc u i (j ∷ v)) e) c d)

  -- A path of blocks is a path of their points.
  pub flatten_path : {b c : B} {l : List B} → Path blockNext b l c → Path p.successors (first b) (points_of g l) (first c)
  flatten_path stop = stop
  flatten_path (step {i = b} {j = c} d w) = path_append (whole b c d) (flatten_path w)
    where
      whole : (b c : B) → Memᴰ c (blockNext b) → Path p.successors (first b) (body b) (first c)
      whole b c d = let e = (bs.starts b).1 in rw e (through b [] (first b) (bs.starts b).0 e c d)

  abbrev lead : List P → P → P
  lead [] i = i
  lead (x ∷ u) i = x

  from : (b : B) (w u : List P) (i : P) (v : List P) → body b ≡ w ++ (u ++ (i ∷ v)) → Path p.successors (lead u i) u i
  from b w [] i v e = stop
  from b w (x ∷ []) i v e = step (bs.inside_to b w x i v e) stop
  from b w (x ∷ y ∷ u) i v e = step (bs.inside_to b w x y (u ++ (i ∷ v)) e)
      (from b (w ++ (x ∷ [])) (y ∷ u) i v (rw (append_snoc w x (y ∷ (u ++ (i ∷ v)))) e))

  -- from the first point of a block to a point of it
  pub within : (b : B) (u : List P) (i : P) (v : List P) → body b ≡ u ++ (i ∷ v) → Path p.successors (first b) u i
  within b u i v e = subst (λ (a : P). Path p.successors a u i) (go u (sym e ∙ (bs.starts b).1)) (from b [] u i v e)
    where
      go : (u : List P) → u ++ (i ∷ v) ≡ first b ∷ (bs.starts b).0 → lead u i ≡ first b
      go [] e = head-eq_of_cons-eq e
      go (x ∷ u) e = head-eq_of_cons-eq e

  -- ── From points to blocks ──

  -- A path of points is a path of blocks and a front of the block that it is in. It begins at the place (u, j, v) of block b.
  pub place : {j i : P} {l : List P} → Path p.successors j l i → (b : B) (u v : List P) → body b ≡ u ++ (j ∷ v) → Place g b (u ++ l) i
  place stop b u v e = record { passed = []; block = b; way = stop; front = u; rest = v; is = e; all = append-nil u }
  place (step {i = j} {j = k} {k = z} {l = t} d w) b u [] e =
      far (bs.leaves_of b u j e k d) (λ c e'. place w c [] (bs.starts c).0 (rw e' (bs.starts c).1))
    where
      far : (x : (c : B) × Memᴰ c (blockNext b) × (k ≡ first c)) → ((c : B) → k ≡ first c → Place g c t z) → Place g b (u ++ (j ∷ t)) z
      far x below = let y : Place g x.0 t z = below x.0 x.2 in
          record { passed = b ∷ y.passed; block = y.block; way = step x.1 y.way; front = y.front; rest = y.rest; is = y.is; all = eqn y }
        where
          eqn : (y : Place g x.0 t z) → u ++ (j ∷ t) ≡ points_of g (b ∷ y.passed) ++ y.front
          eqn y = rw (e, append_assoc (u ++ (j ∷ [])) (points_of g y.passed) y.front, append_snoc u j (points_of g y.passed ++ y.front))
              (ap (λ (m : List P). u ++ (j ∷ m)) y.all)
  place (step {i = j} {j = k} {k = z} {l = t} d w) b u (k' ∷ v) e =
      let q : k ≡ k' = bs.inside_of b u j k' v e k d in
      subst (λ (m : List P). Place g b m z) (append_snoc u j t)
      (place w b (u ++ (j ∷ [])) v (rw (append_snoc u j (k ∷ v), q) e))

  -- ── From the entry ──

  -- from the program's entry to the first point of a block
  pub entry_path : {b : B} {l : List B} → Path blockNext blockEntry l b → Path p.successors p.entry (points_of g l) (first b)
  entry_path {b} {l} w = subst (λ (a : P). Path p.successors a (points_of g l) (first b)) bs.entry_first (flatten_path w)

  -- where a path from the program's entry stands
  pub entry_place : {i : P} {l : List P} → Path p.successors p.entry l i → Place g blockEntry l i
  entry_place {i} {l} w =
      place (subst (λ (a : P). Path p.successors a l i) (sym bs.entry_first) w) blockEntry [] (bs.starts blockEntry).0
      (bs.starts blockEntry).1

  -- every point of a reached block is reached
  pub reached_point : (b : B) {l : List B} → Path blockNext blockEntry l b → (u : List P) (i : P) (v : List P) → body b ≡ u ++ (i ∷ v) → Reached p i
  reached_point b {l} w u i v e = (points_of g l ++ u, path_append (entry_path w) (within b u i v e))
