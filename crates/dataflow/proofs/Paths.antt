-- Laws of paths.
use mathlib.Core.Path.{◌≡◌, sym, subst}
use mathlib.Core.List.Memᴰ
use mathlib.Core.List.{List, [], ◌∷◌, ◌++◌, Memᴰ}
use mathlib.Core.Logic.{◌⊎◌, inl, inr}
use Rattle.dataflow.specs.Program.{Program}
use Rattle.dataflow.specs.Paths.{Path, stop, step, Reached}

module _ {P : Type 0} {next : P → List P} where
  -- one more point at the end
  pub path_snoc : {i j k : P} {l : List P} → Path next i l j → Memᴰ k (next j) → Path next i (l ++ (j ∷ [])) k
  path_snoc stop e = step e stop
  path_snoc (step d w) e = step d (path_snoc w e)

  pub path_append : {i j k : P} {l m : List P} → Path next i l j → Path next j m k → Path next i (l ++ m) k
  path_append stop v = v
  path_append (step d w) v = step d (path_append w v)

  -- "a path from 0 reaches all that are on it", along what comes before them
  pub path_prefix : {i j : P} {l : List P} → Path next i l j → (k : P) → Memᴰ k l → (m : List P) × Path next i m k
  path_prefix stop k m = absurd (Memᴰ.not-nil m)
  path_prefix (step {i = i} {j = j} {l = t} d w) k m = go (Memᴰ.cases_cons m) (λ m'. path_prefix w k m')
    where
      go : (k ≡ i) ⊎ Memᴰ k t → (Memᴰ k t → (m : List P) × Path next j m k) → (m : List P) × Path next i m k
      go (inl e) below = ([], subst (λ (k : P). Path next i [] k) (sym e) stop)
      go (inr m') below = let v = below m' in (i ∷ v.0, step d v.1)

  -- with more edges there are more paths
  pub path_widen : {i j : P} {l : List P} (more : P → List P) → ((a b : P) → Memᴰ b (next a) → Memᴰ b (more a))
      → Path next i l j → Path more i l j
  path_widen more f stop = stop
  path_widen more f (step {i = i} {j = j} d w) = step (f i j d) (path_widen more f w)

module _ {P S : Type 0} (p : Program P S) where
  pub reached_entry : Reached p p.entry
  reached_entry = ([], stop)

  -- the successors of a reached point are reached
  pub reached_next : {i j : P} → Reached p i → Memᴰ j (p.successors i) → Reached p j
  reached_next {i} r d = (r.0 ++ (i ∷ []), path_snoc r.1 d)
