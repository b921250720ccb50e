-- Laws of what is written and what is filled along a path.
use mathlib.Core.Path.{◌≡◌, refl, sym, ◌∙◌}
use mathlib.Core.Bool.{Bool, true, false, not, ◌&&◌, ◌||◌, or-true, or-false}
use mathlib.Core.List.{List, [], ◌∷◌, ◌++◌}
use Rattle.dataflow.specs.Program.{Program, EmptiesNothing}
use Rattle.dataflow.specs.Analyses.{written, init_transfer, init_along, filled}

module _ {P S : Type 0} (p : Program P S) where
  pub written_append : (s : S) (l m : List P) → written p (l ++ m) s ≡ (written p l s || written p m s)
  written_append s [] m = refl
  written_append s (i ∷ l) m = go (p.writes i s) (written_append s l m)
    where
      go : (b : Bool) → written p (l ++ m) s ≡ (written p l s || written p m s) → (b || written p (l ++ m) s) ≡ (b || written p l s || written p m s)
      go true e = refl
      go false e = e

  pub init_append : (s : S) (f : Bool) (l m : List P) → init_along p s f (l ++ m) ≡ init_along p s (init_along p s f l) m
  init_append s f [] m = refl
  init_append s f (i ∷ l) m = init_append s (init_transfer p i s f) l m

  -- the transfer functions are monotone
  pub transfer_mono : (i : P) (s : S) (f g : Bool) → (f ≡ true → g ≡ true) → init_transfer p i s f ≡ true → init_transfer p i s g ≡ true
  transfer_mono i s f g h e = go (p.writes i s) (p.empties i s) e
    where
      go : (w m : Bool) → (w || (not m && f)) ≡ true → (w || (not m && g)) ≡ true
      go true m e = refl
      go false true e = e
      go false false e = h e

  pub along_mono : (s : S) (f g : Bool) (l : List P) → (f ≡ true → g ≡ true) → init_along p s f l ≡ true → init_along p s g l ≡ true
  along_mono s f g [] h e = h e
  along_mono s f g (i ∷ l) h e = along_mono s (init_transfer p i s f) (init_transfer p i s g) l (transfer_mono i s f g h) e

  -- With nothing emptied, filled behind a list is filled before it or written in it.
  pub along_plain : EmptiesNothing p → (s : S) (f : Bool) (l : List P) → init_along p s f l ≡ (f || written p l s)
  along_plain keeps s f [] = sym (or-false f)
  along_plain keeps s f (i ∷ l) = along_plain keeps s (init_transfer p i s f) l ∙ (rw (keeps i s) (two (p.writes i s) f (written p l s)))
    where
      two : (w f t : Bool) → ((w || f) || t) ≡ (f || (w || t))
      two true f t = sym (or-true f)
      two false f t = refl

  -- Demand 3's words, for a program that empties nothing: filled is "a parameter or written earlier on that path".
  pub filled_plain : EmptiesNothing p → (l : List P) (s : S) → filled p l s ≡ (p.parameter s || written p l s)
  filled_plain keeps l s = along_plain keeps s (p.parameter s) l
