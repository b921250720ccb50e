-- A block's transfer function is the composition of its points': gen and kill as `graph` computes them.
use mathlib.Core.Path.{◌≡◌, refl, sym, ◌∙◌, ap}
use mathlib.Core.Bool.{Bool, true, false, not, ◌&&◌, ◌||◌, or-false}
use mathlib.Core.List.{List, [], ◌∷◌}
use Rattle.dataflow.specs.Program.{Program, EmptiesNothing}
use Rattle.dataflow.specs.Analyses.{written, init_along, live_along}
use Rattle.dataflow.specs.Blocks.{exposed}
use Rattle.dataflow.specs.BasicBlocks.{uses, defines}
use Rattle.dataflow.proofs.Analyses.{along_mono, along_plain}

module _ {P S : Type 0} (p : Program P S) where
  -- Initialization: what a list fills whatever comes in, and what it lets through.
  pub init_gen_kill : (s : S) (f : Bool) (l : List P) → init_along p s f l ≡ (init_along p s false l || (not (not (init_along p s true l)) && f))
  init_gen_kill s f l = go f (init_along p s false l) (init_along p s true l) refl refl
    where
      go : (f a b : Bool) → init_along p s false l ≡ a → init_along p s true l ≡ b → init_along p s f l ≡ (a || (not (not b) && f))
      go true true b ea eb = along_mono p s false true l (λ _. refl) ea
      go true false true ea eb = eb
      go true false false ea eb = eb
      go false true b ea eb = ea
      go false false true ea eb = ea
      go false false false ea eb = ea

  -- Liveness: what is exposed in a list, and what it does not write.
  pub live_gen_kill : (s : S) (g : Bool) (l : List P) → live_along p s g l ≡ (exposed p l s || (not (written p l s) && g))
  live_gen_kill s g [] = refl
  live_gen_kill s g (i ∷ l) = ap (λ (z : Bool). p.reads i s || (not (p.writes i s) && z)) (live_gen_kill s g l)
      ∙ cons (p.reads i s) (p.writes i s) (exposed p l s) (written p l s) g
    where
      cons : (r w e d g : Bool) → (r || (not w && (e || (not d && g)))) ≡ ((r || (not w && e)) || (not (w || d) && g))
      cons true w e d g = refl
      cons false true e d g = refl
      cons false false e d g = refl

  -- `graph`'s `uses` are what is exposed.
  pub uses_exposed : (s : S) (l : List P) → uses p s false false l ≡ exposed p l s
  uses_exposed s l = go false false l
    where
      go : (d u : Bool) (l : List P) → uses p s d u l ≡ (u || (not d && exposed p l s))
      go d u [] = nil d u
        where
          nil : (d u : Bool) → u ≡ (u || (not d && false))
          nil true true = refl
          nil true false = refl
          nil false true = refl
          nil false false = refl
      go d u (i ∷ l) = go (d || p.writes i s) (u || (not d && p.reads i s)) l ∙ cons d u (p.writes i s) (p.reads i s) (exposed p l s)
        where
          cons : (d u w r e : Bool) → ((u || (not d && r)) || (not (d || w) && e)) ≡ (u || (not d && (r || (not w && e))))
          cons d true w r e = refl
          cons true false w r e = refl
          cons false false w true e = refl
          cons false false w false e = refl

  -- `graph`'s `defines` are what is written.
  pub defines_written : (s : S) (l : List P) → defines p s false l ≡ written p l s
  defines_written s l = go false l
    where
      go : (d : Bool) (l : List P) → defines p s d l ≡ (d || written p l s)
      go d [] = sym (or-false d)
      go d (i ∷ l) = go (d || p.writes i s) l ∙ assoc d (p.writes i s) (written p l s)
        where
          assoc : (a b c : Bool) → ((a || b) || c) ≡ (a || (b || c))
          assoc true b c = refl
          assoc false b c = refl

  -- `propagate`, liveness: `(value & !defines) | uses` is the transfer functions of the block's points, composed.
  pub live_by_uses_defines : (s : S) (g : Bool) (l : List P) → live_along p s g l ≡ (uses p s false false l || (not (defines p s false l) && g))
  live_by_uses_defines s g l = live_gen_kill s g l ∙ sym (rw (uses_exposed s l, defines_written s l) refl)

  -- `propagate`, initialization: with nothing emptied, `value | defines` is the transfer functions of the block's points, composed.
  pub init_by_defines : EmptiesNothing p → (s : S) (f : Bool) (l : List P) → init_along p s f l ≡ (f || defines p s false l)
  init_by_defines keeps s f l = along_plain p keeps s f l ∙ sym (rw (defines_written s l) refl)
