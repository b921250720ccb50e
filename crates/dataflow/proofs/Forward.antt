-- FORWARD: an assignment that meets the flow equations, and has dropped only what some path loses, is the meet over all paths.
use mathlib.Core.Path.{◌≡◌, refl, sym, ◌∙◌}
use mathlib.Core.Bool.{Bool, true, false, true≢false}
use mathlib.Core.List.{List, [], ◌∷◌, ◌++◌}
use mathlib.Core.Logic.{◌↔◌}
use Rattle.dataflow.specs.Program.{Program}
use Rattle.dataflow.specs.Paths.{Path, stop, step, Reached}
use Rattle.dataflow.specs.Analyses.{init_transfer, init_along, filled, Init, InitAfter, Lost}
use Rattle.dataflow.specs.Equations.{InitEquation, InitExact}
use Rattle.dataflow.proofs.Paths.{reached_entry, reached_next}
use Rattle.dataflow.proofs.Analyses.{transfer_mono, init_append}

module _ {P S : Type 0} (p : Program P S) where
  -- what meets the equations holds on every path
  pub init_sound : (x : P → S → Bool) → ((j : P) → Reached p j → (s : S) → x j s ≡ true → InitEquation p x j s)
      → (j : P) (s : S) → x j s ≡ true → Init p j s
  init_sound x meets j s e l w = along w (reached_entry p) (p.parameter s) (λ e₀. (meets p.entry (reached_entry p) s e₀).0 refl) e
    where
      along : {i k : P} {m : List P} → Path p.successors i m k → Reached p i → (f : Bool) → (x i s ≡ true → f ≡ true) → x k s ≡ true
          → init_along p s f m ≡ true
      along stop r f h e = h e
      along (step {i = i} {j = j'} d w) r f h e =
          along w (reached_next p r d) (init_transfer p i s f) (λ e'. transfer_mono p i s (x i s) f h ((meets j' (reached_next p r d) s e').1 i r d)) e

  pub forward : (x : P → S → Bool) → ((j : P) → Reached p j → (s : S) → x j s ≡ true → InitEquation p x j s)
      → ((j : P) → Reached p j → (s : S) → x j s ≡ false → Lost p j s) → InitExact p x
  forward x meets drops = record { is_init = λ j r s e. init_sound x meets j s e; is_lost = drops }

  pub lost_not_init : (i : P) (s : S) → Lost p i s → Init p i s → ⊥
  lost_not_init i s v m = true≢false (sym (m v.0 v.1) ∙ v.2)

  -- Demand 2, before a point: the set holds s exactly if every path to the point has it filled.
  pub init_iff : (x : P → S → Bool) → InitExact p x → (j : P) → Reached p j → (s : S) → (x j s ≡ true) ↔ Init p j s
  init_iff x exact j r s = (exact.is_init j r s, back (x j s) refl)
    where
      back : (b : Bool) → x j s ≡ b → Init p j s → x j s ≡ true
      back true e m = e
      back false e m = absurd (lost_not_init j s (exact.is_lost j r s e) m)

  -- Demand 2, after a point: f, exact before it, is exact behind its transfer function.
  pub init_after_iff : (j : P) → Reached p j → (s : S) (f : Bool) → (f ≡ true → Init p j s) → (f ≡ false → Lost p j s)
      → (init_transfer p j s f ≡ true) ↔ InitAfter p j s
  init_after_iff j r s f yes-init no-lost = (there, λ h. back h f refl)
    where
      behind : (l : List P) → filled p (l ++ (j ∷ [])) s ≡ init_transfer p j s (filled p l s)
      behind l = init_append p s (p.parameter s) l (j ∷ [])

      there : init_transfer p j s f ≡ true → InitAfter p j s
      there e l w = behind l ∙ transfer_mono p j s f (filled p l s) (λ e'. yes-init e' l w) e

      back : InitAfter p j s → (b : Bool) → f ≡ b → init_transfer p j s f ≡ true
      back h true e = transfer_mono p j s (filled p r.0 s) f (λ _. e) (sym (behind r.0) ∙ h r.0 r.1)
      back h false e = let v : Lost p j s = no-lost e in
          transfer_mono p j s (filled p v.0 s) f (λ e'. absurd (true≢false (sym e' ∙ v.2))) (sym (behind v.0) ∙ h v.0 v.1)
