-- More parameters: a program with more of them fills more along each path, and is faulty only if it was before. Assumes nothing.
use mathlib.Core.Path.{◌≡◌, refl, sym, ap, subst, ◌∙◌}
use mathlib.Core.Bool.{Bool, true, false, ◌||◌, false≢true}
use mathlib.Core.List.{List, [], ◌∷◌}
use mathlib.Core.Logic.{inl, inr}
use Prim.Native.Nat.{ℕ}
use Rattle.dataflow.specs.Program.{Program}
use Rattle.dataflow.specs.Analyses.{written, init_transfer, init_along, filled, Init}
use Rattle.dataflow.specs.Demand.{Unfilled, Least, Held, Faulty}
use Rattle.dataflow.specs.Code.{Instruction, program}
use Rattle.dataflow.proofs.Analyses.{along_mono}

-- the program with these parameters instead
abbrev pub with_parameters : {P S : Type 0} → Program P S → (S → Bool) → Program P S
with_parameters p parameter = record {
  entry = p.entry;
  successors = p.successors;
  reads = p.reads;
  writes = p.writes;
  empties = p.empties;
  parameter = parameter;
}

module _ {P S : Type 0} (p : Program P S) (parameter : S → Bool) where
  -- ---- what does not depend on the parameters

  -- the transfer functions of a list
  along-same : (s : S) (f : Bool) (l : List P) → init_along (with_parameters p parameter) s f l ≡ init_along p s f l
  along-same s f [] = refl
  along-same s f (i ∷ l) = along-same s (init_transfer p i s f) l

  -- what is written in it
  written_same : (l : List P) (s : S) → written (with_parameters p parameter) l s ≡ written p l s
  written_same [] s = refl
  written_same (i ∷ l) s = ap (λ (t : Bool). p.writes i s || t) (written_same l s)

  -- the least set of an await
  least-same : (a : P) (x : S → Bool) → Least (with_parameters p parameter) a x → Least p a x
  least-same a x h = record {
    saves = λ l j s way r. subst (λ (t : Bool). (x s || t) ≡ true) (written_same l s) (h.saves l j s way r);
    least = λ y sv s e. h.least y (λ l j t way r. subst (λ (u : Bool). (y t || u) ≡ true) (sym (written_same l t)) (sv l j t way r)) s e;
  }

  -- so the second way to be faulty
  pub held_same : (await : P → Bool) (host : S → Bool) → Held (with_parameters p parameter) await host → Held p await host
  held_same await host h = record {
    point = h.point;
    is_await = h.is_await;
    reached = h.reached;
    saved = h.saved;
    is_least = least-same h.point h.saved h.is_least;
    slot = h.slot;
    in_saved = h.in_saved;
    is_host = h.is_host;
  }

  -- ---- each parameter is one still

  module _ (more : (s : S) → p.parameter s ≡ true → parameter s ≡ true) where
    -- what a path has filled it fills still
    pub filled_more : (l : List P) (s : S) → filled p l s ≡ true → filled (with_parameters p parameter) l s ≡ true
    filled_more l s e = along-same s (parameter s) l ∙ along_mono p s (p.parameter s) (parameter s) l (more s) e

    -- so what is initialized stays so
    pub init_more : (i : P) (s : S) → Init p i s → Init (with_parameters p parameter) i s
    init_more i s h l way = filled_more l s (h l way)

    -- a path that reads an unfilled slot did so before
    pub unfilled_fewer : Unfilled (with_parameters p parameter) → Unfilled p
    unfilled_fewer u = record {
      before = u.before;
      point = u.point;
      slot = u.slot;
      path = u.path;
      read = u.read;
      unfilled = go (filled p u.before u.slot) refl;
    }
      where
        go : (t : Bool) → filled p u.before u.slot ≡ t → t ≡ false
        go true e = absurd (false≢true (sym u.unfilled ∙ filled_more u.before u.slot e))
        go false e = refl

    -- and a faulty program was faulty
    pub faulty_fewer : (await : P → Bool) (host : S → Bool) → Faulty (with_parameters p parameter) await host → Faulty p await host
    faulty_fewer await host (inl u) = inl (unfilled_fewer u)
    faulty_fewer await host (inr h) = inr (held_same await host h)

-- of code
module _ (code : List Instruction) (parameter parameter' : ℕ → Bool) (more : (x : ℕ) → parameter x ≡ true → parameter' x ≡ true) where
  pub code_unfilled : Unfilled (program code parameter') → Unfilled (program code parameter)
  code_unfilled = unfilled_fewer (program code parameter) parameter' more

  pub code_faulty : (await host : ℕ → Bool) → Faulty (program code parameter') await host → Faulty (program code parameter) await host
  code_faulty = faulty_fewer (program code parameter) parameter' more
