-- Stages that go on under some limits go on under any that are nowhere lower, with the same layout and budget. Assumes nothing.
use mathlib.Core.Path.{◌≡◌, refl, ap, ◌∙◌}
use mathlib.Core.Bool.{Bool, true, false}
use mathlib.Core.List.{List}
use Prim.Native.Nat.{ℕ}
use native.Mathlib.Omega.{arith}
use lib.Dec.{ltb}
use borrow.Author.Tests.{le-ltb, ltb-false}
use Rattle.dataflow.specs.Lists.{pick}
use Rattle.dataflow.specs.Code.{Instruction}
use Rattle.dataflow.specs.Charges.{counting_charges, building_charges}
use Rattle.dataflow.specs.Results.{block_count}
use Rattle.budget.specs.declared.FlowBudget.{FlowBudget}
use Rattle.budget.specs.declared.Limits.{Limits}
use Rattle.std.specs.Prelude.{Ok, Err}
use Rattle.budget.specs.Budget.{Charged, NowhereLower, charged, state_bytes}
use Rattle.budget.proofs.LimitLaws.{charged_higher}
use Rattle.format.specs.declared.refusal.Refusal.TheVariants.{NoRoom, StateLimit}
use Rattle.sheet.specs.declared.script.Script.{Script}
use Rattle.sizes.specs.declared.Layout.{Layout}
use Rattle.sizes.specs.declared.Lent.{Lent}
use Rattle.sizes.specs.declared.Stopped.{Stopped}
use Rattle.sizes.specs.Sizes.{layout_of, short_of}
use Rattle.sizes.specs.Stages.{Staged, stopped, rooms_of, if_met, if_ok, stage, graph_of}

refused_not_ok : {e : Stopped} {y : Layout} {left : FlowBudget} → ◌≡◌ {A = Staged} (Err e) (Ok (y, left)) → ⊥
refused_not_ok q = let z : ◌≡◌ {A = ℕ} 0 1 = cc in omega arith

-- the charges were met, and what followed went on
met-on : (c : Charged) (f : FlowBudget → Staged) (y : Layout) (left : FlowBudget) → if_met c f ≡ Ok (y, left)
    → (b : FlowBudget) × (c ≡ Ok b) × (f b ≡ Ok (y, left))
met-on (Ok b) f y left e = (b, refl, e)
met-on (Err x) f y left e = absurd (refused_not_ok e)

ok_on : (r : Staged) (f : Layout → FlowBudget → Staged) (y : Layout) (left : FlowBudget) → if_ok r f ≡ Ok (y, left)
    → (z : Layout) × (b : FlowBudget) × (r ≡ Ok (z, b)) × (f z b ≡ Ok (y, left))
ok_on (Ok r) f y left e = (r.0, r.1, refl, e)
ok_on (Err x) f y left e = absurd (refused_not_ok e)

module _ (l h : Limits) (le : NowhereLower l h) where
  met-higher : (b : FlowBudget) (cs : List ℕ) (f g : FlowBudget → Staged) (y : Layout) (left : FlowBudget) → if_met (charged l b cs) f ≡ Ok (y, left)
      → ((b' : FlowBudget) → f b' ≡ Ok (y, left) → g b' ≡ Ok (y, left)) → if_met (charged h b cs) g ≡ Ok (y, left)
  met-higher b cs f g y left e k =
      let p = met-on (charged l b cs) f y left e in
      ap (λ (c : Charged). if_met c g) (charged_higher l h le b p.0 cs p.1) ∙ k p.0 p.2

  rooms-higher : (y : Layout) (n : ℕ) (lent : Lent) (b : FlowBudget) (z : Layout) (left : FlowBudget) → rooms_of l y n lent b ≡ Ok (z, left)
      → rooms_of h y n lent b ≡ Ok (z, left)
  unfolding rooms_of
  rooms-higher y n lent b z left e = go (ltb l.state (state_bytes y.blocks y.words)) refl e
    where
      answer : Bool → Staged
      answer t = pick t (stopped StateLimit b) (pick (short_of y n lent) (stopped NoRoom b) (Ok (y, b)))

      go : (t : Bool) → ltb l.state (state_bytes y.blocks y.words) ≡ t → answer t ≡ Ok (z, left)
          → answer (ltb h.state (state_bytes y.blocks y.words)) ≡ Ok (z, left)
      go true q e = absurd (refused_not_ok e)
      go false q e =
          rw (le-ltb h.state (state_bytes y.blocks y.words)
          (omega (arith, ltb-false l.state (state_bytes y.blocks y.words) q, le.state))) e

  -- `graph` and `reachability`
  pub graph_higher : (code : List Instruction) (x : Script) (lent : Lent) (n : ℕ) (b : FlowBudget) (y : Layout) (left : FlowBudget)
      → graph_of code x l lent n b ≡ Ok (y, left) → graph_of code x h lent n b ≡ Ok (y, left)
  unfolding graph_of
  graph_higher code x lent n b y left e =
      let p = ok_on (if_met (charged l b (counting_charges code)) (rooms_of l (layout_of x (block_count code)) n lent)) (stage l (building_charges code)) y left e in
      ap (λ (r : Staged). if_ok r (stage h (building_charges code)))
      (met-higher b (counting_charges code) (rooms_of l (layout_of x (block_count code)) n lent) (rooms_of h (layout_of x (block_count code)) n lent) p.0 p.1 p.2
      (λ b' q. rooms-higher (layout_of x (block_count code)) n lent b' p.0 p.1 q))
      ∙ met-higher p.1 (building_charges code) (λ x. Ok (p.0, x)) (λ x. Ok (p.0, x)) y left p.3 (λ b' q. q)
