-- Request 5: "a script accepted under a record is accepted with the same sets, from the same budget and buffers, under any record that is nowhere
-- lower". Assumes nothing.
use mathlib.Core.Path.{◌≡◌, refl, ap, ◌∙◌}
use mathlib.Core.Bool.{Bool, true, false}
use mathlib.Core.List.{List}
use Prim.Native.Nat.{ℕ, ◌*◌}
use native.Mathlib.Omega.{arith}
use lib.Dec.{ltb}
use Rattle.std.specs.Prelude.{Result, Ok, Err}
use Rattle.dataflow.specs.Lists.{pick}
use Rattle.dataflow.specs.Charges.{fixed_points_charges}
use Rattle.budget.specs.declared.FlowBudget.{FlowBudget}
use Rattle.budget.specs.declared.Limits.{Limits}
use Rattle.budget.specs.Budget.{Charged, NowhereLower, charged}
use Rattle.budget.proofs.LimitLaws.{charged_higher}
use Rattle.format.specs.declared.refusal.Refusal.{Refusal}
use Rattle.format.specs.declared.refusal.Refusal.TheVariants.{NoRoom}
use Rattle.sizes.specs.declared.Layout.{Layout}
use Rattle.sizes.specs.declared.Lent.{Lent}
use Rattle.sizes.specs.Stages.{Staged, graph_of}
use Rattle.sizes.proofs.LimitLaws.{graph_higher}
use Rattle.sheet.specs.declared.script.Script.{Script}
use Rattle.sheet.specs.declared.script.Refused.{Refused}
use Rattle.sheet.specs.Decode.{parts_of}
use Rattle.sheet.specs.Scripts.{checked_of}
use Rattle.script.specs.Script.{flow_code, host_in}
use Rattle.verdict.specs.Points.{Checking, stop, on, points_run}
use Rattle.verdict.proofs.LimitLaws.{points_higher}
use Rattle.outcome.specs.Outcome.{Lengths, Outcome, accepted, refused, after_points, after_rounds, after_graph, judged, after_checks, outcome_of}

refused-not_accepted : {r : Refusal} {i id blocks awaits : ℕ} {b left : FlowBudget} → refused r i b ≡ accepted id blocks awaits left → ⊥
refused-not_accepted e = let z : ◌≡◌ {A = ℕ} 0 1 = cc in omega arith

module _ (s : List ℕ) (parameter : ℕ → Bool) (l h : Limits) (le : NowhereLower l h) (id blocks awaits : ℕ) (left : FlowBudget) where
  -- the answer is this acceptance
  abbrev Is : Outcome → Type 0
  Is o = o ≡ accepted id blocks awaits left

  module _ (x : Script) where
    rounds : (y : Layout) (b : FlowBudget)
        → Is (after_points s parameter x l y (points_run (flow_code (parts_of s)) parameter l y.words x.slots (host_in (parts_of s)) b))
        → Is (after_points s parameter x h y (points_run (flow_code (parts_of s)) parameter h y.words x.slots (host_in (parts_of s)) b))
    rounds y b e = go (points_run (flow_code (parts_of s)) parameter l y.words x.slots (host_in (parts_of s)) b) refl e
      where
        go : (c : Checking) → points_run (flow_code (parts_of s)) parameter l y.words x.slots (host_in (parts_of s)) b ≡ c → Is (after_points s parameter x l y c)
            → Is (after_points s parameter x h y (points_run (flow_code (parts_of s)) parameter h y.words x.slots (host_in (parts_of s)) b))
        go (stop r z) q e = absurd (refused-not_accepted e)
        go (on z) q e =
            ap (after_points s parameter x h y) (points_higher (flow_code (parts_of s)) parameter l h le y.words x.slots (host_in (parts_of s)) b z q) ∙ e

    charges : (y : Layout) (b : FlowBudget) → Is (after_rounds s parameter x l y (charged l b (fixed_points_charges (flow_code (parts_of s)) parameter y.words)))
        → Is (after_rounds s parameter x h y (charged h b (fixed_points_charges (flow_code (parts_of s)) parameter y.words)))
    charges y b e = go (charged l b (fixed_points_charges (flow_code (parts_of s)) parameter y.words)) refl e
      where
        go : (c : Charged) → charged l b (fixed_points_charges (flow_code (parts_of s)) parameter y.words) ≡ c → Is (after_rounds s parameter x l y c)
            → Is (after_rounds s parameter x h y (charged h b (fixed_points_charges (flow_code (parts_of s)) parameter y.words)))
        go (Err z) q e = absurd (refused-not_accepted e)
        go (Ok z) q e =
            ap (after_rounds s parameter x h y) (charged_higher l h le b z (fixed_points_charges (flow_code (parts_of s)) parameter y.words) q) ∙ rounds y z e

    stages : (lent : Lent) (n : ℕ) (b : FlowBudget) → Is (after_graph s parameter x l (graph_of (flow_code (parts_of s)) x l lent n b))
        → Is (after_graph s parameter x h (graph_of (flow_code (parts_of s)) x h lent n b))
    stages lent n b e = go (graph_of (flow_code (parts_of s)) x l lent n b) refl e
      where
        go : (r : Staged) → graph_of (flow_code (parts_of s)) x l lent n b ≡ r → Is (after_graph s parameter x l r)
            → Is (after_graph s parameter x h (graph_of (flow_code (parts_of s)) x h lent n b))
        go (Err z) q e = absurd (refused-not_accepted e)
        go (Ok z) q e = ap (after_graph s parameter x h) (graph_higher l h le (flow_code (parts_of s)) x lent n b z.0 z.1 q) ∙ charges z.0 z.1 e

    judging : (n : Lengths) (b : FlowBudget) → Is (judged s parameter x l n b) → Is (judged s parameter x h n b)
    judging n b e = go (ltb n.scratch (4 * x.count)) e
      where
        lent : Lent
        lent = record { sets = n.sets; records = n.records }

        go : (t : Bool) → Is (pick t (refused NoRoom x.id b) (after_graph s parameter x l (graph_of (flow_code (parts_of s)) x l lent n.scratch b)))
            → Is (pick t (refused NoRoom x.id b) (after_graph s parameter x h (graph_of (flow_code (parts_of s)) x h lent n.scratch b)))
        go true e = absurd (refused-not_accepted e)
        go false e = stages lent n.scratch b e

  -- the acceptance, its budget and its counts are the same; what is left in the buffers depends on them alone
  pub accepted_higher : (n : Lengths) (b : FlowBudget) → Is (outcome_of s parameter l n b) → Is (outcome_of s parameter h n b)
  unfolding outcome_of
  accepted_higher n b e = go (checked_of s) e
    where
      go : (c : Result Script Refused) → Is (after_checks s parameter l n b c) → Is (after_checks s parameter h n b c)
      go (Err r) e = absurd (refused-not_accepted e)
      go (Ok x) e = judging x n b e
