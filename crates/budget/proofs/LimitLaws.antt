-- Limits as they count. Assumes nothing.
use mathlib.Core.Path.{◌≡◌, refl, ap, ◌∙◌}
use mathlib.Core.Bool.{Bool, true, false}
use mathlib.Core.List.{List}
use Prim.Native.Nat.{ℕ, ◌-◌, ◌^◌, ◌<◌, min}
use native.Mathlib.Omega.{arith}
use lib.Dec.{leb}
use borrow.Author.Tests.{le-leb, leb-true}
use Rattle.dataflow.specs.Lists.{pick}
use Rattle.dataflow.specs.Charges.{Spent, within, crossed, saturating_sum, spend}
use Rattle.dataflow.proofs.Charges.{spend-limit}
use Rattle.budget.specs.declared.FlowBudget.{FlowBudget}
use Rattle.budget.specs.declared.Limits.{Limits}
use Rattle.std.specs.Prelude.{Ok}
use Rattle.budget.specs.Budget.{todays, counted, NowhereLower, after_spent, charged, over_facts, retained}
use Rattle.budget.proofs.BudgetLaws.{over-not_ok}

-- today's count as they are
pub counted-todays : counted todays ≡ todays
counted-todays = refl

-- a sum of work that fits no u64 crosses them
pub counted-below : (l k : Limits) → k ≡ counted l → k.work < 2 ^ 64 - 1
counted-below l k e = omega (arith, ap (λ (z : Limits). z.work) e)

-- one by one
abbrev limits_of : ℕ → ℕ → ℕ → Limits
limits_of a b c = record { work = a; state = b; facts = c }

pub counted_is : (l t : Limits) (a b c : ℕ) → t ≡ todays → a ≡ min l.work t.work → b ≡ min l.state t.state
    → c ≡ min l.facts t.facts → record { work = a; state = b; facts = c } ≡ counted l
counted_is l t a b c e p q r =
    ap (λ (n : ℕ). limits_of n b c) p ∙ ap (λ (n : ℕ). limits_of (min l.work t.work) n c) q
    ∙ ap (λ (n : ℕ). limits_of (min l.work t.work) (min l.state t.state) n) r
    ∙ ap (λ (z : Limits). limits_of (min l.work z.work) (min l.state z.state) (min l.facts z.facts)) e

-- ---- under limits that are nowhere lower, what was met is met

module _ (l h : Limits) (le : NowhereLower l h) where
  pub charged_higher : (b left : FlowBudget) (cs : List ℕ) → charged l b cs ≡ Ok left → charged h b cs ≡ Ok left
  unfolding charged
  charged_higher b left cs e = go (spend l.work b.work cs) refl e
    where
      go : (r : Spent) → spend l.work b.work cs ≡ r → after_spent b r ≡ Ok left → after_spent b (spend h.work b.work cs) ≡ Ok left
      go (within w) q e = ap (after_spent b) (spend-limit l.work h.work b.work w cs le.work q) ∙ e
      go (crossed w) q e = absurd (over-not_ok e)

  pub retained_higher : (b left : FlowBudget) (n : ℕ) → retained l b n ≡ Ok left → retained h b n ≡ Ok left
  unfolding retained
  retained_higher b left n e = go (leb (saturating_sum b.retained n) l.facts) refl e
    where
      next : FlowBudget
      next = record { work = b.work; retained = saturating_sum b.retained n }

      go : (t : Bool) → leb (saturating_sum b.retained n) l.facts ≡ t → pick t (Ok next) (over_facts next) ≡ Ok left
          → pick (leb (saturating_sum b.retained n) h.facts) (Ok next) (over_facts next) ≡ Ok left
      go true q e = rw (le-leb (saturating_sum b.retained n) h.facts (omega (arith, leb-true (saturating_sum b.retained n) l.facts q, le.facts))) e
      go false q e = absurd (over-not_ok e)
