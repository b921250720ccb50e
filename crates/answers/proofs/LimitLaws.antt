-- Request 5, of the call: today's limits and anything above them give the old result; what is accepted under limits is accepted, with the same answer and the
-- same words, under any that are nowhere lower. Assumes nothing.
use mathlib.Core.Path.{◌≡◌, sym, ap, subst, ◌∙◌}
use mathlib.Core.Bool.{Bool}
use mathlib.Core.List.{List}
use Prim.Native.Nat.{ℕ, min}
use native.Mathlib.Omega.{arith}
use Rattle.budget.specs.declared.FlowBudget.{FlowBudget}
use Rattle.budget.specs.declared.Limits.{Limits}
use Rattle.budget.specs.Budget.{todays, counted, NowhereLower}
use Rattle.outcome.specs.Outcome.{Lengths, Outcome}
use Rattle.outcome.specs.Buffers.{sets_after}
use Rattle.outcome.proofs.LimitLaws.{accepted_higher}
use Rattle.demands.specs.Demands.{IsAccepted}
use Rattle.answers.specs.Answers.{Verified}

-- ---- limits as they count

-- one by one
abbrev limits_of : ℕ → ℕ → ℕ → Limits
limits_of a b c = record { work = a; state = b; facts = c }

limits-are : (a b c : ℕ) → a ≡ todays.work → b ≡ todays.state → c ≡ todays.facts → limits_of a b c ≡ todays
limits-are a b c p q r =
    ap (λ (n : ℕ). limits_of n b c) p ∙ ap (λ (n : ℕ). limits_of todays.work n c) q ∙ ap (λ (n : ℕ). limits_of todays.work todays.state n) r

-- limits that are nowhere lower than today's count as today's
pub counted-above : (l : Limits) → NowhereLower todays l → counted l ≡ todays
counted-above l le =
    limits-are (min l.work todays.work) (min l.state todays.state) (min l.facts todays.facts) (omega (arith, le.work))
    (omega (arith, le.state)) (omega (arith, le.facts))

-- limits that are nowhere lower count as nowhere lower
pub counted-monotone : (l h : Limits) → NowhereLower l h → NowhereLower (counted l) (counted h)
counted-monotone l h le = record { work = omega (arith, le.work); state = omega (arith, le.state); facts = omega (arith, le.facts) }

-- ---- the call

module _ {s : List ℕ} {parameter : ℕ → Bool} {n : Lengths} {b : FlowBudget} where
  -- "With today's three figures .. every result is the old one"; "a higher one counts as today's"
  pub verified_todays : {l : Limits} {o : Outcome} {v w : List ℕ} → NowhereLower todays l → Verified s parameter (counted l) n b o v w
      → Verified s parameter todays n b o v w
  verified_todays {l} {o} {v} {w} le h = subst (λ (k : Limits). Verified s parameter k n b o v w) (counted-above l le) h

  -- "a script accepted under a record is accepted with the same sets, from the same budget and buffers, under any record that is nowhere lower"
  module _ {l h : Limits} (le : NowhereLower l h) {o q : Outcome} {v v₂ w w₂ : List ℕ} (low : Verified s parameter l n b o v w)
      (high : Verified s parameter h n b q v₂ w₂) (yes : IsAccepted o) where
    pub same_answer : q ≡ o
    same_answer = go yes
      where
        go : IsAccepted o → q ≡ o
        go (id, blocks, awaits, left, e) =
            high.answer ∙ accepted_higher s parameter l h le id blocks awaits left n b (sym low.answer ∙ e) ∙ sym e

    pub same_sets : v₂ ≡ v
    same_sets = high.sets ∙ ap (sets_after s parameter n) same_answer ∙ sym low.sets

    pub same_scratch : w₂ ≡ w
    same_scratch = high.scratch ∙ sym low.scratch
