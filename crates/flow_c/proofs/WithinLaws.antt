-- Request 5, of the exported call: what two calls of it, and it and `kagari_flow_verify`, have in common. Assumes nothing.
use mathlib.Core.Path.{◌≡◌, refl, sym, ap, subst, ◌∙◌}
use mathlib.Core.List.{List}
use Prim.Native.Nat.{ℕ}
use native.Mathlib.Omega.{arith}
use Rattle.budget.specs.declared.FlowBudget.{FlowBudget}
use Rattle.budget.specs.declared.Limits.{Limits}
use Rattle.budget.specs.Budget.{todays, counted, NowhereLower}
use Rattle.sheet.specs.Decode.{parts_of}
use Rattle.script.specs.Script.{parameter_in}
use Rattle.outcome.specs.Outcome.{Lengths, Outcome, accepted, refused, outcome_of}
use Rattle.demands.specs.Demands.{IsAccepted}
use Rattle.block_records.specs.declared.Block.{Block}
use Rattle.answers.specs.Answers.{Verified}
use Rattle.answers.proofs.LimitLaws.{counted-above, counted-monotone, same_answer, same_sets, same_scratch}
use Rattle.flow.specs.BlocksVerify.{blocks_after, lengths_of}
use Rattle.flow_c.specs.declared.HostLimits.{HostLimits}
use Rattle.flow_c.specs.declared.FlowAnswer.{FlowAnswer}
use Rattle.flow_c.specs.declared.FlowAnswerWithin.{FlowAnswerWithin}
use Rattle.flow_c.specs.Exports.{answer_of, HostVerified}
use Rattle.flow_c.specs.Within.{limits_of, HostVerifiedUnder, HostVerifiedWithin}
use Rattle.flow_c.proofs.HostLaws.{number_some}

-- under today's limits this is what `kagari_flow_verify` does
under-own : {s : List ℕ} {b : FlowBudget} {list list' : List Block} {v v' w w' : List ℕ} {r : FlowAnswer} → HostVerifiedUnder s todays b list list' v v' w w' r
    → HostVerified s b list list' v v' w w' r
under-own h = record { answer = h.answer; table = h.table; verified = h.verified; blocks = h.blocks }

-- "With today's three figures .. every result is the old one", and a higher one counts as today's: `kagari_flow_verify_within` then does what
-- `kagari_flow_verify` does
pub within-todays : {s : List ℕ} {l : HostLimits} {b : FlowBudget} {list list' : List Block} {v v' w w' : List ℕ} {r : FlowAnswerWithin}
    → NowhereLower todays (limits_of l) → HostVerifiedWithin s l b list list' v v' w w' r → HostVerified s b list list' v v' w w' r.answer
within-todays {s} {l} {b} {list} {list'} {v} {v'} {w} {w'} {r} le h =
    under-own (subst (λ (k : Limits). HostVerifiedUnder s k b list list' v v' w w' r.answer) (counted-above (limits_of l) le) h.verified)

-- two calls from one budget, with buffers as long; the first accepts, and its limits are nowhere higher: the same answer, and the same in every buffer
module _ {s : List ℕ} {l h : HostLimits} {b : FlowBudget} {list list' list₁ list₂ : List Block} {v v' v₁ v₂ w w' w₁ w₂ : List ℕ} {r q : FlowAnswerWithin}
    (le : NowhereLower (limits_of l) (limits_of h)) (long : lengths_of list' v' w' ≡ lengths_of list v w) (low : HostVerifiedWithin s l b list list₁ v v₁ w w₁ r)
    (high : HostVerifiedWithin s h b list' list₂ v' v₂ w' w₂ q) (yes : r.answer.number ≡ 0) where
  abbrev n : Lengths
  n = lengths_of list v w

  abbrev under : HostLimits → Outcome
  under k = outcome_of s (parameter_in (parts_of s)) (counted (limits_of k)) n b

  here : Verified s (parameter_in (parts_of s)) (counted (limits_of l)) n b (under l) v₁ w₁
  here = low.verified.verified

  -- the second call's outcome and words, over the first one's lengths
  there : Verified s (parameter_in (parts_of s)) (counted (limits_of h)) n b (under h) v₂ w₂
  there = subst (λ (m : Lengths). Verified s (parameter_in (parts_of s)) (counted (limits_of h)) m b (outcome_of s (parameter_in (parts_of s)) (counted (limits_of h)) m b) v₂ w₂) long
      high.verified.verified

  is_accepted : IsAccepted (under l)
  is_accepted = go (under l) refl
    where
      go : (o : Outcome) → under l ≡ o → IsAccepted (under l)
      go (accepted id blocks awaits left) e = (id, blocks, awaits, left, e)
      go (refused why id left) e =
          absurd (omega (arith, number_some why, yes, ap (λ (f : FlowAnswer). f.number) (low.verified.answer ∙ ap answer_of e)))

  outcome-same : under h ≡ under l
  outcome-same = same_answer (counted-monotone (limits_of l) (limits_of h) le) here there is_accepted

  pub within_higher : (q.answer ≡ r.answer) × (list₂ ≡ list₁) × (v₂ ≡ v₁) × (w₂ ≡ w₁)
  within_higher = (
    high.verified.answer ∙ ap (λ (m : Lengths). answer_of (outcome_of s (parameter_in (parts_of s)) (counted (limits_of h)) m b)) long ∙ ap answer_of outcome-same
        ∙ sym low.verified.answer,
    high.verified.blocks ∙ ap (λ (m : Lengths). blocks_after s m (outcome_of s (parameter_in (parts_of s)) (counted (limits_of h)) m b)) long
        ∙ ap (blocks_after s n) outcome-same ∙ sym low.verified.blocks,
    same_sets (counted-monotone (limits_of l) (limits_of h) le) here there is_accepted,
    same_scratch (counted-monotone (limits_of l) (limits_of h) le) here there is_accepted,
  )
