-- Request 6, of the exported call: with no slot added it is `kagari_flow_verify_within`; a script that it accepts is not refused by 13 or 14 with more
-- slots added. Assumes nothing.
use mathlib.Core.Path.{◌≡◌, refl, sym, ap, ◌∙◌}
use mathlib.Core.Bool.{Bool, true, false}
use mathlib.Core.List.{List}
use mathlib.Core.Logic.{◌↔◌}
use Prim.Native.Nat.{ℕ, ◌*◌, ◌≤◌, ◌<◌}
use native.Mathlib.Omega.{arith}
use lib.ListN.{length, replicate, length-replicate}
use Rattle.bitset.specs.Sets.{member}
use Rattle.bitset.proofs.SetLaws.{member-zero}
use Rattle.budget.specs.declared.FlowBudget.{FlowBudget}
use Rattle.budget.specs.Budget.{counted}
use Rattle.format.specs.declared.refusal.Refusal.{Refusal}
use Rattle.format.specs.declared.refusal.Refusal.TheVariants.{UnfilledSlot, HostOverAwait}
use Rattle.format.specs.Refusals.{number_of}
use Rattle.sheet.specs.Decode.{parts_of}
use Rattle.sheet.specs.Scripts.{script_of}
use Rattle.script.specs.Script.{parameter_in}
use Rattle.outcome.specs.Outcome.{Lengths, Outcome, accepted, refused}
use Rattle.outcome.specs.Buffers.{sets_after}
use Rattle.demands.specs.Demands.{Given, IsAccepted}
use Rattle.demands.specs.Table.{Due}
use Rattle.demands.proofs.TableLaws.{table}
use Rattle.demands.proofs.DemandLaws.{demands}
use Rattle.block_records.specs.declared.Block.{Block}
use Rattle.added.specs.Added.{width_of}
use Rattle.added.proofs.OutcomeLaws.{zeros_sets, zeros_outcome}
use Rattle.added.proofs.GrowLaws.{added_filled, added_held}
use Rattle.answers.specs.Answers.{Verified}
use Rattle.answers.proofs.AnswerLaws.{own-slots}
use Rattle.flow.specs.BlocksVerify.{blocks_after, lengths_of}
use Rattle.flow_c.specs.declared.HostLimits.{HostLimits}
use Rattle.flow_c.specs.declared.FlowAnswer.{FlowAnswer}
use Rattle.flow_c.specs.declared.FlowAnswerWithin.{FlowAnswerWithin}
use Rattle.flow_c.specs.Exports.{answer_of}
use Rattle.flow_c.specs.Within.{limits_of, outcome_under, HostVerifiedWithin}
use Rattle.flow_c.specs.With.{defined_with, HostVerifiedWith}
use Rattle.flow_c.proofs.HostLaws.{number_some, answer-one}

-- ---- nothing added

-- a set of w words or more, without a bit in the first w
module _ {s added : List ℕ} {l : HostLimits} {b : FlowBudget} {list list' : List Block} {v v' w w' : List ℕ} {r : FlowAnswerWithin}
    (clear : (i : ℕ) → i < 64 * width_of (script_of s).slots → member added i ≡ false) (long : width_of (script_of s).slots ≤ length added)
    (h : HostVerifiedWith s added l b list list' v v' w w' r) where
  abbrev n : Lengths
  n = lengths_of list v w

  abbrev own : ℕ → Bool
  own = parameter_in (parts_of s)

  abbrev o : Outcome
  o = outcome_under s (counted (limits_of l)) b list v w

  same_outcome : defined_with s added l b list v w ≡ o
  same_outcome = zeros_outcome s added clear long (counted (limits_of l)) n b

  answer-is : r.answer ≡ answer_of o
  answer-is = h.answer ∙ ap answer_of same_outcome

  sets-are : v' ≡ sets_after s own n o
  sets-are = h.verified.sets ∙ zeros_sets s added clear n (defined_with s added l b list v w) ∙ ap (sets_after s own n) same_outcome

  verified-own : Verified s own (counted (limits_of l)) n b o v' w'
  verified-own = record {
    answer = refl;
    table = table s own (counted (limits_of l)) n b;
    sets = sets-are;
    scratch = h.verified.scratch;
    demands = demands s own (counted (limits_of l)) n b (own-slots s) o refl v' sets-are;
  }

  table-own : (p : Outcome) → Due s own (counted (limits_of l)) n b p ↔ (r.answer ≡ answer_of p)
  table-own p = (
    λ due. answer-is ∙ ap answer_of ((table s own (counted (limits_of l)) n b p).0 due),
    λ e. (table s own (counted (limits_of l)) n b p).1 (answer-one o p (sym answer-is ∙ e)),
  )

  -- the call does what `kagari_flow_verify_within` does: the answer, the limits, and what every buffer holds and means
  pub with_zeros : HostVerifiedWithin s l b list list' v v' w w' r
  with_zeros = record {
    verified = record {
      answer = answer-is;
      table = table-own;
      verified = verified-own;
      blocks = h.blocks ∙ ap (blocks_after s n) same_outcome;
    };
    limits = h.limits;
  }

-- zeros, w of them or more
pub with_zero_words : {s : List ℕ} {l : HostLimits} {b : FlowBudget} {list list' : List Block} {v v' w w' : List ℕ} {r : FlowAnswerWithin} (k : ℕ)
    → width_of (script_of s).slots ≤ k → HostVerifiedWith s (replicate k 0) l b list list' v v' w w' r → HostVerifiedWithin s l b list list' v v' w w' r
with_zero_words k le h = with_zeros (λ i lt. member-zero k i) (omega (arith, le, length-replicate {A = ℕ} k 0)) h

-- ---- more added

-- an answer in numbers that bears a refusal's number is of that refusal
numbered : ℕ → FlowBudget → ℕ → FlowAnswer
numbered id b k = record { number = k; function = id; blocks = 0; awaits = 0; work = b.work; retained = b.retained }

given-number : (r : Refusal) (o : Outcome) → (answer_of o).number ≡ number_of r → Given r o
unfolding numbered
given-number r (accepted id blocks awaits b) e = absurd (omega (arith, number_some r, e))
given-number r (refused q id b) e = (id, b, answer-one (refused q id b) (refused r id b) (ap (numbered id b) e))

-- two calls on one sheet, whatever their limits, budgets and buffers: the first accepts, and the slots that it adds are among those of the second
module _ {s added added' : List ℕ} {l l' : HostLimits} {b b' : FlowBudget} {list list' list₁ list₂ : List Block} {v v' v₁ v₂ w w' w₁ w₂ : List ℕ}
    {r q : FlowAnswerWithin} (more : (x : ℕ) → x < (parts_of s).slots → member added x ≡ true → member added' x ≡ true)
    (first : HostVerifiedWith s added l b list list₁ v v₁ w w₁ r) (second : HostVerifiedWith s added' l' b' list' list₂ v' v₂ w' w₂ q)
    (yes : r.answer.number ≡ 0) where
  is_accepted : IsAccepted (defined_with s added l b list v w)
  is_accepted = go (defined_with s added l b list v w) refl
    where
      go : (o : Outcome) → defined_with s added l b list v w ≡ o → IsAccepted (defined_with s added l b list v w)
      go (accepted id blocks awaits left) e = (id, blocks, awaits, left, e)
      go (refused why id left) e =
          absurd (omega (arith, number_some why, yes, ap (λ (f : FlowAnswer). f.number) (first.answer ∙ ap answer_of e)))

  given : (why : Refusal) → q.answer.number ≡ number_of why → Given why (defined_with s added' l' b' list' v' w')
  given why e = given-number why (defined_with s added' l' b' list' v' w') (sym (ap (λ (f : FlowAnswer). f.number) second.answer) ∙ e)

  -- the second is not refused by 13
  pub with_grown : ¬ (q.answer.number ≡ number_of UnfilledSlot)
  with_grown e = go is_accepted
    where
      go : IsAccepted (defined_with s added l b list v w) → ⊥
      go (id, blocks, awaits, left, a) =
          added_filled s added added' more (counted (limits_of l)) (lengths_of list v w) b id blocks awaits left a (counted (limits_of l')) (lengths_of list' v' w') b'
          (given UnfilledSlot e)

  -- nor by 14
  pub with_grown_held : ¬ (q.answer.number ≡ number_of HostOverAwait)
  with_grown_held e = go is_accepted
    where
      go : IsAccepted (defined_with s added l b list v w) → ⊥
      go (id, blocks, awaits, left, a) =
          added_held s added added' more (counted (limits_of l)) (lengths_of list v w) b id blocks awaits left a (counted (limits_of l')) (lengths_of list' v' w') b'
          (given HostOverAwait e)
