-- The exported calls do what their contracts say, by what their calls do. Assumes nothing.
use mathlib.Core.Path.{◌≡◌, refl, sym, ap, subst, ◌∙◌}
use mathlib.Core.List.{List, [], ◌∷◌}
use Prim.Native.Nat.{ℕ, ◌^◌, ◌<◌}
use native.Mathlib.Omega.{arith}
use lib.Dec.{eqb}
use lib.ListN.{get_or}
use Rattle.dataflow.specs.Lists.{pick}
use Rattle.budget.specs.declared.FlowBudget.{FlowBudget}
use Rattle.budget.specs.declared.Limits.{Limits}
use Rattle.format.specs.Refusals.{number_of}
use Rattle.format.specs.declared.refusal.Refusal.{Refusal}
use Rattle.format.specs.declared.refusal.Refusal.TheVariants.{
  ShortSheet,
  WrongKind,
  BadBody,
  LeftOver,
  TooMany,
  NoCode,
  NoSuchSlot,
  NoSuchTarget,
  OpenEnd,
  NoRoom,
  StateLimit,
  WorkLimit,
  UnfilledSlot,
  HostOverAwait,
  FactsLimit,
  ParameterTwice,
}
use Rattle.outcome.specs.Outcome.{Outcome, accepted, refused}
use Rattle.budget.specs.Budget.{todays, counted}
use Rattle.sheet.specs.Decode.{parts_of}
use Rattle.script.specs.Script.{parameter_in}
use Rattle.block_records.specs.declared.Block.{Block}
use Rattle.added.specs.Outcome.{VerifiedWith}
use Rattle.answers.specs.declared.AnswerWithin.{AnswerWithin}
use Rattle.answers.specs.Answers.{Answer, outcome_by, Verified}
use Rattle.flow.specs.BlocksVerify.{blocks_after, lengths_of, BlocksVerified}
use Rattle.flow.specs.BlocksWithin.{BlocksVerifiedUnder, BlocksVerifiedWithin}
use Rattle.flow.specs.BlocksWith.{BlocksVerifiedWith}
use Rattle.flow_c.specs.declared.HostLimits.{HostLimits}
use Rattle.flow_c.specs.declared.FlowAnswer.{FlowAnswer}
use Rattle.flow_c.specs.declared.FlowAnswerWithin.{FlowAnswerWithin}
use Rattle.flow_c.specs.Exports.{answer_of, HostVerified}
use Rattle.flow_c.specs.Within.{limits_of, host_limits_of, answer_within_of, HostVerifiedUnder, HostVerifiedWithin}
use Rattle.flow_c.specs.With.{HostVerifiedWith}

-- a refusal's number fits
pub number_small : (r : Refusal) → number_of r < 2 ^ 32
number_small ShortSheet = omega arith
number_small WrongKind = omega arith
number_small BadBody = omega arith
number_small LeftOver = omega arith
number_small TooMany = omega arith
number_small NoCode = omega arith
number_small NoSuchSlot = omega arith
number_small NoSuchTarget = omega arith
number_small OpenEnd = omega arith
number_small NoRoom = omega arith
number_small StateLimit = omega arith
number_small WorkLimit = omega arith
number_small UnfilledSlot = omega arith
number_small HostOverAwait = omega arith
number_small FactsLimit = omega arith
number_small ParameterTwice = omega arith

-- and is none of an acceptance
pub number_some : (r : Refusal) → 0 < number_of r
number_some ShortSheet = omega arith
number_some WrongKind = omega arith
number_some BadBody = omega arith
number_some LeftOver = omega arith
number_some TooMany = omega arith
number_some NoCode = omega arith
number_some NoSuchSlot = omega arith
number_some NoSuchTarget = omega arith
number_some OpenEnd = omega arith
number_some NoRoom = omega arith
number_some StateLimit = omega arith
number_some WorkLimit = omega arith
number_some UnfilledSlot = omega arith
number_some HostOverAwait = omega arith
number_some FactsLimit = omega arith
number_some ParameterTwice = omega arith

-- ---- an answer in numbers is that of one outcome

-- the refusals by number; 0 and 16 are none
abbrev refusals : List Refusal
refusals =
    ShortSheet ∷ ShortSheet ∷ WrongKind ∷ BadBody ∷ LeftOver ∷ TooMany ∷ NoCode ∷ NoSuchSlot ∷ NoSuchTarget ∷ OpenEnd ∷ NoRoom ∷ StateLimit
    ∷ WorkLimit ∷ UnfilledSlot ∷ HostOverAwait ∷ FactsLimit ∷ ShortSheet ∷ ParameterTwice ∷ []

abbrev budget_in : FlowAnswer → FlowBudget
budget_in f = record { work = f.work; retained = f.retained }

abbrev back : FlowAnswer → Outcome
back f = pick (eqb f.number 0) (accepted f.function f.blocks f.awaits (budget_in f)) (refused (get_or refusals f.number ShortSheet) f.function (budget_in f))

back_is : (o : Outcome) → back (answer_of o) ≡ o
back_is (accepted id blocks awaits b) = refl
back_is (refused ShortSheet id b) = refl
back_is (refused WrongKind id b) = refl
back_is (refused BadBody id b) = refl
back_is (refused LeftOver id b) = refl
back_is (refused TooMany id b) = refl
back_is (refused NoCode id b) = refl
back_is (refused NoSuchSlot id b) = refl
back_is (refused NoSuchTarget id b) = refl
back_is (refused OpenEnd id b) = refl
back_is (refused NoRoom id b) = refl
back_is (refused StateLimit id b) = refl
back_is (refused WorkLimit id b) = refl
back_is (refused UnfilledSlot id b) = refl
back_is (refused HostOverAwait id b) = refl
back_is (refused FactsLimit id b) = refl
back_is (refused ParameterTwice id b) = refl

pub answer-one : (o p : Outcome) → answer_of o ≡ answer_of p → o ≡ p
answer-one o p e = sym (back_is o) ∙ ap back e ∙ back_is p

-- ---- the call

pub hosted : (s : List ℕ) (c b : FlowBudget) (list list' : List Block) (v v' w w' : List ℕ) (a : Answer) (r : FlowAnswer) → c ≡ b
    → BlocksVerified s c list list' v v' w w' a → r ≡ answer_of (outcome_by a) → HostVerified s b list list' v v' w w' r
hosted s c b list list' v v' w w' a r q h e = subst (λ (d : FlowBudget). HostVerified s d list list' v v' w w' r) q (record {
  answer = e ∙ ap answer_of h.verified.answer;
  table = λ o. (λ due. e ∙ ap answer_of ((h.verified.table o).0 due), λ p. (h.verified.table o).1 (answer-one (outcome_by a) o (sym e ∙ p)));
  verified = subst (λ (o : Outcome). Verified s (parameter_in (parts_of s)) todays (lengths_of list v w) c o v' w') h.verified.answer h.verified;
  blocks = h.blocks ∙ ap (blocks_after s (lengths_of list v w)) h.verified.answer;
})

-- ---- with limits

hosted-under : (s : List ℕ) (l : Limits) (c b : FlowBudget) (list list' : List Block) (v v' w w' : List ℕ) (a : Answer) (r : FlowAnswer) → c ≡ b
    → BlocksVerifiedUnder s l c list list' v v' w w' a → r ≡ answer_of (outcome_by a) → HostVerifiedUnder s l b list list' v v' w w' r
hosted-under s l c b list list' v v' w w' a r q h e = subst (λ (d : FlowBudget). HostVerifiedUnder s l d list list' v v' w w' r) q (record {
  answer = e ∙ ap answer_of h.verified.answer;
  table = λ o. (λ due. e ∙ ap answer_of ((h.verified.table o).0 due), λ p. (h.verified.table o).1 (answer-one (outcome_by a) o (sym e ∙ p)));
  verified = subst (λ (o : Outcome). Verified s (parameter_in (parts_of s)) l (lengths_of list v w) c o v' w') h.verified.answer h.verified;
  blocks = h.blocks ∙ ap (blocks_after s (lengths_of list v w)) h.verified.answer;
})

pub hosted-within : (s : List ℕ) (l : HostLimits) (k : Limits) (c b : FlowBudget) (list list' : List Block) (v v' w w' : List ℕ) (a : AnswerWithin)
    (r : FlowAnswerWithin) → c ≡ b → k ≡ limits_of l → BlocksVerifiedWithin s k c list list' v v' w w' a → r ≡ answer_within_of a
    → HostVerifiedWithin s l b list list' v v' w w' r
hosted-within s l k c b list list' v v' w w' a r q p h e = record {
  verified = hosted-under s (counted (limits_of l)) c b list list' v v' w w' a.answer r.answer q
      (subst (λ (m : Limits). BlocksVerifiedUnder s (counted m) c list list' v v' w w' a.answer) p h.verified) (ap (λ (z : FlowAnswerWithin). z.answer) e);
  limits = ap (λ (z : FlowAnswerWithin). z.limits) e ∙ ap host_limits_of (h.limits ∙ p);
}

-- ---- with an added set

pub hosted-with : (s added : List ℕ) (l : HostLimits) (k : Limits) (c b : FlowBudget) (list list' : List Block) (v v' w w' : List ℕ) (a : AnswerWithin)
    (r : FlowAnswerWithin) → c ≡ b → k ≡ limits_of l → BlocksVerifiedWith s added k c list list' v v' w w' a → r ≡ answer_within_of a
    → HostVerifiedWith s added l b list list' v v' w w' r
hosted-with s added l k c b list list' v v' w w' a r q p g e =
    let is : r.answer ≡ answer_of (outcome_by a.answer) = ap (λ (z : FlowAnswerWithin). z.answer) e in
    let h : BlocksVerifiedWith s added (limits_of l) c list list' v v' w w' a =
    subst (λ (m : Limits). BlocksVerifiedWith s added m c list list' v v' w w' a) p g in
    subst (λ (d : FlowBudget). HostVerifiedWith s added l d list list' v v' w w' r) q (record {
      answer = is ∙ ap answer_of h.verified.answer;
      table = λ o. (λ due. is ∙ ap answer_of ((h.verified.table o).0 due), λ p. (h.verified.table o).1 (answer-one (outcome_by a.answer) o (sym is ∙ p)));
      verified = subst (λ (o : Outcome). VerifiedWith s added (counted (limits_of l)) (lengths_of list v w) c o v' w') h.verified.answer h.verified;
      blocks = h.blocks ∙ ap (blocks_after s (lengths_of list v w)) h.verified.answer;
      limits = ap (λ (z : FlowAnswerWithin). z.limits) e ∙ ap host_limits_of h.limits;
    })
