-- More parameters: a script that is accepted with some is refused by neither 13 nor 14 with more, under whatever limits, with whatever buffers and
-- budget. Assumes nothing.
use mathlib.Core.Path.{◌≡◌, refl, sym, ap, ◌∙◌}
use mathlib.Core.Bool.{Bool, true, false, ◌&&◌, ◌||◌}
use mathlib.Core.List.{List}
use mathlib.Core.Logic.{inl, inr}
use Prim.Native.Nat.{ℕ, ◌<◌}
use native.Mathlib.Omega.{arith}
use borrow.Author.Tests.{ltb-true}
use lib.Dec.{ltb}
use Rattle.bitset.specs.Sets.{member}
use Rattle.dataflow.specs.Code.{await_at}
use Rattle.added.proofs.Parameters.{code_faulty}
use Rattle.budget.specs.declared.FlowBudget.{FlowBudget}
use Rattle.budget.specs.declared.Limits.{Limits}
use Rattle.format.specs.declared.refusal.Refusal.TheVariants.{UnfilledSlot, HostOverAwait}
use Rattle.sheet.specs.Decode.{parts_of}
use Rattle.sheet.specs.Scripts.{script_of}
use Rattle.sheet.proofs.Numbers.{none-later}
use Rattle.script.specs.Script.{parameter_in}
use Rattle.starts.specs.Starts.{parameter_with}
use Rattle.starts.proofs.StartLaws.{own_below}
use Rattle.outcome.specs.Outcome.{Lengths, accepted, refused, outcome_of}
use Rattle.outcome.specs.Buffers.{sets_after}
use Rattle.demands.specs.Demands.{Given, code, host, FaultyScript}
use Rattle.demands.specs.Table.{Due}
use Rattle.demands.proofs.TableLaws.{table}
use Rattle.demands.proofs.DemandLaws.{Below, sound_script, demands}
use Rattle.added.specs.Outcome.{outcome_with, DueWith}
use Rattle.added.specs.Outcome.{bad_sheet, is_judged}
use Rattle.added.proofs.OutcomeLaws.{added-below, taken_outcome, table_with, accepted_taken}

-- ---- any two sets of parameters, one within the other

module _ (s : List ℕ) (parameter parameter' : ℕ → Bool) (below : Below s parameter) (below' : Below s parameter')
    (more : (x : ℕ) → parameter x ≡ true → parameter' x ≡ true) (l : Limits) (n : Lengths) (b : FlowBudget) (id blocks awaits : ℕ) (left : FlowBudget)
    (e : outcome_of s parameter l n b ≡ accepted id blocks awaits left) where
  -- accepted with the smaller, a script is not faulty with the larger
  pub grown_sound : ¬ (FaultyScript s parameter')
  grown_sound f =
      ((demands s parameter l n b below (accepted id blocks awaits left) e (sets_after s parameter n (accepted id blocks awaits left)) refl
      ).accepts id blocks awaits left refl).sound (code_faulty (code s) parameter parameter' more (await_at (code s)) (host s) f)

  module _ (l' : Limits) (n' : Lengths) (b' : FlowBudget) where
    -- so 13 is not its answer
    pub grown_filled : ¬ (Given UnfilledSlot (outcome_of s parameter' l' n' b'))
    grown_filled q =
        grown_sound (inl ((demands s parameter' l' n' b' below' (outcome_of s parameter' l' n' b') refl
        (sets_after s parameter' n' (outcome_of s parameter' l' n' b')) refl).unfilled q))

    -- nor is 14
    pub grown_held : ¬ (Given HostOverAwait (outcome_of s parameter' l' n' b'))
    grown_held q =
        grown_sound (inr ((demands s parameter' l' n' b' below' (outcome_of s parameter' l' n' b') refl
        (sets_after s parameter' n' (outcome_of s parameter' l' n' b')) refl).held q))

-- ---- 13 and 14 with an added set are answers of its parameters

module _ (s added : List ℕ) (l : Limits) (n : Lengths) (b : FlowBudget) where
  due-unfilled : (id : ℕ) (left : FlowBudget) → DueWith s added l n b (refused UnfilledSlot id left)
      → Due s (parameter_with (parts_of s) added) l n b (refused UnfilledSlot id left)
  due-unfilled id left (bad_sheet r e) = absurd (none-later s UnfilledSlot e (omega arith) (omega arith))
  due-unfilled id left (is_judged o e le t d) = d

  due-held : (id : ℕ) (left : FlowBudget) → DueWith s added l n b (refused HostOverAwait id left)
      → Due s (parameter_with (parts_of s) added) l n b (refused HostOverAwait id left)
  due-held id left (bad_sheet r e) = absurd (none-later s HostOverAwait e (omega arith) (omega arith))
  due-held id left (is_judged o e le t d) = d

  unfilled_given : Given UnfilledSlot (outcome_with s added l n b) → Given UnfilledSlot (outcome_of s (parameter_with (parts_of s) added) l n b)
  unfilled_given (id, left, e) =
      (id, left, (table s (parameter_with (parts_of s) added) l n b _).0 (due-unfilled id left ((table_with s added l n b _).1 e)))

  held_given : Given HostOverAwait (outcome_with s added l n b) → Given HostOverAwait (outcome_of s (parameter_with (parts_of s) added) l n b)
  held_given (id, left, e) =
      (id, left, (table s (parameter_with (parts_of s) added) l n b _).0 (due-held id left ((table_with s added l n b _).1 e)))

-- ---- two added sets, the slots of one among those of the other

module _ (s added added' : List ℕ) (more : (x : ℕ) → x < (parts_of s).slots → member added x ≡ true → member added' x ≡ true) where
  -- so are the parameters
  pub with_more : (x : ℕ) → parameter_with (parts_of s) added x ≡ true → parameter_with (parts_of s) added' x ≡ true
  unfolding parameter_with
  with_more x e = go (parameter_in (parts_of s) x) (ltb x (parts_of s).slots) refl e
    where
      go : (u v : Bool) → ltb x (parts_of s).slots ≡ v → (u || (v && member added x)) ≡ true → (u || (v && member added' x)) ≡ true
      go true v q e = refl
      go false true q e = more x (ltb-true x (parts_of s).slots q) e
      go false false q e = e

  -- accepted with the smaller set
  module _ (l : Limits) (n : Lengths) (b : FlowBudget) (id blocks awaits : ℕ) (left : FlowBudget)
      (e : outcome_with s added l n b ≡ accepted id blocks awaits left) (l' : Limits) (n' : Lengths) (b' : FlowBudget) where
    accepted-here : outcome_of s (parameter_with (parts_of s) added) l n b ≡ accepted id blocks awaits left
    accepted-here = sym (taken_outcome s added l n b (accepted_taken s added l n b id blocks awaits left e)) ∙ e

    -- 13 is not the answer with the larger, nor is 14
    pub added_filled : ¬ (Given UnfilledSlot (outcome_with s added' l' n' b'))
    added_filled q =
        grown_filled s (parameter_with (parts_of s) added) (parameter_with (parts_of s) added') (added-below s added) (added-below s added') with_more
        l n b id blocks awaits left accepted-here l' n' b' (unfilled_given s added' l' n' b' q)

    pub added_held : ¬ (Given HostOverAwait (outcome_with s added' l' n' b'))
    added_held q =
        grown_held s (parameter_with (parts_of s) added) (parameter_with (parts_of s) added') (added-below s added) (added-below s added') with_more
        l n b id blocks awaits left accepted-here l' n' b' (held_given s added' l' n' b' q)

-- ---- accepted with the sheet's own parameters alone

module _ (s added : List ℕ) (l : Limits) (n : Lengths) (b : FlowBudget) (id blocks awaits : ℕ) (left : FlowBudget)
    (e : outcome_of s (parameter_in (parts_of s)) l n b ≡ accepted id blocks awaits left) (l' : Limits) (n' : Lengths) (b' : FlowBudget) where
  own-more : (x : ℕ) → parameter_in (parts_of s) x ≡ true → parameter_with (parts_of s) added x ≡ true
  unfolding parameter_with
  own-more x q = ap (λ (u : Bool). u || (ltb x (parts_of s).slots && member added x)) q

  own-here : Below s (parameter_in (parts_of s))
  own-here passed = own_below s (script_of s) (sound_script s passed)

  -- neither is the answer with an added set
  pub own_filled : ¬ (Given UnfilledSlot (outcome_with s added l' n' b'))
  own_filled q =
      grown_filled s (parameter_in (parts_of s)) (parameter_with (parts_of s) added) own-here (added-below s added) own-more
      l n b id blocks awaits left e l' n' b' (unfilled_given s added l' n' b' q)

  pub own_held : ¬ (Given HostOverAwait (outcome_with s added l' n' b'))
  own_held q =
      grown_held s (parameter_in (parts_of s)) (parameter_with (parts_of s) added) own-here (added-below s added) own-more
      l n b id blocks awaits left e l' n' b' (held_given s added l' n' b' q)
