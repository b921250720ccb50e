-- `call`: what it does by what its calls do. Assumes nothing.
use mathlib.Core.Path.{◌≡◌, refl, sym, ap, subst, ◌∙◌}
use mathlib.Core.List.{List}
use Prim.Native.Nat.{ℕ, ◌/◌}
use native.Mathlib.Omega.{arith}
use lib.ListN.{length, replicate}
use Rattle.std.proofs.Common.{Option, None, Some}
use Rattle.std.specs.Option.{MatchOption}
use Rattle.std.specs.Prelude.{Result, Ok, Err}
use denote.Bor.{Bor}
use Rattle.dataflow.specs.Lists.{tabulate}
use Rattle.budget.specs.declared.FlowBudget.{FlowBudget}
use Rattle.budget.specs.declared.Limits.{Limits}
use Rattle.sizes.specs.declared.Layout.{Layout}
use Rattle.memory.specs.Cells.{Mem}
use Rattle.memory.specs.Scratch.{scratch}
use Rattle.sheet.specs.Decode.{parts_of}
use Rattle.script.specs.Script.{parameter_in}
use Rattle.outcome.specs.Outcome.{Outcome}
use Rattle.examine.specs.Examine.{outcome_in, Listing, Examines}
use Rattle.examine.specs.declared.Examined.{Examined}
use Rattle.examine.specs.declared.Refused.{Refused}
use Rattle.added.specs.Examine.{ExaminesWith}
use Rattle.added.proofs.WithLaws.{verified-with}
use Rattle.answers.specs.Answers.{Answer, outcome_by, answer_in, layout_in}
use Rattle.answers.proofs.AnswerLaws.{own-slots, same_outcome, verified}
use Rattle.flow.specs.Call.{Lists, Own, With, Called}

module _ {T : Type 0} (listed : Mem → ℕ → ℕ → T) where
  -- the list that is filled from scratch
  pub lists_in : (s : List ℕ) (records n : ℕ) (w₁ : List ℕ) (e : Result Examined Refused) → ((x : Examined) → e ≡ Ok x → Listing s records w₁ x.layout)
      → (list' : List T) → list' ≡ tabulate 0 n (listed (scratch (layout_in e) w₁) (layout_in e).blocks) → Lists listed s records n (outcome_in e) list'
  lists_in s records n w₁ (Ok x) listing list' is = let g = listing x refl in record {
    cells = scratch x.layout w₁;
    lent = g.lent;
    record_is = g.record_is;
    is = is;
  }
  lists_in s records n w₁ (Err z) listing list' is = record {
    cells = scratch (layout_in (Err z)) w₁;
    lent = omega arith;
    record_is = λ c lt. absurd (omega arith);
    is = is;
  }

  -- with the answer as it is handed on, of the layout that is handed on
  lists_by : (s : List ℕ) (records n : ℕ) (w₁ : List ℕ) (e : Result Examined Refused) → ((x : Examined) → e ≡ Ok x → Listing s records w₁ x.layout)
      → (y : Layout) → y ≡ layout_in e → (list' : List T) → list' ≡ tabulate 0 n (listed (scratch y w₁) y.blocks) → (a : Answer) → a ≡ answer_in e
      → Lists listed s records n (outcome_by a) list'
  lists_by s records n w₁ e listing y ey list' is a ea =
      subst (λ (o : Outcome). Lists listed s records n o list') (sym (ap outcome_by ea ∙ same_outcome e))
      (lists_in s records n w₁ e listing list' (is ∙ ap (λ (z : Layout). tabulate 0 n (listed (scratch z w₁) z.blocks)) ey))

  -- the call, with or without an added set
  pub calls : (per : ℕ) (s : List ℕ) (l : Limits) (b : FlowBudget) (list list' : List T) (v v' w w' w₁ : List ℕ) (o : Option (Bor (List ℕ)))
      (e : Result Examined Refused) (y : Layout) (a : Answer) (k : ℕ)
      → MatchOption o (Examines s (parameter_in (parts_of s)) l (length list / per) b w w₁ v v' e) (λ set. ExaminesWith s set.now l (length list / per) b w w₁ v v' e)
      → y ≡ layout_in e → list' ≡ tabulate 0 (length list) (listed (scratch y w₁) y.blocks) → a ≡ answer_in e → w' ≡ replicate k 0 → k ≡ length w₁
      → length w₁ ≡ length w
      → MatchOption o (Called per listed s (Own s l b) list list' v v' w w' (outcome_by a)) (λ set. Called per listed s (With s set.now l b) list list' v v' w w' (outcome_by a))
  calls per s l b list list' v v' w w' w₁ None e y a k h ey is ea cleared same long = record {
    says = verified (own-slots s) h a ea (cleared ∙ ap (λ (j : ℕ). replicate j 0) same) long;
    blocks = lists_by s (length list / per) (length list) w₁ e h.listing y ey list' is a ea;
  }
  calls per s l b list list' v v' w w' w₁ (Some set) e y a k h ey is ea cleared same long = record {
    says = verified-with h (outcome_by a) (ap outcome_by ea ∙ same_outcome e) (cleared ∙ ap (λ (j : ℕ). replicate j 0) same) long;
    blocks = lists_by s (length list / per) (length list) w₁ e h.listing y ey list' is a ea;
  }

-- what the examination of either says of its blocks
pub listings : (s : List ℕ) (l : Limits) (records : ℕ) (b : FlowBudget) (w w₁ v v' : List ℕ) (o : Option (Bor (List ℕ))) (e : Result Examined Refused)
    → MatchOption o (Examines s (parameter_in (parts_of s)) l records b w w₁ v v' e) (λ set. ExaminesWith s set.now l records b w w₁ v v' e)
    → (x : Examined) → e ≡ Ok x → Listing s records w₁ x.layout
listings s l records b w w₁ v v' None e h = h.listing
listings s l records b w w₁ v v' (Some set) e h = h.listing
