-- What filling a block list asks, and the list of words that is filled. Assumes nothing.
use mathlib.Core.Path.{◌≡◌, refl, sym, subst}
use mathlib.Core.Bool.{Bool}
use mathlib.Core.List.{List, ◌++◌}
use Prim.Native.Nat.{ℕ, ◌/◌, ◌%◌, ◌≤◌}
use lib.ListN.{length, replicate}
use Rattle.std.specs.Prelude.{Result, Ok}
use Rattle.dataflow.specs.Lists.{tabulate}
use Rattle.budget.specs.declared.FlowBudget.{FlowBudget}
use Rattle.budget.specs.declared.Limits.{Limits}
use Rattle.sizes.specs.declared.Layout.{Layout}
use Rattle.sizes.specs.Sizes.{scratch_words}
use Rattle.run.specs.Terms.{Bounded}
use Rattle.memory.specs.Scratch.{scratch, Room}
use Rattle.outcome.specs.Buffers.{list_after}
use Rattle.blocklist.specs.List.{list_word}
use Rattle.examine.specs.Examine.{outcome_in, Listing, Examines}
use Rattle.examine.specs.declared.Examined.{Examined}
use Rattle.examine.specs.declared.Refused.{Refused}
use Rattle.answers.specs.Answers.{layout_in}
use Rattle.answers.proofs.AnswerLaws.{listed_bounded, listed_fits}
use Rattle.flow.specs.Verify.{lengths_of}
use Rattle.flow.proofs.CallLaws.{lists_in}
use Rattle.flow.proofs.WordLaws.{words_are}

module _ {s : List ℕ} {parameter : ℕ → Bool} {l : Limits} {records : ℕ} {b : FlowBudget} {w w₁ v v' : List ℕ} {e : Result Examined Refused}
    (h : Examines s parameter l records b w w₁ v v' e) where
  -- scratch has room for the layout
  pub fill_asks : (y : Layout) → y ≡ layout_in e → Room y (length w₁)
  fill_asks y q = subst (λ (z : Layout). Room z (length w₁)) (sym q) (room (layout_in e) (listed_bounded e h.listing) (listed_fits e h.listing))
    where
      room : (z : Layout) → Bounded z → scratch_words z ≤ length w₁ → Room z (length w₁)
      room z a f = record { instructions = a.instructions; blocks = a.blocks; words = a.words; extra = a.extra; fits = f }

-- the list that is filled from scratch
pub list_after_lem : {s : List ℕ} {parameter : ℕ → Bool} {l : Limits} {b : FlowBudget} {w w₁ v v' : List ℕ} {e : Result Examined Refused} (list : List ℕ)
    → Examines s parameter l (length list / 6) b w w₁ v v' e → (f : Result Examined Refused) → e ≡ f
    → tabulate 0 (length list) (list_word (scratch (layout_in f) w₁) (layout_in f).blocks)
    ≡ list_after s (lengths_of list v w) (outcome_in f) ++ replicate (length list % 6) 0
list_after_lem {s} {w = w} {w₁ = w₁} {v = v} list h f q =
    words_are s list v w (outcome_in f) _
    (lists_in list_word s (length list / 6) (length list) w₁ f (subst (λ (z : Result Examined Refused). (x : Examined) → z ≡ Ok x → Listing s (length list / 6) w₁ x.layout) q h.listing) _ refl)
