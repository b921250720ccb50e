-- What a call with a list of words does: its contract, read so, is `WordsVerified` and its kin. Assumes nothing.
use mathlib.Core.Path.{◌≡◌, refl, sym, ap, subst, ◌∙◌}
use mathlib.Core.List.{List, ◌++◌, append_assoc}
use Prim.Native.Nat.{ℕ, ◌+◌, ◌*◌, ◌-◌, ◌/◌, ◌%◌, ◌≤◌}
use native.Mathlib.Omega.{arith}
use lib.ListN.{length, replicate, replicate-append-replicate}
use Rattle.dataflow.specs.Lists.{range}
use Rattle.budget.specs.declared.FlowBudget.{FlowBudget}
use Rattle.budget.specs.declared.Limits.{Limits}
use Rattle.budget.specs.Budget.{todays, counted, NowhereLower}
use Rattle.sheet.specs.Decode.{parts_of}
use Rattle.script.specs.Script.{flow_code}
use Rattle.outcome.specs.Outcome.{Outcome, accepted, refused}
use Rattle.outcome.specs.Buffers.{joined, padded, block_record, list_after}
use Rattle.outcome.proofs.JoinedLaws.{joined-range}
use Rattle.blocklist.specs.List.{list_word}
use Rattle.blocklist.proofs.ListLaws.{list_is}
use Rattle.answers.specs.declared.AnswerWithin.{AnswerWithin}
use Rattle.answers.specs.Answers.{Answer, outcome_by}
use Rattle.answers.proofs.LimitLaws.{counted-above}
use Rattle.flow.specs.Call.{Lists, Own, With, Called}
use Rattle.flow.specs.Verify.{lengths_of, WordsVerified}
use Rattle.flow.specs.Within.{WordsVerifiedUnder, WordsVerifiedWithin}
use Rattle.flow.specs.With.{WordsVerifiedWith}

-- words before zeros, and more zeros
padded-more : (l : List ℕ) (n k : ℕ) → length l ≤ n → padded (n + k) l ≡ padded n l ++ replicate k 0
padded-more l n k le =
    let e : (n + k) - length l ≡ (n - length l) + k = omega arith in
    ap (λ (j : ℕ). l ++ replicate j 0) e
    ∙ ap (λ (r : List ℕ). l ++ r) (sym (replicate-append-replicate (n - length l) k 0))
    ∙ sym (append_assoc l (replicate (n - length l) 0) (replicate k 0))

-- a list of words by whole records
whole : (n : ℕ) → n ≡ 6 * (n / 6) + n % 6
whole n = omega arith

-- the list: the records of the blocks, then zeros
pub words_are : (s list v w : List ℕ) (o : Outcome) (list' : List ℕ) → Lists list_word s (length list / 6) (length list) o list'
    → list' ≡ list_after s (lengths_of list v w) o ++ replicate (length list % 6) 0
words_are s list v w (refused r id b) list' h =
    h.is
    ∙ list_is h.cells (block_record (flow_code (parts_of s))) (λ c. refl) 0 (length list) (λ c lt. absurd (omega arith)) (omega arith)
    ∙ ap (λ (k : ℕ). replicate {A = ℕ} k 0) (let z : length list - 0 ≡ 6 * (length list / 6) + length list % 6 = omega arith in z)
    ∙ sym (replicate-append-replicate (6 * (length list / 6)) (length list % 6) 0)
words_are s list v w (accepted id blocks awaits b) list' h =
    let f : ℕ → List ℕ = block_record (flow_code (parts_of s)) in
    h.is
    ∙ list_is h.cells f (λ c. refl) blocks (length list) h.record_is (omega (arith, h.lent))
    ∙ ap (λ (k : ℕ). padded k (joined f (range 0 blocks))) (whole (length list))
    ∙ padded-more (joined f (range 0 blocks)) (6 * (length list / 6)) (length list % 6) (omega (arith, joined-range f 6 (λ c. refl) blocks, h.lent))

module _ {s : List ℕ} {b : FlowBudget} {list list' v v' w w' : List ℕ} where
  -- with the sheet's own parameters, under any limits as they count
  pub words_under : {l : Limits} (r : Answer) → Called 6 list_word s (Own s l b) list list' v v' w w' (outcome_by r)
      → WordsVerifiedUnder s l b list list' v v' w w' r
  words_under r h = record { verified = h.says; blocks = words_are s list v w (outcome_by r) list' h.blocks }

  -- `verify`
  pub words_verified : (r : Answer) → Called 6 list_word s (Own s todays b) list list' v v' w w' (outcome_by r) → WordsVerified s b list list' v v' w w' r
  words_verified r h = record { verified = h.says; blocks = words_are s list v w (outcome_by r) list' h.blocks }

  -- `verify_within`
  pub words_within : (l : Limits) (r : AnswerWithin) → Called 6 list_word s (Own s (counted l) b) list list' v v' w w' (outcome_by r.answer)
      → r.limits ≡ l → WordsVerifiedWithin s l b list list' v v' w w' r
  words_within l r h e = record { verified = words_under r.answer h; limits = e }

  -- `verify_with`
  pub words_with : (added : List ℕ) (l : Limits) (r : AnswerWithin)
      → Called 6 list_word s (With s added (counted l) b) list list' v v' w w' (outcome_by r.answer) → r.limits ≡ l
      → WordsVerifiedWith s added l b list list' v v' w w' r
  words_with added l r h e = record { verified = h.says; blocks = words_are s list v w (outcome_by r.answer) list' h.blocks; limits = e }

-- under today's limits this is what `verify` does
words-own : {s : List ℕ} {b : FlowBudget} {list list' v v' w w' : List ℕ} {r : Answer} → WordsVerifiedUnder s todays b list list' v v' w w' r
    → WordsVerified s b list list' v v' w w' r
words-own h = record { verified = h.verified; blocks = h.blocks }

-- today's limits, and any above them: it does what `verify` does
pub words-todays : {s : List ℕ} {l : Limits} {b : FlowBudget} {list list' v v' w w' : List ℕ} {r : AnswerWithin} → NowhereLower todays l
    → WordsVerifiedWithin s l b list list' v v' w w' r → WordsVerified s b list list' v v' w w' r.answer
words-todays {s} {l} {b} {list} {list'} {v} {v'} {w} {w'} {r} le h =
    words-own (subst (λ (k : Limits). WordsVerifiedUnder s k b list list' v v' w w' r.answer) (counted-above l le) h.verified)
