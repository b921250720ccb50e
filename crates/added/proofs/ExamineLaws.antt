-- `examine` and `check`: what they do by what their calls do. Assumes nothing.
use mathlib.Core.Path.{◌≡◌, refl, sym, ap, subst, ◌∙◌}
use mathlib.Core.Bool.{Bool, true, false, ◌||◌}
use mathlib.Core.List.{List, []}
use Prim.Native.Nat.{ℕ, ◌*◌, ◌≤◌}
use native.Mathlib.Omega.{arith}
use borrow.Author.Tests.{ltb-false}
use lib.Dec.{ltb}
use lib.ListN.{length}
use Rattle.std.proofs.Common.{Option, None, Some}
use Rattle.std.specs.Option.{MatchOption, unwrap_or}
use Rattle.std.specs.Prelude.{Result, Ok, Err}
use denote.Bor.{Bor}
use Rattle.dataflow.specs.Lists.{pick}
use Rattle.budget.specs.declared.FlowBudget.{FlowBudget}
use Rattle.budget.specs.declared.Limits.{Limits}
use Rattle.format.specs.declared.refusal.Refusal.TheVariants.{NoSuchSlot, NoRoom}
use Rattle.std.proofs.lemmas.Bool.{or_parts}
use Rattle.sheet.specs.declared.script.Script.{Script}
use Rattle.sheet.specs.declared.script.Refused as sheets
use Rattle.sheet.specs.Decode.{parts_of}
use Rattle.sheet.specs.Scripts.{script_of, checked_of}
use Rattle.sheet.proofs.Checked.{passed}
use Rattle.bitset.proofs.SetLaws.{member-zero}
use Rattle.script.specs.Script.{parameter_in}
use Rattle.starts.specs.Starts.{parameter_with}
use Rattle.starts.proofs.StartLaws.{with_none}
use Rattle.outcome.specs.Outcome.{Lengths, lengths_with, Outcome, refused, after_checks, outcome_of}
use Rattle.outcome.specs.Buffers.{sets_after}
use Rattle.examine.specs.declared.Examined.{Examined}
use Rattle.examine.specs.declared.Refused.{Refused}
use Rattle.examine.specs.Examine.{outcome_in, Examines}
use Rattle.examine.specs.Stages.{turned_away, zeros}
use Rattle.added.specs.Added.{width_of, strays, Taken}
use Rattle.added.specs.Outcome.{after_checks_with, outcome_with}
use Rattle.added.specs.Examine.{tested_of, if_taken, tested_sheet, ExaminesWith}
use Rattle.added.proofs.OutcomeLaws.{taken_outcome}

-- neither of two lengths is too short
pub second_long : (a b c d : ℕ) → (ltb a b || ltb c d) ≡ false → d ≤ c
second_long a b c d e = ltb-false c d (or_parts (ltb a b) (ltb c d) e).1

-- ---- what the test of a set says

module _ (x : Script) where
  abbrev tested : Bool → Bool → Result Script sheets.Refused
  tested t u = if_taken (pick t (Err (record { why = NoRoom; id = x.id })) (pick u (Err (record { why = NoSuchSlot; id = x.id })) (Ok tt))) x

  test_bad : (t u : Bool) (e : sheets.Refused) (b : FlowBudget) (o : Outcome) → tested t u ≡ Err e
      → refused e.why e.id b ≡ pick t (refused NoRoom x.id b) (pick u (refused NoSuchSlot x.id b) o)
  test_bad true u e b o q =
      let same : ◌≡◌ {A = sheets.Refused} e (record { why = NoRoom; id = x.id }) = cc in ap (λ (z : sheets.Refused). refused z.why z.id b) same
  test_bad false true e b o q =
      let same : ◌≡◌ {A = sheets.Refused} e (record { why = NoSuchSlot; id = x.id }) = cc in ap (λ (z : sheets.Refused). refused z.why z.id b) same
  test_bad false false e b o q = let z : ◌≡◌ {A = ℕ} 0 1 = cc in absurd (omega arith)

  test_good : (t u : Bool) (y : Script) → tested t u ≡ Ok y → (t ≡ false) × (u ≡ false)
  test_good true u y q = let z : ◌≡◌ {A = ℕ} 0 1 = cc in absurd (omega arith)
  test_good false true y q = let z : ◌≡◌ {A = ℕ} 0 1 = cc in absurd (omega arith)
  test_good false false y q = (refl, refl)

refused-by : (s added : List ℕ) (l : Limits) (n : Lengths) (b : FlowBudget) (e : sheets.Refused) (c : Result Script sheets.Refused)
    → tested_sheet added n.scratch c ≡ Err e → refused e.why e.id b ≡ after_checks_with s added l n b c
refused-by s added l n b e (Err z) q = let same : e ≡ z = cc in ap (λ (u : sheets.Refused). refused u.why u.id b) same
refused-by s added l n b e (Ok x) q =
    test_bad x (ltb n.scratch (4 * x.count) || ltb (length added) (width_of x.slots)) (strays x.slots added) e b _ q

taken-by : (s added : List ℕ) (scratch : ℕ) {x : Script} (c : Result Script sheets.Refused) → checked_of s ≡ c → tested_sheet added scratch c ≡ Ok x
    → Taken (script_of s).slots added
taken-by s added scratch (Err z) ec q = let o : ◌≡◌ {A = ℕ} 0 1 = cc in absurd (omega arith)
taken-by s added scratch {x} (Ok y) ec q =
    let z = test_good y (ltb scratch (4 * y.count) || ltb (length added) (width_of y.slots)) (strays y.slots added) x q in
    let long = second_long scratch (4 * y.count) (length added) (width_of y.slots) z.0 in
    subst (λ (u : Script). Taken u.slots added) (passed s y ec).1 (record { long = long; slots_only = z.1 })

-- ---- the answers

module _ {s : List ℕ} {l : Limits} {records : ℕ} {b : FlowBudget} {w w₁ v v' : List ℕ} where
  -- a refusal by the checks, with the budget as given; the sets buffer is cleared
  module _ {e : sheets.Refused} {r : Refused} (er : r ≡ turned_away e.why e.id b) (ev : v' ≡ zeros v) where
    pub refuses_own : checked_of s ≡ Err e → Examines s (parameter_in (parts_of s)) l records b w w₁ v v' (Err r)
    unfolding outcome_of
    refuses_own ec = record {
      answer = ap (λ (z : Refused). outcome_in (Err z)) er ∙ sym (ap (after_checks s (parameter_in (parts_of s)) l (lengths_with w v records) b) ec);
      sets = ev ∙ ap (λ (z : Refused). sets_after s (parameter_in (parts_of s)) (lengths_with w v records) (outcome_in (Err z))) (sym er);
      listing = λ x q. let o : ◌≡◌ {A = ℕ} 0 1 = cc in absurd (omega arith);
    }

    pub refuses_with : {added : List ℕ} → tested_sheet added (length w) (checked_of s) ≡ Err e → ExaminesWith s added l records b w w₁ v v' (Err r)
    unfolding outcome_with
    refuses_with {added} ec = record {
      answer = ap (λ (z : Refused). outcome_in (Err z)) er ∙ refused-by s added l (lengths_with w v records) b e (checked_of s) ec;
      sets = ev ∙ ap (λ (z : Refused). sets_after s (parameter_with (parts_of s) added) (lengths_with w v records) (outcome_in (Err z))) (sym er);
      listing = λ x q. let o : ◌≡◌ {A = ℕ} 0 1 = cc in absurd (omega arith);
    }

  -- the script is judged: words without a bit add nothing, and a set that is taken makes its slots parameters
  module _ {r : Result Examined Refused} {bytes : List ℕ} (same : bytes ≡ s) where
    pub passes_own : Examines bytes (parameter_with (parts_of bytes) []) l records b w w₁ v v' r
        → Examines s (parameter_in (parts_of s)) l records b w w₁ v v' r
    passes_own h =
        subst (λ (set : ℕ → Bool). Examines s set l records b w w₁ v v' r) (with_none (parts_of s) [] (member-zero 0))
        (subst (λ (t : List ℕ). Examines t (parameter_with (parts_of t) []) l records b w w₁ v v' r) same h)

    pub passes_with : {added : List ℕ} {x : Script} → tested_sheet added (length w) (checked_of s) ≡ Ok x
        → Examines bytes (parameter_with (parts_of bytes) added) l records b w w₁ v v' r → ExaminesWith s added l records b w w₁ v v' r
    passes_with {added} ec g =
        let h = subst (λ (t : List ℕ). Examines t (parameter_with (parts_of t) added) l records b w w₁ v v' r) same g in
        record {
          answer = h.answer ∙ sym (taken_outcome s added l (lengths_with w v records) b (taken-by s added (length w) (checked_of s) refl ec));
          sets = h.sets;
          listing = h.listing;
        }

-- ---- with such a set or without

-- a set as it is lent
abbrev Added : Type 0
Added = Option (Bor (List ℕ))

-- what the test takes has passed the checks
tested-checked : (added : List ℕ) (scratch : ℕ) {x : Script} (c : Result Script sheets.Refused) → tested_sheet added scratch c ≡ Ok x → c ≡ Ok x
tested-checked added scratch (Err z) q = let o : ◌≡◌ {A = ℕ} 0 1 = cc in absurd (omega arith)
tested-checked added scratch {x} (Ok y) q = go (tested_of added y scratch) q
  where
    go : (t : Result (Unit {0}) sheets.Refused) → if_taken t y ≡ Ok x → ◌≡◌ {A = Result Script sheets.Refused} (Ok y) (Ok x)
    go (Ok z) q = q
    go (Err e) q = let o : ◌≡◌ {A = ℕ} 0 1 = cc in absurd (omega arith)

pub was_checked : (s bytes : List ℕ) (scratch : ℕ) (o : Added) (x : Script)
    → MatchOption o ((bytes ≡ s) × (checked_of s ≡ Ok x)) (λ set. (bytes ≡ s) × (tested_sheet set.now scratch (checked_of s) ≡ Ok x))
    → checked_of bytes ≡ Ok x
was_checked s bytes scratch None x h = subst (λ (t : List ℕ). checked_of t ≡ Ok x) (sym h.0) h.1
was_checked s bytes scratch (Some set) x h =
    subst (λ (t : List ℕ). checked_of t ≡ Ok x) (sym h.0) (tested-checked set.now scratch (checked_of s) h.1)

abbrev Does : List ℕ → Limits → ℕ → FlowBudget → List ℕ → List ℕ → List ℕ → List ℕ → Result Examined Refused → Added → Type 0
Does s l records b w w₁ v v' r o =
    MatchOption o (Examines s (parameter_in (parts_of s)) l records b w w₁ v v' r) (λ set. ExaminesWith s set.now l records b w w₁ v v' r)

pub refuses : (s : List ℕ) (l : Limits) (records : ℕ) (b : FlowBudget) (w w₁ v v' : List ℕ) (o : Added) (e : sheets.Refused) (r : Refused)
    → MatchOption o (checked_of s ≡ Err e) (λ set. tested_sheet set.now (length w) (checked_of s) ≡ Err e)
    → r ≡ turned_away e.why e.id b → v' ≡ zeros v → Does s l records b w w₁ v v' (Err r) o
refuses s l records b w w₁ v v' None e r h er ev = refuses_own er ev h
refuses s l records b w w₁ v v' (Some set) e r h er ev = refuses_with er ev h

pub passes : (s bytes : List ℕ) (l : Limits) (records : ℕ) (b : FlowBudget) (w w₁ v v' : List ℕ) (o : Added) (d u : Bor (List ℕ))
    (r : Result Examined Refused) (x : Script)
    → MatchOption o ((bytes ≡ s) × (checked_of s ≡ Ok x)) (λ set. (bytes ≡ s) × (tested_sheet set.now (length w) (checked_of s) ≡ Ok x))
    → d.now ≡ [] → u ≡ unwrap_or o d → Examines bytes (parameter_with (parts_of bytes) u.now) l records b w w₁ v v' r → Does s l records b w w₁ v v' r o
passes s bytes l records b w w₁ v v' None d u r x h empty is g =
    passes_own h.0 (subst (λ (z : List ℕ). Examines bytes (parameter_with (parts_of bytes) z) l records b w w₁ v v' r) (ap (λ (z : Bor (List ℕ)). z.now) is ∙ empty) g)
passes s bytes l records b w w₁ v v' (Some set) d u r x h empty is g =
    passes_with h.0 h.1 (subst (λ (z : Bor (List ℕ)). Examines bytes (parameter_with (parts_of bytes) z.now) l records b w w₁ v v' r) is g)
