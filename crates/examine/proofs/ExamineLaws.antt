-- `passed`: what its calls ask for, and what it does by what they do. Assumes nothing.
use mathlib.Core.Path.{◌≡◌, refl, sym, ap, subst, ◌∙◌}
use mathlib.Core.Bool.{Bool}
use mathlib.Core.List.{List, ◌++◌}
use Prim.Native.Nat.{ℕ, ◌+◌, ◌-◌, ◌/◌, ◌^◌, ◌≤◌, ◌<◌}
use native.Mathlib.Nat.{mul-le-mul_right}
use native.Mathlib.Omega.{arith}
use lib.ListN.{length, get_or, take, replicate}
use lib.Seq.{length-take-le}
use Rattle.std.specs.Prelude.{Result, Ok, Err}
use Rattle.budget.specs.declared.FlowBudget.{FlowBudget}
use Rattle.budget.specs.declared.Limits.{Limits}
use Rattle.sizes.specs.declared.Layout.{Layout}
use Rattle.sizes.specs.declared.Stopped.{Stopped}
use Rattle.sheet.specs.declared.script.Script.{Script}
use Rattle.sheet.specs.declared.script.Refused as sheets
use Rattle.sheet.specs.Decode.{parts_of}
use Rattle.sheet.specs.Scripts.{script_of, checked_of}
use Rattle.sheet.proofs.Checked.{passed}
use Rattle.script.specs.Script.{flow_code}
use Rattle.instructions.specs.Sound.{Sound}
use Rattle.instructions.proofs.Sound.{sound}
use Rattle.verdict.specs.Points.{points}
use Rattle.check_points.proofs.SpanLaws.{points_few}
use Rattle.outcome.specs.Outcome.{lengths_with, after_checks, judged, outcome_of}
use Rattle.outcome.specs.Buffers.{padded, set_words, sets_after}
use Rattle.demands.proofs.DemandLaws.{accepted_count}
use Rattle.judge.specs.declared.Judged.{Judged}
use Rattle.judge.specs.Judge.{outcome_with, AcceptedWords, Judges}
use Rattle.examine.specs.declared.Examined.{Examined}
use Rattle.examine.specs.declared.Refused.{Refused}
use Rattle.examine.specs.Examine.{outcome_in, Listing, Examines}
use Rattle.examine.specs.Stages.{turned_away, taken_as, zeros, cut_at, examined_by, Acceptable}
use Rattle.sizes.specs.Sizes.{answer_words}
use Rattle.examine.proofs.ContentLaws.{content}
use Rattle.examine.proofs.ListingLaws.{listing}

-- the words of the answer are there
pub answer-inside : (y : Layout) (awaits : ℕ) (v : List ℕ) → Acceptable y awaits v → answer_words y awaits ≤ length v
answer-inside y awaits v h = omega (arith, h.room.fits, mul-le-mul_right (1 + y.words) h.few)

-- words cut behind what they begin with
cut-padded : (l m : List ℕ) (k n : ℕ) → k ≤ length l → length l ≡ n → take k l ≡ m → cut_at k l ≡ padded n m
cut-padded l m k n le long e =
    ap (λ (r : List ℕ). r ++ replicate (length l - k) 0) e
    ∙ ap (λ (i : ℕ). m ++ replicate i 0)
    (let q : length l - k ≡ n - length m = omega (arith, long, ap length e, length-take-le k l le) in q)

-- both name the same answer
outcome-same : (id : ℕ) (r : Result Judged Stopped) → outcome_in (examined_by id r) ≡ outcome_with id r
outcome-same id (Ok j) = refl
outcome-same id (Err e) = refl

-- ---- a sheet that the checks refuse

pub examines_refused : (s : List ℕ) (parameter : ℕ → Bool) (l : Limits) (records : ℕ) (b : FlowBudget) {w w₁ v v' : List ℕ} {e : sheets.Refused} {r : Refused}
    → checked_of s ≡ Err e → r ≡ turned_away e.why e.id b → v' ≡ zeros v → Examines s parameter l records b w w₁ v v' (Err r)
unfolding outcome_of
examines_refused s parameter l records b {w} {w₁} {v} {v'} ec er ev = record {
  answer = ap (λ (z : Refused). outcome_in (Err z)) er ∙ sym (ap (after_checks s parameter l (lengths_with w v records) b) ec);
  sets = ev ∙ ap (λ (z : Refused). sets_after s parameter (lengths_with w v records) (outcome_in (Err z))) (sym er);
  listing = λ x q. let o : ◌≡◌ {A = ℕ} 0 1 = cc in absurd (omega arith);
}

-- ---- a script that passed, and is judged

module _ (s : List ℕ) (parameter : ℕ → Bool) (l : Limits) (records : ℕ) (b : FlowBudget) (w v : List ℕ) (x : Script) (ec : checked_of s ≡ Ok x)
    (d : Result Judged Stopped) (w₁ v₁ : List ℕ) (h : Judges s parameter x l records b w w₁ v v₁ d) where
  pub sound_here : Sound s x
  sound_here = sound s x ec

  judged-is : judged s parameter x l (lengths_with w v records) b ≡ outcome_of s parameter l (lengths_with w v records) b
  unfolding outcome_of
  judged-is = ap (after_checks s parameter l (lengths_with w v records) b) (sym ec)

  script-is : x ≡ script_of s
  script-is = (passed s x ec).1

  answer-is : outcome_in (examined_by x.id d) ≡ outcome_of s parameter l (lengths_with w v records) b
  answer-is = outcome-same x.id d ∙ h.answer ∙ judged-is

  -- it accepted
  module _ (j : Judged) (e : d ≡ Ok j) where
    holds : AcceptedWords s parameter x (record { sets = length v; records = records }) w₁ v₁ j.layout
    holds = h.accepts j e

    count : j.awaits ≡ length (points (flow_code (parts_of s)) parameter j.layout.words)
    count =
        accepted_count s parameter l (lengths_with w v records) b x.id j.layout.blocks j.awaits j.budget
        (sym (h.answer ∙ judged-is) ∙ ap (outcome_with x.id) e)
        ∙ ap (λ (z : Script). length (points (flow_code (parts_of s)) parameter ((z.slots + 63) / 64))) (sym script-is)
        ∙ ap (λ (k : ℕ). length (points (flow_code (parts_of s)) parameter k)) (sym holds.words)

    few : j.awaits ≤ j.layout.awaits
    few = omega (arith, count, points_few s parameter x sound_here j.layout.words, holds.awaits)

    pub acceptable : Acceptable j.layout j.awaits v₁
    acceptable = record { room = holds.sets_room; few = few }

    -- the sets buffer begins with the answer
    answer-there : ((i : ℕ) → get_or v₁ i 0 < 2 ^ 64)
        → take (answer_words j.layout j.awaits) v₁ ≡ set_words s parameter (((parts_of s).slots + 63) / 64) j.layout.blocks
    answer-there fit =
        ap (λ (k : ℕ). take (answer_words j.layout k) v₁) count
        ∙ content (flow_code (parts_of s)) parameter j.layout v₁ holds.sets_room fit
        (points (flow_code (parts_of s)) parameter j.layout.words) holds.finished.both holds.finished.facts
        (omega (arith, few, count))
        ∙ ap (λ (k : ℕ). set_words s parameter k j.layout.blocks)
        (holds.words ∙ ap (λ (k : ℕ). (k + 63) / 64) (sym sound_here.slots_are))

    pub accepts_on : ((i : ℕ) → get_or v₁ i 0 < 2 ^ 64) → length v₁ ≡ length v → (v₂ : List ℕ) (r : Examined) → r ≡ taken_as x.id j
        → v₂ ≡ cut_at (answer_words j.layout j.awaits) v₁ → Examines s parameter l records b w w₁ v v₂ (Ok r)
    accepts_on fit long v₂ r er ev =
        let is : ◌≡◌ {A = Result Examined Refused} (Ok r) (examined_by x.id d) = ap Ok er ∙ ap (examined_by x.id) (sym e) in
        record {
          answer = ap outcome_in is ∙ answer-is;
          sets = ev
              ∙ cut-padded v₁ (set_words s parameter (((parts_of s).slots + 63) / 64) j.layout.blocks) (answer_words j.layout j.awaits) (length v)
              (answer-inside j.layout j.awaits v₁ acceptable) long (answer-there fit)
              ∙ ap (λ (z : Examined). sets_after s parameter (lengths_with w v records) (outcome_in (Ok z))) (sym er);
          listing = λ z q.
              let same : ◌≡◌ {A = Examined} (taken_as x.id j) z = cc in
              subst (Listing s records w₁) (ap (λ (u : Examined). u.layout) same) (listing s parameter x _ w₁ v₁ j.layout holds);
        }

  -- it refused
  pub refuses_on : (e : Stopped) → d ≡ Err e → length v₁ ≡ length v → (v₂ : List ℕ) (r : Refused) → r ≡ turned_away e.why x.id e.budget → v₂ ≡ zeros v₁
      → Examines s parameter l records b w w₁ v v₂ (Err r)
  refuses_on e q long v₂ r er ev =
      let is : ◌≡◌ {A = Result Examined Refused} (Err r) (examined_by x.id d) = ap Err er ∙ ap (examined_by x.id) (sym q) in
      record {
        answer = ap outcome_in is ∙ answer-is;
        sets = ev ∙ ap (λ (n : ℕ). replicate n 0) long
            ∙ ap (λ (z : Refused). sets_after s parameter (lengths_with w v records) (outcome_in (Err z))) (sym er);
        listing = λ i p. let o : ◌≡◌ {A = ℕ} 0 1 = cc in absurd (omega arith);
      }

-- the judging, with the limits as they count
pub judges_counted : {s : List ℕ} {parameter : ℕ → Bool} {x : Script} {l k : Limits} {records : ℕ} {b : FlowBudget} {w w' v v' : List ℕ} {j : Result Judged Stopped}
    → k ≡ l → Judges s parameter x k records b w w' v v' j → Judges s parameter x l records b w w' v v' j
judges_counted {s} {parameter} {x} {records = records} {b = b} {w = w} {w' = w'} {v = v} {v' = v'} {j = j} e h =
    subst (λ (z : Limits). Judges s parameter x z records b w w' v v' j) e h
