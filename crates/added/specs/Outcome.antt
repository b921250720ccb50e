-- What the call with an added set answers: request 6 with document 01's order for a lent set, "any lent slice too short is 10 ..; then a live bit at or
-- above the slot count is 7".
use Rattle.std.specs.Prelude.{◌≡◌, ◌||◌, List, ◌⊎◌, ◌↔◌, ℕ, ◌*◌, ◌≤◌, ◌<◌, ltb, length, Result, Ok, Err}
use Rattle.std.proofs.Math.Option.{none, some}
use Rattle.dataflow.specs.Lists.{pick}
use Rattle.budget.specs.declared.FlowBudget.{FlowBudget}
use Rattle.budget.specs.declared.Limits.{Limits}
use Rattle.format.specs.declared.refusal.Refusal.{Refusal}
use Rattle.format.specs.declared.refusal.Refusal.TheVariants.{NoSuchSlot, NoRoom}
use Rattle.sheet.specs.declared.script.Script.{Script}
use Rattle.sheet.specs.declared.script.Refused.{Refused}
use Rattle.sheet.specs.Decode.{parts_of, refusal, id_of}
use Rattle.sheet.specs.Scripts.{script_of, checked_of}
use Rattle.starts.specs.Starts.{parameter_with}
use Rattle.outcome.specs.Outcome.{Lengths, Outcome, refused, judged}
use Rattle.outcome.specs.Buffers.{sets_after, scratch_after}
use Rattle.demands.specs.Demands.{Demands}
use Rattle.demands.specs.Table.{Due}
use Rattle.added.specs.Added.{width_of, strays, Stray, Taken}

module _ (s added : List ℕ) (l : Limits) (n : Lengths) (b : FlowBudget) where
  -- the early 10, "`added` shorter than w words .. judged with scratch below 4 × N"; then 7; then the source's steps, the added slots being parameters
  abbrev pub judged_with : Script → Outcome
  judged_with x =
      pick (ltb n.scratch (4 * x.count) || ltb (length added) (width_of x.slots)) (refused NoRoom x.id b)
      (pick (strays x.slots added) (refused NoSuchSlot x.id b) (judged s (parameter_with (parts_of s) added) x l n b))

  -- the sheet checks first
  abbrev pub after_checks_with : Result Script Refused → Outcome
  after_checks_with (Err e) = refused e.why e.id b
  after_checks_with (Ok x) = judged_with x

  -- the answer
  unfoldable pub outcome_with : Outcome
  outcome_with = after_checks_with (checked_of s)

  -- which answer is due: the rows of the refusal table, with the two that the added set brings
  pub data DueWith : Outcome → Type 0 where
    -- 1 to 9 and 17, with the budget as given
    bad_sheet : (r : Refusal) → refusal s ≡ some r → DueWith (refused r (id_of s) b)
    -- the early 10: scratch, or the added set
    no_room_early : refusal s ≡ none → (n.scratch < 4 * (script_of s).count) ⊎ (length added < width_of (script_of s).slots) → DueWith (refused NoRoom (id_of s) b)
    -- 7
    stray_slot : refusal s ≡ none → 4 * (script_of s).count ≤ n.scratch → width_of (script_of s).slots ≤ length added → Stray (script_of s).slots added
        → DueWith (refused NoSuchSlot (id_of s) b)
    -- all others, of a set that is taken
    is_judged : (o : Outcome) → refusal s ≡ none → 4 * (script_of s).count ≤ n.scratch → Taken (script_of s).slots added
        → Due s (parameter_with (parts_of s) added) l n b o → DueWith o

-- What a call does with a sheet s, an added set, the limits l as they count, buffers of the lengths n and a budget b, if o is its answer and v' and w' are
-- the words of the sets buffer and of scratch at exit. A form of the call adds its block list and its form of the answer.
pub record VerifiedWith (s added : List ℕ) (l : Limits) (n : Lengths) (b : FlowBudget) (o : Outcome) (v' w' : List ℕ) : Type 0 where
  -- the answer is the defined one
  pub answer : o ≡ outcome_with s added l n b
  -- each answer is given exactly if it is due
  pub table : (p : Outcome) → DueWith s added l n b p ↔ (o ≡ p)
  -- what both buffers hold, on every outcome
  pub sets : v' ≡ sets_after s (parameter_with (parts_of s) added) n o
  pub scratch : w' ≡ scratch_after n
  -- demands 2 and 3 with the added slots as parameters beside the sheet's own, if the set is taken
  pub demands : Taken (script_of s).slots added → Demands s (parameter_with (parts_of s) added) o v'
