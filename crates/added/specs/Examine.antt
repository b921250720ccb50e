-- What the examination of a sheet with an added set answers and leaves, and the test of such a set.
use Rattle.std.specs.Prelude.{◌≡◌, ◌||◌, List, ℕ, ◌*◌, ltb, length, Result, Ok, Err}
use Rattle.dataflow.specs.Lists.{pick}
use Rattle.budget.specs.declared.FlowBudget.{FlowBudget}
use Rattle.budget.specs.declared.Limits.{Limits}
use Rattle.format.specs.declared.refusal.Refusal.TheVariants.{NoSuchSlot, NoRoom}
use Rattle.sheet.specs.declared.script.Script.{Script}
use Rattle.sheet.specs.declared.script.Refused as sheets
use Rattle.sheet.specs.Decode.{parts_of}
use Rattle.instructions.specs.declared.checked.Sheet.{Sheet}
use Rattle.starts.specs.Starts.{parameter_with}
use Rattle.outcome.specs.Outcome.{lengths_with}
use Rattle.outcome.specs.Buffers.{sets_after}
use Rattle.examine.specs.declared.Examined.{Examined}
use Rattle.examine.specs.declared.Refused.{Refused}
use Rattle.examine.specs.Examine.{outcome_in, Listing}
use Rattle.added.specs.Added.{width_of, strays}
use Rattle.added.specs.Outcome.{outcome_with}

-- what it does with the words w of scratch and v of the sets buffer (primed: at exit)
pub record ExaminesWith (s added : List ℕ) (l : Limits) (records : ℕ) (b : FlowBudget) (w w' v v' : List ℕ) (r : Result Examined Refused) : Type 0 where
  pub answer : outcome_in r ≡ outcome_with s added l (lengths_with w v records) b
  pub sets : v' ≡ sets_after s (parameter_with (parts_of s) added) (lengths_with w v records) (outcome_in r)
  pub listing : (x : Examined) → r ≡ Ok x → Listing s records w' x.layout

-- whether an added set is taken, with so many words of scratch: the early 10, then 7
abbrev pub tested_of : List ℕ → Script → ℕ → Result (Unit {0}) sheets.Refused
tested_of added x scratch =
    pick (ltb scratch (4 * x.count) || ltb (length added) (width_of x.slots)) (Err (record { why = NoRoom; id = x.id }))
    (pick (strays x.slots added) (Err (record { why = NoSuchSlot; id = x.id })) (Ok tt))

-- the answer of the sheet checks, then of this test
abbrev pub if_taken : Result (Unit {0}) sheets.Refused → Script → Result Script sheets.Refused
if_taken (Ok z) x = Ok x
if_taken (Err e) x = Err e

abbrev pub tested_sheet : List ℕ → ℕ → Result Script sheets.Refused → Result Script sheets.Refused
tested_sheet added scratch (Ok x) = if_taken (tested_of added x scratch) x
tested_sheet added scratch (Err e) = Err e

-- an answer is this one, and a sheet in it has these bytes
abbrev pub Tests : List ℕ → Result Script sheets.Refused → Result Sheet sheets.Refused → Type 0
Tests s c (Ok x) = (x.bytes.now ≡ s) × (c ≡ Ok x.script)
Tests s c (Err e) = c ≡ Err e
