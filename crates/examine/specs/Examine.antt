-- What an examination answers and leaves: of the sheet, the set of parameters, the limits, the lengths of the buffers and the budget.
use Rattle.std.specs.Prelude.{◌≡◌, Bool, List, ℕ, ◌≤◌, ◌<◌, length, Result, Ok, Err}
use Rattle.budget.specs.declared.FlowBudget.{FlowBudget}
use Rattle.budget.specs.declared.Limits.{Limits}
use Rattle.sizes.specs.declared.Layout.{Layout}
use Rattle.sizes.specs.Sizes.{scratch_words}
use Rattle.run.specs.Terms.{Bounded}
use Rattle.memory.specs.Scratch.{scratch}
use Rattle.sheet.specs.Decode.{parts_of}
use Rattle.script.specs.Script.{flow_code}
use Rattle.outcome.specs.Outcome.{lengths_with, Outcome, accepted, refused, outcome_of}
use Rattle.outcome.specs.Buffers.{block_record, sets_after}
use Rattle.blocklist.specs.List.{record_in}
use Rattle.examine.specs.declared.Examined.{Examined}
use Rattle.examine.specs.declared.Refused.{Refused}

-- the answer
abbrev pub outcome_in : Result Examined Refused → Outcome
outcome_in (Ok x) = accepted x.id x.layout.blocks x.awaits x.budget
outcome_in (Err e) = refused e.why e.id e.budget

-- scratch holds the words of each block record, and so many records are lent
pub record Listing (s : List ℕ) (records : ℕ) (w : List ℕ) (y : Layout) : Type 0 where
  pub bounded : Bounded y
  pub fits : scratch_words y ≤ length w
  pub lent : y.blocks ≤ records
  pub record_is : (c : ℕ) → c < y.blocks
      → record_in (scratch y w) c ≡ block_record (flow_code (parts_of s)) c

-- what it does with the words w of scratch and v of the sets buffer
pub record Examines (s : List ℕ) (parameter : ℕ → Bool) (l : Limits) (records : ℕ) (b : FlowBudget) (w w' v v' : List ℕ) (r : Result Examined Refused) : Type 0 where
  pub answer : outcome_in r ≡ outcome_of s parameter l (lengths_with w v records) b
  pub sets : v' ≡ sets_after s parameter (lengths_with w v records) (outcome_in r)
  pub listing : (x : Examined) → r ≡ Ok x → Listing s records w' x.layout
