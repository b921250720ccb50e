-- The contract of `verify`: what the call answers and leaves in each lent buffer, for any bytes, any lengths and any budget.
use Rattle.std.specs.Prelude.{◌≡◌, List, ◌++◌, ℕ, ◌/◌, ◌%◌, length, replicate}
use Rattle.budget.specs.declared.FlowBudget.{FlowBudget}
use Rattle.budget.specs.Budget.{todays}
use Rattle.sheet.specs.Decode.{parts_of}
use Rattle.script.specs.Script.{parameter_in}
use Rattle.outcome.specs.Outcome.{Lengths, lengths_with}
use Rattle.outcome.specs.Buffers.{list_after}
use Rattle.answers.specs.Answers.{Answer, outcome_by, Verified}

-- how long the lent buffers are: six words a block record
abbrev pub lengths_of : List ℕ → List ℕ → List ℕ → Lengths
lengths_of list v w = lengths_with w v (length list / 6)

-- What `verify` does with a sheet s, a budget b, and the words of the block list, of the sets buffer and of scratch (primed: at exit).
pub record WordsVerified (s : List ℕ) (b : FlowBudget) (list list' v v' w w' : List ℕ) (r : Answer) : Type 0 where
  -- the answer, the sets buffer and scratch: with the sheet's own parameters and today's limits
  pub verified : Verified s (parameter_in (parts_of s)) todays (lengths_of list v w) b (outcome_by r) v' w'
  -- what the block list holds, on every outcome; words that make no whole record are zero
  pub blocks : list' ≡ list_after s (lengths_of list v w) (outcome_by r) ++ replicate (length list % 6) 0
