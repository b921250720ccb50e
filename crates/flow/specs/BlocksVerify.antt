-- The contract of `verify`: that of every form of the call, and the block list as structs.
use Rattle.std.specs.Prelude.{◌≡◌, List, ◌++◌, ℕ, ◌-◌, length, replicate}
use Rattle.dataflow.specs.Lists.{tabulate}
use Rattle.budget.specs.declared.FlowBudget.{FlowBudget}
use Rattle.budget.specs.Budget.{todays}
use Rattle.sheet.specs.Decode.{parts_of}
use Rattle.script.specs.Script.{flow_code, parameter_in}
use Rattle.outcome.specs.Outcome.{Lengths, lengths_with, Outcome, accepted, refused}
use Rattle.outcome.specs.Buffers.{block_record}
use Rattle.block_records.specs.declared.Block.{Block}
use Rattle.block_records.specs.Blocks.{block_of, zero_block}
use Rattle.answers.specs.Answers.{Answer, outcome_by, Verified}

module _ (s : List ℕ) where
  -- block c of the sheet
  abbrev pub sheet_block : ℕ → Block
  sheet_block c = block_of (block_record (flow_code (parts_of s)) c)

  -- the block list: after acceptance the blocks, then zeros; after a refusal zeros
  abbrev pub blocks_after : Lengths → Outcome → List Block
  blocks_after n (accepted id blocks awaits b) = tabulate 0 blocks sheet_block ++ replicate (n.records - blocks) zero_block
  blocks_after n (refused r id b) = replicate n.records zero_block

-- how long the lent buffers are
abbrev pub lengths_of : List Block → List ℕ → List ℕ → Lengths
lengths_of list v w = lengths_with w v (length list)

-- What `verify` does with a sheet s, a budget b, the block list, and the words of the sets buffer and of scratch (primed: at exit).
pub record BlocksVerified (s : List ℕ) (b : FlowBudget) (list list' : List Block) (v v' w w' : List ℕ) (r : Answer) : Type 0 where
  -- the answer, the sets buffer and scratch: with the sheet's own parameters and today's limits
  pub verified : Verified s (parameter_in (parts_of s)) todays (lengths_of list v w) b (outcome_by r) v' w'
  -- what the block list holds, on every outcome
  pub blocks : list' ≡ blocks_after s (lengths_of list v w) (outcome_by r)
