-- The contract of every form of the call, whatever its block list is a slice of. What it says of a list of words is `WordsVerified` and its kin, what
-- it says of one of block structs `BlocksVerified` and its kin (proofs/WordLaws.antt, proofs/BlockLaws.antt).
use Rattle.std.specs.Prelude.{◌≡◌, List, ℕ, ◌/◌, ◌≤◌, ◌<◌, length}
use Rattle.dataflow.specs.Lists.{tabulate}
use Rattle.budget.specs.declared.FlowBudget.{FlowBudget}
use Rattle.budget.specs.declared.Limits.{Limits}
use Rattle.memory.specs.Cells.{Mem}
use Rattle.sheet.specs.Decode.{parts_of}
use Rattle.script.specs.Script.{flow_code, parameter_in}
use Rattle.outcome.specs.Outcome.{Lengths, lengths_with, Outcome, accepted, refused}
use Rattle.outcome.specs.Buffers.{block_record}
use Rattle.blocklist.specs.List.{record_in}
use Rattle.added.specs.Outcome.{VerifiedWith}
use Rattle.answers.specs.Answers.{Verified}

-- how many blocks are listed
abbrev pub blocks_in : Outcome → ℕ
blocks_in (accepted id blocks awaits b) = blocks
blocks_in (refused r id b) = 0

-- a list of n elements is that of cells which hold the record of each of the sheet's blocks; there are no more blocks than records
pub record Lists {T : Type 0} (listed : Mem → ℕ → ℕ → T) (s : List ℕ) (records n : ℕ) (o : Outcome) (list : List T) : Type 0 where
  pub cells : Mem
  pub lent : blocks_in o ≤ records
  pub record_is : (c : ℕ) → c < blocks_in o → record_in cells c ≡ block_record (flow_code (parts_of s)) c
  pub is : list ≡ tabulate 0 n (listed cells (blocks_in o))

-- what a call says of its answer, of the sets buffer and of scratch: with the sheet's own parameters, or with an added set of them
abbrev pub Own : List ℕ → Limits → FlowBudget → Lengths → Outcome → List ℕ → List ℕ → Type 0
Own s l b n o v' w' = Verified s (parameter_in (parts_of s)) l n b o v' w'

abbrev pub With : List ℕ → List ℕ → Limits → FlowBudget → Lengths → Outcome → List ℕ → List ℕ → Type 0
With s added l b n o v' w' = VerifiedWith s added l n b o v' w'

-- What a call does with a sheet s, the block list, and the words of the sets buffer and of scratch (primed: at exit), if o is its answer.
pub record Called {T : Type 0} (per : ℕ) (listed : Mem → ℕ → ℕ → T) (s : List ℕ) (Says : Lengths → Outcome → List ℕ → List ℕ → Type 0)
    (list list' : List T) (v v' w w' : List ℕ) (o : Outcome) : Type 0 where
  pub says : Says (lengths_with w v (length list / per)) o v' w'
  pub blocks : Lists listed s (length list / per) (length list) o list'
