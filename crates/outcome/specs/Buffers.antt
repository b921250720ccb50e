-- What the call leaves in each lent buffer.
use Rattle.std.specs.Prelude.{Bool, List, [], ◌∷◌, ◌++◌, ℕ, suc, ◌+◌, ◌*◌, ◌-◌, ◌/◌, length, get_or, replicate}
use Rattle.dataflow.specs.Lists.{range, flag}
use Rattle.dataflow.specs.Code.{Instruction, leaders, block_successors}
use Rattle.dataflow.specs.Results.{reachable, init_exit, live_entry}
use Rattle.sheet.specs.Decode.{parts_of}
use Rattle.script.specs.Script.{flow_code}
use Rattle.verdict.specs.Points.{Point, points}
use Rattle.answer.specs.Words.{words_of}
use Rattle.outcome.specs.Outcome.{Lengths, Outcome, accepted, refused}

-- the answer, then zeros, n words in all
abbrev pub padded : ℕ → List ℕ → List ℕ
padded n l = l ++ replicate (n - length l) 0

-- f of each of the numbers, one after the other
abbrev pub joined : {A : Type 0} → (A → List ℕ) → List A → List ℕ
joined f [] = []
joined f (a ∷ l) = f a ++ joined f l

-- whether `reachability` marks block c, as a block record says it
abbrev pub reachable_mark : List Instruction → ℕ → ℕ
reachable_mark code c = flag (reachable code c)

-- document 01, a block record: start, end, reachable, successor count, two successors (unused ones 0)
abbrev pub block_record : List Instruction → ℕ → List ℕ
block_record code c =
    get_or (leaders code) c (length code) ∷ get_or (leaders code) (suc c) (length code) ∷ reachable_mark code c ∷ length (block_successors code c)
    ∷ get_or (block_successors code c) 0 0 ∷ get_or (block_successors code c) 1 0 ∷ []

module _ (code : List Instruction) (parameter : ℕ → Bool) (words : ℕ) where
  -- "per block initialized at its exit, then live at its entry"
  abbrev pub block_sets : ℕ → List ℕ
  block_sets c = words_of words (init_exit code parameter words c) ++ words_of words (live_entry code parameter words c)

  -- "then per reachable await, ascending, its instruction and live words"
  abbrev pub await_words : Point → List ℕ
  await_words p = p.instruction ∷ words_of words p.live

-- the words of the block list, six a record, for so many blocks
abbrev pub block_list : List ℕ → ℕ → List ℕ
block_list s blocks = joined (block_record (flow_code (parts_of s))) (range 0 blocks)

-- and of the sets buffer
abbrev pub set_words : List ℕ → (ℕ → Bool) → ℕ → ℕ → List ℕ
set_words s parameter words blocks =
    joined (block_sets (flow_code (parts_of s)) parameter words) (range 0 blocks)
    ++ joined (await_words (flow_code (parts_of s)) parameter words) (points (flow_code (parts_of s)) parameter words)

-- "After a refusal all lent memory is zero. After acceptance scratch is zero, and so is what lies past the answer."
abbrev pub list_after : List ℕ → Lengths → Outcome → List ℕ
list_after s n (accepted id blocks awaits b) = padded (6 * n.records) (block_list s blocks)
list_after s n (refused r id b) = replicate (6 * n.records) 0

abbrev pub sets_after : List ℕ → (ℕ → Bool) → Lengths → Outcome → List ℕ
sets_after s parameter n (accepted id blocks awaits b) = padded n.sets (set_words s parameter (((parts_of s).slots + 63) / 64) blocks)
sets_after s parameter n (refused r id b) = replicate n.sets 0

abbrev pub scratch_after : Lengths → List ℕ
scratch_after n = replicate n.scratch 0
