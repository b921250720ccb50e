-- Demands 2 and 3 of document 00, of the bytes handed in, the answer, and the words that the sets buffer then holds.
use Rattle.std.specs.Prelude.{◌≡◌, Bool, true, false, ◌||◌, List, ◌↔◌, ℕ, ◌+◌, ◌/◌, ◌<◌, replicate}
use Rattle.std.proofs.Math.Option.{none}
use Rattle.bitset.specs.Sets.{member, ones}
use Rattle.dataflow.specs.Analyses.{written}
use Rattle.dataflow.specs.Program.{Program}
use Rattle.dataflow.specs.Paths.{Path, Reached}
use Rattle.dataflow.specs.Demand.{Unfilled, Least, Held, Faulty}
use Rattle.dataflow.specs.Code.{Instruction, program, successors, await_at}
use Rattle.dataflow.specs.Results.{block_count, Ended}
use Rattle.budget.specs.declared.FlowBudget.{FlowBudget}
use Rattle.format.specs.declared.refusal.Refusal.{Refusal}
use Rattle.format.specs.declared.refusal.Refusal.TheVariants.{NoRoom, StateLimit, WorkLimit, UnfilledSlot, HostOverAwait, FactsLimit}
use Rattle.sheet.specs.Decode.{parts_of, refusal, id_of}
use Rattle.script.specs.Script.{flow_code, host_in}
use Rattle.dataflow.specs.BlockPaths.{ReachedBlock, FilledThrough, LiveFrom}
use Rattle.outcome.specs.Outcome.{Outcome, accepted, refused}
use Rattle.outcome.specs.Buffers.{reachable_mark}
use Rattle.answer.specs.Held.{initialized_words, live_words, await_instruction, await_set}

-- an answer refuses with r
abbrev pub Given : Refusal → Outcome → Type 0
Given r o = (id : ℕ) × (b : FlowBudget) × (o ≡ refused r id b)

-- an answer accepts
abbrev pub IsAccepted : Outcome → Type 0
IsAccepted o = (id : ℕ) × (blocks : ℕ) × (awaits : ℕ) × (b : FlowBudget) × (o ≡ accepted id blocks awaits b)

module _ (s : List ℕ) where
  -- the script that the bytes decode to: its instructions and host slots
  abbrev pub code : List Instruction
  code = flow_code (parts_of s)

  abbrev pub host : ℕ → Bool
  host = host_in (parts_of s)

  -- document 01: w, the words of a set
  abbrev pub width : ℕ
  width = ((parts_of s).slots + 63) / 64

  -- with these slots as parameters
  module _ (parameter : ℕ → Bool) where
    -- as a program, whose paths begin at instruction 0
    abbrev pub script : Program ℕ ℕ
    script = program code parameter

    -- "A script is faulty exactly when .."
    abbrev pub FaultyScript : Type 0
    FaultyScript = Faulty script (await_at code) host

-- What an acceptance with these numbers says; v are the words of the sets buffer.
pub record Accepts (s : List ℕ) (parameter : ℕ → Bool) (id blocks awaits : ℕ) (v : List ℕ) : Type 0 where
  pub passed : refusal s ≡ none
  pub function : id ≡ id_of s
  pub all_blocks : blocks ≡ block_count (code s)
  -- "it reads, along every path from its first instruction, only slots that are parameters or were written earlier on that path"
  pub reads : (before : List ℕ) (i x : ℕ) → Path (successors (code s)) 0 before i → (script s parameter).reads i x ≡ true
      → (parameter x || written (script s parameter) before x) ≡ true
  -- "each await that some such path reaches", once, ascending, and no other
  pub ascending : (j k : ℕ) → j < k → k < awaits → await_instruction v (width s) blocks j < await_instruction v (width s) blocks k
  pub listed : (i : ℕ) → ((k : ℕ) × (k < awaits) × (await_instruction v (width s) blocks k ≡ i)) ↔ ((await_at (code s) i ≡ true) × Reached (script s parameter) i)
  -- its set is "the least with which every path beginning at that await reads only slots saved or written since"
  pub least : (k : ℕ) → k < awaits → Least (script s parameter) (await_instruction v (width s) blocks k) (await_set v (width s) blocks k)
  -- "A set is of slots below the slot count"
  pub slots_below : (k x : ℕ) → k < awaits → await_set v (width s) blocks k x ≡ true → x < (parts_of s).slots
  -- and "holds no host handle"
  pub no_host : (k x : ℕ) → k < awaits → await_set v (width s) blocks k x ≡ true → host s x ≡ false
  -- demand 2: for each block that a path reaches, what every path from 0 through its last instruction has filled
  pub initialized : (c : ℕ) → c < blocks → ReachedBlock (code s) parameter c → (x : ℕ)
      → (member (initialized_words v (width s) c) x ≡ true) ↔ FilledThrough (code s) parameter c x
  -- and what some path from its first instruction reads before writing
  pub live : (c : ℕ) → c < blocks → ReachedBlock (code s) parameter c → (x : ℕ)
      → (member (live_words v (width s) c) x ≡ true) ↔ LiveFrom (code s) parameter c x
  -- the `reachable` of its block record is 1 exactly if a path reaches the block
  pub reachable : (c : ℕ) → c < blocks → (reachable_mark (code s) c ≡ 1) ↔ ReachedBlock (code s) parameter c
  -- for each other block all ones and zero (case i)
  pub unreached_initialized : (c : ℕ) → c < blocks → (ReachedBlock (code s) parameter c → ⊥) → initialized_words v (width s) c ≡ replicate (width s) ones
  pub unreached_live : (c : ℕ) → c < blocks → (ReachedBlock (code s) parameter c → ⊥) → live_words v (width s) c ≡ replicate (width s) 0
  -- "A script that passes" is not faulty
  pub sound : FaultyScript s parameter → ⊥

-- What the answer o says.
pub record Demands (s : List ℕ) (parameter : ℕ → Bool) (o : Outcome) (v : List ℕ) : Type 0 where
  -- of a sheet that passes the checks: the runs that define sets and work end by themselves, so what bounds their turns decides nothing
  pub ended : refusal s ≡ none → Ended (code s) parameter (width s)
  pub accepts : (id blocks awaits : ℕ) (b : FlowBudget) → o ≡ accepted id blocks awaits b → Accepts s parameter id blocks awaits v
  -- 13 comes with a path that reads an unfilled slot, 14 with a reached await whose least set holds a handle
  pub unfilled : Given UnfilledSlot o → Unfilled (script s parameter)
  pub held : Given HostOverAwait o → Held (script s parameter) (await_at (code s)) (host s)
  -- "One that passes the sheet checks, has its buffers and meets no limit is accepted exactly when it isn't faulty."
  pub exact : refusal s ≡ none → ¬ (Given NoRoom o) → ¬ (Given StateLimit o) → ¬ (Given WorkLimit o) → ¬ (Given FactsLimit o)
      → IsAccepted o ↔ (¬ (FaultyScript s parameter))
