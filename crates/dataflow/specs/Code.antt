-- Code as a list of instructions: its program, its leaders, its blocks.
use Rattle.std.specs.Prelude.{Bool, true, false, ◌||◌, List, [], ◌∷◌, map, ℕ, zero, suc, eqb, length, get_or}
use Rattle.dataflow.specs.Program.{Program}
use Rattle.dataflow.specs.Lists.{pick, some, elem}
use Rattle.dataflow.specs.Blocks.{BlockGraph}

-- An instruction, as far as the flow goes: slot_inputs and slot_output, what it empties, and where control goes.
pub record Instruction : Type 0 where
  pub inputs : List ℕ
  pub outputs : List ℕ
  pub emptied : List ℕ
  -- whether it ends a block: kinds 12 and 38 to 41
  pub ends : Bool
  pub targets : List ℕ
  pub is_await : Bool

-- what stands past the last instruction
abbrev pub outside : Instruction
outside = record { inputs = []; outputs = []; emptied = []; ends = true; targets = []; is_await = false }

module _ (code : List Instruction) where
  abbrev pub instruction_at : ℕ → Instruction
  instruction_at i = get_or code i outside

  abbrev pub await_at : ℕ → Bool
  await_at i = (instruction_at i).is_await

  -- Document 01: "After kinds 12, 38 and 39 comes any of their targets, after 40 and 41 nothing, after the rest the next instruction".
  abbrev pub successors : ℕ → List ℕ
  successors i = pick (instruction_at i).ends (instruction_at i).targets (suc i ∷ [])

  abbrev pub program : (ℕ → Bool) → Program ℕ ℕ
  program parameter = record {
    entry = 0;
    successors = successors;
    reads = λ i s. elem s (instruction_at i).inputs;
    writes = λ i s. elem s (instruction_at i).outputs;
    empties = λ i s. elem s (instruction_at i).emptied;
    parameter = parameter;
  }

  -- Document 01, module 3: "Leaders: 0, every target, and what follows kinds 12, 38 to 41. An unreachable target makes a leader too."
  abbrev pub leader : ℕ → Bool
  leader zero = true
  leader (suc i) = (instruction_at i).ends || some (λ (k : Instruction). elem (suc i) k.targets) code

-- k before the blocks that follow it: a block of its own if the next instruction is a leader (t), else the first of the block that follows
abbrev pub prepend : Bool → ℕ → List (List ℕ) → List (List ℕ)
prepend true k r = (k ∷ []) ∷ r
prepend false k [] = (k ∷ []) ∷ []
prepend false k (c ∷ r) = (k ∷ c) ∷ r

abbrev pub head_or : ℕ → List ℕ → ℕ
head_or d [] = d
head_or d (x ∷ l) = x

abbrev pub last_or : ℕ → List ℕ → ℕ
last_or d [] = d
last_or d (x ∷ l) = last_or x l

-- where t stands in the list
abbrev pub index_of : ℕ → List ℕ → ℕ
index_of t [] = 0
index_of t (x ∷ l) = pick (eqb t x) 0 (suc (index_of t l))

module _ (code : List Instruction) where
  -- the m instructions from k on, cut before each leader
  abbrev pub blocks_from : ℕ → ℕ → List (List ℕ)
  blocks_from k zero = []
  blocks_from k (suc m) = prepend (leader code (suc k)) k (blocks_from (suc k) m)

  -- flow.rs `graph`: the blocks by start, each as the list of its instructions
  abbrev pub blocks : List (List ℕ)
  blocks = blocks_from 0 (length code)

  -- the blocks' first instructions
  abbrev pub leaders : List ℕ
  leaders = map (head_or 0) blocks

  -- block b; past the last block, one that goes nowhere
  abbrev pub body : ℕ → List ℕ
  body b = get_or blocks b (length code ∷ [])

  -- an edge for each successor of the last instruction. "Equal branch targets give two edges."
  abbrev pub block_successors : ℕ → List ℕ
  block_successors b = map (λ t. index_of t leaders) (successors code (last_or 0 (body b)))

  abbrev pub block_graph : BlockGraph ℕ ℕ
  block_graph = record { body = body; first = λ b. head_or 0 (body b); successors = block_successors; entry = 0 }
