-- How `passed` ends: the answer of the judging with the function's id, and the sets buffer as it is left.
use Rattle.std.specs.Prelude.{List, ◌++◌, ℕ, ◌-◌, ◌≤◌, length, take, replicate, Result, Ok, Err}
use Rattle.budget.specs.declared.FlowBudget.{FlowBudget}
use Rattle.format.specs.declared.refusal.Refusal.{Refusal}
use Rattle.sizes.specs.declared.Layout.{Layout}
use Rattle.sizes.specs.declared.Stopped.{Stopped}
use Rattle.memory.specs.Sets.{SetsRoom}
use Rattle.judge.specs.declared.Judged.{Judged}
use Rattle.examine.specs.declared.Examined.{Examined}
use Rattle.examine.specs.declared.Refused.{Refused}

-- as many zeros as there are words
abbrev pub zeros : List ℕ → List ℕ
zeros l = replicate (length l) 0

-- the first n words, then zeros
abbrev pub cut_at : ℕ → List ℕ → List ℕ
cut_at n l = take n l ++ replicate (length l - n) 0

-- a refusal, with the function's id
abbrev pub turned_away : Refusal → ℕ → FlowBudget → Refused
turned_away why id b = record { why = why; id = id; budget = b }

-- an acceptance by the judging, with the function's id
abbrev pub taken_as : ℕ → Judged → Examined
taken_as id j = record { id = id; layout = j.layout; awaits = j.awaits; budget = j.budget }

-- an answer of the judging
abbrev pub examined_by : ℕ → Result Judged Stopped → Result Examined Refused
examined_by id (Ok j) = Ok (taken_as id j)
examined_by id (Err e) = Err (turned_away e.why id e.budget)

-- the words of the sets buffer are enough for all awaits, and these are some of them
pub record Acceptable (y : Layout) (awaits : ℕ) (v : List ℕ) : Type 0 where
  pub room : SetsRoom y (length v)
  pub few : awaits ≤ y.awaits
