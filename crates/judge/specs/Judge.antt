-- flow.rs `verify` on a sheet that passed the checks: what `outcome` says, and what both buffers then hold.
use Rattle.std.specs.Prelude.{◌≡◌, Bool, true, List, ℕ, ◌+◌, ◌/◌, ◌≤◌, ◌<◌, length, Result, Ok, Err}
use Rattle.budget.specs.declared.FlowBudget.{FlowBudget}
use Rattle.budget.specs.declared.Limits.{Limits}
use Rattle.budget.specs.Budget.{charged}
use Rattle.memory.specs.Cells.{Mem, cell}
use Rattle.memory.specs.Names.{hosts_row}
use Rattle.sizes.specs.declared.Layout.{Layout}
use Rattle.memory.specs.Scratch.{scratch, Room}
use Rattle.memory.specs.Sets.{sets, SetsRoom}
use Rattle.sheet.specs.declared.script.Script.{Script}
use Rattle.sheet.specs.Decode.{parts_of}
use Rattle.script.specs.Script.{flow_code, host_in}
use Rattle.sizes.specs.declared.Lent.{Lent}
use Rattle.sizes.specs.declared.Stopped.{Stopped}
use Rattle.instructions.specs.Sound.{Sound}
use Rattle.leaders.specs.Index.{Fits}
use Rattle.blocks.specs.Blocks.{Block}
use Rattle.edges.specs.Flow.{Flows, Fresh}
use Rattle.fixed_points.specs.FixedPoints.{Sets}
use Rattle.dataflow.specs.Charges.{fixed_points_charges}
use Rattle.graph.specs.Graph.{Holding}
use Rattle.answer.specs.Words.{Means}
use Rattle.verdict.specs.Points.{points}
use Rattle.outcome.specs.Outcome.{lengths_with, Outcome, accepted, refused, after_rounds, judged}
use Rattle.awaits.specs.Awaits.{Entries}
use Rattle.judge.specs.declared.Judged.{Judged}

-- an answer as that of the call, for the function with this id
abbrev pub outcome_with : ℕ → Result Judged Stopped → Outcome
outcome_with id (Ok j) = accepted id j.layout.blocks j.awaits j.budget
outcome_with id (Err e) = refused e.why id e.budget

-- what `solve` begins with: the parameters are slots of the script
pub record Begun (s : List ℕ) (parameter : ℕ → Bool) (x : Script) (y : Layout) (m t : Mem) : Type 0 where
  pub sound : Sound s x
  pub fits : Fits s x y
  pub awaits : y.awaits ≡ x.awaits
  pub below : (i : ℕ) → parameter i ≡ true → i < x.slots
  pub holding : Holding s parameter x y m
  pub fresh : Fresh y t

-- what `hosts_if` does: the row of the host slots, if there is an await
pub record Hosted (s : List ℕ) (x : Script) (y : Layout) (m m' : Mem) : Type 0 where
  pub row : 0 < x.awaits → Means y.words (cell m' (hosts_row y.blocks)) (host_in (parts_of s))
  pub others : (k : ℕ) → (k ≡ hosts_row y.blocks → ⊥) → cell m' k ≡ cell m k

-- what the words then hold of a script that is accepted
pub record Finished (s : List ℕ) (parameter : ℕ → Bool) (y : Layout) (m t : Mem) : Type 0 where
  pub block : (c : ℕ) → c < y.blocks → Block (flow_code (parts_of s)) parameter m c
  pub flows : Flows (flow_code (parts_of s)) parameter y m
  pub both : Sets (flow_code (parts_of s)) parameter y t
  pub facts : Entries y t 0 (points (flow_code (parts_of s)) parameter y.words)

-- what `solve` does: an answer that accepts carries the layout that it was given
pub record Solves (s : List ℕ) (parameter : ℕ → Bool) (x : Script) (y : Layout) (l : Limits) (b : FlowBudget) (m' t' : Mem) (r : Result Judged Stopped) : Type 0 where
  pub answer : outcome_with x.id r
      ≡ after_rounds s parameter x l y (charged l b (fixed_points_charges (flow_code (parts_of s)) parameter y.words))
  pub finished : (j : Judged) → r ≡ Ok j → (j.layout ≡ y) × Finished s parameter y m' t'

-- of the words of both buffers, w and v: they have room, and they hold a script that is accepted
pub record AcceptedWords (s : List ℕ) (parameter : ℕ → Bool) (x : Script) (lent : Lent) (w v : List ℕ) (y : Layout) : Type 0 where
  pub fits : Fits s x y
  pub words : y.words ≡ (x.slots + 63) / 64
  pub awaits : y.awaits ≡ x.awaits
  pub room : Room y (length w)
  pub sets_room : SetsRoom y (length v)
  pub records : y.blocks ≤ lent.records
  pub finished : Finished s parameter y (scratch y w) (sets y v)

-- what `judge` does
pub record Judges (s : List ℕ) (parameter : ℕ → Bool) (x : Script) (l : Limits) (records : ℕ) (b : FlowBudget) (w w' v v' : List ℕ) (r : Result Judged Stopped) : Type 0 where
  pub answer : outcome_with x.id r ≡ judged s parameter x l (lengths_with w v records) b
  pub accepts : (j : Judged) → r ≡ Ok j → AcceptedWords s parameter x (record { sets = length v; records = records }) w' v' j.layout
