-- Work: charges in the source's order, spent one by one against a limit.
use Rattle.std.specs.Prelude.{Bool, List, [], ◌∷◌, ◌++◌, map, ℕ, ◌+◌, ◌*◌, ◌-◌, ◌^◌, min, leb, length, replicate}
use Rattle.dataflow.specs.Analyses.{Direction, initialization, liveness}
use Rattle.dataflow.specs.Lists.{pick, sum, range}
use Rattle.dataflow.specs.Blocks.{points_of}
use Rattle.dataflow.specs.Code.{Instruction, instruction_at, block_successors, block_graph}
use Rattle.dataflow.specs.Worklist.{Visit, unchanged, changed}
use Rattle.dataflow.specs.Search.{turns, search_from, all_turns}
use Rattle.dataflow.specs.Results.{block_count, predecessors, swept, searched, result}

-- ── Spending ──

-- the work after all charges, or the first sum above the limit
pub data Spent : Type 0 where
  within crossed : ℕ → Spent

-- Document 01: "work and retained bytes, both u64, sums saturating".
abbrev pub saturating_sum : ℕ → ℕ → ℕ
saturating_sum a b = min (2 ^ 64 - 1) (a + b)

-- flow.rs `charge`, for each of the list in turn, from work w: the sum that crosses the limit ends it.
abbrev pub spend : ℕ → ℕ → List ℕ → Spent
spend limit w [] = within w
spend limit w (c ∷ l) =
    let r : Spent = spend limit (saturating_sum w c) l in
    pick (leb (saturating_sum w c) limit) r (crossed (saturating_sum w c))

-- what follows charges that were met; a crossed limit stays
abbrev pub and_then : Spent → (ℕ → Spent) → Spent
and_then (within w) f = f w
and_then (crossed w) f = crossed w

-- ── The charges of the stages ──

-- solver.rs `propagate`, a visit: `reads` are the edges whose sets it reads, `dependents` those that it queues after a change
abbrev pub visit_charges : ℕ → (ℕ → List ℕ) → (ℕ → List ℕ) → Visit → List ℕ
visit_charges words reads dependents (unchanged b) = (words * (length (reads b) + 3) + 1) ∷ []
visit_charges words reads dependents (changed b) = (words * (length (reads b) + 3) + 1) ∷ replicate (length (dependents b)) 1

-- the visits of a trace, whose latest stands first
abbrev pub trace_charges : ℕ → (ℕ → List ℕ) → (ℕ → List ℕ) → List Visit → List ℕ
trace_charges words reads dependents [] = []
trace_charges words reads dependents (x ∷ l) = trace_charges words reads dependents l ++ visit_charges words reads dependents x

-- Document 01's X, what `index` of availability.rs charges over an empty list: how many ranges there are, 0. It adds nothing, but work that was
-- handed in above the limit ends here.
abbrev pub index_charges : List ℕ
index_charges = 0 ∷ []

module _ (code : List Instruction) where
  -- `graph`, the first loop: one for each instruction
  abbrev pub leader_charges : List ℕ
  leader_charges = replicate (length code) 1

  -- what an instruction's reads are charged: one more than its inputs. Document 01's V, what one `visit` of availability.rs charges beside them, is
  -- no charge at all over an empty list.
  abbrev pub cost_at : ℕ → ℕ
  cost_at i = length (instruction_at code i).inputs + 1

  -- `graph`, the second loop: the blocks by start, each instruction's reads
  abbrev pub operand_charges : List ℕ
  operand_charges = map cost_at (points_of (block_graph code) (range 0 (block_count code)))

  -- `reachability`: one for each edge of each block taken
  abbrev pub reachability_charges : List ℕ
  reachability_charges = replicate (sum (map (λ b. length (block_successors code b)) (swept code).taken)) 1

  -- `postorder`: 3 × B, then one for each turn
  abbrev pub postorder_charges : List ℕ
  postorder_charges =
      (3 * block_count code) ∷ replicate (turns (block_successors code) (all_turns (block_successors code) (block_count code))
      (search_from (block_successors code) (block_count code) 0)) 1

  -- `propagate`: the seeding, then the visits
  abbrev pub propagate_charges : (ℕ → Bool) → ℕ → Direction → List ℕ
  propagate_charges parameter words initialization =
      (block_count code + length (searched code).finished)
      ∷ trace_charges words (predecessors code) (block_successors code) (result code parameter words initialization).trace
  propagate_charges parameter words liveness =
      (block_count code + length (searched code).finished)
      ∷ trace_charges words (block_successors code) (predecessors code) (result code parameter words liveness).trace

  -- up to where the blocks are counted: the index, then the first loop of `graph`
  abbrev pub counting_charges : List ℕ
  counting_charges = index_charges ++ leader_charges

  -- the rest of `graph`, then `reachability`
  abbrev pub building_charges : List ℕ
  building_charges = operand_charges ++ reachability_charges

  -- both rounds of `propagate`
  abbrev pub rounds_charges : (ℕ → Bool) → ℕ → List ℕ
  rounds_charges parameter words = propagate_charges parameter words initialization ++ propagate_charges parameter words liveness

  -- `fixed_points`
  abbrev pub fixed_points_charges : (ℕ → Bool) → ℕ → List ℕ
  fixed_points_charges parameter words = postorder_charges ++ rounds_charges parameter words
