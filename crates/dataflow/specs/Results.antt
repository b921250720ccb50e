-- The definitions put together, on code: the blocks' flow graph, the two runs, and the sets that they end with.
use Rattle.std.specs.Prelude.{◌≡◌, Bool, false, List, [], ◌∷◌, reverse, ℕ, suc, ◌*◌, eqb, length, get_or}
use Rattle.dataflow.specs.Analyses.{Direction, initialization, liveness}
use Rattle.dataflow.specs.Lists.{pick, tabulate}
use Rattle.dataflow.specs.Blocks.{block_program}
use Rattle.dataflow.specs.Code.{Instruction, program, blocks, block_successors, block_graph}
use Rattle.dataflow.specs.Worklist.{Ring, State}
use Rattle.dataflow.specs.Framework.{solution}
use Rattle.dataflow.specs.FlowGraph.{FlowGraph, framework, init_at_exit, init_at_entry, live_at_entry, live_out}
use Rattle.dataflow.specs.Search.{Search, Sweep, search, search_from, all_turns, sweep, sweep_from}

-- c once for each of its edges l that goes to b, then the rest
abbrev pub edges_to : ℕ → ℕ → List ℕ → List ℕ → List ℕ
edges_to b c [] rest = rest
edges_to b c (d ∷ l) rest = pick (eqb b d) (c ∷ edges_to b c l rest) (edges_to b c l rest)

-- flow.rs `graph`, the last loop: the predecessors of b among the blocks c, c + 1, .. whose successors are listed
abbrev pub predecessors_from : ℕ → ℕ → List (List ℕ) → List ℕ
predecessors_from b c [] = []
predecessors_from b c (l ∷ ls) = edges_to b c l (predecessors_from b (suc c) ls)

module _ (code : List Instruction) where
  abbrev pub block_count : ℕ
  block_count = length (blocks code)

  abbrev pub predecessors : ℕ → List ℕ
  predecessors b = predecessors_from b 0 (tabulate 0 block_count (block_successors code))

  -- `reachability`, from block 0
  abbrev pub swept : Sweep
  swept = sweep (block_successors code) block_count (sweep_from (block_successors code) block_count 0)

  abbrev pub reachable : ℕ → Bool
  reachable b = get_or swept.visited b false

  -- `postorder`, from block 0
  abbrev pub searched : Search
  searched = search (block_successors code) (all_turns (block_successors code) block_count) (search_from (block_successors code) block_count 0)

  abbrev pub postorder : List ℕ
  postorder = reverse searched.finished

  -- solver.rs `propagate`: every reachable block waits, in reverse postorder for initialization and in postorder for liveness
  abbrev pub seed : Direction → Ring
  seed initialization = record { queue = searched.finished; marks = swept.visited }
  seed liveness = record { queue = postorder; marks = swept.visited }

  -- parameter: the set that block 0 starts from. words: the u64 words of a set
  module _ (parameter : ℕ → Bool) (words : ℕ) where
    abbrev pub flow_graph : Direction → FlowGraph
    flow_graph d = record {
      program = block_program d (program code parameter) (block_graph code);
      predecessors = predecessors;
      reachable = reachable;
      blocks = block_count;
      bits = 64 * words;
    }

    -- the run of one direction to its end
    abbrev pub result : Direction → State (List Bool)
    result d = solution (framework (flow_graph d) d) (seed d)

    -- initialized at a block's exit, and at its entry
    abbrev pub init_exit : ℕ → ℕ → Bool
    init_exit = init_at_exit (flow_graph initialization) (seed initialization)

    abbrev pub init_entry : ℕ → ℕ → Bool
    init_entry = init_at_entry (flow_graph initialization) (seed initialization)

    -- live at a block's entry, and at its exit
    abbrev pub live_entry : ℕ → ℕ → Bool
    live_entry = live_at_entry (flow_graph liveness) (seed liveness)

    abbrev pub live_exit : ℕ → ℕ → Bool
    live_exit = live_out (flow_graph liveness) live_entry

-- The defined runs take so many turns at most; none of them is cut short by that.
pub record Ended (code : List Instruction) (parameter : ℕ → Bool) (words : ℕ) : Type 0 where
  -- no block is left on the stack of `reachability`, nor on that of `postorder`
  pub reachability : (swept code).pending ≡ []
  pub postorder : (searched code).stack ≡ []
  -- and none waits when a round of `propagate` ends
  pub rounds : (d : Direction) → (result code parameter words d).ring.queue ≡ []
