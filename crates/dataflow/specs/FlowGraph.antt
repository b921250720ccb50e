-- The flow graph of numbered blocks, and its two frameworks.
use Rattle.std.specs.Prelude.{Bool, true, false, not, ◌&&◌, ◌||◌, List, ℕ, eqb, ltb}
use Rattle.dataflow.specs.Program.{Program}
use Rattle.dataflow.specs.Analyses.{Direction, initialization, liveness, init_transfer, live_transfer}
use Rattle.dataflow.specs.Lists.{every, some}
use Rattle.dataflow.specs.Worklist.{Ring}
use Rattle.dataflow.specs.Framework.{Framework, bit_at, solution}

pub record FlowGraph : Type 0 where
  -- the blocks as a program
  pub program : Program ℕ ℕ
  pub predecessors : ℕ → List ℕ
  pub reachable : ℕ → Bool
  pub blocks : ℕ
  pub bits : ℕ

module _ (g : FlowGraph) where
  -- flow.rs `incoming`: the meet of what the reachable predecessors have at their exits; at the entry, with the parameters too.
  abbrev pub incoming : (ℕ → ℕ → Bool) → ℕ → ℕ → Bool
  incoming x b s =
      (not (eqb b g.program.entry) || g.program.parameter s) && every (λ c. not (g.reachable c) || x c s) (g.predecessors b)

  -- flow.rs `live_out`: the join of what the successors have at their entries.
  abbrev pub live_out : (ℕ → ℕ → Bool) → ℕ → ℕ → Bool
  live_out x b s = some (λ c. x c s) (g.program.successors b)

  -- solver.rs `propagate`, for either direction. Initialization keeps a set for each block's exit, liveness for each block's entry.
  abbrev pub framework : Direction → Framework
  framework initialization = record {
    initial = true;
    blocks = g.blocks;
    bits = g.bits;
    dependents = g.program.successors;
    reachable = g.reachable;
    transfer = λ b x s. init_transfer g.program b s (incoming x b s);
  }
  framework liveness = record {
    initial = false;
    blocks = g.blocks;
    bits = g.bits;
    dependents = g.predecessors;
    reachable = g.reachable;
    transfer = λ b x s. live_transfer g.program b s (live_out x b s);
  }

  module _ (r : Ring) where
    -- initialized at the blocks' exits, when the run from r has ended
    abbrev pub init_at_exit : ℕ → ℕ → Bool
    init_at_exit = bit_at true (solution (framework initialization) r).sets

    -- and at their entries
    unfoldable pub init_at_entry : ℕ → ℕ → Bool
    init_at_entry b s = ltb s g.bits && incoming init_at_exit b s

    -- live at the blocks' entries, when the run from r has ended
    unfoldable pub live_at_entry : ℕ → ℕ → Bool
    live_at_entry b s = ltb s g.bits && bit_at false (solution (framework liveness) r).sets b s
