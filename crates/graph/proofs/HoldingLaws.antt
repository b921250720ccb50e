-- What the words of scratch hold of a script once its blocks are built, its edges joined and its reachable blocks marked. Assumes nothing.
use mathlib.Core.Path.{◌≡◌, refl, ap, ◌∙◌}
use mathlib.Core.Bool.{Bool, false}
use mathlib.Core.List.{List, ◌++◌}
use Prim.Native.Nat.{ℕ, ◌≤◌, ◌<◌}
use native.Mathlib.Omega.{arith}
use lib.ListN.{length, get_or}
use Rattle.std.proofs.lemmas.Result.{IfOk-at_ok}
use Rattle.bitset.specs.Sets.{member}
use Rattle.dataflow.specs.Code.{block_successors}
use Rattle.dataflow.proofs.Lists.{mem-get_or}
use Rattle.dataflow.proofs.CodeBlocks.{successors_below, blocks_some}
use Rattle.budget.specs.declared.FlowBudget.{FlowBudget}
use Rattle.budget.specs.declared.Limits.{Limits}
use Rattle.std.specs.Prelude.{Ok}
use Rattle.budget.specs.Budget.{Charged}
use Rattle.memory.specs.Cells.{Mem, cell}
use Rattle.memory.specs.Names.{offset_cell, block_of_cell, leader_cell, first_edge_cell, predecessor_count_cell, next_edge_cell, parameters_row}
use Rattle.dataflow.specs.Lists.{flag}
use Rattle.memory.specs.Frame.{Only, ThisRow}
use Rattle.sizes.specs.declared.Layout.{Layout}
use Rattle.memory.proofs.EdgeLaws.{successor_few}
use Rattle.memory.proofs.FrameLaws.{only_then, only-more}
use Rattle.sheet.specs.declared.script.Script.{Script}
use Rattle.sheet.specs.Decode.{parts_of}
use Rattle.script.specs.Script.{flow_code, parameter_in}
use Rattle.script.proofs.ScriptLaws.{checked}
use Rattle.edges.specs.Edges.{Holds}
use Rattle.edges.specs.Predecessors.{Chained, chain_cells}
use Rattle.edges.specs.Reachability.{Reached, swept_from, sweep_cells}
use Rattle.edges.specs.Flow.{Flows}
use Rattle.edges.proofs.EdgeLaws.{holds-only, edges-two}
use Rattle.edges.proofs.ResultLaws.{linked-holds, reached-holds, chained_kept, reached-chained}
use Rattle.blocks.specs.Blocks.{Ready, Block}
use Rattle.blocks.proofs.ReadLaws.{targets_everywhere}
use Rattle.blocks.proofs.CodeLaws.{few_successors}
use Rattle.blocks.proofs.KeptLaws.{ready_kept, block-spared}
use Rattle.graph.specs.Graph.{Holding, Joined}

-- the cells that `join` and `reachability` write
abbrev join_cells : List ℕ
join_cells = chain_cells ++ sweep_cells

module _ (s : List ℕ) (x : Script) (y : Layout) (m₁ : Mem) (ready : Ready s x y m₁)
    (built : (parameter : ℕ → Bool) (c : ℕ) → c < y.blocks → Block (flow_code (parts_of s)) parameter m₁ c) where
  -- there is a block
  pub some_block : 0 < y.blocks
  some_block =
      omega (arith, ready.fits.blocks, blocks_some (flow_code (parts_of s)) (parameter_in (parts_of s)) x.slots (checked s x ready.sound))

  few-edges : (b : ℕ) → length (block_successors (flow_code (parts_of s)) b) ≤ 2
  few-edges = few_successors (flow_code (parts_of s)) (targets_everywhere s x ready.sound)

  -- the words of the blocks hold the edges between them
  pub blocks_hold : Holds (block_successors (flow_code (parts_of s))) y m₁
  blocks_hold = record {
    counted = λ b l. (built (parameter_in (parts_of s)) b l).words.counted;
    stored = λ b k l h.
        let w = (built (parameter_in (parts_of s)) b l).words in
        successor_few m₁ b k (omega (arith, w.counted, few-edges b)) ∙ w.edges k h;
    small = omega (arith, ready.fits.few_blocks, ready.fits.instructions, ready.sound.few_code);
    few = omega (arith, edges-two (block_successors (flow_code (parts_of s))) y.blocks few-edges);
    below = λ b k l h.
        let z = successors_below (flow_code (parts_of s)) (parameter_in (parts_of s)) x.slots (checked s x ready.sound) b
        (get_or (block_successors (flow_code (parts_of s)) b) k 0) (mem-get_or (block_successors (flow_code (parts_of s)) b) k 0 h) in
        omega (arith, z, ready.fits.blocks);
  }

  -- ---- the edges joined

  module _ (parameter : ℕ → Bool) (m₂ : Mem) (j : Joined parameter y m₁ m₂) where
    -- the edges are still held
    pub joined_hold : Holds (block_successors (flow_code (parts_of s))) y m₂
    joined_hold = holds-only j.only refl refl (linked-holds j.linked blocks_hold)

    -- so are the predecessors
    joined-chained : Chained (block_successors (flow_code (parts_of s))) y m₂
    joined-chained =
        chained_kept j.between m₂ (j.only.named first_edge_cell refl) (j.only.named predecessor_count_cell refl)
        (j.only.named next_edge_cell refl) (j.linked.chained (block_successors (flow_code (parts_of s))) blocks_hold)

    -- ---- the reachable blocks marked

    module _ (l : Limits) (b left : FlowBudget) (m₃ : Mem) (r : Charged) (g : Reached y l b m₂ m₃ r) (er : r ≡ Ok left) where
      -- what both leave
      only : Only join_cells (ThisRow (parameters_row y.blocks)) m₁ m₃
      only =
          only_then (only-more join_cells _ refl (λ k h r. absurd r) j.linked.only)
          (only_then (only-more join_cells _ refl (λ k h r. r) j.only) (only-more join_cells _ refl (λ k h r. absurd r) g.only))

      -- each block's words and rows
      block-still : (c : ℕ) → c < y.blocks → Block (flow_code (parts_of s)) parameter m₃ c
      block-still c h = block-spared only refl (λ k r e. omega arith) (built parameter c h)

      -- the row of the parameters
      parameters-still : (i : ℕ) → member (cell m₃ (parameters_row y.blocks)) i ≡ parameter i
      parameters-still i =
          ap (λ (ws : List ℕ). member ws i) (g.only.others (parameters_row y.blocks) (omega arith) (λ e. e)) ∙ j.parameters i

      -- the flow graph
      flows : Flows (flow_code (parts_of s)) parameter y m₃
      flows = record {
        blocks = ready.fits.blocks;
        holds = reached-holds g joined_hold;
        chained = reached-chained g joined-chained;
        reached = λ c h. IfOk-at_ok _ er (g.marks (block_successors (flow_code (parts_of s))) joined_hold) c h
            ∙ ap (λ (n : ℕ). flag (get_or (swept_from (block_successors (flow_code (parts_of s))) n).visited c false)) ready.fits.blocks;
        uses_are = λ c h i. (block-still c h).rows.uses_are i;
        defines_are = λ c h i. (block-still c h).rows.defines_are i;
        parameters_are = parameters-still;
      }

      -- all of it
      pub all_held : Holding s parameter x y m₃
      all_held = record {
        index = (ready_kept ready (only.named offset_cell refl) (only.named block_of_cell refl) (only.named leader_cell refl)).index;
        block = block-still;
        flows = flows;
      }
