-- What the words hold of a flow graph stays where its cells stay. Assumes nothing.
use mathlib.Core.Path.{◌≡◌, refl, ap, ◌∙◌}
use mathlib.Core.Bool.{Bool, true}
use mathlib.Core.Logic.{◌⊎◌, inl, inr, ◌≢◌}
use mathlib.Core.List.{List, [], ◌∷◌}
use Prim.Native.Nat.{ℕ, ◌≤◌, ◌<◌}
use native.Mathlib.Omega.{arith}
use native.Mathlib.Decide.{dec_lt}
use borrow.Author.Tests.{lt-ltb, ne_eqb}
use Rattle.bitset.specs.Sets.{member}
use Rattle.dataflow.specs.Code.{Instruction}
use Rattle.dataflow.specs.Lists.{elem, every}
use Rattle.memory.specs.Cells.{Mem, cell}
use Rattle.memory.specs.Frame.{spared, Only}
use Rattle.memory.specs.Names.{reachable_cell, successor_count_cell, first_edge_cell, predecessor_count_cell, successor_cell, next_edge_cell}
use Rattle.memory.specs.Names.{order_cell, ring_cell, queued_cell, stack_block_cell, stack_edge_cell, visited_cell}
use Rattle.memory.specs.Names.{first_row, uses_row, defines_row, state_row, parameters_row}
use Rattle.sizes.specs.declared.Layout.{Layout}
use Rattle.memory.proofs.CellLaws.{same_word}
use Rattle.memory.proofs.FrameLaws.{only-more}
use Rattle.edges.specs.Flow.{Flows}
use Rattle.edges.proofs.EdgeLaws.{holds_kept}
use Rattle.edges.proofs.ResultLaws.{chained_kept}

-- the cells of a script's index, blocks and graph stay: the ten first, the edges, the blocks' rows and that of the parameters
pub record Still (y : Layout) (m m' : Mem) : Type 0 where
  pub low : (k : ℕ) → k < order_cell → cell m' k ≡ cell m k
  pub edges : (k : ℕ) → successor_cell ≤ k → k < state_row y.blocks → cell m' k ≡ cell m k
  pub parameters : cell m' (parameters_row y.blocks) ≡ cell m (parameters_row y.blocks)

-- through two stages
pub still-then : {y : Layout} {m m₁ m₂ : Mem} → Still y m m₁ → Still y m₁ m₂ → Still y m m₂
still-then f g = record {
  low = λ k lt. g.low k lt ∙ f.low k lt;
  edges = λ k lo hi. g.edges k lo hi ∙ f.edges k lo hi;
  parameters = g.parameters ∙ f.parameters;
}

-- the cells of the search and of the ring
abbrev pub work_cells : List ℕ
work_cells = order_cell ∷ ring_cell ∷ queued_cell ∷ stack_block_cell ∷ stack_edge_cell ∷ visited_cell ∷ []

spared-work : (k : ℕ) → k < first_row → (k < order_cell) ⊎ (successor_cell ≤ k) → spared work_cells k ≡ true
spared-work k h d =
    rw (
      lt-ltb k first_row h,
      ne_eqb k order_cell (out d order_cell (omega arith) (omega arith)),
      ne_eqb k ring_cell (out d ring_cell (omega arith) (omega arith)),
      ne_eqb k queued_cell (out d queued_cell (omega arith) (omega arith)),
      ne_eqb k stack_block_cell (out d stack_block_cell (omega arith) (omega arith)),
      ne_eqb k stack_edge_cell (out d stack_edge_cell (omega arith) (omega arith)),
      ne_eqb k visited_cell (out d visited_cell (omega arith) (omega arith)),
    ) refl
  where
    out : (k < order_cell) ⊎ (successor_cell ≤ k) → (c : ℕ) → order_cell ≤ c → c < successor_cell → k ≢ c
    out (inl l) c a b q = omega arith
    out (inr l) c a b q = omega arith

-- a step that changes no more than these, and no row but the running ones; the first computes, so it is shown by `refl`
pub still-only : {cs : List ℕ} {rows : ℕ → Type 0} {y : Layout} {m m' : Mem} → every (λ c. elem c work_cells) cs ≡ true
    → ((k : ℕ) → rows k → (state_row y.blocks ≤ k) × (k < parameters_row y.blocks)) → Only cs rows m m' → Still y m m'
still-only {y = y} {m} {m'} e w o = record {
  low = λ k lt. p.named k (spared-work k (omega arith) (inl lt));
  edges = λ k lo hi. edge k lo hi (dec_lt k first_row);
  parameters = p.others (parameters_row y.blocks) (omega arith) (λ r. omega (arith, r.1));
}
  where
    p : Only work_cells (λ k. (state_row y.blocks ≤ k) × (k < parameters_row y.blocks)) m m'
    p = only-more work_cells _ e (λ k h r. w k r) o

    edge : (k : ℕ) → successor_cell ≤ k → k < state_row y.blocks → Dec (k < first_row) → cell m' k ≡ cell m k
    edge k lo hi (yes h) = p.named k (spared-work k h (inr lo))
    edge k lo hi (no h) = p.others k (omega arith) (λ r. omega (arith, r.0))

-- so the words hold the flow graph that they held
pub flows-still : {code : List Instruction} {parameter : ℕ → Bool} {y : Layout} {m m' : Mem} → Still y m m' → Flows code parameter y m
    → Flows code parameter y m'
flows-still {m = m} {m' = m'} h f = record {
  blocks = f.blocks;
  holds = holds_kept (h.low successor_count_cell (omega arith)) (h.edges successor_cell (omega arith) (omega arith)) f.holds;
  chained = chained_kept m m' (h.low first_edge_cell (omega arith)) (h.low predecessor_count_cell (omega arith))
      (h.edges next_edge_cell (omega arith) (omega arith)) f.chained;
  reached = λ c lt. same_word c (h.low reachable_cell (omega arith)) ∙ f.reached c lt;
  uses_are = λ c lt i. ap (λ (ws : List ℕ). member ws i) (h.edges (uses_row c) (omega arith) (omega arith)) ∙ f.uses_are c lt i;
  defines_are = λ c lt i. ap (λ (ws : List ℕ). member ws i) (h.edges (defines_row c) (omega arith) (omega arith)) ∙ f.defines_are c lt i;
  parameters_are = λ i. ap (λ (ws : List ℕ). member ws i) h.parameters ∙ f.parameters_are i;
}
