-- The graph of the code as the words hold it, for every number, also past the last block. Assumes nothing.
use mathlib.Core.Path.{◌≡◌, refl, sym, ap, ◌∙◌}
use mathlib.Core.Bool.{Bool, false}
use mathlib.Core.List.{List, [], ◌∷◌, Memᴰ}
use Prim.Native.Nat.{ℕ, ◌≤◌, ◌<◌}
use native.Mathlib.Omega.{arith}
use native.Mathlib.Decide.{dec_lt}
use lib.ListN.{get_or-eq_default}
use Rattle.dataflow.specs.Analyses as analyses
use Rattle.dataflow.specs.Code.{Instruction, block_successors}
use Rattle.dataflow.specs.Results.{predecessors, swept, reachable}
use Rattle.dataflow.proofs.CodeBlocks.{successors_below, successors_past, blocks_some}
use Rattle.dataflow.proofs.Results.{live_sound_graph, seed_sound}
use Rattle.memory.specs.Cells.{Mem, cell, word}
use Rattle.memory.specs.Names.{start_cell, reachable_cell, successor_count_cell, predecessor_count_cell, successor_cell}
use Rattle.memory.specs.Scratch.{scratch_widths}
use Rattle.sizes.specs.declared.Layout.{Layout}
use Rattle.memory.specs.Cells.{Sized}
use Rattle.memory.proofs.ScratchLaws.{sized_blocks}
use Rattle.edges.specs.Edges.{marked}
use Rattle.edges.specs.Predecessors.{predecessors_of}
use Rattle.transfer.specs.declared.direction.Direction.{Direction}
use Rattle.transfer.specs.declared.direction.Direction.TheVariants.{Initialization, Liveness}
use Rattle.memory.specs.declared.edges.Side.{Side}
use Rattle.memory.specs.declared.edges.Side.TheVariants.{Successors, Predecessors}
use Rattle.memory.specs.Edges.{count_of, neighbors, Connected}
use Rattle.memory.proofs.EdgeLaws.{neighbors-none}
use Rattle.propagate.proofs.Graphs as graphs
use Rattle.edges.specs.Flow.{Flows}
use Rattle.edges.proofs.EdgeLaws.{marked-flag, flag-few}
use Rattle.dataflow.specs.Checked.{Scripted}

-- a direction of the solver as one of the analyses
abbrev pub direction_of : Direction → analyses.Direction
direction_of Initialization = analyses.initialization
direction_of Liveness = analyses.liveness

-- the edges of the code on a side
abbrev pub edges_of : List Instruction → Side → ℕ → List ℕ
edges_of code Successors = block_successors code
edges_of code Predecessors = predecessors code

-- a list that holds nothing is empty
empty : (l : List ℕ) → ((c : ℕ) → Memᴰ c l → ⊥) → l ≡ []
empty [] h = refl
empty (c ∷ l) h = absurd (h c (Memᴰ.head refl))

module _ {code : List Instruction} {parameter : ℕ → Bool} {y : Layout} {m : Mem} (s : Scripted code parameter y.words)
    (f : Flows code parameter y m) where
  -- there is a block
  pub some_block : 0 < y.blocks
  some_block = omega (arith, f.blocks, blocks_some code parameter s.slots s.checked)

  -- each edge leads from a block to a block
  pub connected : Connected y m
  connected = graphs.connected f.holds f.chained

  -- past the blocks no edge leads anywhere, and none comes from anywhere
  edges-past : (side : Side) (b : ℕ) → y.blocks ≤ b → edges_of code side b ≡ []
  edges-past Successors b le = successors_past code parameter s.slots s.checked b (omega (arith, f.blocks))
  edges-past Predecessors b le = empty (predecessors code b) (λ c q. omega (
    arith,
    f.blocks,
    successors_below code parameter s.slots s.checked c b
        ((live_sound_graph code parameter s.slots y.words s.checked s.wide).predecessor_of b c q),
  ))

  -- among the blocks they are those that the words hold
  pub edges_in : (side : Side) (b : ℕ) → b < y.blocks → neighbors side m b ≡ edges_of code side b
  edges_in Successors b lt = graphs.successors_are f.holds b lt
  edges_in Predecessors b lt =
      graphs.predecessors_are f.holds f.chained b lt ∙ ap (λ (n : ℕ). predecessors_of (block_successors code) n b) f.blocks

  module _ (z : Sized (scratch_widths y) m) where
    -- a word past the blocks
    word-past : (k b : ℕ) → start_cell ≤ k → k < successor_cell → y.blocks ≤ b → word m k b ≡ 0
    word-past k b lo hi le = get_or-eq_default (cell m k) 0 (omega (arith, sized_blocks y z k lo hi))

    -- no edges are counted there
    count_past : (side : Side) (b : ℕ) → y.blocks ≤ b → count_of side m b ≡ 0
    count_past Successors b le = word-past successor_count_cell b (omega arith) (omega arith) le
    count_past Predecessors b le = word-past predecessor_count_cell b (omega arith) (omega arith) le

    -- the neighbors that the words hold are the edges of the code
    pub neighbors_are : (side : Side) (b : ℕ) → neighbors side m b ≡ edges_of code side b
    neighbors_are side b = go (dec_lt b y.blocks)
      where
        go : Dec (b < y.blocks) → neighbors side m b ≡ edges_of code side b
        go (yes lt) = edges_in side b lt
        go (no nl) = neighbors-none side m b (count_past side b (omega arith)) ∙ sym (edges-past side b (omega arith))

    -- and the marks are those of the reachable blocks
    pub reachable_are : (b : ℕ) → marked (word m reachable_cell b) ≡ reachable code b
    reachable_are b = go (dec_lt b y.blocks)
      where
        go : Dec (b < y.blocks) → marked (word m reachable_cell b) ≡ reachable code b
        go (yes lt) = ap marked (f.reached b lt) ∙ marked-flag (reachable code b)
        go (no nl) =
            ap marked (word-past reachable_cell b (omega arith) (omega arith) (omega arith))
            ∙ sym (get_or-eq_default (swept code).visited false
            (omega (arith, f.blocks, (seed_sound code parameter s.slots y.words s.checked s.wide analyses.initialization).len)))

    -- a mark is 0 or 1
    pub flags_few : (b : ℕ) → word m reachable_cell b ≤ 1
    flags_few b = go (dec_lt b y.blocks)
      where
        go : Dec (b < y.blocks) → word m reachable_cell b ≤ 1
        go (yes lt) = rw (f.reached b lt) (flag-few (reachable code b))
        go (no nl) = rw (word-past reachable_cell b (omega arith) (omega arith) (omega arith)) (omega arith)
