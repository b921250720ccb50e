-- Demand 2 on the words of the sets buffer. Assumes nothing.
use mathlib.Core.Path.{◌≡◌, refl, ap, ◌∙◌}
use mathlib.Core.Bool.{Bool}
use mathlib.Core.List.{List, [], ◌∷◌}
use Prim.Native.Nat.{ℕ, zero, suc, ◌<◌}
use native.Mathlib.Omega.{arith}
use lib.ListN.{length, get_or}
use Rattle.bitset.specs.Sets.{Words, member}
use Rattle.dataflow.specs.Lists.{range}
use Rattle.dataflow.specs.Analyses.{liveness}
use Rattle.dataflow.specs.Code.{Instruction}
use Rattle.dataflow.specs.Results.{block_count, init_exit, live_entry, flow_graph, seed}
use Rattle.dataflow.proofs.Lists.{range_at, range_length}
use Rattle.dataflow.proofs.FlowGraph.{live_entry_row}
use Rattle.memory.specs.Cells.{Mem, cell}
use Rattle.memory.specs.Names.{initialized_row, live_row}
use Rattle.sizes.specs.declared.Layout.{Layout}
use Rattle.answer.specs.Words.{words_of}
use Rattle.answer.proofs.WordLaws.{words_of_lem, words_of_means}
use Rattle.fixed_points.specs.FixedPoints.{Sets}
use Rattle.dataflow.specs.Checked.{Scripted}
use Rattle.fixed_points.specs.PathSets.{PathSets}
use Rattle.fixed_points.proofs.PathLaws.{path_sets}

module _ (code : List Instruction) (parameter : ℕ → Bool) (w : ℕ) where
  -- both rows of each block, as cells
  abbrev pub row_cells : List ℕ → Mem
  row_cells [] = []
  row_cells (c ∷ cs) = words_of w (init_exit code parameter w c) ∷ words_of w (live_entry code parameter w c) ∷ row_cells cs

  cells-words : (cs : List ℕ) (k : ℕ) → k < initialized_row (length cs) → Words w (cell (row_cells cs) k)
  cells-words [] k lt = absurd (omega arith)
  cells-words (c ∷ cs) zero lt = words_of_lem (init_exit code parameter w c) w
  cells-words (c ∷ cs) (suc zero) lt = words_of_lem (live_entry code parameter w c) w
  cells-words (c ∷ cs) (suc (suc k)) lt = cells-words cs k (omega arith)

  -- the rows of the c-th block of the list
  initialized-cell : (cs : List ℕ) (c : ℕ) → c < length cs → cell (row_cells cs) (initialized_row c) ≡ words_of w (init_exit code parameter w (get_or cs c 0))
  initialized-cell [] c lt = absurd (omega arith)
  initialized-cell (d ∷ cs) zero lt = refl
  initialized-cell (d ∷ cs) (suc c) lt =
      let e : initialized_row (suc c) ≡ suc (suc (initialized_row c)) = omega arith in
      ap (cell (row_cells (d ∷ cs))) e ∙ initialized-cell cs c (omega arith)

  live-cell : (cs : List ℕ) (c : ℕ) → c < length cs → cell (row_cells cs) (live_row c) ≡ words_of w (live_entry code parameter w (get_or cs c 0))
  live-cell [] c lt = absurd (omega arith)
  live-cell (d ∷ cs) zero lt = refl
  live-cell (d ∷ cs) (suc c) lt =
      let e : live_row (suc c) ≡ suc (suc (live_row c)) = omega arith in
      ap (cell (row_cells (d ∷ cs))) e ∙ live-cell cs c (omega arith)

  -- all blocks, as a layout of rows only
  abbrev pub row_layout : Layout
  row_layout = record { instructions = 0; blocks = block_count code; words = w; awaits = 0; extra = 0 }

  abbrev pub all_rows : Mem
  all_rows = row_cells (range 0 (block_count code))

  pub initialized_row_lem : (c : ℕ) → c < block_count code → cell all_rows (initialized_row c) ≡ words_of w (init_exit code parameter w c)
  initialized_row_lem c lt =
      initialized-cell (range 0 (block_count code)) c (omega (arith, range_length 0 (block_count code))) ∙ ap (λ (d : ℕ). words_of w (init_exit code parameter w d)) (range_at (block_count code) c lt)

  pub live_row_lem : (c : ℕ) → c < block_count code → cell all_rows (live_row c) ≡ words_of w (live_entry code parameter w c)
  live_row_lem c lt = live-cell (range 0 (block_count code)) c (omega (arith, range_length 0 (block_count code))) ∙ ap (λ (d : ℕ). words_of w (live_entry code parameter w d)) (range_at (block_count code) c lt)

  -- they hold both sets of every block
  row-sets : Sets code parameter row_layout all_rows
  row-sets = record {
    initialized = λ c i lt q. ap (λ (ws : List ℕ). member ws i) (initialized_row_lem c lt) ∙ words_of_means (init_exit code parameter w c) w i q;
    live = λ c i lt q. ap (λ (ws : List ℕ). member ws i) (live_row_lem c lt) ∙ words_of_means (live_entry code parameter w c) w i q
        ∙ live_entry_row (flow_graph code parameter w liveness) (seed code liveness) c i q;
  }

  -- so they are the sets by paths
  pub rows_by_paths : (h : Scripted code parameter w) → PathSets code parameter h.slots row_layout all_rows
  rows_by_paths h = path_sets code parameter row_layout h refl all_rows (λ k lt. cells-words (range 0 (block_count code)) k (omega (arith, range_length 0 (block_count code)))) row-sets
