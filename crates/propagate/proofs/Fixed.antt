-- What a round leaves alone, and what it computes from that: edges, neighbors, a block's new row. Assumes nothing.
use mathlib.Core.Path.{◌≡◌, refl, sym, ap, ap₂, ◌∙◌}
use mathlib.Core.Logic.{◌≢◌}
use mathlib.Core.List.{List, [], ◌∷◌}
use Prim.Native.Nat.{ℕ, ◌≤◌, ◌<◌}
use native.Mathlib.Omega.{arith}
use native.Mathlib.Decide.{ℕ_discrete}
use native.Mathlib.Nat.{zero-add}
use lib.Dec.{eqb}
use lib.ListN.{length, get_or, set, replicate, length-set, length-map}
use lib.Seq.{get_or-set_same, get_or-set_other, ext_get_or}
use Rattle.bitset.specs.Sets.{ones}
use Rattle.bitset.specs.Operations.{meet, join}
use Rattle.dataflow.specs.Lists.{pick}
use Rattle.dataflow.proofs.Lists.{length_tabulate, get_d_tabulate}
use Rattle.memory.specs.Cells.{Mem, cell, word, store_cell}
use Rattle.memory.specs.Names.{reachable_cell, ring_cell, queued_cell, successor_cell, successor_count_cell, first_edge_cell, next_edge_cell}
use Rattle.memory.specs.Names.{predecessor_count_cell, uses_row, defines_row, state_row, parameters_row, initialized_row}
use Rattle.sizes.specs.declared.Layout.{Layout}
use Rattle.memory.proofs.CellLaws.{cell-store_same, cell-store_other}
use Rattle.bitset.specs.Below.{AllBelow}
use Rattle.transfer.specs.declared.direction.Direction.{Direction}
use Rattle.transfer.specs.declared.direction.Direction.TheVariants.{Initialization, Liveness}
use Rattle.memory.specs.declared.edges.Side.{Side}
use Rattle.memory.specs.declared.edges.Side.TheVariants.{Successors, Predecessors}
use Rattle.memory.specs.Edges.{successor_at, source_of, edges_into, count_of, neighbors, Connected}
use Rattle.transfer.specs.Directions.{reads_of}
use Rattle.transfer.specs.Transfer.{running_row, kept_row, entry_of, gather_one, gather_all, gathered, transferred, computed}
use Rattle.memory.proofs.EdgeLaws.{SameEdges, neighbors_kept}
use Rattle.edges.proofs.ResultLaws.{chain_length}
use Rattle.transfer.proofs.TransferLaws.{running-at, transferred-kept}
use Rattle.propagate.specs.Rounds.{rows_of, gather_row, gather_rows, row_solver}

-- ---- the rows that a round keeps

-- two blocks have two rows
kept-apart : (d : Direction) (b c : ℕ) → b ≢ c → kept_row d b ≢ kept_row d c
kept-apart Initialization b c ne e = ne (omega arith)
kept-apart Liveness b c ne e = ne (omega arith)

-- a block's row comes before the rows of each later block
pub kept-among : (d : Direction) (b n : ℕ) → b < n → kept_row d b < initialized_row n
kept-among Initialization b n lt = omega arith
kept-among Liveness b n lt = omega arith

module _ (d : Direction) (y : Layout) (t : Mem) where
  -- a block's row of the table
  pub rows_at : (b : ℕ) → b < y.blocks → get_or (rows_of d y t) b [] ≡ cell t (kept_row d b)
  unfolding rows_of
  rows_at b lt = get_d_tabulate 0 y.blocks b (λ c. cell t (kept_row d c)) [] lt ∙ ap (λ (c : ℕ). cell t (kept_row d c)) (zero-add b)

  -- one row a block
  pub rows_long : length (rows_of d y t) ≡ y.blocks
  unfolding rows_of
  rows_long = length_tabulate 0 y.blocks (λ c. cell t (kept_row d c))

-- a row stored is a set of the table
pub rows-set : (d : Direction) (y : Layout) (t : Mem) (c : ℕ) (x : List ℕ) → c < y.blocks → initialized_row y.blocks ≤ length t
    → rows_of d y (store_cell t (kept_row d c) x) ≡ set (rows_of d y t) c x
rows-set d y t c x lt fits =
    ext_get_or [] (rows_of d y t') (set (rows_of d y t) c x) (rows_long d y t' ∙ sym (length-set (rows_of d y t) c x ∙ rows_long d y t))
    (λ i l. at i (omega (arith, rows_long d y t')) (ℕ_discrete i c))
  where
    t' : Mem
    t' = store_cell t (kept_row d c) x

    at : (i : ℕ) → i < y.blocks → Dec (i ≡ c) → get_or (rows_of d y t') i [] ≡ get_or (set (rows_of d y t) c x) i []
    at i l (yes e) =
        ap (λ (j : ℕ). get_or (rows_of d y t') j []) e ∙ rows_at d y t' c lt
        ∙ cell-store_same t (kept_row d c) x (omega (arith, kept-among d c y.blocks lt))
        ∙ sym (ap (λ (j : ℕ). get_or (set (rows_of d y t) c x) j []) e ∙ get_or-set_same (rows_of d y t) c x [] (omega (arith, rows_long d y t)))
    at i l (no ne) =
        rows_at d y t' i l ∙ cell-store_other t (kept_row d c) x (kept_row d i) (kept-apart d i c ne)
        ∙ sym (get_or-set_other (rows_of d y t) c i x [] ne ∙ rows_at d y t i l)

-- ---- what a round leaves alone of scratch

pub record Fixed (d : Direction) (y : Layout) (m₀ m : Mem) : Type 0 where
  pub others : (k : ℕ) → (k ≡ ring_cell → ⊥) → (k ≡ queued_cell → ⊥) → (k ≡ running_row d y → ⊥) → cell m k ≡ cell m₀ k

module _ {d : Direction} {y : Layout} {m₀ : Mem} where
  -- nothing is stored
  pub fixed_none : Fixed d y m₀ m₀
  fixed_none = record { others = λ k a b c. refl }

  module _ {m : Mem} (f : Fixed d y m₀ m) where
    -- what a round may store
    pub fixed_ring : (ws : List ℕ) → Fixed d y m₀ (store_cell m ring_cell ws)
    fixed_ring ws = record { others = λ k a b c. cell-store_other m ring_cell ws k a ∙ f.others k a b c }

    pub fixed_queued : (ws : List ℕ) → Fixed d y m₀ (store_cell m queued_cell ws)
    fixed_queued ws = record { others = λ k a b c. cell-store_other m queued_cell ws k b ∙ f.others k a b c }

    pub fixed_running : (ws : List ℕ) → Fixed d y m₀ (store_cell m (running_row d y) ws)
    fixed_running ws = record { others = λ k a b c. cell-store_other m (running_row d y) ws k c ∙ f.others k a b c }

    -- a cell before the running row that is not the ring's and not the marks'
    fixed-cell : (k : ℕ) → k < state_row y.blocks → (k ≡ ring_cell → ⊥) → (k ≡ queued_cell → ⊥) → cell m k ≡ cell m₀ k
    fixed-cell k lt a b = f.others k a b (λ e. omega (arith, (running-at d y).0))

    -- who is reachable
    pub fixed_reachable : (i : ℕ) → word m reachable_cell i ≡ word m₀ reachable_cell i
    fixed_reachable i = ap (λ (c : List ℕ). get_or c i 0) (fixed-cell reachable_cell (omega arith) (λ e. omega arith) (λ e. omega arith))

    -- the cells of edges
    pub fixed_edges : SameEdges m₀ m
    fixed_edges = record {
      successors = fixed-cell successor_cell (omega arith) (λ e. omega arith) (λ e. omega arith);
      successor_counts = fixed-cell successor_count_cell (omega arith) (λ e. omega arith) (λ e. omega arith);
      first_edges = fixed-cell first_edge_cell (omega arith) (λ e. omega arith) (λ e. omega arith);
      next_edges = fixed-cell next_edge_cell (omega arith) (λ e. omega arith) (λ e. omega arith);
      predecessor_counts = fixed-cell predecessor_count_cell (omega arith) (λ e. omega arith) (λ e. omega arith);
    }

-- as many neighbors as the count says
pub neighbors-long : (side : Side) (m : Mem) (b : ℕ) → length (neighbors side m b) ≡ count_of side m b
neighbors-long Successors m b = length_tabulate 0 (word m successor_count_cell b) (successor_at m b)
neighbors-long Predecessors m b =
    length-map (edges_into m b) source_of ∙ chain_length m (word m predecessor_count_cell b) (word m first_edge_cell b)

-- ---- a block's new row, from scratch that was left alone and from the table of rows
module _ {d : Direction} {y : Layout} {m₀ m : Mem} (f : Fixed d y m₀ m) where
  -- what a block begins with
  fixed-entry : (b : ℕ) → entry_of d y m b ≡ entry_of d y m₀ b
  unfolding entry_of
  fixed-entry b = go d refl
    where
      go : (e : Direction) → d ≡ e → entry_of e y m b ≡ entry_of e y m₀ b
      go Initialization q = ap (λ (x : List ℕ). pick (eqb b 0) x (replicate y.words ones))
          (f.others (parameters_row y.blocks) (λ r. omega arith) (λ r. omega arith) (λ r. omega (arith, (running-at d y).1)))
      go Liveness q = refl

  -- the transfer of a block
  fixed-transferred : (b : ℕ) → b < y.blocks → (x : List ℕ) → transferred d m b x ≡ transferred d m₀ b x
  fixed-transferred b lt x =
      transferred-kept d m₀ m b x (fixed-cell f (defines_row b) (omega arith) (λ r. omega arith) (λ r. omega arith))
      (fixed-cell f (uses_row b) (omega arith) (λ r. omega arith) (λ r. omega arith))

  module _ (t : Mem) where
    -- a row with what block p keeps, and with what each of a list keeps
    gather-one : (p : ℕ) (x : List ℕ) → p < y.blocks → gather_one d m t p x ≡ gather_row d m₀ (rows_of d y t) p x
    unfolding gather_one gather_row
    gather-one p x lt = go d refl
      where
        go : (e : Direction) → d ≡ e → gather_one e m t p x ≡ gather_row e m₀ (rows_of d y t) p x
        go Initialization q =
            ap₂ (λ (r : ℕ) (z : List ℕ). pick (eqb r 0) x (meet x z)) (fixed_reachable f p)
            (sym (rows_at d y t p lt ∙ ap (λ (e : Direction). cell t (kept_row e p)) q))
        go Liveness q = ap (join x) (sym (rows_at d y t p lt ∙ ap (λ (e : Direction). cell t (kept_row e p)) q))

    pub gather_all_lem : (ps : List ℕ) (x : List ℕ) → AllBelow y.blocks ps → gather_all d m t ps x ≡ gather_rows d m₀ (rows_of d y t) ps x
    unfolding gather_all gather_rows
    gather_all_lem [] x h = refl
    gather_all_lem (p ∷ ps) x h =
        ap (gather_all d m t ps) (gather-one p x h.0) ∙ gather_all_lem ps (gather_row d m₀ (rows_of d y t) p x) h.1

    -- what a visit computes is what the solver over rows computes
    pub fixed_computed : Connected y m₀ → (b : ℕ) → b < y.blocks → computed d y m t b ≡ (row_solver d y m₀).compute b (rows_of d y t)
    unfolding computed gathered
    fixed_computed h b lt =
        fixed-transferred b lt (gathered d y m t b)
        ∙ ap (transferred d m₀ b) (ap₂ (gather_all d m t) (neighbors_kept (fixed_edges f) (reads_of d) b) (fixed-entry b)
        ∙ gather_all_lem (neighbors (reads_of d) m₀ b) (entry_of d y m₀ b) (h.ends (reads_of d) b lt))
