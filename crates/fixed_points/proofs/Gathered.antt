-- What `gather` of crate `transfer` computes after both rounds: the sets at a block's entry and exit, bit by bit. Assumes nothing.
use mathlib.Core.Path.{◌≡◌, sym, ap, ap₂, ◌∙◌, subst}
use mathlib.Core.Bool.{Bool, true, false, not, ◌&&◌, ◌||◌}
use mathlib.Core.List.{List, map}
use Prim.Native.Nat.{ℕ, ◌*◌, ◌<◌}
use native.Mathlib.Omega.{arith}
use Rattle.bitset.specs.Sets.{member, Words}
use Rattle.dataflow.specs.Analyses.{initialization, liveness}
use Rattle.dataflow.specs.Code.{Instruction}
use Rattle.dataflow.specs.Framework.{bit_at}
use Rattle.dataflow.specs.Lists.{every, some}
use Rattle.dataflow.specs.Results.{reachable, seed, flow_graph, init_exit, init_entry, live_entry, live_exit}
use Rattle.dataflow.proofs.FlowGraph.{init_entry_row, live_entry_row}
use Rattle.dataflow.proofs.Lists.{every_ext, some_ext}
use Rattle.budget.specs.declared.FlowBudget.{FlowBudget}
use Rattle.budget.specs.declared.Limits.{Limits}
use Rattle.std.specs.Prelude.{Ok}
use Rattle.budget.specs.Budget.{Charged}
use Rattle.memory.specs.Cells.{Mem, cell}
use Rattle.memory.specs.Names.{parameters_row}
use Rattle.sizes.specs.declared.Layout.{Layout}
use Rattle.edges.specs.Flow.{Flows}
use Rattle.edges.proofs.FlowLaws.{Still}
use Rattle.bitset.specs.Below.{AllBelow}
use Rattle.transfer.specs.declared.direction.Direction.{Direction}
use Rattle.transfer.specs.declared.direction.Direction.TheVariants.{Initialization, Liveness}
use Rattle.memory.specs.Edges.{neighbors}
use Rattle.memory.specs.Sets.{SetsRow}
use Rattle.transfer.specs.Directions.{reads_of}
use Rattle.transfer.specs.Transfer.{kept_row, entry_of, gathered}
use Rattle.propagate.specs.Rounds.{rows_of, gather_rows}
use Rattle.propagate.proofs.Fixed.{kept-among, fixed_none, gather_all_lem}
use Rattle.fixed_points.specs.FixedPoints.{Sets, Fixed}
use Rattle.dataflow.specs.Checked.{Scripted}
use Rattle.fixed_points.proofs.CodeGraph.{connected, edges_in}
use Rattle.fixed_points.proofs.Bits.{bits_of, below_each, Table, RowsOfWords, entry_words, entry_init, entry_live}
use Rattle.fixed_points.proofs.Bits.{gathers_words, gathers_init, gathers_live}
use Rattle.fixed_points.proofs.RoundLaws.{rows_bit, rows_table}

-- every row of the sets buffer is of words
abbrev pub SetsOfWords : Layout → Mem → Type 0
SetsOfWords y t = (k : ℕ) → SetsRow y k → Words y.words (cell t k)

module _ {code : List Instruction} {parameter : ℕ → Bool} {y : Layout} {m : Mem} (s : Scripted code parameter y.words)
    (f : Flows code parameter y m) where
  -- the neighbors that a direction reads are blocks
  reads_below : (d : Direction) (c : ℕ) → c < y.blocks → AllBelow y.blocks (neighbors (reads_of d) m c)
  reads_below d c lc = (connected s f).ends (reads_of d) c lc

  module _ (w : RowsOfWords y m) (t : Mem) (h : SetsOfWords y t) (c : ℕ) (lc : c < y.blocks) where
    -- the rows that a round keeps
    table : (d : Direction) → Table y (rows_of d y t)
    table d = rows_table d y t (λ b lt. h (kept_row d b) (kept-among d b y.blocks lt))

    -- what is gathered, from the rows
    gathered-rows : (d : Direction) → gathered d y m t c ≡ gather_rows d m (rows_of d y t) (neighbors (reads_of d) m c) (entry_of d y m c)
    unfolding gathered
    gathered-rows d = gather_all_lem fixed_none t (neighbors (reads_of d) m c) (entry_of d y m c) (reads_below d c lc)

    -- it is a row of words
    pub gathered_words : (d : Direction) → Words y.words (gathered d y m t c)
    gathered_words d = subst (Words y.words) (sym (gathered-rows d)) (gathers_words s f w (rows_of d y t) (table d) d
        (neighbors (reads_of d) m c) (entry_of d y m c) (reads_below d c lc) (entry_words s f w d c))

    module _ (g : Sets code parameter y t) (i : ℕ) (li : i < 64 * y.words) where
      -- forwards its bits are what is initialized at the block's entry
      pub incoming_bits : member (gathered Initialization y m t c) i ≡ init_entry code parameter y.words c i
      incoming_bits =
          ap (λ (ws : List ℕ). member ws i) (gathered-rows Initialization)
          ∙ gathers_init s f w (rows_of Initialization y t) (table Initialization) (neighbors (reads_of Initialization) m c)
          (entry_of Initialization y m c) (reads_below Initialization c lc) i li
          ∙ ap₂ (λ (a b : Bool). a && b) (entry_init s f w c i li) (met ∙ ap (every kept) (edges_in s f (reads_of Initialization) c lc))
          ∙ sym (init_entry_row (flow_graph code parameter y.words initialization) (seed code initialization) c i li)
        where
          -- what a neighbor brings in
          kept : ℕ → Bool
          kept p = not (reachable code p) || init_exit code parameter y.words p i

          met : every (λ p. not (reachable code p) || bit_at true (map (bits_of (64 * y.words)) (rows_of Initialization y t)) p i)
              (neighbors (reads_of Initialization) m c)
              ≡ every kept (neighbors (reads_of Initialization) m c)
          met = every_ext _ kept (neighbors (reads_of Initialization) m c) (λ p q.
              let lp : p < y.blocks = below_each y.blocks (neighbors (reads_of Initialization) m c) (reads_below Initialization c lc) p q in
              ap (λ (a : Bool). not (reachable code p) || a) (rows_bit Initialization y t true p i lp li ∙ g.initialized p i lp li))

      -- backwards they are what is live at its exit
      pub live_out_bits : member (gathered Liveness y m t c) i ≡ live_exit code parameter y.words c i
      live_out_bits =
          ap (λ (ws : List ℕ). member ws i) (gathered-rows Liveness)
          ∙ gathers_live s f w (rows_of Liveness y t) (table Liveness) (neighbors (reads_of Liveness) m c)
          (entry_of Liveness y m c) (reads_below Liveness c lc) (entry_words s f w Liveness c) i li
          ∙ ap₂ (λ (a b : Bool). a || b) (entry_live s f w c i) (joined ∙ ap (some kept) (edges_in s f (reads_of Liveness) c lc))
        where
          -- what a neighbor brings in
          kept : ℕ → Bool
          kept p = live_entry code parameter y.words p i

          joined : some (λ p. bit_at false (map (bits_of (64 * y.words)) (rows_of Liveness y t)) p i) (neighbors (reads_of Liveness) m c)
              ≡ some kept (neighbors (reads_of Liveness) m c)
          joined = some_ext _ kept (neighbors (reads_of Liveness) m c) (λ p q.
              let lp : p < y.blocks = below_each y.blocks (neighbors (reads_of Liveness) m c) (reads_below Liveness c lc) p q in
              rows_bit Liveness y t false p i lp li ∙ g.live p i lp li
              ∙ sym (live_entry_row (flow_graph code parameter y.words liveness) (seed code liveness) p i li))

-- ---- after `fixed_points`

module _ {y : Layout} {l : Limits} {b : FlowBudget} {m m' t t' : Mem} {r : Charged} (p : Fixed y l b m m' t t' r) {left : FlowBudget}
    (e : r ≡ Ok left) where
  -- the graph's cells stay
  pub fixed_still : Still y m m'
  fixed_still = record {
    low = p.others left e;
    edges = p.edges left e;
    parameters = p.rows left e (parameters_row y.blocks) (omega arith);
  }
