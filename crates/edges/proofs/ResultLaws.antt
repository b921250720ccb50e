-- What callers take from `predecessors` and `reachability`: what stays held, and how many predecessors there are. Assumes nothing.
use mathlib.Core.Path.{◌≡◌, refl, sym, ap, ap₂, ◌∙◌, subst}
use mathlib.Core.Bool.{Bool, true, false}
use mathlib.Core.List.{List, [], ◌∷◌, map}
use Prim.Native.Nat.{ℕ, zero, suc, ◌+◌, ◌≤◌, ◌<◌}
use native.Mathlib.Omega.{arith}
use lib.Dec.{eqb}
use lib.ListN.{length, length-map}
use Rattle.dataflow.specs.Lists.{pick, tabulate}
use Rattle.dataflow.specs.Results.{edges_to, predecessors_from}
use Rattle.memory.specs.Cells.{Mem, cell, word}
use Rattle.memory.specs.Names.{first_edge_cell, next_edge_cell, predecessor_count_cell}
use Rattle.sizes.specs.declared.Layout.{Layout}
use Rattle.memory.proofs.CellLaws.{same_word}
use Rattle.budget.specs.declared.FlowBudget.{FlowBudget}
use Rattle.budget.specs.declared.Limits.{Limits}
use Rattle.budget.specs.Budget.{Charged}
use Rattle.memory.specs.Edges.{source_of, place_of, next_edge, chain_from, edges_into}
use Rattle.memory.specs.Scratch.{edge_words}
use Rattle.edges.specs.Edges.{edges_before, Holds}
use Rattle.bitset.specs.Below.{AllBelow}
use Rattle.edges.specs.Predecessors.{Chained, Linked}
use Rattle.edges.specs.Reachability.{Reached}
use Rattle.edges.proofs.EdgeLaws.{holds-only}

-- ---- the graph stays held
pub linked-holds : {next : ℕ → List ℕ} {y : Layout} {m m' : Mem} → Linked y m m' → Holds next y m → Holds next y m'
linked-holds f h = holds-only f.only refl refl h

pub reached-holds : {next : ℕ → List ℕ} {y : Layout} {l : Limits} {b : FlowBudget} {m m' : Mem} {r : Charged} → Reached y l b m m' r → Holds next y m
    → Holds next y m'
reached-holds f h = holds-only f.only refl refl h

-- ---- the chains stay where their three cells stay
module _ (m m' : Mem) (first : cell m' first_edge_cell ≡ cell m first_edge_cell) (count : cell m' predecessor_count_cell ≡ cell m predecessor_count_cell)
    (links : cell m' next_edge_cell ≡ cell m next_edge_cell) where
  chain_kept : (n e : ℕ) → chain_from m' n e ≡ chain_from m n e
  chain_kept zero e = refl
  chain_kept (suc n) e =
      ap (λ (es : List ℕ). e ∷ es) (ap (chain_from m' n) (same_word (place_of e) links) ∙ chain_kept n (next_edge m e))

  pub edges_kept : (b : ℕ) → edges_into m' b ≡ edges_into m b
  edges_kept b =
      ap₂ (chain_from m') (same_word b count) (same_word b first)
      ∙ chain_kept (word m predecessor_count_cell b) (word m first_edge_cell b)

  pub chained_kept : {next : ℕ → List ℕ} {y : Layout} → Chained next y m → Chained next y m'
  chained_kept {y = y} c = record {
    are = λ b lt. ap (map source_of) (edges_kept b) ∙ c.are b lt;
    edges = λ b lt. subst (λ (es : List ℕ). AllBelow (edge_words y) (map place_of es)) (sym (edges_kept b)) (c.edges b lt);
  }

pub reached-chained : {next : ℕ → List ℕ} {y : Layout} {l : Limits} {b : FlowBudget} {m m' : Mem} {r : Charged} → Reached y l b m m' r
    → Chained next y m → Chained next y m'
reached-chained {m = m} {m' = m'} f c =
    chained_kept m m' (f.only.named first_edge_cell refl) (f.only.named predecessor_count_cell refl) (f.only.named next_edge_cell refl) c

-- ---- how long a chain is
pub chain_length : (m : Mem) (n e : ℕ) → length (chain_from m n e) ≡ n
chain_length m zero e = refl
chain_length m (suc n) e = ap suc (chain_length m n (next_edge m e))

edges_few : (b c : ℕ) (l rest : List ℕ) → length (edges_to b c l rest) ≤ length l + length rest
edges_few b c [] rest = omega arith
edges_few b c (d ∷ l) rest = go (eqb b d) (edges_few b c l rest)
  where
    go : (t : Bool) → length (edges_to b c l rest) ≤ length l + length rest
        → length (pick t (c ∷ edges_to b c l rest) (edges_to b c l rest)) ≤ suc (length l) + length rest
    go true h = omega arith
    go false h = omega arith

-- no block has more predecessors than the blocks from c on have edges
predecessors-few : (next : ℕ → List ℕ) (b c n : ℕ) → edges_before next c + length (predecessors_from b c (tabulate c n next)) ≤ edges_before next (c + n)
predecessors-few next b c zero = let e : c + 0 ≡ c = omega arith in rw e (omega arith)
predecessors-few next b c (suc n) =
    let e : c + suc n ≡ suc c + n = omega arith in
    rw e (omega (arith, edges_few b c (next c) (predecessors_from b (suc c) (tabulate (suc c) n next)), predecessors-few next b (suc c) n))

-- a block has as many predecessors as its count says, no more than there are edges
module _ {next : ℕ → List ℕ} {y : Layout} {m m' : Mem} (h : Holds next y m) (c : Chained next y m') (b : ℕ) (lt : b < y.blocks) where
  pub predecessor_count : word m' predecessor_count_cell b ≡ length (predecessors_from b 0 (tabulate 0 y.blocks next))
  predecessor_count =
      sym (chain_length m' (word m' predecessor_count_cell b) (word m' first_edge_cell b)) ∙ sym (length-map (edges_into m' b) source_of)
      ∙ ap length (c.are b lt)

  pub count_few : word m' predecessor_count_cell b ≤ edge_words y
  count_few = let e : 0 + y.blocks ≡ y.blocks = omega arith in omega (arith, predecessor_count, rw e at (predecessors-few next b 0 y.blocks), h.few)
