-- What the words and the rows of a block are stays where they stay: the index, the words, the rows, and a step that spares them. Assumes nothing.
use mathlib.Core.Path.{◌≡◌, refl, ap, ◌∙◌}
use mathlib.Core.Bool.{Bool, true}
use mathlib.Core.List.{List}
use Prim.Native.Nat.{ℕ, ◌≤◌, ◌<◌}
use native.Mathlib.Omega.{arith}
use Rattle.bitset.specs.Sets.{member}
use Rattle.dataflow.specs.Lists.{elem, every}
use Rattle.dataflow.specs.Code.{Instruction}
use Rattle.dataflow.proofs.Lists.{every_at, elem_mem}
use Rattle.memory.specs.Cells.{Mem, cell, word}
use Rattle.memory.specs.Names.{offset_cell, block_of_cell, leader_cell, cost_cell, start_cell, end_cell, successor_cell, successor_count_cell}
use Rattle.memory.specs.Names.{uses_row, defines_row}
use Rattle.memory.specs.Edges.{edge_place, edge_word}
use Rattle.memory.specs.Frame.{Only, spared, RowsOf}
use Rattle.sizes.specs.declared.Layout.{Layout}
use Rattle.memory.proofs.CellLaws.{same_word}
use Rattle.sheet.specs.declared.script.Script.{Script}
use Rattle.blocks.specs.Blocks.{Ready, BlockWords, BlockRows, Block, block_cells}

-- the index of the blocks stays where its three cells stay
pub ready_kept : {s : List ℕ} {x : Script} {y : Layout} {m m' : Mem} → Ready s x y m → cell m' offset_cell ≡ cell m offset_cell
    → cell m' block_of_cell ≡ cell m block_of_cell → cell m' leader_cell ≡ cell m leader_cell → Ready s x y m'
ready_kept ok e f g = record {
  sound = ok.sound;
  fits = ok.fits;
  index = record {
    offsets = λ i l. same_word i e ∙ ok.index.offsets i l;
    starts = λ b l. same_word b g ∙ ok.index.starts b l;
    numbers = λ t l h. same_word t f ∙ ok.index.numbers t l h;
  };
}

-- the words of block b are the same: each that `BlockWords` reads
pub record SameWords (m m' : Mem) (b : ℕ) : Type 0 where
  pub start : word m' start_cell b ≡ word m start_cell b
  pub end : word m' end_cell b ≡ word m end_cell b
  pub counted : word m' successor_count_cell b ≡ word m successor_count_cell b
  pub edges : (k : ℕ) → k < word m successor_count_cell b → edge_word m' b k ≡ edge_word m b k
  pub unused : (k : ℕ) → k < 2 → word m successor_count_cell b ≤ k → edge_word m' b k ≡ edge_word m b k
  pub costs : (i : ℕ) → word m start_cell b ≤ i → i < word m end_cell b → word m' cost_cell i ≡ word m cost_cell i

pub words-kept : {code : List Instruction} {m m' : Mem} {b : ℕ} → SameWords m m' b → BlockWords code m b → BlockWords code m' b
words-kept s g = record {
  start = s.start ∙ g.start;
  end = s.end ∙ g.end;
  counted = s.counted ∙ g.counted;
  edges = λ k l. s.edges k (omega arith) ∙ g.edges k l;
  unused = λ k l n. s.unused k l (omega arith) ∙ g.unused k l n;
  costs = λ i lo hi. s.costs i (omega arith) (omega arith) ∙ g.costs i (omega arith) (omega arith);
}

-- where their cells stay
pub words-cells : {m m' : Mem} → cell m' cost_cell ≡ cell m cost_cell → cell m' start_cell ≡ cell m start_cell → cell m' end_cell ≡ cell m end_cell
    → cell m' successor_count_cell ≡ cell m successor_count_cell → cell m' successor_cell ≡ cell m successor_cell → (b : ℕ) → SameWords m m' b
words-cells cost start end count edge b = record {
  start = same_word b start;
  end = same_word b end;
  counted = same_word b count;
  edges = λ k l. same_word (edge_place b k) edge;
  unused = λ k l n. same_word (edge_place b k) edge;
  costs = λ i lo hi. same_word i cost;
}

-- a block's rows stay where the cells of its rows stay
pub rows-kept : {code : List Instruction} {parameter : ℕ → Bool} {m m' : Mem} {b : ℕ} → ((k : ℕ) → RowsOf b k → cell m' k ≡ cell m k)
    → BlockRows code parameter m b → BlockRows code parameter m' b
rows-kept {b = b} h g = record {
  uses_are = λ i. ap (λ (ws : List ℕ). member ws i) (h (uses_row b) (omega arith, omega arith)) ∙ g.uses_are i;
  defines_are = λ i. ap (λ (ws : List ℕ). member ws i) (h (defines_row b) (omega arith, omega arith)) ∙ g.defines_are i;
}

-- both
pub block-kept : {code : List Instruction} {parameter : ℕ → Bool} {m m' : Mem} {b : ℕ} → SameWords m m' b
    → ((k : ℕ) → RowsOf b k → cell m' k ≡ cell m k) → Block code parameter m b → Block code parameter m' b
block-kept s h g = record { words = words-kept s g.words; rows = rows-kept h g.rows }

-- after a step that spares the cells of the words, and the block's rows; the first computes, so it is shown by `refl`
pub block-spared : {code : List Instruction} {parameter : ℕ → Bool} {cs : List ℕ} {rows : ℕ → Type 0} {m m' : Mem} {b : ℕ} → Only cs rows m m'
    → every (spared cs) block_cells ≡ true → ((k : ℕ) → RowsOf b k → rows k → ⊥) → Block code parameter m b → Block code parameter m' b
block-spared {cs = cs} {m = m} {m'} {b} o e f =
    block-kept (words-cells (at cost_cell refl) (at start_cell refl) (at end_cell refl) (at successor_count_cell refl) (at successor_cell refl) b)
    (λ k r. o.others k (omega arith) (f k r))
  where
    at : (k : ℕ) → elem k block_cells ≡ true → cell m' k ≡ cell m k
    at k h = o.named k (every_at (spared cs) block_cells e k (elem_mem k block_cells h))
