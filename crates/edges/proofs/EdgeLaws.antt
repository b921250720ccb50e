-- Words as marks, what the words of a graph hold stays where its two cells stay, and what a cleared cell holds. Assumes nothing.
use mathlib.Core.Path.{◌≡◌, refl, sym, ap, ◌∙◌}
use mathlib.Core.Bool.{Bool, true, false}
use mathlib.Core.List.{List, [], ◌∷◌}
use Prim.Native.Nat.{ℕ, zero, suc, ◌*◌, ◌≤◌, ◌<◌}
use native.Mathlib.Omega.{arith}
use native.Mathlib.Decide.{ℕ_discrete}
use lib.ListN.{length, set, replicate, get_or-replicate}
use Rattle.dataflow.specs.Lists.{elem, every, flag}
use Rattle.memory.specs.Cells.{Mem, cell, word, store, store_cell}
use Rattle.memory.specs.Frame.{spared, Only, NoRow}
use Rattle.memory.specs.Names.{first_row, successor_cell, successor_count_cell}
use Rattle.memory.specs.Scratch.{Whole}
use Rattle.sizes.specs.declared.Layout.{Layout}
use Rattle.memory.specs.Edges.{successor_at}
use Rattle.memory.proofs.EdgeLaws.{successor_kept}
use Rattle.memory.proofs.CellLaws.{same_word, word-cell_same}
use Rattle.memory.proofs.FrameLaws.{only-cell, only-more}
use Rattle.memory.proofs.ScratchLaws.{sized_among}
use Rattle.edges.specs.Edges.{edges_before, marked, Holds, Cleared}

-- ---- marks

pub marked-yes : (v : ℕ) → (v ≡ 0 → ⊥) → marked v ≡ true
marked-yes zero h = absurd (h refl)
marked-yes (suc v) h = refl

pub marked-no : (v : ℕ) → v ≡ 0 → marked v ≡ false
marked-no v e = ap marked e

-- a truth value as a word, and back
pub marked-flag : (t : Bool) → marked (flag t) ≡ t
marked-flag true = refl
marked-flag false = refl

pub flag-yes : (t : Bool) → (flag t ≡ 0 → ⊥) → t ≡ true
flag-yes t ne = sym (marked-flag t) ∙ marked-yes (flag t) ne

pub flag-no : (t : Bool) → flag t ≡ 0 → t ≡ false
flag-no t e = sym (marked-flag t) ∙ marked-no (flag t) e

pub flag-few : (t : Bool) → flag t ≤ 1
flag-few true = omega arith
flag-few false = omega arith

-- ---- what stays

-- a store into a word of one of these cells; that it is one of them computes, so it is shown by `refl`
pub only_store : {m m' : Mem} (cs : List ℕ) (c i v : ℕ) → c < first_row → every (λ d. elem d cs) (c ∷ []) ≡ true → m' ≡ store m c i v
    → Only cs NoRow m m'
only_store {m = m} cs c i v h e q = only-more cs NoRow e (λ k g r. r) (only-cell c (set (cell m c) i v) h q)

-- the graph's two cells alone say which graph is held
pub holds_kept : {next : ℕ → List ℕ} {y : Layout} {m m' : Mem} → cell m' successor_count_cell ≡ cell m successor_count_cell
    → cell m' successor_cell ≡ cell m successor_cell → Holds next y m → Holds next y m'
holds_kept {m = m} {m' = m'} e f h = record {
  counted = λ b lt. same_word b e ∙ h.counted b lt;
  stored = λ b k lt kt. successor_kept m m' e f b k ∙ h.stored b k lt kt;
  small = h.small;
  few = h.few;
  below = h.below;
}

-- so a step that spares them leaves it held
pub holds-only : {next : ℕ → List ℕ} {y : Layout} {cs : List ℕ} {rows : ℕ → Type 0} {m m' : Mem} → Only cs rows m m'
    → spared cs successor_count_cell ≡ true → spared cs successor_cell ≡ true → Holds next y m → Holds next y m'
holds-only o a b h = holds_kept (o.named successor_count_cell a) (o.named successor_cell b) h

-- at most two a block
pub edges-two : (next : ℕ → List ℕ) (n : ℕ) → ((b : ℕ) → length (next b) ≤ 2) → edges_before next n ≤ 2 * n
edges-two next zero h = omega arith
edges-two next (suc n) h = omega (arith, edges-two next n h, h n)

-- no block has more edges than there are
pub edges-within : (next : ℕ → List ℕ) (b n : ℕ) → b < n → length (next b) ≤ edges_before next n
edges-within next b zero h = absurd (omega arith)
edges-within next b (suc n) h = go (ℕ_discrete b n) (λ l. edges-within next b n l)
  where
    go : Dec (b ≡ n) → (b < n → length (next b) ≤ edges_before next n) → length (next b) ≤ edges_before next (suc n)
    go (yes q) r = rw q (omega arith)
    go (no q) r = omega (arith, r (omega arith))

-- an edge that is counted leads to a block
pub successor_there : {next : ℕ → List ℕ} {y : Layout} {m : Mem} → Holds next y m → (b k : ℕ) → b < y.blocks → k < word m successor_count_cell b
    → successor_at m b k < y.blocks
successor_there {next} h b k lt kt =
    let l : k < length (next b) = omega (arith, h.counted b lt) in
    rw (h.stored b k lt l) (h.below b k lt l)

-- ---- a cell that is cleared

pub cleared-cell : {y : Layout} {m m' : Mem} (k : ℕ) → k < first_row → Whole y m → m' ≡ store_cell m k (replicate y.blocks 0) → Cleared y k m m'
cleared-cell {y} {m} k h z e = record {
  zeros = λ i lt. ap (λ (w : Mem). word w k i) e ∙ word-cell_same m k _ i (sized_among y z (omega arith)) ∙ get_or-replicate y.blocks i 0 0 lt;
  only = only-cell k _ h e;
}

-- among the cells that may change
pub cleared-only : {y : Layout} {k : ℕ} {m m' : Mem} (cs : List ℕ) → every (λ d. elem d cs) (k ∷ []) ≡ true → Cleared y k m m' → Only cs NoRow m m'
cleared-only cs e c = only-more cs NoRow e (λ k g r. r) c.only
