-- The layout of the sets buffer: its cells fill document 01's size, how wide each is and where it begins. Assumes nothing.
use mathlib.Core.Path.{◌≡◌, ap, ◌∙◌}
use mathlib.Core.List.{List, [], ◌∷◌, ◌++◌, append-nil}
use Prim.Native.Nat.{ℕ, suc, ◌+◌, ◌-◌, ◌*◌, ◌^◌, ◌≤◌, ◌<◌}
use native.Mathlib.Omega.{arith}
use lib.ListN.{length, take, drop, get_or, set, drop_of_length-le, replicate, length-replicate, get_or-replicate, length-append, length-take, length-drop}
use Rattle.bitset.specs.Sets.{Words}
use Rattle.sizes.specs.declared.Layout.{Layout}
use Rattle.memory.specs.Cells.{total, cell, store_cell, Covers, Sized, InWords}
use Rattle.memory.specs.Sets.{sets_widths, sets, SetsRoom, SetsRow, AwaitEntry}
use Rattle.sizes.specs.Sizes.{sets_words}
use Rattle.memory.proofs.CellLaws.{start, width, cell-fits, length-cells, cell-words, sized}
use Rattle.memory.proofs.CellLaws.{total-append, total-equal, start-equal, start_in, start_past, width_in, width_past}
use Rattle.memory.proofs.CellRows.{covers_row, covers_put}

module _ (y : Layout) where
  abbrev awaits : List ℕ
  awaits = replicate y.awaits (1 + y.words)

  -- ---- the whole
  pub sets_count : length (sets_widths y) ≡ 2 * y.blocks + y.awaits
  unfolding sets_widths
  sets_count = simp (length-append, length-replicate)

  pub sets_total : total (sets_widths y) ≡ sets_words y
  unfolding sets_widths
  sets_total =
      total-append (replicate (2 * y.blocks) y.words) awaits
      ∙ omega (arith, total-equal (2 * y.blocks) y.words, total-equal y.awaits (1 + y.words))

  -- each cell lies within that size (`cells-apart`: and no two have a word in common)
  pub sets_fits : (k : ℕ) → start (sets_widths y) k + width (sets_widths y) k ≤ sets_words y
  sets_fits k = omega (arith, cell-fits (sets_widths y) k, sets_total)

  module _ (k : ℕ) where
    -- ---- how wide cell k is
    pub width_sets_row : SetsRow y k → width (sets_widths y) k ≡ y.words
    unfolding sets_widths
    width_sets_row r = width_in (2 * y.blocks) y.words awaits k r

    pub width_await : AwaitEntry y k → width (sets_widths y) k ≡ 1 + y.words
    unfolding sets_widths
    width_await r =
        width_past (2 * y.blocks) y.words awaits k r.low
        ∙ get_or-replicate y.awaits (k - 2 * y.blocks) (1 + y.words) 0 (omega arith)

    -- ---- where cell k begins
    pub start_sets_row : SetsRow y k → start (sets_widths y) k ≡ k * y.words
    unfolding sets_widths
    start_sets_row r = start_in (2 * y.blocks) y.words awaits k (omega arith)

    pub start_await : AwaitEntry y k → start (sets_widths y) k ≡ y.blocks * 2 * y.words + (k - 2 * y.blocks) * (1 + y.words)
    unfolding sets_widths
    start_await r =
        start_past (2 * y.blocks) y.words awaits k r.low
        ∙ omega (arith, start-equal y.awaits (1 + y.words) (k - 2 * y.blocks) (omega arith))

-- a list whose first element becomes v, and then the others ys, in the form that the code has
headed : (l ys : List ℕ) (v : ℕ) → length l ≡ 1 + length ys
    → take 1 (set l 0 v) ++ (ys ++ drop (length (set l 0 v) - 1) (drop 1 (set l 0 v))) ≡ v ∷ ys
headed [] ys v h = absurd (omega arith)
headed (x ∷ l) ys v h =
    ap (λ (r : List ℕ). v ∷ (ys ++ r)) (drop_of_length-le l (omega arith)) ∙ ap (λ (r : List ℕ). v ∷ r) (append-nil ys)

-- ---- the cells of words that are enough
pub sets-length : (y : Layout) (l : List ℕ) → length (sets y l) ≡ 2 * y.blocks + y.awaits
unfolding sets
sets-length y l = length-cells (sets_widths y) l ∙ sets_count y

module _ {y : Layout} (l : List ℕ) (room : SetsRoom y (length l)) where
  enough : total (sets_widths y) ≤ length l
  enough = omega (arith, sets_total y)

  pub sets_sized : Sized (sets_widths y) (sets y l)
  unfolding sets
  sets_sized = sized (sets_widths y) l enough

  pub sets_in_words : ((i : ℕ) → get_or l i 0 < 2 ^ 64) → InWords (sets y l)
  unfolding sets
  sets_in_words f k i = (cell-words (sets_widths y) l k f enough).fits i

  module _ {k : ℕ} (r : SetsRow y k) where
    -- row k by the range of its words
    module _ {start end : ℕ} (c : Covers (sets_widths y) k y.words (sets_words y) start end) where
      pub sets_row_is : take (end - start) (drop start l) ≡ cell (sets y l) k
      unfolding sets
      sets_row_is = covers_row l c (width_sets_row y k r) enough

      pub sets_row_long : length (take (end - start) (drop start l)) ≡ y.words
      sets_row_long = simp (length-take, length-drop) (omega arith)

      pub sets_row_put : (ys : List ℕ) → length ys ≡ length (take (end - start) (drop start l))
          → sets y (take start l ++ (ys ++ drop (end - start) (drop start l))) ≡ store_cell (sets y l) k ys
      unfolding sets
      sets_row_put ys e = covers_put l c (width_sets_row y k r) enough ys (e ∙ sets_row_long)

    pub sets_row_words : ((i : ℕ) → get_or l i 0 < 2 ^ 64) → Words y.words (cell (sets y l) k)
    unfolding sets
    sets_row_words f = rw (width_sets_row y k r) at (cell-words (sets_widths y) l k f enough)

  module _ {k : ℕ} (r : AwaitEntry y k) where
    -- entry k by the range of its words
    module _ {start end : ℕ} (c : Covers (sets_widths y) k (1 + y.words) (sets_words y) start end) where
      pub entry_long : length (take (end - start) (drop start l)) ≡ 1 + y.words
      entry_long = simp (length-take, length-drop) (omega arith)

      -- its first word becomes v, and then the others ys
      pub entry_put : (v : ℕ) (ys : List ℕ) → length ys ≡ y.words
          → let mid : List ℕ = set (take (end - start) (drop start l)) 0 v in
          sets y (take start l ++ ((take 1 mid ++ (ys ++ drop (length mid - 1) (drop 1 mid))) ++ drop (end - start) (drop start l)))
          ≡ store_cell (sets y l) k (v ∷ ys)
      unfolding sets
      entry_put v ys e =
          let mid : List ℕ = take (end - start) (drop start l) in
          ap (λ (ws : List ℕ). sets y (take start l ++ (ws ++ drop (end - start) (drop start l)))) (headed mid ys v (omega (arith, entry_long)))
          ∙ covers_put l c (width_await y k r) enough (v ∷ ys) (ap suc e ∙ omega arith)

    pub await_words_lem : ((i : ℕ) → get_or l i 0 < 2 ^ 64) → Words (1 + y.words) (cell (sets y l) k)
    unfolding sets
    await_words_lem f = rw (width_await y k r) at (cell-words (sets_widths y) l k f enough)
