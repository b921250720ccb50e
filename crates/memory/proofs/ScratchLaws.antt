-- The layout of scratch: its cells fill document 01's size, how wide each is and where it begins. Assumes nothing.
use mathlib.Core.Path.{◌≡◌, refl, sym, ap, ap₂, ◌∙◌}
use mathlib.Core.List.{List, ◌++◌}
use Prim.Native.Nat.{ℕ, ◌+◌, ◌-◌, ◌*◌, ◌^◌, ◌≤◌, ◌<◌}
use Rattle.std.proofs.Common.{arith, rules}
use lib.ListN.{length, take, drop, get_or, set, replicate, length-replicate, get_or-replicate, length-take, length-drop}
use Rattle.bitset.specs.Sets.{Words}
use Rattle.bitset.specs.Operations.{join, difference}
use Rattle.bitset.specs.Rows.{row, patched, Apart}
use Rattle.sizes.specs.declared.Layout.{Layout}
use Rattle.memory.specs.Cells.{Mem, total, cell, word, store, store_cell, Covers, Sized, InWords}
use Rattle.memory.specs.Scratch.{edge_words, scratch_widths, scratch_cells, scratch, Room, Place, Row}
use Rattle.sizes.specs.Sizes.{scratch_words}
use Rattle.memory.proofs.CellLaws.{start, width, cell-fits, length-cells, cell_row, cell-words, word-store_same}
use Rattle.memory.proofs.CellLaws.{sized, total-append, total-equal, start-equal, start_in, start_past, width_in, width_past}
use Rattle.memory.proofs.CellRows.{Lies, lies_word, lies_stored, covers_lies, covers_row, covers_put, covers_copied, ends_at, lies_apart, lies_copied, lies_joined, lies_replaced}

product : {a b m n : ℕ} → a ≤ m → b ≤ n → a * b ≤ m * n
product h g = search rules

module _ (y : Layout) where
  abbrev rows : List ℕ
  rows = replicate (4 * y.blocks + 4) y.words

  abbrev links : List ℕ
  links = replicate 1 (edge_words y) ++ rows

  abbrev edges : List ℕ
  edges = replicate 1 (2 * y.blocks) ++ links

  abbrev blocks : List ℕ
  blocks = replicate 12 y.blocks ++ edges

  -- ---- the whole
  pub scratch_count : length (scratch_widths y) ≡ scratch_cells y
  unfolding scratch_widths
  scratch_count = simp length-replicate (omega arith)

  -- three words an extra edge lie in no cell
  pub scratch_total : total (scratch_widths y) + 3 * y.extra ≡ scratch_words y
  unfolding scratch_widths
  scratch_total =
      omega (
        arith,
        total-append (replicate 4 y.instructions) blocks,
        total-equal 4 y.instructions,
        total-append (replicate 12 y.blocks) edges,
        total-equal 12 y.blocks,
        total-append (replicate 1 (2 * y.blocks)) links,
        total-equal 1 (2 * y.blocks),
        total-append (replicate 1 (edge_words y)) rows,
        total-equal 1 (edge_words y),
        total-equal (4 * y.blocks + 4) y.words,
      )

  -- each cell lies within that size (`cells-apart`: and no two have a word in common)
  pub scratch_fits : (k : ℕ) → start (scratch_widths y) k + width (scratch_widths y) k ≤ scratch_words y
  scratch_fits k = omega (arith, cell-fits (scratch_widths y) k, scratch_total)

  -- no buffer of these sizes is larger than numbers reach
  pub words_below : y.instructions ≤ 65536 → y.blocks ≤ 65536 → y.words ≤ 1024 → y.extra ≤ 16777216 → scratch_words y < 2 ^ 40
  words_below n b w x =
      let row : 4 * y.words + 16 ≤ 4112 = omega (arith, w) in
      let rows : y.blocks * (4 * y.words + 16) ≤ 65536 * 4112 = product b row in
      omega (arith, n, w, x, rows)

  module _ (k : ℕ) where
    -- ---- how wide cell k is
    pub width_instructions : k < 4 → width (scratch_widths y) k ≡ y.instructions
    unfolding scratch_widths
    width_instructions h = width_in 4 y.instructions blocks k h

    pub width_blocks : 4 ≤ k → k < 16 → width (scratch_widths y) k ≡ y.blocks
    unfolding scratch_widths
    width_blocks g h =
        width_past 4 y.instructions blocks k g ∙ width_in 12 y.blocks edges (k - 4) (omega arith)

    width-behind_blocks : 16 ≤ k → width (scratch_widths y) k ≡ width edges (k - 4 - 12)
    unfolding scratch_widths
    width-behind_blocks g =
        width_past 4 y.instructions blocks k (omega arith) ∙ width_past 12 y.blocks edges (k - 4) (omega arith)

    pub width_successors : k ≡ 16 → width (scratch_widths y) k ≡ 2 * y.blocks
    width_successors e = width-behind_blocks (omega arith) ∙ width_in 1 (2 * y.blocks) links (k - 4 - 12) (omega arith)

    pub width_links : k ≡ 17 → width (scratch_widths y) k ≡ edge_words y
    width_links e =
        width-behind_blocks (omega arith) ∙ width_past 1 (2 * y.blocks) links (k - 4 - 12) (omega arith)
        ∙ width_in 1 (edge_words y) rows (k - 4 - 12 - 1) (omega arith)

    pub width_row : Row y k → width (scratch_widths y) k ≡ y.words
    width_row r =
        width-behind_blocks (omega arith) ∙ width_past 1 (2 * y.blocks) links (k - 4 - 12) (omega arith)
        ∙ width_past 1 (edge_words y) rows (k - 4 - 12 - 1) (omega arith)
        ∙ get_or-replicate (4 * y.blocks + 4) (k - 4 - 12 - 1 - 1) y.words 0 (omega arith)

    -- ---- where cell k begins
    pub start_instructions : k < 4 → start (scratch_widths y) k ≡ k * y.instructions
    unfolding scratch_widths
    start_instructions h = start_in 4 y.instructions blocks k (omega arith)

    start-behind_instructions : 4 ≤ k → start (scratch_widths y) k ≡ 4 * y.instructions + start blocks (k - 4)
    unfolding scratch_widths
    start-behind_instructions g = start_past 4 y.instructions blocks k g

    pub start_blocks : 4 ≤ k → k < 16 → start (scratch_widths y) k ≡ 4 * y.instructions + (k - 4) * y.blocks
    start_blocks g h =
        omega (arith, start-behind_instructions g, start_in 12 y.blocks edges (k - 4) (omega arith))

    start-behind_blocks : 16 ≤ k → start (scratch_widths y) k ≡ 4 * y.instructions + 12 * y.blocks + start edges (k - 16)
    start-behind_blocks g =
        let e : k - 4 - 12 ≡ k - 16 = omega arith in
        omega (arith, start-behind_instructions (omega arith), start_past 12 y.blocks edges (k - 4) (omega arith), ap (start edges) e)

    pub start_edges : 16 ≤ k → k < 18
        → start (scratch_widths y) k ≡ 4 * y.instructions + 12 * y.blocks + (k - 16) * (2 * y.blocks)
    start_edges g h =
        omega (arith, start-behind_blocks g, start_in 1 (2 * y.blocks) links (k - 16) (omega arith))

    pub start_row : Row y k → start (scratch_widths y) k ≡ 4 * y.instructions + 16 * y.blocks + y.extra + (k - 18) * y.words
    start_row r =
        let e : k - 16 - 1 - 1 ≡ k - 18 = omega arith in
        omega (
          arith,
          start-behind_blocks (omega arith),
          start_past 1 (2 * y.blocks) links (k - 16) (omega arith),
          start_past 1 (edge_words y) rows (k - 16 - 1) (omega arith),
          start-equal (4 * y.blocks + 4) y.words (k - 16 - 1 - 1) (omega arith),
          ap (λ (n : ℕ). n * y.words) e,
        )

    -- ---- word i of cell k is there
    module _ (i : ℕ) where
      pub place_instructions : k < 4 → i < y.instructions → Place y k i
      place_instructions h g = record { among = omega arith; inside = rw (width_instructions h) g }

      pub place_blocks : 4 ≤ k → k < 16 → i < y.blocks → Place y k i
      place_blocks a b g = record { among = omega arith; inside = rw (width_blocks a b) g }

      pub place_successors : k ≡ 16 → i < 2 * y.blocks → Place y k i
      place_successors e g = record { among = omega arith; inside = rw (width_successors e) g }

      pub place_links : k ≡ 17 → i < edge_words y → Place y k i
      place_links e g = record { among = omega arith; inside = rw (width_links e) g }

-- ---- cells of this layout, however they came about
module _ (y : Layout) {m : Mem} (z : Sized (scratch_widths y) m) where
  pub sized_among : {k : ℕ} → k < scratch_cells y → k < length m
  sized_among h = omega (arith, scratch_count y)

  pub sized_blocks : (k : ℕ) → 4 ≤ k → k < 16 → length (cell m k) ≡ y.blocks
  sized_blocks k g h = z.wide k ∙ width_blocks y k g h

  pub sized_row : {k : ℕ} → Row y k → length (cell m k) ≡ y.words
  sized_row {k} r = z.wide k ∙ width_row y k r

  pub sized_inside : {k i : ℕ} → Place y k i → i < length (cell m k)
  sized_inside {k} p = omega (arith, z.wide k)

  -- what was put into a word is what is read there
  pub word_put : {k i : ℕ} → Place y k i → (v : ℕ) → word (store m k i v) k i ≡ v
  word_put {k} {i} p v = word-store_same m k i v (sized_among p.among) (sized_inside p)

-- ---- the cells of words that are enough
pub scratch-length : (y : Layout) (l : List ℕ) → length (scratch y l) ≡ scratch_cells y
unfolding scratch
scratch-length y l = length-cells (scratch_widths y) l ∙ scratch_count y

module _ {y : Layout} (l : List ℕ) (room : Room y (length l)) where
  enough : total (scratch_widths y) ≤ length l
  enough = omega (arith, scratch_total y)

  pub scratch_sized : Sized (scratch_widths y) (scratch y l)
  unfolding scratch
  scratch_sized = sized (scratch_widths y) l enough

  pub scratch_in_words : ((i : ℕ) → get_or l i 0 < 2 ^ 64) → InWords (scratch y l)
  unfolding scratch
  scratch_in_words f k i = (cell-words (scratch_widths y) l k f enough).fits i

  pub place_inside : {k i : ℕ} → Place y k i → start (scratch_widths y) k + i < length l
  place_inside {k} p = omega (arith, scratch_fits y k)

  -- a cell of width w, which begins at base, in the slice
  pub cell_lies : {k base w : ℕ} → base ≡ start (scratch_widths y) k → w ≡ width (scratch_widths y) k → Lies (scratch_widths y) l k base w
  cell_lies e f = record { begins = e; wide = sym f; room = enough }

  -- word i of cell k, which begins at base
  module _ {k i base : ℕ} (p : Place y k i) (e : base ≡ start (scratch_widths y) k) where
    pub place_word : get_or l (base + i) 0 ≡ word (scratch y l) k i
    unfolding scratch
    place_word = lies_word (cell_lies e refl) i p.inside

    pub place_store : (v : ℕ) → scratch y (set l (base + i) v) ≡ store (scratch y l) k i v
    unfolding scratch
    place_store = lies_stored (cell_lies e refl) i p.inside

  -- cell k, which is no row, by the range of its words
  module _ {k start end : ℕ} (c : Covers (scratch_widths y) k (width (scratch_widths y) k) (scratch_words y) start end) where
    pub cell_long : length (take (end - start) (drop start l)) ≡ width (scratch_widths y) k
    cell_long = simp (length-take, length-drop) (omega arith)

    pub cell_put : (ys : List ℕ) → length ys ≡ length (take (end - start) (drop start l))
        → scratch y (take start l ++ (ys ++ drop (end - start) (drop start l))) ≡ store_cell (scratch y l) k ys
    unfolding scratch
    cell_put ys e = covers_put l c refl enough ys (e ∙ cell_long)

    -- cell d, which begins at `at`, is as wide, and becomes it
    module _ (d : ℕ) {at : ℕ} (e : at ≡ total (take d (scratch_widths y))) (f : width (scratch_widths y) d ≡ width (scratch_widths y) k) where
      pub cells_lie_apart : (d ≡ k → ⊥) → Apart at start (end - start)
      cells_lie_apart ne = rw (ends_at c) (lies_apart (cell_lies e (sym f)) (covers_lies l c refl enough) ne)

      pub cell_copied : scratch y (patched l at (row l start (end - start))) ≡ store_cell (scratch y l) d (cell (scratch y l) k)
      unfolding scratch
      cell_copied = covers_copied l c refl enough (record { begins = e; wide = f; room = enough })

  module _ {k : ℕ} (r : Row y k) where
    -- row k, which begins at base, in the slice
    pub row_lies : {base : ℕ} → base ≡ start (scratch_widths y) k → Lies (scratch_widths y) l k base y.words
    row_lies e = cell_lies e (sym (width_row y k r))

    -- row k by the range of its words
    module _ {start end : ℕ} (c : Covers (scratch_widths y) k y.words (scratch_words y) start end) where
      pub row_is : take (end - start) (drop start l) ≡ cell (scratch y l) k
      unfolding scratch
      row_is = covers_row l c (width_row y k r) enough

      pub row_long : length (take (end - start) (drop start l)) ≡ y.words
      row_long = simp (length-take, length-drop) (omega arith)

      pub row_put : (ys : List ℕ) → length ys ≡ length (take (end - start) (drop start l))
          → scratch y (take start l ++ (ys ++ drop (end - start) (drop start l))) ≡ store_cell (scratch y l) k ys
      unfolding scratch
      row_put ys e = covers_put l c (width_row y k r) enough ys (e ∙ row_long)

    pub row_length : length (cell (scratch y l) k) ≡ y.words
    row_length = sized_row y scratch_sized r

    pub row_words : ((i : ℕ) → get_or l i 0 < 2 ^ 64) → Words y.words (cell (scratch y l) k)
    unfolding scratch
    row_words f = rw (width_row y k r) at (cell-words (scratch_widths y) l k f enough)

  -- rows by the ranges of their words: no two have a word in common, and what `bitset` does to a row and other rows of the slice
  module _ {d k a to b end : ℕ} (g : Row y d) (r : Row y k) (c : Covers (scratch_widths y) d y.words (scratch_words y) a to)
      (e : Covers (scratch_widths y) k y.words (scratch_words y) b end) where
    pub rows_apart : (d ≡ k → ⊥) → Apart a b y.words
    rows_apart = lies_apart (row_lies g c.starts) (row_lies r e.starts)

    pub rows_copied : scratch y (patched l a (row l b y.words)) ≡ store_cell (scratch y l) d (cell (scratch y l) k)
    unfolding scratch
    rows_copied = lies_copied (row_lies g c.starts) (row_lies r e.starts)

    pub rows_joined : scratch y (patched l a (join (row l a y.words) (row l b y.words))) ≡ store_cell (scratch y l) d (join (cell (scratch y l) d) (cell (scratch y l) k))
    unfolding scratch
    rows_joined = lies_joined (row_lies g c.starts) (row_lies r e.starts)

    pub rows_replaced : {j i last : ℕ} → Row y j → Covers (scratch_widths y) j y.words (scratch_words y) i last
        → scratch y (patched l a (join (difference (row l a y.words) (row l b y.words)) (row l i y.words)))
        ≡ store_cell (scratch y l) d (join (difference (cell (scratch y l) d) (cell (scratch y l) k)) (cell (scratch y l) j))
    unfolding scratch
    rows_replaced q i = lies_replaced (row_lies g c.starts) (row_lies r e.starts) (row_lies q i.starts)

-- the cells of a word an instruction are the same in each layout with as many instructions
pub grown : (y y' : Layout) (l : List ℕ) (k : ℕ) → y.instructions ≡ y'.instructions → k < 4 → cell (scratch y l) k ≡ cell (scratch y' l) k
unfolding scratch
grown y y' l k e h =
    cell_row (scratch_widths y) l k
    ∙ ap₂ (row l) (start_instructions y k h ∙ ap (λ (n : ℕ). k * n) e ∙ sym (start_instructions y' k h))
    (width_instructions y k h ∙ e ∙ sym (width_instructions y' k h)) ∙ sym (cell_row (scratch_widths y') l k)

-- what functions cite: where the cells that are no rows begin
pub ruleset starts = (start_instructions, start_blocks, start_edges)
