-- Both lent buffers as a run has them: the words have a layout of their own, which is the run's. Assumes nothing.
use mathlib.Core.Path.{◌≡◌, sym, ap, ◌∙◌}
use mathlib.Core.List.{List, ◌∷◌, ◌++◌}
use Prim.Native.Nat.{ℕ, ◌+◌, ◌-◌, ◌^◌, ◌≤◌, ◌<◌}
use Rattle.std.proofs.Common.{arith}
use lib.ListN.{length, take, drop, get_or, set}
use Rattle.bitset.specs.Operations.{join, difference}
use Rattle.bitset.specs.Rows.{row, patched, Apart}
use Rattle.sizes.specs.declared.Layout.{Layout}
use Rattle.run.specs.Terms.{SetsBounded}
use Rattle.sizes.specs.Sizes.{scratch_words, sets_words}
use Rattle.memory.specs.declared.names.Cell.{Cell}
use Rattle.memory.specs.declared.names.SlotRow.{SlotRow}
use Rattle.memory.specs.declared.names.BlockSet.{BlockSet}
use Rattle.memory.specs.Cells.{Mem, InWords, total, cell, word, store, store_cell, Covers}
use Rattle.memory.specs.Names.{await_entry}
use Rattle.memory.specs.Named.{cell_of, width_of, row_of, set_of, RowThere, SetThere}
use Rattle.memory.specs.Scratch.{scratch, scratch_widths, Whole, Holds, Row}
use Rattle.memory.specs.Sets.{sets, sets_widths, SetsWhole, SetsHold, SetsRow}
use Rattle.memory.proofs.CellLaws.{width}
use Rattle.memory.proofs.ScratchLaws.{scratch_fits, scratch_sized, scratch_in_words, words_below, place_inside, place_word, place_store, cell_long, cell_put, cell_copied, cells_lie_apart}
use Rattle.memory.proofs.ScratchLaws.{row_is, row_long, row_put, rows_apart, rows_copied, rows_joined, rows_replaced}
use Rattle.memory.proofs.SetsLaws.{sets_sized, sets_in_words, sets_row_is, sets_row_long, sets_row_put, entry_put}
use Rattle.memory.proofs.NamedLaws.{cell_place, cell_width, row_there, set_there, entry_there}

-- ---- scratch: the words l, which a contract sees as the cells m
module _ {y own : Layout} {m : Mem} (l : List ℕ) (b : Holds y own (length l)) (see : scratch own l ≡ m) where
  pub backed_whole : Whole y m
  backed_whole = rw (← see, ← b.same) (scratch_sized l b.room)

  pub backed_in_words : ((i : ℕ) → get_or l i 0 < 2 ^ 64) → InWords m
  backed_in_words f = rw (← see) (scratch_in_words l b.room f)

  -- word i of cell c
  module _ (c : Cell) {i base : ℕ} (h : i < width_of y c) (e : base ≡ total (take (cell_of c) (scratch_widths own))) where
    there : i < width_of own c
    there = rw b.same h

    pub backed_inside : base + i < length l
    backed_inside = rw e (place_inside l b.room (cell_place c there))

    pub backed_small : base + i < 2 ^ 40
    backed_small =
        let p = cell_place {y = own} c there in
        omega (arith, e, p.inside, scratch_fits own (cell_of c), words_below own b.room.instructions b.room.blocks b.room.words b.room.extra)

    pub backed_word : get_or l (base + i) 0 ≡ word m (cell_of c) i
    backed_word = rw (← see) (place_word l b.room (cell_place c there) e)

    pub backed_store : (v : ℕ) → scratch own (set l (base + i) v) ≡ store m (cell_of c) i v
    backed_store v = rw (← see) (place_store l b.room (cell_place c there) e v)

  -- cell c by the range of its words
  module _ (c : Cell) {start end : ℕ} (v : Covers (scratch_widths own) (cell_of c) (width_of own c) (scratch_words own) start end) where
    whole-cell : Covers (scratch_widths own) (cell_of c) (width (scratch_widths own) (cell_of c)) (scratch_words own) start end
    whole-cell = record { starts = v.starts; ends = omega (arith, v.ends, cell_width own c); fits = v.fits }

    pub backed_end : end ≤ length l
    backed_end = omega (arith, v.fits, b.room.fits)

    pub backed_ordered : start ≤ end
    backed_ordered = omega (arith, v.ends)

    pub backed_long : length (take (end - start) (drop start l)) ≡ width_of y c
    backed_long = cell_long l b.room whole-cell ∙ cell_width own c ∙ ap (λ (z : Layout). width_of z c) b.same

    pub backed_put : (ys : List ℕ) → length ys ≡ length (take (end - start) (drop start l))
        → scratch own (take start l ++ (ys ++ drop (end - start) (drop start l))) ≡ store_cell m (cell_of c) ys
    backed_put ys e = rw (← see) (cell_put l b.room whole-cell ys e)

    -- a cell as wide, which begins at `at`
    module _ (d : Cell) {at : ℕ} (e : at ≡ total (take (cell_of d) (scratch_widths own))) (f : width_of y d ≡ width_of y c) where
      as-wide : width (scratch_widths own) (cell_of d) ≡ width (scratch_widths own) (cell_of c)
      as-wide = let g : width_of own d ≡ width_of own c = rw b.same f in cell_width own d ∙ g ∙ sym (cell_width own c)

      pub backed_copy_room : at + (end - start) ≤ length l
      backed_copy_room = omega (arith, v.ends, e, scratch_fits own (cell_of d), as-wide, cell_width own c, b.room.fits)

      pub backed_copy_apart : (cell_of d ≡ cell_of c → ⊥) → Apart at start (end - start)
      backed_copy_apart ne = cells_lie_apart l b.room whole-cell (cell_of d) e as-wide ne

      pub backed_copied : scratch own (patched l at (row l start (end - start))) ≡ store_cell m (cell_of d) (cell m (cell_of c))
      backed_copied = rw (← see) (cell_copied l b.room whole-cell (cell_of d) e as-wide)

  -- a row by the range of its words
  module _ (r : SlotRow) (h : RowThere y r) where
    row-there : Row own (row_of own r)
    row-there = row_there r (rw b.same h)

    module _ {start end : ℕ} (v : Covers (scratch_widths own) (row_of own r) own.words (scratch_words own) start end) where
      pub backed_row : take (end - start) (drop start l) ≡ cell m (row_of y r)
      backed_row = rw (← see, ← b.same) (row_is l b.room row-there v)

      pub backed_row_long : length (take (end - start) (drop start l)) ≡ y.words
      backed_row_long = rw (← b.same) (row_long l b.room row-there v)

      pub backed_row_put : (ys : List ℕ) → length ys ≡ length (take (end - start) (drop start l))
          → scratch own (take start l ++ (ys ++ drop (end - start) (drop start l))) ≡ store_cell m (row_of y r) ys
      backed_row_put ys e = rw (← see, ← b.same) (row_put l b.room row-there v ys e)

  -- what `bitset` does to a row and other rows
  module _ (d k : SlotRow) (g : RowThere y d) (h : RowThere y k) {a to from end : ℕ}
      (v : Covers (scratch_widths own) (row_of own d) own.words (scratch_words own) a to)
      (w : Covers (scratch_widths own) (row_of own k) own.words (scratch_words own) from end) where
    pub backed_apart : (row_of y d ≡ row_of y k → ⊥) → Apart a from own.words
    backed_apart ne = rows_apart l b.room (row-there d g) (row-there k h) v w (rw b.same ne)

    pub backed_row_copied : scratch own (patched l a (row l from own.words)) ≡ store_cell m (row_of y d) (cell m (row_of y k))
    backed_row_copied = rw (← see, ← b.same) (rows_copied l b.room (row-there d g) (row-there k h) v w)

    pub backed_joined : scratch own (patched l a (join (row l a own.words) (row l from own.words))) ≡ store_cell m (row_of y d) (join (cell m (row_of y d)) (cell m (row_of y k)))
    backed_joined = rw (← see, ← b.same) (rows_joined l b.room (row-there d g) (row-there k h) v w)

    pub backed_replaced : (j : SlotRow) → RowThere y j → {i last : ℕ} → Covers (scratch_widths own) (row_of own j) own.words (scratch_words own) i last
        → scratch own (patched l a (join (difference (row l a own.words) (row l from own.words)) (row l i own.words)))
        ≡ store_cell m (row_of y d) (join (difference (cell m (row_of y d)) (cell m (row_of y k))) (cell m (row_of y j)))
    backed_replaced j q x = rw (← see, ← b.same) (rows_replaced l b.room (row-there d g) (row-there k h) v w (row-there j q) x)

-- what a function cites
pub ruleset backed = (backed_end, backed_ordered)

-- ---- the sets buffer as a run has it
module _ {y own : Layout} {m : Mem} (l : List ℕ) (b : SetsHold y own (length l)) (see : sets own l ≡ m) where
  pub sets_backed_bounded : SetsBounded y
  sets_backed_bounded = rw (← b.same) (record { blocks = b.room.blocks; words = b.room.words; awaits = b.room.awaits })

  pub sets_backed_whole : SetsWhole y m
  sets_backed_whole = rw (← see, ← b.same) (sets_sized l b.room)

  pub sets_backed_in_words : ((i : ℕ) → get_or l i 0 < 2 ^ 64) → InWords m
  sets_backed_in_words f = rw (← see) (sets_in_words l b.room f)

  module _ (r : BlockSet) (h : SetThere y r) {start end : ℕ}
      (v : Covers (sets_widths own) (set_of r) own.words (sets_words own) start end) where
    set-there : SetsRow own (set_of r)
    set-there = set_there own r (rw b.same h)

    pub sets_backed_end : end ≤ length l
    sets_backed_end = omega (arith, v.fits, b.room.fits)

    pub sets_backed_row : take (end - start) (drop start l) ≡ cell m (set_of r)
    sets_backed_row = rw (← see) (sets_row_is l b.room set-there v)

    pub sets_backed_long : length (take (end - start) (drop start l)) ≡ y.words
    sets_backed_long = rw (← b.same) (sets_row_long l b.room set-there v)

    pub sets_backed_put : (ys : List ℕ) → length ys ≡ length (take (end - start) (drop start l))
        → sets own (take start l ++ (ys ++ drop (end - start) (drop start l))) ≡ store_cell m (set_of r) ys
    sets_backed_put ys e = rw (← see) (sets_row_put l b.room set-there v ys e)

  -- the k-th entry, whose first word becomes v and the others ys
  pub sets_backed_entry : {k start end : ℕ} → k < y.awaits
      → Covers (sets_widths own) (await_entry own.blocks k) (1 + own.words) (sets_words own) start end → (v : ℕ) (ys : List ℕ) → length ys ≡ y.words
      → let mid : List ℕ = set (take (end - start) (drop start l)) 0 v in
      sets own (take start l ++ ((take 1 mid ++ (ys ++ drop (length mid - 1) (drop 1 mid))) ++ drop (end - start) (drop start l)))
      ≡ store_cell m (await_entry y.blocks k) (v ∷ ys)
  sets_backed_entry h c v ys e =
      rw (← see, ← b.same) (entry_put l b.room (entry_there (rw b.same h)) c v ys (rw b.same e))

pub ruleset sets_backed = (sets_backed_end)
