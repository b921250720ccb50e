-- A cell as a row of the words: what `bitset` does to the row is done to the cell. Assumes nothing.
use mathlib.Core.Logic.{◌≢◌}
use mathlib.Core.Path.{◌≡◌, refl, sym, ap, ap₂, ◌∙◌}
use mathlib.Core.List.{List, ◌++◌}
use Prim.Native.Nat.{ℕ, ◌+◌, ◌-◌, ◌/◌, ◌≤◌, ◌<◌}
use native.Mathlib.Omega.{arith}
use lib.Bits.{bit_and, bit_or}
use lib.ListN.{length, take, drop, get_or, set, length-set}
use lib.Seq.{drop-drop}
use Rattle.bitset.specs.Sets.{ones, member}
use Rattle.bitset.specs.Operations.{inserted, removed, zipped, join, difference}
use Rattle.bitset.specs.Rows.{row, patched, Apart}
use Rattle.bitset.proofs.SetLaws.{length_inserted, length_removed, length-zipped}
use Rattle.bitset.proofs.RowLaws.{length-row, get_or-row, set-row, member-row, inserted_at, removed_at, inserted_row, removed_row}
use Rattle.memory.specs.Cells.{cells, total, cell, word, store_cell, store, Covers}
use Rattle.memory.proofs.CellLaws.{start, width, cell-fits, cells-apart, cell_row, cells-patched}

-- cell k of the words l begins at base and is w words wide, and the words are enough for all cells
pub record Lies (ns l : List ℕ) (k base w : ℕ) : Type 0 where
  pub begins : base ≡ start ns k
  pub wide : width ns k ≡ w
  pub room : total ns ≤ length l

module _ {ns l : List ℕ} {k base w : ℕ} (p : Lies ns l k base w) where
  pub lies_fits : base + w ≤ length l
  lies_fits = omega (arith, cell-fits ns k)

  pub lies_row : row l base w ≡ cell (cells ns l) k
  lies_row = ap₂ (row l) p.begins (sym p.wide) ∙ sym (cell_row ns l k)

  pub lies_patched : {l' : List ℕ} (ys : List ℕ) → length ys ≡ w → l' ≡ patched l base ys → cells ns l' ≡ store_cell (cells ns l) k ys
  lies_patched ys long e =
      ap (cells ns) (e ∙ ap (λ (b : ℕ). patched l b ys) p.begins) ∙ cells-patched ns l k ys (long ∙ sym p.wide) p.room

  -- the cell becomes f of itself
  pub lies_changed : (f : List ℕ → List ℕ) → ((ws : List ℕ) → length (f ws) ≡ length ws) → {l' : List ℕ}
      → l' ≡ patched l base (f (row l base w)) → cells ns l' ≡ store_cell (cells ns l) k (f (cell (cells ns l) k))
  lies_changed f long e =
      lies_patched (f (row l base w)) (long (row l base w) ∙ length-row l base w lies_fits) e
      ∙ ap (λ (x : List ℕ). store_cell (cells ns l) k (f x)) lies_row

  -- one word
  module _ (i : ℕ) (h : i < w) where
    pub lies_word : get_or l (base + i) 0 ≡ word (cells ns l) k i
    lies_word = sym (get_or-row l base w i h) ∙ ap (λ (x : List ℕ). get_or x i 0) lies_row

    pub lies_stored : (v : ℕ) → cells ns (set l (base + i) v) ≡ store (cells ns l) k i v
    lies_stored v = lies_changed (λ x. set x i v) (λ x. length-set x i v) (set-row l base w i v lies_fits h)

  -- one slot
  module _ (slot : ℕ) (h : slot / 64 < w) where
    pub lies_member : member (drop base l) slot ≡ member (cell (cells ns l) k) slot
    lies_member = member-row l base w slot h ∙ ap (λ (x : List ℕ). member x slot) lies_row

    pub lies_inserted : {l' : List ℕ} → l' ≡ inserted_at l base slot → cells ns l' ≡ store_cell (cells ns l) k (inserted (cell (cells ns l) k) slot)
    lies_inserted e =
        lies_changed (λ x. inserted x slot) (λ x. length_inserted x slot) (e ∙ inserted_row l base w slot lies_fits h)

    pub lies_removed : {l' : List ℕ} → l' ≡ removed_at l base slot → cells ns l' ≡ store_cell (cells ns l) k (removed (cell (cells ns l) k) slot)
    lies_removed e =
        lies_changed (λ x. removed x slot) (λ x. length_removed x slot) (e ∙ removed_row l base w slot lies_fits h)

-- two cells of the same words
module _ {ns l : List ℕ} {j k d s w : ℕ} (p : Lies ns l j d w) (q : Lies ns l k s w) where
  -- have none in common
  pub lies_apart : j ≢ k → Apart d s w
  lies_apart ne = rw (p.begins, q.begins) (rw (p.wide, q.wide) at (cells-apart ns j k ne))

  -- one becomes the other
  pub lies_copied : cells ns (patched l d (row l s w)) ≡ store_cell (cells ns l) j (cell (cells ns l) k)
  lies_copied =
      lies_patched p (row l s w) (length-row l s w (lies_fits q)) refl ∙ ap (store_cell (cells ns l) j) (lies_row q)

-- how wide what a range covers is
pub ends_at : {ns : List ℕ} {k w n start end : ℕ} → Covers ns k w n start end → end - start ≡ w
ends_at c = omega (arith, c.ends)

-- a cell by the range of its words, in the forms that the code has: `&l[start..end]`, and l after a write to `&mut l[start..end]`
module _ {ns : List ℕ} (l : List ℕ) {k w n start end : ℕ} (c : Covers ns k w n start end) (wide : width ns k ≡ w) (room : total ns ≤ length l) where
  pub covers_lies : Lies ns l k start w
  covers_lies = record { begins = c.starts; wide = wide; room = room }

  pub covers_row : take (end - start) (drop start l) ≡ cell (cells ns l) k
  unfolding row
  covers_row = ap (λ (m : ℕ). take m (drop start l)) (omega arith) ∙ lies_row covers_lies

  pub covers_put : (ys : List ℕ) → length ys ≡ w
      → cells ns (take start l ++ (ys ++ drop (end - start) (drop start l))) ≡ store_cell (cells ns l) k ys
  unfolding patched
  covers_put ys e =
      lies_patched covers_lies ys e
      (ap (λ (r : List ℕ). take start l ++ (ys ++ r)) (drop-drop (end - start) start l ∙ ap (λ (m : ℕ). drop m l) (omega arith)))

  -- l after the words up to `end` were copied to `at`, where cell j begins
  pub covers_copied : {j at : ℕ} → Lies ns l j at w → cells ns (patched l at (row l start (end - start))) ≡ store_cell (cells ns l) j (cell (cells ns l) k)
  covers_copied {j} {at} p = rw (ends_at c) (lies_copied p covers_lies)

-- with a cell of the same or of other words
module _ {ns l ms t : List ℕ} {j k d s w : ℕ} (p : Lies ns l j d w) (q : Lies ms t k s w) where
  pub lies_zipped : (f : ℕ → ℕ → ℕ) {l' : List ℕ} → l' ≡ patched l d (zipped f (row l d w) (row t s w))
      → cells ns l' ≡ store_cell (cells ns l) j (zipped f (cell (cells ns l) j) (cell (cells ms t) k))
  lies_zipped f e =
      lies_changed p (λ x. zipped f x (row t s w)) (λ x. length-zipped f x (row t s w)) e
      ∙ ap (λ (x : List ℕ). store_cell (cells ns l) j (zipped f (cell (cells ns l) j) x)) (lies_row q)

-- two cells of the same words, as wide
module _ {ns l : List ℕ} {j k d s w : ℕ} (p : Lies ns l j d w) (q : Lies ns l k s w) where
  -- one takes in what is in the other
  pub lies_joined : cells ns (patched l d (join (row l d w) (row l s w))) ≡ store_cell (cells ns l) j (join (cell (cells ns l) j) (cell (cells ns l) k))
  lies_joined = lies_zipped p q bit_or refl

-- three: one loses what is in the second and then takes in what is in the third
module _ {ns l : List ℕ} {d k j a b c w : ℕ} (p : Lies ns l d a w) (q : Lies ns l k b w) (r : Lies ns l j c w) where
  pub lies_replaced : cells ns (patched l a (join (difference (row l a w) (row l b w)) (row l c w)))
      ≡ store_cell (cells ns l) d (join (difference (cell (cells ns l) d) (cell (cells ns l) k)) (cell (cells ns l) j))
  lies_replaced =
      lies_changed p (λ x. join (difference x (row l b w)) (row l c w))
      (λ x. length-zipped bit_or (difference x (row l b w)) (row l c w) ∙ length-zipped (λ u v. bit_and u (ones - v)) x (row l b w)) refl
      ∙ ap₂ (λ (u v : List ℕ). store_cell (cells ns l) d (join (difference (cell (cells ns l) d) u) v)) (lies_row q) (lies_row r)
