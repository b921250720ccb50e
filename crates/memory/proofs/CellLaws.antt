-- Cells of any widths: where each lies in the words, that no two have a word in common, and what a store leaves alone. Assumes nothing.
use mathlib.Core.Logic.{◌⊎◌, inl, inr, ◌≢◌}
use mathlib.Core.Path.{◌≡◌, refl, sym, ap, ◌∙◌}
use mathlib.Core.List.{List, [], ◌∷◌, ◌++◌}
use Prim.Native.Nat.{ℕ, zero, suc, ◌+◌, ◌-◌, ◌*◌, ◌^◌, ◌≤◌, ◌<◌}
use native.Mathlib.Decide.{dec_lt, ℕ_discrete}
use native.Mathlib.Nat.{suc-mul, zero-mul}
use native.Mathlib.Omega.{arith}
use lib.ListN.{length, get_or, set, take, drop, replicate, length-set, length-replicate, get_or-replicate, get_or-append}
use lib.Seq.{get_or-set_same, get_or-set_other, set_out, set-set, ext_get_or, drop-drop, take_all, take-append-le, take-append-add, get_or-append-add}
use Rattle.bitset.specs.Sets.{Words}
use Rattle.bitset.specs.Rows.{row, patched}
use Rattle.bitset.proofs.RowLaws.{length-row, row_same, row_apart, words_row}
use Rattle.memory.specs.Cells.{Mem, cells, total, cell, word, store_cell, store, Sized}

-- ---- where a cell lies: it begins behind the cells before it, and is as wide as its width says
abbrev pub start : List ℕ → ℕ → ℕ
start ns k = total (take k ns)

abbrev pub width : List ℕ → ℕ → ℕ
width ns k = get_or ns k 0

-- a cell lies within the whole
pub cell-fits : (ns : List ℕ) (k : ℕ) → start ns k + width ns k ≤ total ns
unfolding total
cell-fits [] zero = omega arith
cell-fits [] (suc k) = omega arith
cell-fits (n ∷ ns) zero = omega arith
cell-fits (n ∷ ns) (suc k) = omega (arith, cell-fits ns k)

-- a cell lies before each later one
cell-before : (ns : List ℕ) (j k : ℕ) → j < k → start ns j + width ns j ≤ start ns k
unfolding total
cell-before ns j zero h = absurd (omega arith)
cell-before [] zero (suc k) h = omega arith
cell-before [] (suc j) (suc k) h = omega arith
cell-before (n ∷ ns) zero (suc k) h = omega arith
cell-before (n ∷ ns) (suc j) (suc k) h = omega (arith, cell-before ns j k (omega arith))

-- two cells have no word in common
pub cells-apart : (ns : List ℕ) (j k : ℕ) → j ≢ k → (start ns j + width ns j ≤ start ns k) ⊎ (start ns k + width ns k ≤ start ns j)
cells-apart ns j k ne = go (dec_lt j k)
  where
    go : Dec (j < k) → (start ns j + width ns j ≤ start ns k) ⊎ (start ns k + width ns k ≤ start ns j)
    go (yes h) = inl (cell-before ns j k h)
    go (no h) = inr (cell-before ns k j (omega arith))

-- ---- cells of words
pub length-cells : (ns l : List ℕ) → length (cells ns l) ≡ length ns
unfolding cells
length-cells [] l = refl
length-cells (n ∷ ns) l = ap suc (length-cells ns _)

-- a cell is a row of the words
pub cell_row : (ns l : List ℕ) (k : ℕ) → cell (cells ns l) k ≡ row l (start ns k) (width ns k)
unfolding cells total row
cell_row [] l k = refl
cell_row (n ∷ ns) l zero = refl
cell_row (n ∷ ns) l (suc k) = cell_row ns (drop n l) k ∙ ap (take (width ns k)) (drop-drop (start ns k) n l)

pub cell-length : (ns l : List ℕ) (k : ℕ) → total ns ≤ length l → length (cell (cells ns l) k) ≡ width ns k
cell-length ns l k h = ap length (cell_row ns l k) ∙ length-row l (start ns k) (width ns k) (omega (arith, cell-fits ns k))

-- the words of a cell fit 64 bits where those of the slice do
pub cell-words : (ns l : List ℕ) (k : ℕ) → ((i : ℕ) → get_or l i 0 < 2 ^ 64) → total ns ≤ length l → Words (width ns k) (cell (cells ns l) k)
cell-words ns l k f h = rw (cell_row ns l k) (words_row l (start ns k) (width ns k) f (omega (arith, cell-fits ns k)))

-- words put where a cell lies are the cell, and no other cell changes
pub cells-patched : (ns l : List ℕ) (k : ℕ) (ys : List ℕ) → length ys ≡ width ns k → total ns ≤ length l
    → cells ns (patched l (start ns k) ys) ≡ store_cell (cells ns l) k ys
cells-patched ns l k ys e h =
    ext_get_or [] (cells ns new) (store_cell (cells ns l) k ys)
    (length-cells ns new ∙ sym (length-set (cells ns l) k ys ∙ length-cells ns l))
    (λ j lt. at j (omega (arith, length-cells ns new)) (ℕ_discrete j k))
  where
    new : List ℕ
    new = patched l (start ns k) ys

    fits : start ns k + length ys ≤ length l
    fits = omega (arith, cell-fits ns k)

    at : (j : ℕ) → j < length ns → Dec (j ≡ k) → cell (cells ns new) j ≡ cell (store_cell (cells ns l) k ys) j
    at j lt (yes q) =
        ap (λ (i : ℕ). cell (cells ns new) i) q ∙ cell_row ns new k ∙ ap (row new (start ns k)) (sym e) ∙ row_same l (start ns k) ys fits
        ∙ sym (ap (λ (i : ℕ). cell (store_cell (cells ns l) k ys) i) q
        ∙ get_or-set_same (cells ns l) k ys [] (omega (arith, length-cells ns l)))
    at j lt (no q) =
        cell_row ns new j
        ∙ row_apart l (start ns k) ys fits (start ns j) (width ns j) (omega (arith, cell-fits ns j)) (rw e (cells-apart ns j k q))
        ∙ sym (get_or-set_other (cells ns l) k j ys [] q ∙ cell_row ns l j)

-- words of cells that are equal are equal
pub same_word : {u v : List ℕ} (i : ℕ) → u ≡ v → get_or u i 0 ≡ get_or v i 0
same_word i e = ap (λ (ws : List ℕ). get_or ws i 0) e

-- ---- what a store does to the cells, and what it leaves alone. `store m k i v` is `store_cell m k (set (cell m k) i v)`
pub cell-store_same : (m : Mem) (k : ℕ) (ws : List ℕ) → k < length m → cell (store_cell m k ws) k ≡ ws
cell-store_same m k ws h = get_or-set_same m k ws [] h

pub cell-store_other : (m : Mem) (k : ℕ) (ws : List ℕ) (j : ℕ) → j ≢ k → cell (store_cell m k ws) j ≡ cell m j
cell-store_other m k ws j ne = get_or-set_other m k j ws [] ne

pub word-cell_same : (m : Mem) (k : ℕ) (ws : List ℕ) (i : ℕ) → k < length m → word (store_cell m k ws) k i ≡ get_or ws i 0
word-cell_same m k ws i h = same_word i (cell-store_same m k ws h)

pub word-cell_other : (m : Mem) (k : ℕ) (ws : List ℕ) (j i : ℕ) → j ≢ k → word (store_cell m k ws) j i ≡ word m j i
word-cell_other m k ws j i ne = same_word i (cell-store_other m k ws j ne)

pub word-store_same : (m : Mem) (k i v : ℕ) → k < length m → i < length (cell m k) → word (store m k i v) k i ≡ v
word-store_same m k i v h g = word-cell_same m k (set (cell m k) i v) i h ∙ get_or-set_same (cell m k) i v 0 g

-- each other word: of another cell, or at another place of the cell
pub word-store_other : (m : Mem) (k i v j h : ℕ) → (j ≡ k → h ≢ i) → word (store m k i v) j h ≡ word m j h
word-store_other m k i v j h ne = go (ℕ_discrete j k) (dec_lt k (length m))
  where
    go : Dec (j ≡ k) → Dec (k < length m) → word (store m k i v) j h ≡ word m j h
    go (no q) d = word-cell_other m k (set (cell m k) i v) j h q
    go (yes q) (no d) = ap (λ (x : Mem). word x j h) (set_out m k (set (cell m k) i v) (omega arith))
    go (yes q) (yes d) =
        ap (λ (a : ℕ). word (store m k i v) a h) q ∙ word-cell_same m k (set (cell m k) i v) h d
        ∙ get_or-set_other (cell m k) i h v 0 (ne q) ∙ ap (λ (a : ℕ). word m a h) (sym q)

-- a cell becomes x, and then what f makes of the cells and of x, where f reads the cells as they were
pub store_then : (m : Mem) (k : ℕ) (x : List ℕ) (f : Mem → List ℕ → List ℕ) → k < length m → f (store_cell m k x) x ≡ f m x
    → {m₁ : Mem} → m₁ ≡ store_cell m k x → store_cell m₁ k (f m₁ (cell m₁ k)) ≡ store_cell m k (f m x)
store_then m k x f h same e =
    ap (λ (w : Mem). store_cell w k (f w (cell w k))) e ∙ set-set m k x _
    ∙ ap (store_cell m k) (ap (f (store_cell m k x)) (cell-store_same m k x h) ∙ same)

-- ---- cells of these widths, however they came about: a store keeps them so
pub sized : (ns l : List ℕ) → total ns ≤ length l → Sized ns (cells ns l)
sized ns l h = record { count = length-cells ns l; wide = λ k. cell-length ns l k h }

pub sized-cell : (ns : List ℕ) (m : Mem) (k : ℕ) (ws : List ℕ) → Sized ns m → length ws ≡ width ns k → Sized ns (store_cell m k ws)
sized-cell ns m k ws z e =
    record { count = length-set m k ws ∙ z.count; wide = λ j. go j (ℕ_discrete j k) (dec_lt k (length m)) }
  where
    go : (j : ℕ) → Dec (j ≡ k) → Dec (k < length m) → length (cell (store_cell m k ws) j) ≡ width ns j
    go j (no q) d = ap length (cell-store_other m k ws j q) ∙ z.wide j
    go j (yes q) (no d) = ap (λ (x : Mem). length (cell x j)) (set_out m k ws (omega arith)) ∙ z.wide j
    go j (yes q) (yes d) =
        ap (λ (i : ℕ). length (cell (store_cell m k ws) i)) q ∙ ap length (cell-store_same m k ws d) ∙ e ∙ ap (width ns) (sym q)

pub sized-store : (ns : List ℕ) (m : Mem) (k i v : ℕ) → Sized ns m → Sized ns (store m k i v)
sized-store ns m k i v z = sized-cell ns m k (set (cell m k) i v) z (length-set (cell m k) i v ∙ z.wide k)

-- ---- widths that begin with n equal ones
pub total-append : (a b : List ℕ) → total (a ++ b) ≡ total a + total b
unfolding total
total-append [] b = omega arith
total-append (x ∷ a) b = omega (arith, total-append a b)

pub start-equal : (n w k : ℕ) → k ≤ n → start (replicate n w) k ≡ k * w
unfolding total
start-equal n w zero h = sym (zero-mul w)
start-equal zero w (suc k) h = absurd (omega arith)
start-equal (suc n) w (suc k) h = omega (arith, start-equal n w k (omega arith), suc-mul k w)

pub total-equal : (n w : ℕ) → total (replicate n w) ≡ n * w
total-equal n w =
    ap total (sym (take_all n (replicate n w) (omega (arith, length-replicate {A = ℕ} n w)))) ∙ start-equal n w n (omega arith)

module _ (n w : ℕ) (ns : List ℕ) (k : ℕ) where
  behind : n ≤ k → k ≡ length (replicate n w) + (k - n)
  behind h = omega (arith, length-replicate {A = ℕ} n w)

  pub start_in : k ≤ n → start (replicate n w ++ ns) k ≡ k * w
  start_in h =
      ap total (take-append-le k (replicate n w) ns (omega (arith, length-replicate {A = ℕ} n w))) ∙ start-equal n w k h

  pub start_past : n ≤ k → start (replicate n w ++ ns) k ≡ n * w + start ns (k - n)
  start_past h =
      ap (start (replicate n w ++ ns)) (behind h)
      ∙ ap total (take-append-add (replicate n w) ns (k - n)) ∙ total-append (replicate n w) (take (k - n) ns)
      ∙ ap (λ (m : ℕ). m + start ns (k - n)) (total-equal n w)

  pub width_in : k < n → width (replicate n w ++ ns) k ≡ w
  width_in h =
      get_or-append (replicate n w) ns 0 k (omega (arith, length-replicate {A = ℕ} n w)) ∙ get_or-replicate n k w 0 h

  pub width_past : n ≤ k → width (replicate n w ++ ns) k ≡ width ns (k - n)
  width_past h = ap (width (replicate n w ++ ns)) (behind h) ∙ get_or-append-add (replicate n w) ns (k - n) 0
