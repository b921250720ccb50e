-- Marking the leaders, instruction by instruction. Assumes nothing.
use mathlib.Core.Logic.{◌≢◌}
use mathlib.Core.Path.{◌≡◌, refl, sym, ap, subst, ◌∙◌}
use mathlib.Core.Bool.{Bool, true, false, ◌&&◌, ◌||◌, or-false, or_assoc}
use mathlib.Core.List.{List, [], ◌∷◌, ◌++◌}
use Prim.Native.Nat.{ℕ, suc, ◌+◌, ◌<◌}
use native.Mathlib.Decide.{ℕ_discrete, dec_lt}
use native.Mathlib.Numerals.{add-one}
use native.Mathlib.Omega.{arith}
use lib.Dec.{eqb, ltb}
use borrow.Author.Tests.{eq-eqb, ne_eqb, lt-ltb, le-ltb}
use Rattle.dataflow.specs.Lists.{pick, range, some, elem, flag}
use Rattle.dataflow.specs.Code.{Instruction}
use Rattle.dataflow.proofs.Lists.{range_snoc}
use Rattle.memory.specs.Cells.{Mem, cell, word, store}
use Rattle.memory.specs.Names.{block_of_cell}
use Rattle.memory.specs.Scratch.{scratch_widths, Whole}
use Rattle.sizes.specs.declared.Layout.{Layout}
use Rattle.memory.proofs.CellLaws.{sized-store, cell-store_other, word-store_other}
use Rattle.memory.proofs.ScratchLaws.{word_put, place_instructions}
use Rattle.bitset.specs.Below.{AllBelow}
use Rattle.leaders.specs.Leaders.{mark_all, mark_next, marked_by, leads, led_by}

-- ---- what the marks are after stores

module _ (y : Layout) where
  -- one mark more
  store-mark : (m : Mem) (t j : ℕ) → Whole y m → t < y.instructions
      → word (store m block_of_cell t 1) block_of_cell j ≡ pick (eqb j t) 1 (word m block_of_cell j)
  store-mark m t j z h = go (ℕ_discrete j t)
    where
      go : Dec (j ≡ t) → word (store m block_of_cell t 1) block_of_cell j ≡ pick (eqb j t) 1 (word m block_of_cell j)
      go (yes e) = rw (eq-eqb j t e) (rw e (word_put y z (place_instructions y block_of_cell t (omega arith) h) 1))
      go (no e) = rw (ne_eqb j t e) (word-store_other m block_of_cell t 1 block_of_cell j (λ _. e))

  pub mark_all_sized : (js : List ℕ) (m : Mem) → Whole y m → Whole y (mark_all js m)
  unfolding mark_all
  mark_all_sized [] m z = z
  mark_all_sized (t ∷ js) m z = mark_all_sized js (store m block_of_cell t 1) (sized-store (scratch_widths y) m block_of_cell t 1 z)

  mark-all_word : (js : List ℕ) (m : Mem) (j : ℕ) → Whole y m → AllBelow y.instructions js
      → word (mark_all js m) block_of_cell j ≡ pick (elem j js) 1 (word m block_of_cell j)
  unfolding mark_all
  mark-all_word [] m j z b = refl
  mark-all_word (t ∷ js) m j z b =
      mark-all_word js (store m block_of_cell t 1) j (sized-store (scratch_widths y) m block_of_cell t 1 z) b.1
      ∙ ap (λ (w : ℕ). pick (elem j js) 1 w) (store-mark m t j z b.0) ∙ go (elem j js) (eqb j t)
    where
      go : (p q : Bool) → pick p 1 (pick q 1 (word m block_of_cell j)) ≡ pick (q || p) 1 (word m block_of_cell j)
      go true true = refl
      go true false = refl
      go false true = refl
      go false false = refl

  mark-next_word : (i : ℕ) (m : Mem) (j : ℕ) → Whole y m → j < y.instructions
      → word (mark_next y.instructions i m) block_of_cell j ≡ pick (eqb j (suc i)) 1 (word m block_of_cell j)
  unfolding mark_next
  mark-next_word i m j z h = go (dec_lt (i + 1) y.instructions)
    where
      go : Dec (i + 1 < y.instructions)
          → word (pick (ltb (i + 1) y.instructions) (store m block_of_cell (i + 1) 1) m) block_of_cell j ≡ pick (eqb j (suc i)) 1 (word m block_of_cell j)
      go (yes l) = rw (lt-ltb (i + 1) y.instructions l) (store-mark m (i + 1) j z l ∙ ap (λ (x : ℕ). pick (eqb j x) 1 (word m block_of_cell j)) (add-one i))
      go (no l) = rw (le-ltb (i + 1) y.instructions (omega arith), ne_eqb j (suc i) (λ e. omega arith)) refl

  -- what one instruction marks
  pub marked_word : (ends : Bool) (ts : List ℕ) (i : ℕ) (m : Mem) (j : ℕ) → Whole y m → AllBelow y.instructions ts → j < y.instructions
      → (f : Bool) → word m block_of_cell j ≡ flag f
      → word (marked_by ends ts y.instructions i m) block_of_cell j ≡ flag (f || (ends && (eqb j (suc i) || elem j ts)))
  marked_word false ts i m j z b h f e = e ∙ ap flag (sym (or-false f))
  marked_word true ts i m j z b h f e =
      mark-next_word i (mark_all ts m) j (mark_all_sized ts m z) h
      ∙ ap (λ (w : ℕ). pick (eqb j (suc i)) 1 w) (mark-all_word ts m j z b ∙ ap (λ (w : ℕ). pick (elem j ts) 1 w) e)
      ∙ go (eqb j (suc i)) (elem j ts) f
    where
      go : (p q f : Bool) → pick p 1 (pick q 1 (flag f)) ≡ flag (f || (p || q))
      go true q true = refl
      go true q false = refl
      go false true true = refl
      go false true false = refl
      go false false true = refl
      go false false false = refl

-- other cells stay as they are
mark-all_other : (js : List ℕ) (m : Mem) (k : ℕ) → k ≢ block_of_cell → cell (mark_all js m) k ≡ cell m k
unfolding mark_all
mark-all_other [] m k h = refl
mark-all_other (t ∷ js) m k h = mark-all_other js (store m block_of_cell t 1) k h ∙ cell-store_other m block_of_cell _ k h

pub marked_other : (ends : Bool) (ts : List ℕ) (n i : ℕ) (m : Mem) (k : ℕ) → k ≢ block_of_cell → cell (marked_by ends ts n i m) k ≡ cell m k
unfolding mark_next
marked_other false ts n i m k h = refl
marked_other true ts n i m k h = go (ltb (i + 1) n) ∙ mark-all_other ts m k h
  where
    go : (t : Bool) → cell (pick t (store (mark_all ts m) block_of_cell (i + 1) 1) (mark_all ts m)) k ≡ cell (mark_all ts m) k
    go true = cell-store_other (mark_all ts m) block_of_cell _ k h
    go false = refl

-- ---- leaders by one instruction more

some-append : (f : ℕ → Bool) (a b : List ℕ) → some f (a ++ b) ≡ (some f a || some f b)
some-append f [] b = refl
some-append f (x ∷ a) b = ap (λ (t : Bool). f x || t) (some-append f a b) ∙ sym (or_assoc (f x) (some f a) (some f b))

pub led-more : (code : List Instruction) (i j : ℕ) → led_by code (i + 1) j ≡ (led_by code i j || leads code j i)
led-more code i j =
    let e : 0 + i ≡ i = omega arith in
    ap (λ (k : ℕ). eqb j 0 || some (leads code j) (range 0 k)) (add-one i)
    ∙ ap (λ (l : List ℕ). eqb j 0 || some (leads code j) l) (range_snoc 0 i)
    ∙ ap (λ (t : Bool). eqb j 0 || t) (some-append (leads code j) (range 0 i) ((0 + i) ∷ []) ∙ ap (λ (t : Bool). some (leads code j) (range 0 i) || t) (or-false (leads code j (0 + i))))
    ∙ sym (or_assoc (eqb j 0) (some (leads code j) (range 0 i)) (leads code j (0 + i)))
    ∙ ap (λ (k : ℕ). led_by code i j || leads code j k) e

-- ---- the targets one by one

-- one target more
pub targets_more : {t : ℕ} {l ts : List ℕ} (m : Mem) {r : Mem} → l ≡ t ∷ ts → mark_all l m ≡ r → mark_all ts (store m block_of_cell t 1) ≡ r
unfolding mark_all
targets_more m {r = r} e q = subst (λ (k : List ℕ). mark_all k m ≡ r) e q

-- none is left
pub targets_all : {l : List ℕ} {m r : Mem} → l ≡ [] → mark_all l m ≡ r → m ≡ r
unfolding mark_all
targets_all {m = m} {r = r} e q = subst (λ (k : List ℕ). mark_all k m ≡ r) e q
