-- What a step leaves alone: nothing done, one step after the other, one store, and less said. Assumes nothing.
use mathlib.Core.Path.{◌≡◌, refl, sym, ap, ◌∙◌}
use mathlib.Core.Bool.{Bool, true, false, not, ◌&&◌, ◌||◌, false≢true}
use mathlib.Core.Logic.{◌≢◌}
use mathlib.Core.List.{List, [], ◌∷◌}
use Prim.Native.Nat.{ℕ, ◌≤◌, ◌<◌}
use native.Mathlib.Omega.{arith}
use lib.Dec.{ltb, eqb}
use borrow.Author.Tests.{ltb-true, eqb-true, eq-eqb, not-true}
use Rattle.dataflow.specs.Lists.{pick, elem, every}
use Rattle.memory.specs.Cells.{Mem, cell, store_cell}
use Rattle.memory.specs.Names.{first_row}
use Rattle.memory.specs.Frame.{spared, Only, ThisRow}
use Rattle.memory.proofs.CellLaws.{cell-store_other}

-- ---- a spared cell

-- it has a name, and is none of the cells
spared-both : (cs : List ℕ) (k : ℕ) → spared cs k ≡ true → (ltb k first_row ≡ true) × (elem k cs ≡ false)
spared-both cs k e = go (ltb k first_row) refl e
  where
    go : (t : Bool) → ltb k first_row ≡ t → pick t (not (elem k cs)) false ≡ true → (ltb k first_row ≡ true) × (elem k cs ≡ false)
    go true h f = (h, not-true (elem k cs) f)
    go false h f = absurd (false≢true f)

-- of fewer cells it is none either
elem-fewer : (cs ds : List ℕ) (k : ℕ) → every (λ c. elem c ds) cs ≡ true → elem k ds ≡ false → elem k cs ≡ false
elem-fewer [] ds k e f = refl
elem-fewer (c ∷ cs) ds k e f = go (elem c ds) refl e (eqb k c) refl (λ h. elem-fewer cs ds k h f)
  where
    go : (t : Bool) → elem c ds ≡ t → (t && every (λ d. elem d ds) cs) ≡ true → (u : Bool) → eqb k c ≡ u
        → (every (λ d. elem d ds) cs ≡ true → elem k cs ≡ false) → (u || elem k cs) ≡ false
    go false p h u q r = absurd (false≢true h)
    go true p h false q r = r h
    go true p h true q r = absurd (false≢true (sym f ∙ ap (λ (j : ℕ). elem j ds) (eqb-true k c q) ∙ p))

spared-fewer : (cs ds : List ℕ) (k : ℕ) → every (λ c. elem c ds) cs ≡ true → spared ds k ≡ true → spared cs k ≡ true
spared-fewer cs ds k e s =
    let p = spared-both ds k s in
    rw (p.0, elem-fewer cs ds k e p.1) refl

-- it is not the one that is named
spared_other : (c k : ℕ) → spared (c ∷ []) k ≡ true → k ≢ c
spared_other c k s q =
    let p = spared-both (c ∷ []) k s in
    absurd (false≢true (sym p.1 ∙ rw (eq-eqb k c q) refl))

spared-name : (cs : List ℕ) (k : ℕ) → spared cs k ≡ true → k < first_row
spared-name cs k s = ltb-true k first_row (spared-both cs k s).0

-- ---- steps

-- nothing done
pub only_none : {cs : List ℕ} {rows : ℕ → Type 0} (m : Mem) → Only cs rows m m
only_none m = record { named = λ k s. refl; others = λ k h f. refl }

-- one step after the other
pub only_then : {cs : List ℕ} {rows : ℕ → Type 0} {m m' m'' : Mem} → Only cs rows m m' → Only cs rows m' m'' → Only cs rows m m''
only_then o p = record { named = λ k s. p.named k s ∙ o.named k s; others = λ k h f. p.others k h f ∙ o.others k h f }

-- more cells and more rows; that each of these cells is among those computes, so it is shown by `refl`
pub only-more : {cs : List ℕ} {rows : ℕ → Type 0} {m m' : Mem} (ds : List ℕ) (wider : ℕ → Type 0) → every (λ c. elem c ds) cs ≡ true
    → ((k : ℕ) → first_row ≤ k → rows k → wider k) → Only cs rows m m' → Only ds wider m m'
only-more {cs} ds wider e w o = record {
  named = λ k s. o.named k (spared-fewer cs ds k e s);
  others = λ k h f. o.others k h (λ r. f (w k h r));
}

-- ---- one store

-- into a cell with a name
pub only-cell : {rows : ℕ → Type 0} {m m' : Mem} (c : ℕ) (ws : List ℕ) → c < first_row → m' ≡ store_cell m c ws → Only (c ∷ []) rows m m'
only-cell {m = m} c ws h e = record {
  named = λ k s. ap (λ (w : Mem). cell w k) e ∙ cell-store_other m c ws k (spared_other c k s);
  others = λ k g f. ap (λ (w : Mem). cell w k) e ∙ cell-store_other m c ws k (λ q. omega arith);
}

-- into a row
pub only_row : {cs : List ℕ} {m m' : Mem} (r : ℕ) (ws : List ℕ) → first_row ≤ r → m' ≡ store_cell m r ws → Only cs (ThisRow r) m m'
only_row {cs} {m} r ws h e = record {
  named = λ k s. ap (λ (w : Mem). cell w k) e ∙ cell-store_other m r ws k (λ q. omega (arith, spared-name cs k s));
  others = λ k g f. ap (λ (w : Mem). cell w k) e ∙ cell-store_other m r ws k f;
}
