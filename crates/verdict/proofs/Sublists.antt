-- Lists with some numbers left out. Assumes nothing.
use mathlib.Core.Path.{◌≡◌, refl, ◌∙◌}
use mathlib.Core.Bool.{Bool, true, false}
use mathlib.Core.List.Memᴰ
use mathlib.Core.List.{List, [], ◌∷◌, Memᴰ}
use mathlib.Core.List.{Sublistᴰ}
use mathlib.Core.Logic.{◌⊎◌, inl, inr}
use Prim.Native.Nat.{ℕ, zero, suc, ◌≤◌}
use native.Mathlib.Omega.{arith}
use lib.ListN.{length}
use Rattle.dataflow.specs.Lists.{pick, range, keep}
use Rattle.dataflow.proofs.Lists.{range-bounds}
use Rattle.verdict.specs.Ascending.{Ascending}

-- a list with some numbers left out has no more numbers,
pub sublist_length : {u l : List ℕ} → Sublistᴰ u l → length u ≤ length l
sublist_length Sublistᴰ.slnil = omega arith
sublist_length (Sublistᴰ.cons s) = omega (arith, sublist_length s)
sublist_length (Sublistᴰ.cons-cons e s) = omega (arith, sublist_length s)

-- no other numbers,
pub sublist_mem : {u l : List ℕ} → Sublistᴰ u l → (y : ℕ) → Memᴰ y u → Memᴰ y l
sublist_mem Sublistᴰ.slnil y m = m
sublist_mem (Sublistᴰ.cons s) y m = Memᴰ.tail (sublist_mem s y m)
sublist_mem (Sublistᴰ.cons-cons {a = x} {b = z} {l₁ = u} {l₂ = l} e s) y m = go (Memᴰ.cases_cons m) (λ m'. sublist_mem s y m')
  where
    go : (y ≡ x) ⊎ Memᴰ y u → (Memᴰ y u → Memᴰ y l) → Memᴰ y (z ∷ l)
    go (inl q) below = Memᴰ.head (q ∙ e)
    go (inr m') below = Memᴰ.tail (below m')

-- and the same order.
pub sublist_ascending : {u l : List ℕ} → Sublistᴰ u l → Ascending l → Ascending u
sublist_ascending Sublistᴰ.slnil h = tt
sublist_ascending (Sublistᴰ.cons s) h = sublist_ascending s h.1
sublist_ascending (Sublistᴰ.cons-cons e s) h = ((λ y m. rw e (h.0 y (sublist_mem s y m))), sublist_ascending s h.1)

-- ── Those that pass a test ──

-- what is kept is the list with some left out
pub keep-sublist : (f : ℕ → Bool) (l : List ℕ) → Sublistᴰ (keep f l) l
keep-sublist f [] = Sublistᴰ.slnil
keep-sublist f (x ∷ l) = go (f x) (keep-sublist f l)
  where
    go : (t : Bool) → Sublistᴰ (keep f l) l → Sublistᴰ (pick t (x ∷ keep f l) (keep f l)) (x ∷ l)
    go true s = Sublistᴰ.cons-cons refl s
    go false s = Sublistᴰ.cons s

-- ── Ranges ──

-- the numbers of a range ascend
pub range-ascending : (k n : ℕ) → Ascending (range k n)
range-ascending k zero = tt
range-ascending k (suc n) = ((λ y m. (range-bounds (suc k) n y m).0), range-ascending (suc k) n)
