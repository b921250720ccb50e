-- A block's predecessors are the blocks with an edge to it.
use mathlib.Core.Path.{◌≡◌, refl, sym, ◌∙◌}
use mathlib.Core.Bool.{Bool, true, false, true≢false}
use mathlib.Core.List.Memᴰ
use mathlib.Core.List.{List, [], ◌∷◌, Memᴰ}
use mathlib.Core.Logic.{◌⊎◌, inl, inr}
use Prim.Native.Nat.{ℕ, zero, suc, ◌+◌, ◌<◌}
use native.Mathlib.Omega.{arith}
use native.Mathlib.Nat.{add-zero, add-suc, suc-add}
use lib.ListN.{length, get_or}
use lib.Dec.{eqb}
use Rattle.dataflow.specs.Lists.{pick}
use Rattle.dataflow.specs.Results.{edges_to, predecessors_from}
use Rattle.dataflow.proofs.Bools.{eqb_is, eqb-self}

edges-of : (b c : ℕ) (l rest : List ℕ) (x : ℕ) → Memᴰ x (edges_to b c l rest) → ((x ≡ c) × Memᴰ b l) ⊎ Memᴰ x rest
edges-of b c [] rest x m = inr m
edges-of b c (d ∷ l) rest x m = go (eqb b d) refl m (λ m'. edges-of b c l rest x m')
  where
    wider : ((x ≡ c) × Memᴰ b l) ⊎ Memᴰ x rest → ((x ≡ c) × Memᴰ b (d ∷ l)) ⊎ Memᴰ x rest
    wider (inl z) = inl (z.0, Memᴰ.tail z.1)
    wider (inr z) = inr z

    head : b ≡ d → (x ≡ c) ⊎ Memᴰ x (edges_to b c l rest) → (Memᴰ x (edges_to b c l rest) → ((x ≡ c) × Memᴰ b l) ⊎ Memᴰ x rest)
        → ((x ≡ c) × Memᴰ b (d ∷ l)) ⊎ Memᴰ x rest
    head e (inl z) below = inl (z, Memᴰ.head e)
    head e (inr z) below = wider (below z)

    go : (t : Bool) → eqb b d ≡ t → Memᴰ x (pick t (c ∷ edges_to b c l rest) (edges_to b c l rest))
        → (Memᴰ x (edges_to b c l rest) → ((x ≡ c) × Memᴰ b l) ⊎ Memᴰ x rest)
        → ((x ≡ c) × Memᴰ b (d ∷ l)) ⊎ Memᴰ x rest
    go true e m below = head (eqb_is b d e) (Memᴰ.cases_cons m) below
    go false e m below = wider (below m)

edges-rest : (b c : ℕ) (l rest : List ℕ) (x : ℕ) → Memᴰ x rest → Memᴰ x (edges_to b c l rest)
edges-rest b c [] rest x m = m
edges-rest b c (d ∷ l) rest x m = go (eqb b d) (edges-rest b c l rest x m)
  where
    go : (t : Bool) → Memᴰ x (edges_to b c l rest) → Memᴰ x (pick t (c ∷ edges_to b c l rest) (edges_to b c l rest))
    go true m = Memᴰ.tail m
    go false m = m

edges-to : (b c : ℕ) (l rest : List ℕ) → Memᴰ b l → Memᴰ c (edges_to b c l rest)
edges-to b c [] rest m = absurd (Memᴰ.not-nil m)
edges-to b c (d ∷ l) rest m = go (eqb b d) refl (Memᴰ.cases_cons m) (λ m'. edges-to b c l rest m')
  where
    go : (t : Bool) → eqb b d ≡ t → (b ≡ d) ⊎ Memᴰ b l → (Memᴰ b l → Memᴰ c (edges_to b c l rest))
        → Memᴰ c (pick t (c ∷ edges_to b c l rest) (edges_to b c l rest))
    go true e h below = Memᴰ.head refl
    go false e (inr z) below = below z
    go false e (inl z) below = absurd (true≢false (sym (rw z (eqb-self d)) ∙ e))

pub predecessors-of : (b c : ℕ) (ls : List (List ℕ)) (x : ℕ) → Memᴰ x (predecessors_from b c ls) → (k : ℕ) × (x ≡ c + k) × (k < length ls)
    × Memᴰ b (get_or ls k [])
predecessors-of b c [] x m = absurd (Memᴰ.not-nil m)
predecessors-of b c (l ∷ ls) x m = go (edges-of b c l (predecessors_from b (suc c) ls) x m) (λ m'. predecessors-of b (suc c) ls x m')
  where
    go : ((x ≡ c) × Memᴰ b l) ⊎ Memᴰ x (predecessors_from b (suc c) ls)
        → (Memᴰ x (predecessors_from b (suc c) ls) → (k : ℕ) × (x ≡ suc c + k) × (k < length ls) × Memᴰ b (get_or ls k []))
        → (k : ℕ) × (x ≡ c + k) × (k < suc (length ls)) × Memᴰ b (get_or (l ∷ ls) k [])
    go (inl z) below = (0, omega arith, omega arith, z.1)
    go (inr z) below = let w = below z in (suc w.0, omega arith, omega arith, w.3)

pub predecessors-to : (b c : ℕ) (ls : List (List ℕ)) (k : ℕ) → Memᴰ b (get_or ls k []) → Memᴰ (c + k) (predecessors_from b c ls)
predecessors-to b c [] k m = absurd (Memᴰ.not-nil m)
predecessors-to b c (l ∷ ls) zero m = rw (add-zero c) (edges-to b c l (predecessors_from b (suc c) ls) m)
predecessors-to b c (l ∷ ls) (suc k) m = edges-rest b c l _ (c + suc k) (rw (add-suc c k, ← suc-add c k) (predecessors-to b (suc c) ls k m))
