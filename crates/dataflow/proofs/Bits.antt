-- Sets as lists of bits: when two are the same, and how many bits are still what they began as.
use mathlib.Core.Path.{◌≡◌, refl, sym, ◌∙◌, ap}
use mathlib.Core.Bool.{Bool, true, false, ◌&&◌, beq, true≢false, false≢true}
use mathlib.Core.List.Memᴰ
use mathlib.Core.List.{List, [], ◌∷◌, Memᴰ}
use mathlib.Core.Logic.{◌⊎◌, inl, inr}
use Prim.Native.Nat.{ℕ, zero, suc, ◌+◌, ◌*◌, ◌≤◌, ◌<◌}
use native.Mathlib.Omega.{arith}
use native.Mathlib.Decide.{ℕ_discrete}
use native.Mathlib.Nat.{suc-mul}
use lib.ListN.{length, get_or, set, replicate, length-replicate}
use lib.Seq.{get_or-set_same, get_or-set_other}
use Rattle.dataflow.specs.Lists.{pick}
use Rattle.dataflow.specs.Framework.{same_bits}

pub same_bits_lem : (x y : List Bool) → same_bits x y ≡ true → x ≡ y
same_bits_lem [] [] e = refl
same_bits_lem [] (b ∷ y) e = absurd (false≢true e)
same_bits_lem (a ∷ x) [] e = absurd (false≢true e)
same_bits_lem (true ∷ x) (true ∷ y) e = ap (λ (z : List Bool). true ∷ z) (same_bits_lem x y e)
same_bits_lem (true ∷ x) (false ∷ y) e = absurd (false≢true e)
same_bits_lem (false ∷ x) (true ∷ y) e = absurd (false≢true e)
same_bits_lem (false ∷ x) (false ∷ y) e = ap (λ (z : List Bool). false ∷ z) (same_bits_lem x y e)

pub bits-same : (x : List Bool) → same_bits x x ≡ true
bits-same [] = refl
bits-same (true ∷ x) = bits-same x
bits-same (false ∷ x) = bits-same x

-- ── How many bits are v ──

abbrev pub bit : Bool → ℕ
bit t = pick t 1 0

abbrev pub count_bits : Bool → List Bool → ℕ
count_bits v [] = 0
count_bits v (a ∷ x) = bit (beq v a) + count_bits v x

pub count_bits-le : (v : Bool) (x : List Bool) → count_bits v x ≤ length x
count_bits-le v [] = omega arith
count_bits-le v (a ∷ x) = go (beq v a) (count_bits-le v x)
  where
    go : (t : Bool) → count_bits v x ≤ length x → bit t + count_bits v x ≤ suc (length x)
    go true h = omega arith
    go false h = omega arith

bit_le : (v a b : Bool) → (b ≡ v → a ≡ v) → bit (beq v b) ≤ bit (beq v a)
bit_le true true b h = go b
  where
    go : (b : Bool) → bit (beq true b) ≤ 1
    go true = omega arith
    go false = omega arith
bit_le true false true h = absurd (false≢true (h refl))
bit_le true false false h = omega arith
bit_le false false b h = go b
  where
    go : (b : Bool) → bit (beq false b) ≤ 1
    go true = omega arith
    go false = omega arith
bit_le false true false h = absurd (true≢false (h refl))
bit_le false true true h = omega arith

bit-lt : (v a b : Bool) → (b ≡ v → a ≡ v) → beq a b ≡ false → bit (beq v b) < bit (beq v a)
bit-lt true true true h e = absurd (true≢false e)
bit-lt true true false h e = omega arith
bit-lt true false true h e = absurd (false≢true (h refl))
bit-lt true false false h e = absurd (true≢false e)
bit-lt false false true h e = omega arith
bit-lt false false false h e = absurd (true≢false e)
bit-lt false true true h e = absurd (true≢false e)
bit-lt false true false h e = absurd (true≢false (h refl))

-- if bits only ever leave v, and some do, fewer are v
pub fewer-bits : (v : Bool) (x y : List Bool) → length x ≡ length y → ((i : ℕ) → get_or y i v ≡ v → get_or x i v ≡ v) → same_bits x y ≡ false
    → count_bits v y < count_bits v x
fewer-bits v [] [] l h e = absurd (true≢false e)
fewer-bits v [] (b ∷ y) l h e = absurd (omega arith)
fewer-bits v (a ∷ x) [] l h e = absurd (omega arith)
fewer-bits v (a ∷ x) (b ∷ y) l h e = go (same_bits x y) refl (λ e'. fewer-bits v x y (omega arith) (λ i. h (suc i)) e')
  where
    head-only : (p q : Bool) → (p && q) ≡ false → q ≡ true → p ≡ false
    head-only true q f g = absurd (true≢false (sym g ∙ f))
    head-only false q f g = refl

    go : (t : Bool) → same_bits x y ≡ t → (same_bits x y ≡ false → count_bits v y < count_bits v x) → count_bits v (b ∷ y) < count_bits v (a ∷ x)
    go true e' below = omega (arith, bit-lt v a b (h 0) (head-only (beq a b) (same_bits x y) e e'), ap (count_bits v) (same_bits_lem x y e'))
    go false e' below = omega (arith, bit_le v a b (h 0), below e')

-- in all sets
abbrev pub count_all : Bool → List (List Bool) → ℕ
count_all v [] = 0
count_all v (x ∷ xs) = count_bits v x + count_all v xs

pub count_all-set : (v : Bool) (xs : List (List Bool)) (b : ℕ) (y : List Bool) → b < length xs
    → count_all v (set xs b y) + count_bits v (get_or xs b []) ≡ count_all v xs + count_bits v y
count_all-set v [] b y lt = absurd (omega arith)
count_all-set v (x ∷ xs) zero y lt = omega arith
count_all-set v (x ∷ xs) (suc b) y lt = omega (arith, count_all-set v xs b y (omega arith))

pub count_all-replicate : (v : Bool) (n k : ℕ) → count_all v (replicate n (replicate k v)) ≤ n * k
count_all-replicate v zero k = omega arith
count_all-replicate v (suc n) k = omega (arith, count_all-replicate v n k, count_bits-le v (replicate k v), length-replicate k v, suc-mul n k)

-- in the sets of the blocks of a list, repeats counted
abbrev pub count_over : Bool → List ℕ → List (List Bool) → ℕ
count_over v [] xs = 0
count_over v (d ∷ l) xs = count_bits v (get_or xs d []) + count_over v l xs

pub count_over-le : (v : Bool) (l : List ℕ) (xs : List (List Bool)) (c : ℕ) (y : List Bool) → c < length xs
    → count_bits v y ≤ count_bits v (get_or xs c []) → count_over v l (set xs c y) ≤ count_over v l xs
count_over-le v [] xs c y lt h = omega arith
count_over-le v (d ∷ l) xs c y lt h = go (ℕ_discrete d c) (count_over-le v l xs c y lt h)
  where
    go : Dec (d ≡ c) → count_over v l (set xs c y) ≤ count_over v l xs → count_over v (d ∷ l) (set xs c y) ≤ count_over v (d ∷ l) xs
    go (yes e) below = rw (e, get_or-set_same xs c y [] lt) (omega arith)
    go (no ne) below = rw (get_or-set_other xs c d y [] ne) (omega arith)

pub count_over-lt : (v : Bool) (l : List ℕ) (xs : List (List Bool)) (c : ℕ) (y : List Bool) → c < length xs
    → count_bits v y < count_bits v (get_or xs c []) → Memᴰ c l → count_over v l (set xs c y) < count_over v l xs
count_over-lt v [] xs c y lt h m = absurd (Memᴰ.not-nil m)
count_over-lt v (d ∷ l) xs c y lt h m = go (ℕ_discrete d c) (Memᴰ.cases_cons m) (λ m'. count_over-lt v l xs c y lt h m')
  where
    go : Dec (d ≡ c) → (c ≡ d) ⊎ Memᴰ c l → (Memᴰ c l → count_over v l (set xs c y) < count_over v l xs)
        → count_over v (d ∷ l) (set xs c y) < count_over v (d ∷ l) xs
    go (yes e) z below = rw (e, get_or-set_same xs c y [] lt) (omega (arith, count_over-le v l xs c y lt (omega arith)))
    go (no ne) (inl z) below = absurd (ne (sym z))
    go (no ne) (inr z) below = rw (get_or-set_other xs c d y [] ne) (omega (arith, below z))

pub count_over-bound : (v : Bool) (l : List ℕ) (n k : ℕ) → count_over v l (replicate n (replicate k v)) ≤ length l * k
count_over-bound v [] n k = omega arith
count_over-bound v (d ∷ l) n k = omega (arith, count_over-bound v l n k, one n d, suc-mul (length l) k)
  where
    one : (n d : ℕ) → count_bits v (get_or (replicate n (replicate k v)) d []) ≤ k
    one zero d = omega arith
    one (suc n) zero = omega (arith, count_bits-le v (replicate k v), length-replicate k v)
    one (suc n) (suc d) = one n d
