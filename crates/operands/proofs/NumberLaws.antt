-- Laws of numbers of four bytes, one after the other. Assumes nothing.
use mathlib.Core.Path.{◌≡◌, refl, ap, ap₂, ◌∙◌}
use mathlib.Core.List.{List, ◌∷◌, map}
use Prim.Native.Nat.{ℕ, zero, suc, ◌+◌, ◌*◌, ◌<◌}
use native.Mathlib.Omega.{arith}
use lib.ListN.{length, get_or, drop, take}
use Rattle.std.proofs.lemmas.List.{get_or-take, get_or-drop, drop-drop}
use Rattle.std.specs.Simd.{first_chunks}
use Rattle.operands.specs.Bytes.{number_in, u32_at, numbers_at}

pub number_at : (s : List ℕ) (at n j d : ℕ) → j < n → get_or (numbers_at s at n) j d ≡ u32_at s (at + 4 * j)
unfolding numbers_at
number_at s at zero j d h = absurd (omega arith)
number_at s at (suc n) zero d h = let q : at + 4 * 0 ≡ at = omega arith in rw q
number_at s at (suc n) (suc j) d h =
    number_at s (at + 4) n j d (omega arith) ∙ ap (λ (x : ℕ). u32_at s x) (omega arith)

pub number_count : (s : List ℕ) (at n : ℕ) → length (numbers_at s at n) ≡ n
unfolding numbers_at
number_count s at zero = refl
number_count s at (suc n) = ap suc (number_count s (at + 4) n)

-- one of the four bytes at an offset
byte : (s : List ℕ) (at i p : ℕ) → i < 4 → at + i ≡ p → get_or (take 4 (drop at s)) i 0 ≡ get_or s p 0
byte s at i p h e = get_or-take 4 (drop at s) i 0 h ∙ get_or-drop at s i 0 ∙ ap (λ (x : ℕ). get_or s x 0) e

four_bytes : (s : List ℕ) (at : ℕ) → number_in (take 4 (drop at s)) ≡ u32_at s at
four_bytes s at =
    let a = byte s at 0 at (omega arith) (omega arith) in
    let b = byte s at 1 (at + 1) (omega arith) (omega arith) in
    let c = byte s at 2 (at + 2) (omega arith) (omega arith) in
    let d = byte s at 3 (at + 3) (omega arith) (omega arith) in
    omega arith

-- fields of four bytes, as `as_chunks` gives them, hold the numbers that stand there
pub chunk_numbers : (s : List ℕ) (at n : ℕ) → map number_in (first_chunks 4 n (drop at s)) ≡ numbers_at s at n
unfolding numbers_at
chunk_numbers s at zero = refl
chunk_numbers s at (suc n) =
    ap₂ (λ (x : ℕ) (xs : List ℕ). x ∷ xs) (four_bytes s at)
    (ap (λ (l : List ℕ). map number_in (first_chunks 4 n l)) (drop-drop 4 at s) ∙ chunk_numbers s (at + 4) n)
