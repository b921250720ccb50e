-- The bits of a number: of AND, OR, NOT in 64 bits and of a power of two, and that they tell the number. Assumes nothing.
use mathlib.Core.Path.{◌≡◌, refl, sym, ap, ap₂, ◌∙◌, subst}
use mathlib.Core.Bool.{Bool, true, false, not, ◌&&◌, ◌||◌, true≢false, false≢true}
use Prim.Native.Nat.{ℕ, zero, suc, ◌+◌, ◌-◌, ◌*◌, ◌/◌, ◌%◌, ◌^◌, ◌<◌, min, max}
use native.Mathlib.Nat.{mod-lt, zero-lt-suc, one-mul, pow-suc, add-mul, zero-mul, div-eq_of_lt}
use native.Mathlib.Decide.{dec_lt, ℕ_discrete}
use native.Mathlib.Omega.{arith}
use lib.Dec.{eqb, lit<}
use lib.Bits.{bit_and, bit_or, bit_xor, and_shr, or_shr, and_step, or_step, and_high, and_le_l, and_le_r, or_add_and, xor_add_and, or_self, xor_self}
use lib.Pow.{pow_pos, pow-add, pow-lt, split, high, shr_lt, shl-shr, shl_exact, shr-shr}
use borrow.Author.Tests.{eq-eqb, ne_eqb}
use Rattle.bitset.specs.Sets.{digit, ones}

-- bit j of the number x, as a truth value
abbrev pub bit : ℕ → ℕ → Bool
bit x j = eqb (digit x j) 1

pub digit_lt : (x j : ℕ) → digit x j < 2
unfolding digit
digit_lt x j = mod-lt (x / 2 ^ j) (zero-lt-suc 1)

-- what holds of 0 and of 1 holds of a digit
each-digit : (P : ℕ → Type 0) → P 0 → P 1 → (d : ℕ) → d < 2 → P d
each-digit P p q zero h = p
each-digit P p q (suc zero) h = q
each-digit P p q (suc (suc d)) h = absurd (omega arith)

-- ---- AND and OR
last-min : (q x y : ℕ) → x < 2 → (q * 2 + min x y) % 2 ≡ min x y
last-min q x y h = omega arith

last-max : (q x y : ℕ) → x < 2 → y < 2 → (q * 2 + max x y) % 2 ≡ max x y
last-max q x y h k = omega arith

digit_and : (a b j : ℕ) → digit (bit_and a b) j ≡ min (digit a j) (digit b j)
unfolding digit
digit_and a b j =
    ap (λ (x : ℕ). x % 2) (and_shr a b j ∙ and_step (a / 2 ^ j) (b / 2 ^ j))
    ∙ last-min (bit_and (a / 2 ^ j / 2) (b / 2 ^ j / 2)) (a / 2 ^ j % 2) (b / 2 ^ j % 2) (digit_lt a j)

digit_or : (a b j : ℕ) → digit (bit_or a b) j ≡ max (digit a j) (digit b j)
unfolding digit
digit_or a b j =
    ap (λ (x : ℕ). x % 2) (or_shr a b j ∙ or_step (a / 2 ^ j) (b / 2 ^ j))
    ∙ last-max (bit_or (a / 2 ^ j / 2) (b / 2 ^ j / 2)) (a / 2 ^ j % 2) (b / 2 ^ j % 2) (digit_lt a j) (digit_lt b j)

-- two digits: what holds of the four pairs
each_two : (P : ℕ → ℕ → Type 0) → P 0 0 → P 0 1 → P 1 0 → P 1 1 → (a b : ℕ) → a < 2 → b < 2 → P a b
each_two P p q r s a b ha hb =
    each-digit (λ x. P x b) (each-digit (λ y. P 0 y) p q b hb) (each-digit (λ y. P 1 y) r s b hb) a ha

pub bit-and : (a b j : ℕ) → bit (bit_and a b) j ≡ (bit a j && bit b j)
bit-and a b j =
    ap (λ (x : ℕ). eqb x 1) (digit_and a b j)
    ∙ each_two (λ x y. eqb (min x y) 1 ≡ (eqb x 1 && eqb y 1)) refl refl refl refl (digit a j) (digit b j) (digit_lt a j) (digit_lt b j)

pub bit-or : (a b j : ℕ) → bit (bit_or a b) j ≡ (bit a j || bit b j)
bit-or a b j =
    ap (λ (x : ℕ). eqb x 1) (digit_or a b j)
    ∙ each_two (λ x y. eqb (max x y) 1 ≡ (eqb x 1 || eqb y 1)) refl refl refl refl (digit a j) (digit b j) (digit_lt a j) (digit_lt b j)

-- ---- NOT in 64 bits
half-even : (p q : ℕ) → q < p * 2 → (p * 2 - 1 - q) % 2 ≡ 1 - q % 2
half-even p q h = omega arith

not-parts : (K M m q r : ℕ) → M ≡ m * K + K + q * K → r < K → M - 1 - (q * K + r) ≡ m * K + (K - 1 - r)
not-parts K M m q r e h = omega arith

widen : (K p m q : ℕ) → p * 2 ≡ m + 1 + q → p * 2 * K ≡ m * K + K + q * K
widen K p m q e = ap (λ (x : ℕ). x * K) e ∙ simp (add-mul, one-mul)

not-high : (j n a : ℕ) → a < 2 ^ (suc n + j) → (2 ^ (suc n + j) - 1 - a) / 2 ^ j ≡ 2 ^ n * 2 - 1 - a / 2 ^ j
not-high j n a h =
    let K : ℕ = 2 ^ j in
    let q : ℕ = a / K in
    let r : ℕ = a % K in
    let hq : q < 2 ^ n * 2 = rw pow-suc at (shr_lt (suc n) j h) in
    let m : ℕ = 2 ^ n * 2 - 1 - q in
    let hr : r < K = mod-lt a (pow_pos j) in
    let w : 2 ^ (suc n + j) ≡ m * K + K + q * K = pow-add 2 (suc n) j ∙ ap (λ (x : ℕ). x * K) (pow-suc 2 n) ∙ widen K (2 ^ n) m q (omega arith) in
    ap (λ (x : ℕ). (2 ^ (suc n + j) - 1 - x) / K) (sym (split a j))
    ∙ ap (λ (x : ℕ). x / K) (not-parts K (2 ^ (suc n + j)) m q r w hr)
    ∙ high m j (omega arith)

-- digit j of the complement in n + 1 + j digits
digit_not : (j n a : ℕ) → a < 2 ^ (suc n + j) → digit (2 ^ (suc n + j) - 1 - a) j ≡ 1 - digit a j
unfolding digit
digit_not j n a h =
    ap (λ (x : ℕ). x % 2) (not-high j n a h) ∙ half-even (2 ^ n) (a / 2 ^ j) (rw pow-suc at (shr_lt (suc n) j h))

pub bit_not : (a j : ℕ) → a < 2 ^ 64 → j < 64 → bit (ones - a) j ≡ not (bit a j)
bit_not a j ha hj =
    let e : suc (63 - j) + j ≡ 64 = omega arith in
    ap (λ (x : ℕ). eqb x 1) (subst (λ (w : ℕ). a < 2 ^ w → digit (2 ^ w - 1 - a) j ≡ 1 - digit a j) e (digit_not j (63 - j) a) ha)
    ∙ each-digit (λ x. eqb (1 - x) 1 ≡ not (eqb x 1)) refl refl (digit a j) (digit_lt a j)

-- ---- 0, the word of ones and a power of two
pub bit-zero : (j : ℕ) → bit 0 j ≡ false
unfolding digit
bit-zero j = ap (λ (x : ℕ). eqb (x % 2) 1) (div-eq_of_lt (pow_pos j))

pub bit-ones : (j : ℕ) → j < 64 → bit ones j ≡ true
bit-ones j h = bit_not 0 j (lit< tt) h ∙ ap not (bit-zero j)

digit-pow_same : (i : ℕ) → digit (2 ^ i) i ≡ 1
unfolding digit
digit-pow_same i = ap (λ (x : ℕ). x / 2 ^ i % 2) (sym (one-mul (2 ^ i))) ∙ ap (λ (x : ℕ). x % 2) (shl-shr 1 i)

digit-pow_above : (i j : ℕ) → j < i → digit (2 ^ i) j ≡ 0
unfolding digit
digit-pow_above i j h =
    let n : ℕ = i - j - 1 in
    let e : i ≡ suc n + j = omega arith in
    ap (λ (x : ℕ). 2 ^ x / 2 ^ j % 2) e ∙ ap (λ (x : ℕ). x / 2 ^ j % 2) (pow-add 2 (suc n) j)
    ∙ ap (λ (x : ℕ). x % 2) (shl-shr (2 ^ suc n) j ∙ pow-suc 2 n) ∙ omega arith

digit-pow_below : (i j : ℕ) → i < j → digit (2 ^ i) j ≡ 0
unfolding digit
digit-pow_below i j h = ap (λ (x : ℕ). x % 2) (div-eq_of_lt (pow-lt h))

pub bit-pow : (i j : ℕ) → bit (2 ^ i) j ≡ eqb i j
bit-pow i j = go (ℕ_discrete i j)
  where
    other : Dec (i < j) → (i ≡ j → ⊥) → digit (2 ^ i) j ≡ 0
    other (yes l) ne = digit-pow_below i j l
    other (no l) ne = digit-pow_above i j (omega arith)

    go : Dec (i ≡ j) → bit (2 ^ i) j ≡ eqb i j
    go (yes e) =
        ap (λ (x : ℕ). eqb x 1) (ap (λ (y : ℕ). digit (2 ^ i) y) (sym e) ∙ digit-pow_same i) ∙ sym (eq-eqb i j e)
    go (no ne) = ap (λ (x : ℕ). eqb x 1) (other (dec_lt i j) ne) ∙ sym (ne_eqb i j ne)

-- ---- the bits tell the number

-- a digit is one of half of the number
pub digit-next : (x j : ℕ) → digit x (suc j) ≡ digit (x / 2) j
unfolding digit
digit-next x j = ap (λ (z : ℕ). z % 2) (let e : suc j ≡ 1 + j = omega arith in rw e (sym (shr-shr x 1 j)))

digits_tell : (n x y : ℕ) → x < 2 ^ n → y < 2 ^ n → ((j : ℕ) → j < n → digit x j ≡ digit y j) → x ≡ y
unfolding digit
digits_tell zero x y hx hy h = omega arith
digits_tell (suc n) x y hx hy h =
    let p : 2 ^ suc n ≡ 2 ^ n * 2 = pow-suc 2 n in
    let half : x / 2 ≡ y / 2 =
    digits_tell n (x / 2) (y / 2) (omega arith) (omega arith) (λ j l. sym (digit-next x j) ∙ h (suc j) (omega arith) ∙ digit-next y j) in
    let last : x / 1 % 2 ≡ y / 1 % 2 = h 0 (omega arith) in
    omega arith

pub bits-tell : (n x y : ℕ) → x < 2 ^ n → y < 2 ^ n → ((j : ℕ) → j < n → bit x j ≡ bit y j) → x ≡ y
bits-tell n x y hx hy h =
    digits_tell n x y hx hy
    (λ j l. each_two (λ a b. eqb a 1 ≡ eqb b 1 → a ≡ b) (λ e. refl) (λ e. absurd (false≢true e)) (λ e. absurd (true≢false e)) (λ e. refl)
    (digit x j) (digit y j) (digit_lt x j) (digit_lt y j) (h j l))

-- ---- what the code computes
pub mask : (i : ℕ) → i < 64 → 1 * 2 ^ i % 2 ^ 64 ≡ 2 ^ i
mask i h = shl_exact {a = 1} 1 i 64 (omega arith) (omega arith) ∙ one-mul (2 ^ i)

and_pow : (w i : ℕ) → bit_and w (2 ^ i) ≡ digit w i * 2 ^ i
unfolding digit
and_pow w i = let e : 2 ^ (1 + i) ≡ 2 * 2 ^ i = pow-add 2 1 i in ap (λ (x : ℕ). bit_and w x) (omega arith) ∙ and_high w 1 i

-- the test of one bit
pub tested : (w i : ℕ) → i < 64 → not (eqb (bit_and w (1 * 2 ^ i % 2 ^ 64)) 0) ≡ bit w i
tested w i h =
    ap (λ (x : ℕ). not (eqb (bit_and w x) 0)) (mask i h) ∙ ap (λ (x : ℕ). not (eqb x 0)) (and_pow w i)
    ∙ each-digit (λ d. not (eqb (d * 2 ^ i) 0) ≡ eqb d 1) (ap (λ (x : ℕ). not (eqb x 0)) (zero-mul (2 ^ i)))
    (ap (λ (x : ℕ). not (eqb x 0)) (one-mul (2 ^ i)) ∙ ap not (ne_eqb (2 ^ i) 0 (λ e. omega (arith, pow_pos i))))
    (digit w i) (digit_lt w i)

-- an OR is 0 exactly if both numbers are
pub or_zero : (d z : ℕ) → eqb (bit_or d z) 0 ≡ (eqb d 0 && eqb z 0)
or_zero d z = go (ℕ_discrete d 0) (ℕ_discrete z 0)
  where
    unequal : ((d ≡ 0) → z ≡ 0 → ⊥) → bit_or d z ≡ 0 → ⊥
    unequal h e = h (omega (arith, or_add_and d z, and_le_r d z)) (omega (arith, or_add_and d z, and_le_l d z))

    go : Dec (d ≡ 0) → Dec (z ≡ 0) → eqb (bit_or d z) 0 ≡ (eqb d 0 && eqb z 0)
    go (yes p) (yes q) = ap (λ (n : ℕ). eqb n 0) (ap₂ bit_or p q ∙ or_self 0) ∙ sym (ap₂ ◌&&◌ (eq-eqb d 0 p) (eq-eqb z 0 q))
    go (yes p) (no q) = ne_eqb (bit_or d z) 0 (unequal (λ _. q)) ∙ sym (ap₂ ◌&&◌ (eq-eqb d 0 p) (ne_eqb z 0 q))
    go (no p) q = ne_eqb (bit_or d z) 0 (unequal (λ e _. p e)) ∙ sym (ap (λ (t : Bool). t && eqb z 0) (ne_eqb d 0 p))

-- an XOR is 0 exactly if the two numbers are equal
pub xor_zero : (x y : ℕ) → eqb (bit_xor x y) 0 ≡ eqb x y
xor_zero x y = go (ℕ_discrete x y)
  where
    go : Dec (x ≡ y) → eqb (bit_xor x y) 0 ≡ eqb x y
    go (yes q) = eq-eqb (bit_xor x y) 0 (ap (λ (n : ℕ). bit_xor n y) q ∙ xor_self y) ∙ sym (eq-eqb x y q)
    go (no q) =
        ne_eqb (bit_xor x y) 0 (λ e. q (omega (arith, xor_add_and x y, and_le_l x y, and_le_r x y))) ∙ sym (ne_eqb x y q)
