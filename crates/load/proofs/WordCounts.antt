-- A word of weights, and the set bits that it has in common with a word of a set. Assumes nothing.
use mathlib.Core.Path.{◌≡◌, refl, sym, ap, ap₂, ◌∙◌}
use mathlib.Core.Bool.{Bool, true, false}
use mathlib.Core.List.{List}
use Prim.Native.Nat.{ℕ, zero, suc, ◌+◌, ◌*◌, ◌/◌, ◌%◌, ◌^◌, ◌≤◌, ◌<◌, min}
use native.Mathlib.Nat.{pow-suc, mod-lt, zero-lt-suc, div-one, one-mul, zero-mul}
use native.Mathlib.Omega.{arith}
use mir.Val.{bool_byte}
use lib.Bits.{bit_and, bit_or, and_zero_r, and_step, and_le_r, or_shifted_r}
use lib.Count.{ones, ones_step, ones-le}
use lib.Dec.{eqb, ltb, leb}
use lib.ListN.{get_or}
use borrow.Author.Tests.{leb-true, leb-false, le-ltb, lt-ltb}
use Rattle.bitset.specs.Sets.{digit, member}
use Rattle.bitset.specs.Rows.{row}
use Rattle.bitset.proofs.Digits.{bit, digit-next, mask}
use Rattle.bitset.proofs.RowLaws.{get_or-row}
use Rattle.dataflow.specs.Lists.{pick, tabulate, sum}
use Rattle.answer.specs.Words.{one, number_of}
use Rattle.answer.specs.Held.{row_at}
use Rattle.answer.proofs.WordLaws.{number_below}
use Rattle.sheet.specs.Decode.{SlotKind, slot_of, offset_of}
use Rattle.sheet.proofs.WalkLaws.{offset-add}
use Rattle.load.specs.Load.{weight_of}
use Rattle.load.specs.Counting.{weighs, set_at, word_load, slot_load, load_below}
use Rattle.load.proofs.Sums.{sum-parts, sum_same, sum_both}

-- ---- a word of weights, one bit more
number_more : (f : ℕ → Bool) (k n : ℕ) → number_of f k (suc n) ≡ one (f (k + n)) * 2 ^ n + number_of f k n
unfolding number_of
number_more f k zero = let e : k + 0 ≡ k = omega arith in rw e (omega arith)
number_more f k (suc n) =
    let e : suc k + n ≡ k + suc n = omega arith in
    let ih : number_of f (suc k) (suc n) ≡ one (f (k + suc n)) * 2 ^ n + number_of f (suc k) n =
    number_more f (suc k) n ∙ ap (λ (i : ℕ). one (f i) * 2 ^ n + number_of f (suc k) n) e in
    doubled (one (f k)) (number_of f (suc k) (suc n)) (2 ^ n) (2 ^ suc n) (number_of f (suc k) n) (pow-suc 2 n) (f (k + suc n)) ih
  where
    doubled : (b x p q y : ℕ) → q ≡ p * 2 → (t : Bool) → x ≡ one t * p + y → b + 2 * x ≡ one t * q + (b + 2 * y)
    doubled b x p q y d true e = omega arith
    doubled b x p q y d false e = omega arith

pub number_put : (f : ℕ → Bool) (n bit : ℕ) → bit ≡ one (f n) * 2 ^ n → bit_or (number_of f 0 n) bit ≡ number_of f 0 (n + 1)
number_put f n bit e =
    let z : 0 + n ≡ n = omega arith in
    let one_more : n + 1 ≡ suc n = omega arith in
    ap (bit_or (number_of f 0 n)) e
    ∙ or_shifted_r (one (f n)) n (number_of f 0 n) (number_below f 0 n)
    ∙ sym (ap (number_of f 0) one_more ∙ number_more f 0 n ∙ ap (λ (i : ℕ). one (f i) * 2 ^ n + number_of f 0 n) z)

-- ---- the bits that two words have in common
-- one bit of both
min-one : (d : ℕ) (t : Bool) → d < 2 → min d (one t) ≡ pick (eqb d 1) (one t) 0
min-one zero true h = refl
min-one zero false h = refl
min-one (suc zero) true h = refl
min-one (suc zero) false h = refl
min-one (suc (suc d)) t h = absurd (omega arith)

min-below : (d e : ℕ) → d < 2 → min d e < 2
min-below d e h = omega arith

one_below : (t : Bool) → one t < 2
one_below true = omega arith
one_below false = omega arith

last : (q m : ℕ) → m < 2 → (q * 2 + m) % 2 ≡ m
last q m h = omega arith

half : (q m : ℕ) → m < 2 → (q * 2 + m) / 2 ≡ q
half q m h = omega arith

odd : (b m : ℕ) → b < 2 → (b + 2 * m) % 2 ≡ b
odd b m h = omega arith

rest : (b m : ℕ) → b < 2 → (b + 2 * m) / 2 ≡ m
rest b m h = omega arith

first_bit : (x : ℕ) → x % 2 ≡ digit x 0
unfolding digit
first_bit x = ap (λ (y : ℕ). y % 2) (sym (div-one x))

-- their number: each bit of the one, where the other has it too
pub ones-common : (f : ℕ → Bool) (n k x : ℕ)
    → ones (bit_and x (number_of f k n)) ≡ sum (tabulate 0 n (λ i. pick (bit x i) (one (f (k + i))) 0))
unfolding number_of ones
ones-common f zero k x = ap ones (and_zero_r x)
ones-common f (suc n) k x =
    let b : ℕ = one (f k) in
    let m : ℕ = number_of f (suc k) n in
    let y : ℕ = b + 2 * m in
    let hb : b < 2 = one_below (f k) in
    let hx : x % 2 < 2 = mod-lt x (zero-lt-suc 1) in
    let e : bit_and x y ≡ bit_and (x / 2) m * 2 + min (x % 2) b =
    and_step x y ∙ ap₂ (λ (r t : ℕ). bit_and (x / 2) r * 2 + min (x % 2) t) (rest b m hb) (odd b m hb) in
    let here : min (x % 2) b ≡ pick (bit x 0) (one (f (k + 0))) 0 =
    min-one (x % 2) (f k) hx
    ∙ ap₂ (λ (d i : ℕ). pick (eqb d 1) (one (f i)) 0) (first_bit x) (let z : k ≡ k + 0 = omega arith in z) in
    ones_step (bit_and x y)
    ∙ ap (λ (z : ℕ). z % 2 + ones (z / 2)) e
    ∙ ap₂ (λ (a c : ℕ). a + ones c) (last (bit_and (x / 2) m) (min (x % 2) b) (min-below (x % 2) b hx))
    (half (bit_and (x / 2) m) (min (x % 2) b) (min-below (x % 2) b hx))
    ∙ ap₂ ◌+◌ here
    (ones-common f n (suc k) (x / 2)
    ∙ sum_same 0 1 n (λ i. pick (bit (x / 2) i) (one (f (suc k + i))) 0) (λ i. pick (bit x i) (one (f (k + i))) 0)
    (λ i l. shifted i))
  where
    shifted : (i : ℕ) → pick (bit (x / 2) (0 + i)) (one (f (suc k + (0 + i)))) 0 ≡ pick (bit x (1 + i)) (one (f (k + (1 + i)))) 0
    shifted i =
        let z : 0 + i ≡ i = omega arith in
        let o : 1 + i ≡ suc i = omega arith in
        let p : suc k + (0 + i) ≡ k + (1 + i) = omega arith in
        ap₂ (λ (d j : ℕ). pick (eqb d 1) (one (f j)) 0)
        (ap (digit (x / 2)) z ∙ sym (digit-next x i) ∙ ap (digit x) (sym o)) p

-- of a word there are at most 64
pub common-few : (x y : ℕ) → y < 2 ^ 64 → ones (bit_and x y) ≤ 64
common-few x y h = ones-le 64 (bit_and x y) (le_lt (bit_and x y) y (2 ^ 64) (and_le_r x y) h)
  where
    le_lt : (a b c : ℕ) → a ≤ b → b < c → a < c
    le_lt a b c l m = omega arith

-- ---- a slot's weight as a bit
pub weight_one : (k : SlotKind) → one (ltb 1 k.physical) ≡ weight_of k
weight_one k = go (leb k.physical 1) refl
  where
    go : (t : Bool) → leb k.physical 1 ≡ t → one (ltb 1 k.physical) ≡ pick t 0 1
    go true e = ap one (le-ltb 1 k.physical (leb-true _ _ e))
    go false e = ap one (lt-ltb 1 k.physical (leb-false _ _ e))

-- the bit that the code makes of a test
pub bit-made : (physical v k : ℕ) → k < 64 → v ≡ bool_byte (ltb 1 physical) → v * 2 ^ k % 2 ^ 64 ≡ one (ltb 1 physical) * 2 ^ k
bit-made physical v k h e = ap (λ (x : ℕ). x * 2 ^ k % 2 ^ 64) e ∙ go (ltb 1 physical)
  where
    go : (b : Bool) → bool_byte b * 2 ^ k % 2 ^ 64 ≡ one b * 2 ^ k
    go true = mask k h ∙ sym (one-mul (2 ^ k))
    go false = ap (λ (x : ℕ). x % 2 ^ 64) (zero-mul (2 ^ k)) ∙ sym (zero-mul (2 ^ k))

-- ---- word j of an await's set, of which n slots weigh as the word of weights says
module _ (s : List ℕ) (at : ℕ) (v : List ℕ) (w first : ℕ) where
  word_count : (k j n : ℕ) → j < w → n ≤ 64 → {next : ℕ} → next ≡ offset_of s at (64 * j)
      → ones (bit_and (get_or v (set_at w first k + j) 0) (number_of (weighs s next) 0 n)) ≡ sum (tabulate (64 * j) n (slot_load s at v w first k))
  unfolding member row
  word_count k j n hj hn {next} en =
      ones-common (weighs s next) n 0 (get_or v (set_at w first k + j) 0)
      ∙ sum_same 0 (64 * j) n (λ i. pick (bit (get_or v (set_at w first k + j) 0) i) (one (weighs s next (0 + i))) 0) (slot_load s at v w first k)
      (λ i l. same i l)
    where
      same : (i : ℕ) → i < n
          → pick (bit (get_or v (set_at w first k + j) 0) (0 + i)) (one (weighs s next (0 + (0 + i)))) 0 ≡ slot_load s at v w first k (64 * j + i)
      same i l =
          let z : 0 + i ≡ i = omega arith in
          let zz : 0 + (0 + i) ≡ i = omega arith in
          let q : (64 * j + i) / 64 ≡ j = omega arith in
          let r : (64 * j + i) % 64 ≡ i = omega arith in
          let here : get_or (row_at v w (set_at w first k)) j 0 ≡ get_or v (set_at w first k + j) 0 = get_or-row v (set_at w first k) w j hj in
          let place : offset_of s next i ≡ offset_of s at (64 * j + i) =
          ap (λ (a : ℕ). offset_of s a i) en ∙ sym (offset-add s at (64 * j) i) in
          ap₂ (λ (t : Bool) (x : ℕ). pick t x 0)
          (ap (bit (get_or v (set_at w first k + j) 0)) z
          ∙ sym (ap₂ (λ (d e : ℕ). bit (get_or (row_at v w (set_at w first k)) d 0) e) q r ∙ ap (λ (x : ℕ). bit x i) here))
          (ap (λ (e : ℕ). one (weighs s next e)) zz ∙ ap (λ (a : ℕ). one (ltb 1 (slot_of s a).physical)) place
          ∙ weight_one (slot_of s (offset_of s at (64 * j + i))))

  -- the load of n slots more, in word j
  pub below_more : (awaits k j n : ℕ) → k ≡ 64 * j → j < w → n ≤ 64 → {next weights : ℕ} → next ≡ offset_of s at k
      → weights ≡ number_of (weighs s next) 0 n
      → load_below s at v w first awaits k + word_load v weights w first awaits j ≡ load_below s at v w first awaits (k + n)
  unfolding load_below word_load
  below_more awaits k j n ek hj hn {next} {weights} en ew =
      let f : ℕ → ℕ = λ i. sum (tabulate 0 k (slot_load s at v w first i)) in
      let g : ℕ → ℕ = λ i. ones (bit_and (get_or v (set_at w first i + j) 0) weights) in
      let h : ℕ → ℕ = λ i. sum (tabulate 0 (k + n) (slot_load s at v w first i)) in
      sym (sum_both 0 awaits f g)
      ∙ sum_same 0 0 awaits (λ i. f i + g i) h (λ i l. both (0 + i))
    where
      both : (i : ℕ) → sum (tabulate 0 k (slot_load s at v w first i)) + ones (bit_and (get_or v (set_at w first i + j) 0) weights)
          ≡ sum (tabulate 0 (k + n) (slot_load s at v w first i))
      both i =
          let z : 64 * j ≡ 0 + k = omega arith in
          ap (λ (x : ℕ). sum (tabulate 0 k (slot_load s at v w first i)) + x)
          (ap (λ (x : ℕ). ones (bit_and (get_or v (set_at w first i + j) 0) x)) ew
          ∙ word_count i j n hj hn (en ∙ ap (offset_of s at) ek)
          ∙ ap (λ (x : ℕ). sum (tabulate x n (slot_load s at v w first i))) z)
          ∙ sym (sum-parts 0 k n (slot_load s at v w first i))

  -- of no slot
  pub below_none : (awaits : ℕ) → load_below s at v w first awaits 0 ≡ 0
  unfolding load_below
  below_none awaits = go 0 awaits
    where
      go : (k n : ℕ) → sum (tabulate k n (λ i. sum (tabulate 0 0 (slot_load s at v w first i)))) ≡ 0
      go k zero = refl
      go k (suc n) = omega (arith, go (suc k) n)
