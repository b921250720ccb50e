-- Slots put one after the other into a row. Assumes nothing.
use mathlib.Core.Path.{◌≡◌, refl, ap, ap₂, sym, subst, ◌∙◌}
use mathlib.Core.Bool.{Bool, true, false}
use mathlib.Core.List.{List, [], ◌∷◌, map}
use Prim.Native.Nat.{ℕ, zero, suc, ◌+◌, ◌*◌, ◌%◌, ◌^◌, ◌<◌}
use native.Mathlib.Omega.{arith}
use native.Mathlib.Nat.{zero-mul}
use mir.Val.{bool_byte}
use lib.ListN.{length, get_or, drop}
use lib.Seq.{drop-cons}
use Rattle.std.specs.Prelude.{Some}
use Rattle.std.proofs.lemmas.List.{get_or-map, length-map}
use Rattle.operands.specs.Bytes.{number_in, u32_at, numbers_at}
use Rattle.operands.specs.Choice.{pick}
use Rattle.operands.specs.Instructions.{nth}
use Rattle.operands.proofs.NumberLaws.{number_at, number_count}
use Rattle.bitset.specs.Below.{AllBelow}
use Rattle.bitset.proofs.Below.{below-get_or}
use Rattle.bitset.specs.Operations.{inserted}
use Rattle.bitset.proofs.Digits.{mask}
use Rattle.bitset.proofs.SetLaws.{length_inserted}
use Rattle.format.specs.Heads.{end_at}
use Rattle.sheet.specs.Decode.{SlotKind, offset_of, is_host}
use Rattle.instructions.specs.Sets.{inserted_all, inserted_hosts}

-- the length stays
pub length-all : (xs ws : List ℕ) → length (inserted_all xs ws) ≡ length ws
unfolding inserted_all
length-all [] ws = refl
length-all (x ∷ xs) ws = length-all xs (inserted ws x) ∙ length_inserted ws x

pub length-pick : (b : Bool) (ws : List ℕ) (k : ℕ) → length (pick b (inserted ws k) ws) ≡ length ws
length-pick true ws k = length_inserted ws k
length-pick false ws k = refl

pub length-hosts : (xs : List SlotKind) (k : ℕ) (ws : List ℕ) → length (inserted_hosts xs k ws) ≡ length ws
unfolding inserted_hosts
length-hosts [] k ws = refl
length-hosts (x ∷ xs) k ws = length-hosts xs (k + 1) (pick (is_host x) (inserted ws k) ws) ∙ length-pick (is_host x) ws k

-- the offset after the next record
pub offset-next : (s : List ℕ) (at k : ℕ) → offset_of s at (suc k) ≡ end_at s (offset_of s at k)
unfolding offset_of
offset-next s at zero = refl
offset-next s at (suc k) = offset-next s (end_at s at) k

-- a slot's bit, or none, as the code makes it
pub bit-made : (b : Bool) (v k : ℕ) → k < 64 → v ≡ bool_byte b → v * 2 ^ k % 2 ^ 64 ≡ pick b (2 ^ (k % 64)) 0
bit-made b v k h e =
    let q : k ≡ k % 64 = omega arith in
    ap₂ (λ (x y : ℕ). x * 2 ^ y % 2 ^ 64) e q ∙ go b
  where
    go : (b : Bool) → bool_byte b * 2 ^ (k % 64) % 2 ^ 64 ≡ pick b (2 ^ (k % 64)) 0
    go true = mask (k % 64) (omega arith)
    go false = ap (λ (x : ℕ). x % 2 ^ 64) (zero-mul (2 ^ (k % 64)))

-- one of some numbers below a bound
pub below-number : (n : ℕ) (s : List ℕ) (at count k : ℕ) → AllBelow n (numbers_at s at count) → k < count → u32_at s (at + 4 * k) < n
below-number n s at count k a h =
    subst (λ (x : ℕ). x < n) (number_at s at count k 0 h)
    (below-get_or n (numbers_at s at count) k 0 a (subst (λ (m : ℕ). k < m) (sym (number_count s at count)) h))

pub below-nth : (n : ℕ) (l : List ℕ) (i x : ℕ) → AllBelow n l → nth l i ≡ Some x → x < n
below-nth n [] i x a e = let z : ◌≡◌ {A = ℕ} 0 1 = cc in absurd (omega arith)
below-nth n (y ∷ l) zero x a e = let q : y ≡ x = cc in omega (arith, a.0)
below-nth n (y ∷ l) (suc i) x a e = below-nth n l i x a.1 e

-- numbers put in one after the other
module _ (items : List (List ℕ)) (i : ℕ) (h : i < length items) where
  pub item-below : (n : ℕ) (ns : List ℕ) → map number_in items ≡ ns → AllBelow n ns → number_in (get_or items i []) < n
  item-below n ns e a =
      subst (λ (x : ℕ). x < n) (get_or-map number_in items i [] 0 h)
      (below-get_or n (map number_in items) i 0 (rw e a) (omega (arith, length-map items number_in)))

  pub listed_more : (slot : ℕ) (row end : List ℕ) → slot ≡ number_in (get_or items i [])
      → inserted_all (drop i (map number_in items)) row ≡ end → inserted_all (drop (i + 1) (map number_in items)) (inserted row slot) ≡ end
  unfolding inserted_all
  listed_more slot row end e g =
      let l : i < length (map number_in items) = omega (arith, length-map items number_in) in
      let one : i + 1 ≡ suc i = omega arith in
      rw (one, e, ← get_or-map number_in items i [] 0 h) (sym (ap (λ (ns : List ℕ). inserted_all ns row) (drop-cons (map number_in items) i 0 l)) ∙ g)
