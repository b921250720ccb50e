-- A bit of an added set that is no slot: found by a test over the places, and by a look at the last word alone. Assumes nothing.
use mathlib.Core.Path.{◌≡◌, refl, sym, ap, subst, ◌∙◌}
use mathlib.Core.Bool.{Bool, true, false, not, false≢true}
use mathlib.Core.List.{List, Memᴰ}
use mathlib.Core.Logic.{◌↔◌}
use Prim.Native.Nat.{ℕ, ◌+◌, ◌-◌, ◌*◌, ◌/◌, ◌%◌, ◌^◌, ◌≤◌, ◌<◌}
use native.Mathlib.Decide.{ℕ_discrete}
use native.Mathlib.Omega.{arith}
use borrow.Author.Tests.{eq-eqb, ne_eqb}
use lib.Dec.{eqb}
use lib.ListN.{get_or}
use lib.Pow.{pow_pos, shr_lt, shr-shr}
use Rattle.bitset.specs.Sets.{digit, member}
use Rattle.bitset.proofs.Digits.{bit, bit-zero, bits-tell}
use Rattle.dataflow.specs.Lists.{range}
use Rattle.dataflow.proofs.Lists.{mem-range, range-bounds, some_at, some_to}
use Rattle.added.specs.Added.{width_of, strays, Stray}

-- ---- the bits of a number from a place on

-- they are those of the number shifted down
bit-above : (x r j : ℕ) → bit (x / 2 ^ r) j ≡ bit x (r + j)
unfolding digit
bit-above x r j = ap (λ (n : ℕ). eqb (n % 2) 1) (shr-shr x r j)

-- where that is 0, none is set
above-none : (x r j : ℕ) → x / 2 ^ r ≡ 0 → r ≤ j → bit x j ≡ false
above-none x r j e le =
    let q : r + (j - r) ≡ j = omega arith in
    ap (bit x) (sym q) ∙ sym (bit-above x r (j - r)) ∙ ap (λ (n : ℕ). bit n (j - r)) e ∙ bit-zero (j - r)

-- and where none is set, a word so shifted is 0
none_above : (x r : ℕ) → x < 2 ^ 64 → r ≤ 64 → ((j : ℕ) → r ≤ j → j < 64 → bit x j ≡ false) → x / 2 ^ r ≡ 0
none_above x r fits le none =
    let q : (64 - r) + r ≡ 64 = omega arith in
    bits-tell (64 - r) (x / 2 ^ r) 0 (shr_lt (64 - r) r (subst (λ (n : ℕ). x < 2 ^ n) (sym q) fits)) (pow_pos (64 - r))
    (λ j lt. bit-above x r j ∙ none (r + j) (omega arith) (omega arith) ∙ sym (bit-zero j))

module _ (slots : ℕ) (added : List ℕ) where
  -- ---- what the test says

  found : strays slots added ≡ true → Stray slots added
  unfolding strays
  found e =
      let z = some_at (member added) (range slots (64 * width_of slots - slots)) e in
      let q = range-bounds slots (64 * width_of slots - slots) z.0 z.1 in
      record { slot = z.0; above = q.0; within = omega (arith, q.0, q.1); is_set = z.2 }

  seen : Stray slots added → strays slots added ≡ true
  unfolding strays
  seen t =
      let q : slots + (t.slot - slots) ≡ t.slot = omega (arith, t.above) in
      some_to (member added) (range slots (64 * width_of slots - slots)) t.slot
      (subst (λ (i : ℕ). Memᴰ i (range slots (64 * width_of slots - slots))) q
      (mem-range slots (64 * width_of slots - slots) (t.slot - slots) (omega (arith, t.above, t.within)))) t.is_set

  -- it says yes exactly of a set with such a bit
  pub strays_iff : (strays slots added ≡ true) ↔ Stray slots added
  strays_iff = (found, seen)

  -- where it says no, no such bit is set, and the other way round
  pub none_stray : strays slots added ≡ false → (i : ℕ) → slots ≤ i → i < 64 * width_of slots → member added i ≡ false
  none_stray e i le lt = go (member added i) refl
    where
      go : (t : Bool) → member added i ≡ t → t ≡ false
      go true q = absurd (false≢true (sym e ∙ seen (record { slot = i; above = le; within = lt; is_set = q })))
      go false q = refl

  pub no_strays : ((i : ℕ) → slots ≤ i → i < 64 * width_of slots → member added i ≡ false) → strays slots added ≡ false
  no_strays none = go (strays slots added) refl
    where
      go : (t : Bool) → strays slots added ≡ t → t ≡ false
      go true q = let z = found q in absurd (false≢true (sym (none z.slot z.above z.within) ∙ z.is_set))
      go false q = refl

  -- ---- what `has_stray` looks at

  -- slots that fill their words leave no bit
  pub whole_words : slots % 64 ≡ 0 → strays slots added ≡ false
  whole_words e = no_strays (λ i le lt. absurd (omega arith))

  module _ (e : slots % 64 ≡ 0 → ⊥) where
    -- the last word of the set
    abbrev last : ℕ
    last = get_or added (slots / 64) 0

    -- the places past the slots stand in it
    in_last : (i : ℕ) → slots ≤ i → i < 64 * width_of slots → member added i ≡ bit last (i % 64)
    unfolding member
    in_last i le lt = let q : i / 64 ≡ slots / 64 = omega arith in ap (λ (k : ℕ). bit (get_or added k 0) (i % 64)) q

    of_last : (j : ℕ) → slots % 64 ≤ j → j < 64 → bit last j ≡ member added (64 * (slots / 64) + j)
    of_last j le lt =
        let q : (64 * (slots / 64) + j) % 64 ≡ j = omega arith in
        sym (in_last (64 * (slots / 64) + j) (omega arith) (omega arith) ∙ ap (bit last) q)

    -- so it is not 0 after a shift by the slots in it exactly if such a bit is set
    pub last_word : last < 2 ^ 64 → not (eqb (last / 2 ^ (slots % 64)) 0) ≡ strays slots added
    last_word fits = go (ℕ_discrete (last / 2 ^ (slots % 64)) 0)
      where
        some-bit : (last / 2 ^ (slots % 64) ≡ 0 → ⊥) → (t : Bool) → strays slots added ≡ t → t ≡ true
        some-bit ne true q = refl
        some-bit ne false q =
            absurd (ne (none_above last (slots % 64) fits (omega arith)
            (λ j le lt. of_last j le lt ∙ none_stray q (64 * (slots / 64) + j) (omega arith) (omega arith))))

        go : Dec (last / 2 ^ (slots % 64) ≡ 0) → not (eqb (last / 2 ^ (slots % 64)) 0) ≡ strays slots added
        go (yes z) =
            ap not (eq-eqb (last / 2 ^ (slots % 64)) 0 z)
            ∙ sym (no_strays (λ i le lt. in_last i le lt ∙ above-none last (slots % 64) (i % 64) z (omega arith)))
        go (no ne) = ap not (ne_eqb (last / 2 ^ (slots % 64)) 0 ne) ∙ sym (some-bit ne (strays slots added) refl)
