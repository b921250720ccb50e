-- A row of slots that takes in an added set. Assumes nothing.
use mathlib.Core.Path.{◌≡◌, refl, sym, ap, ap₂, fun_ext, ◌∙◌}
use mathlib.Core.Bool.{Bool, true, false, ◌&&◌, ◌||◌, or-false, false≢true}
use mathlib.Core.List.{List, [], ◌∷◌}
use Prim.Native.Nat.{ℕ, ◌+◌, ◌-◌, ◌*◌, ◌/◌, ◌%◌, ◌^◌, ◌≤◌, ◌<◌, min}
use native.Mathlib.Nat.{mod-lt, div-eq_of_lt}
use native.Mathlib.Decide.{dec_lt, ℕ_discrete}
use native.Mathlib.Omega.{arith}
use borrow.Author.Tests.{eq-eqb, ne_eqb, lt-ltb, le-ltb, ltb-true}
use lib.Dec.{eqb, ltb}
use lib.Bits.{bit_or}
use lib.ListN.{length, take, get_or, set, replicate, length-set, length-replicate}
use lib.Pow.{field, mod-mod-pow, pow_pos, pow_mono}
use lib.Seq.{get_or-take, length-take-le, get_or-set_same, get_or-set_other}
use Rattle.bitset.specs.Sets.{digit, member}
use Rattle.bitset.specs.Operations.{join}
use Rattle.bitset.proofs.Digits.{bit, bit-or}
use Rattle.bitset.proofs.SetLaws.{member-past, get_or-zipped, length-zipped, joined_past}
use Rattle.bitset.proofs.Below.{below-mem}
use Rattle.dataflow.specs.Lists.{pick, elem}
use Rattle.dataflow.specs.Checked.{Checked}
use Rattle.dataflow.proofs.Lists.{elem_mem}
use Rattle.operands.specs.Patterns.{among}
use Rattle.sheet.specs.Decode.{Parts, parts_of}
use Rattle.sheet.specs.declared.script.Script.{Script}
use Rattle.instructions.specs.Sets.{parameter_row}
use Rattle.instructions.specs.Sound.{Sound}
use Rattle.instructions.proofs.SetSteps.{length-all}
use Rattle.instructions.proofs.SetMembers.{parameters_in_row}
use Rattle.script.specs.Script.{flow_code, parameter_in}
use Rattle.script.proofs.ScriptLaws.{checked}
use Rattle.starts.specs.Starts.{parameter_with, cut_at, Joins, Starts}

-- ---- the low bits of a number

-- those below r stay
bit-low : (x r j : ℕ) → j < r → bit (x % 2 ^ r) j ≡ bit x j
unfolding digit
bit-low x r j h =
    let e : r ≡ (r - j) + j = omega arith in
    let f : r - j ≡ (r - j - 1) + 1 = omega arith in
    ap (λ (n : ℕ). eqb (x % 2 ^ n / 2 ^ j % 2) 1) e ∙ ap (λ (n : ℕ). eqb (n % 2) 1) (field x (r - j) j)
    ∙ ap (λ (n : ℕ). eqb (x / 2 ^ j % 2 ^ n % 2) 1) f ∙ ap (λ (n : ℕ). eqb n 1) (mod-mod-pow (x / 2 ^ j) (r - j - 1) 1)

-- the others are none
bit_high : (x r j : ℕ) → r ≤ j → bit (x % 2 ^ r) j ≡ false
unfolding digit
bit_high x r j h = ap (λ (n : ℕ). eqb (n % 2) 1) (div-eq_of_lt less)
  where
    less : x % 2 ^ r < 2 ^ j
    less = omega (arith, mod-lt x (pow_pos r), pow_mono h)

-- ---- the row after both steps

module _ (slots : ℕ) (added l l₁ l₂ : List ℕ) (n : ℕ) (wide : slots ≤ 64 * length l) (en : n ≡ min ((slots + 63) / 64) (length added))
    (e₁ : l₁ ≡ join l (take n added)) (e₂ : l₂ ≡ cut_at slots l₁) where
  few : n ≤ length l
  few = omega (arith, en)

  pub long₁ : length l₁ ≡ length l
  long₁ = ap length e₁ ∙ length-zipped bit_or l (take n added)

  after₁ : (i : ℕ) → n ≤ i → get_or l₁ i 0 ≡ get_or l i 0
  after₁ i h = ap (λ (z : List ℕ). get_or z i 0) e₁ ∙ joined_past l (take n added) i (omega (arith, length-take-le n added (omega (arith, en))))

  -- a word of the row has taken in the added one
  in₁ : (k : ℕ) → k < n → get_or l₁ k 0 ≡ bit_or (get_or l k 0) (get_or added k 0)
  in₁ k h =
      ap (λ (z : List ℕ). get_or z k 0) e₁ ∙ get_or-zipped bit_or l (take n added) k (omega (arith, few))
      ∙ ap (bit_or (get_or l k 0)) (get_or-take n added k 0 h)

  -- the other words are not cut
  kept₂ : (i : ℕ) → ((slots % 64 ≡ 0 → ⊥) → i ≡ slots / 64 → ⊥) → get_or l₂ i 0 ≡ get_or l₁ i 0
  kept₂ i ne = ap (λ (z : List ℕ). get_or z i 0) e₂ ∙ go (ℕ_discrete (slots % 64) 0)
    where
      go : Dec (slots % 64 ≡ 0) → get_or (cut_at slots l₁) i 0 ≡ get_or l₁ i 0
      go (yes q) = rw (eq-eqb (slots % 64) 0 q) refl
      go (no q) = rw (ne_eqb (slots % 64) 0 q) (get_or-set_other l₁ (slots / 64) i _ 0 (ne q))

  cut₂ : (slots % 64 ≡ 0 → ⊥) → get_or l₂ (slots / 64) 0 ≡ get_or l₁ (slots / 64) 0 % 2 ^ (slots % 64)
  cut₂ q = ap (λ (z : List ℕ). get_or z (slots / 64) 0) e₂
      ∙ rw (ne_eqb (slots % 64) 0 q) (get_or-set_same l₁ (slots / 64) _ 0 (omega (arith, long₁)))

  long₂ : length l₂ ≡ length l
  long₂ = ap length e₂ ∙ go (eqb (slots % 64) 0) ∙ long₁
    where
      go : (v : Bool) → length (pick v l₁ (set l₁ (slots / 64) (get_or l₁ (slots / 64) 0 % 2 ^ (slots % 64)))) ≡ length l₁
      go true = refl
      go false = length-set l₁ (slots / 64) _

  module _ (own : (i : ℕ) → member l i ≡ true → i < slots) where
    -- none past the slots was there
    own-none : (i : ℕ) → slots ≤ i → member l i ≡ false
    own-none i h = go (member l i) refl
      where
        go : (v : Bool) → member l i ≡ v → v ≡ false
        go true e = absurd (omega (arith, own i e))
        go false e = refl

    -- a slot whose word has taken in the added one
    taken : (i : ℕ) → member l₁ i ≡ (member l i || (ltb (i / 64) n && member added i))
    unfolding member
    taken i = go (dec_lt (i / 64) n)
      where
        go : Dec (i / 64 < n) → bit (get_or l₁ (i / 64) 0) (i % 64) ≡ (member l i || (ltb (i / 64) n && member added i))
        go (yes q) =
            ap (λ (v : ℕ). bit v (i % 64)) (in₁ (i / 64) q) ∙ bit-or (get_or l (i / 64) 0) (get_or added (i / 64) 0) (i % 64)
            ∙ sym (ap (λ (v : Bool). member l i || (v && member added i)) (lt-ltb (i / 64) n q))
        go (no q) =
            ap (λ (v : ℕ). bit v (i % 64)) (after₁ (i / 64) (omega arith))
            ∙ sym (ap (λ (v : Bool). member l i || (v && member added i)) (le-ltb (i / 64) n (omega arith)) ∙ or-false (member l i))

    inside : (i : ℕ) → i < slots → member l₂ i ≡ (member l i || member added i)
    unfolding member
    inside i h = go (ℕ_discrete (i / 64) (slots / 64)) ∙ taken i ∙ all_added (dec_lt (i / 64) n)
      where
        go : Dec (i / 64 ≡ slots / 64) → bit (get_or l₂ (i / 64) 0) (i % 64) ≡ bit (get_or l₁ (i / 64) 0) (i % 64)
        go (yes q) =
            ap (λ (k : ℕ). bit (get_or l₂ k 0) (i % 64)) q ∙ ap (λ (v : ℕ). bit v (i % 64)) (cut₂ (λ z. omega arith))
            ∙ bit-low (get_or l₁ (slots / 64) 0) (slots % 64) (i % 64) (omega arith)
            ∙ ap (λ (k : ℕ). bit (get_or l₁ k 0) (i % 64)) (sym q)
        go (no q) = ap (λ (v : ℕ). bit v (i % 64)) (kept₂ (i / 64) (λ a z. q (omega arith)))

        all_added : Dec (i / 64 < n) → (member l i || (ltb (i / 64) n && member added i)) ≡ (member l i || member added i)
        all_added (yes q) = ap (λ (v : Bool). member l i || (v && member added i)) (lt-ltb (i / 64) n q)
        all_added (no q) =
            ap (λ (v : Bool). member l i || (v && member added i)) (le-ltb (i / 64) n (omega arith))
            ∙ sym (ap (λ (v : Bool). member l i || v) (member-past added i (omega (arith, en))))

    outside : (i : ℕ) → slots ≤ i → member l₂ i ≡ false
    unfolding member
    outside i h = cut (ℕ_discrete (slots % 64) 0) (ℕ_discrete (i / 64) (slots / 64))
      where
        cut : Dec (slots % 64 ≡ 0) → Dec (i / 64 ≡ slots / 64) → bit (get_or l₂ (i / 64) 0) (i % 64) ≡ false
        cut (no a) (yes q) =
            ap (λ (k : ℕ). bit (get_or l₂ k 0) (i % 64)) q ∙ ap (λ (v : ℕ). bit v (i % 64)) (cut₂ a)
            ∙ bit_high (get_or l₁ (slots / 64) 0) (slots % 64) (i % 64) (omega arith)
        cut (no a) (no q) =
            ap (λ (v : ℕ). bit v (i % 64)) (kept₂ (i / 64) (λ b z. q (omega arith)) ∙ after₁ (i / 64) (omega (arith, en))) ∙ own-none i h
        cut (yes a) q =
            ap (λ (v : ℕ). bit v (i % 64)) (kept₂ (i / 64) (λ b z. b a) ∙ after₁ (i / 64) (omega (arith, en))) ∙ own-none i h

    all : (i : ℕ) → member l₂ i ≡ (member l i || (ltb i slots && member added i))
    all i = go (dec_lt i slots)
      where
        go : Dec (i < slots) → member l₂ i ≡ (member l i || (ltb i slots && member added i))
        go (yes h) = inside i h ∙ sym (ap (λ (v : Bool). member l i || (v && member added i)) (lt-ltb i slots h))
        go (no h) =
            outside i (omega arith) ∙ sym (ap₂ (λ (u v : Bool). u || (v && member added i)) (own-none i (omega arith)) (le-ltb i slots (omega arith)))

  pub joins : Joins slots added l l₂
  joins = record { long = long₂; members = all }

-- ---- the parameters with an added set

-- in a list by either test
among-elem : (k : ℕ) (l : List ℕ) → among k l ≡ elem k l
among-elem k [] = refl
among-elem k (x ∷ l) = ap (λ (t : Bool). eqb k x || t) (among-elem k l)

-- the sheet's own are slots of it
pub own_below : (s : List ℕ) (x : Script) → Sound s x → (i : ℕ) → parameter_in (parts_of s) i ≡ true → i < x.slots
unfolding parameter_in
own_below s x ok i e = below-mem x.slots i (parts_of s).params ok.params_below (elem_mem i (parts_of s).params e)

-- so are all
pub with_below : (s : List ℕ) (x : Script) → Sound s x → (added : List ℕ) (i : ℕ) → parameter_with (parts_of s) added i ≡ true → i < x.slots
unfolding parameter_with
with_below s x ok added i e = go (parameter_in (parts_of s) i) (ltb i (parts_of s).slots) refl refl e
  where
    go : (u v : Bool) → parameter_in (parts_of s) i ≡ u → ltb i (parts_of s).slots ≡ v → (u || (v && member added i)) ≡ true → i < x.slots
    go true v a b q = own_below s x ok i a
    go false true a b q = omega (arith, ltb-true i (parts_of s).slots b, ok.slots_are)
    go false false a b q = absurd (false≢true q)

-- where nothing is added they are the sheet's own
pub with_none : (p : Parts) (added : List ℕ) → ((i : ℕ) → member added i ≡ false) → parameter_with p added ≡ parameter_in p
unfolding parameter_with
with_none p added none = fun_ext (λ i. ap (λ (v : Bool). parameter_in p i || (ltb i p.slots && v)) (none i) ∙ go (parameter_in p i) (ltb i p.slots))
  where
    go : (u v : Bool) → (u || (v && false)) ≡ u
    go true true = refl
    go true false = refl
    go false true = refl
    go false false = refl

-- the code of a sheet that passed meets the side conditions with whatever slots of it as parameters
pub checked-with : (s : List ℕ) (x : Script) → Sound s x → (parameter : ℕ → Bool) → ((i : ℕ) → parameter i ≡ true → i < x.slots)
    → Checked (flow_code (parts_of s)) parameter x.slots
checked-with s x ok parameter below = let c = checked s x ok in record {
  some_code = c.some_code;
  reads_below = c.reads_below;
  writes_below = c.writes_below;
  parameters_below = below;
  targets_below = c.targets_below;
  closed_end = c.closed_end;
}

-- ---- the sheet's own parameters, then the added ones

module _ (s : List ℕ) (x : Script) (added row₁ row₂ : List ℕ) (w : ℕ) (ok : Sound s x) (wide : x.slots ≤ 64 * w)
    (e : row₁ ≡ parameter_row (parts_of s) w) (j : Joins x.slots added row₁ row₂) where
  own-wide : length row₁ ≡ w
  unfolding parameter_row
  own-wide = ap length e ∙ length-all (parts_of s).params (replicate w 0) ∙ length-replicate w 0

  own_is : (i : ℕ) → member row₁ i ≡ parameter_in (parts_of s) i
  unfolding parameter_in
  own_is i = ap (λ (z : List ℕ). member z i) e ∙ parameters_in_row s x ok w wide i ∙ among-elem i (parts_of s).params

  pub starts : Starts (parts_of s) added w row₂
  unfolding parameter_with
  starts = record {
    long = j.long ∙ own-wide;
    members = λ i. j.members (λ k q. own_below s x ok k (sym (own_is k) ∙ q)) i
        ∙ ap₂ (λ (u : Bool) (n : ℕ). u || (ltb i n && member added i)) (own_is i) (sym ok.slots_are);
  }
