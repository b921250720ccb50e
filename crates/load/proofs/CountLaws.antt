-- The loops: weights gathered slot by slot, a word counted await by await, the load word by word. Assumes nothing.
use mathlib.Core.Path.{◌≡◌, refl, sym, ap, ap₂, ◌∙◌, subst}
use mathlib.Core.List.{List, ◌++◌}
use Prim.Native.Nat.{ℕ, suc, ◌+◌, ◌*◌, ◌-◌, ◌/◌, ◌^◌, ◌≤◌, ◌<◌, min}
use native.Mathlib.Nat.{zero-mul, suc-mul, le-div_iff_mul-le, div-lt_iff_lt-mul}
use native.Mathlib.Numerals.{add-one}
use native.Mathlib.Omega.{arith}
use lib.Bits.{bit_and, bit_or}
use lib.Count.{ones}
use lib.Dec.{ltb}
use lib.ListN.{length, get_or, drop, length-append, length-drop}
use Rattle.std.proofs.lemmas.List.{get_or_append_left, get_or-drop, drop-drop, drop_at}
use Rattle.dataflow.specs.Lists.{tabulate, sum}
use Rattle.answer.specs.Words.{one, number_of}
use Rattle.format.specs.Heads.{end_at}
use Rattle.sheet.specs.Decode.{offset_of}
use Rattle.sheet.proofs.WalkLaws.{offset-add}
use Rattle.instructions.specs.declared.sets.SlotWord.{SlotWord}
use Rattle.instructions.specs.Slots.{SlotsStand}
use Rattle.instructions.proofs.SetSteps.{offset-next}
use Rattle.instructions.proofs.HostWords.{stand_from}
use Rattle.instructions.proofs.SlotLaws.{SlotWithin, slot_lies}
use Rattle.load.specs.Load.{saturated}
use Rattle.load.specs.Counting.{weighs, weights_at, set_at, word_load, load_below}
use Rattle.load.proofs.Sums.{sum_more, saturated-more, saturated-fits}
use Rattle.load.proofs.WordCounts.{number_put, below_more, below_none}

-- ---- weights: k records are passed, the next stands at an offset, and the bits are b
pub record Weighed (s : List ℕ) (first at k b : ℕ) : Type 0 where
  pub place : at ≡ offset_of s first k
  pub is : b ≡ number_of (weighs s first) 0 k

module _ {s : List ℕ} {first : ℕ} where
  pub weighed_none : Weighed s first first 0 0
  unfolding offset_of number_of
  weighed_none = record { place = refl; is = refl }

  -- the next record lies in the sheet
  pub weighed_lies : {n at k b : ℕ} → Weighed s first at k b → SlotsStand s first n → k < n → SlotWithin s at
  weighed_lies {n} {at} {k} {b} g stand h = subst (SlotWithin s) (sym g.place) (slot_lies (stand.each k h))

  pub weighed_more : {at k b : ℕ} → Weighed s first at k b → {next bit : ℕ} → next ≡ end_at s at
      → bit ≡ one (ltb 1 (get_or s (at + 4) 0)) * 2 ^ k → Weighed s first next (k + 1) (bit_or b bit)
  weighed_more {at} {k} {b} g {next} {bit} e m =
      let o : k + 1 ≡ suc k = omega arith in
      record {
        place = e ∙ ap (end_at s) g.place ∙ sym (offset-next s first k) ∙ ap (offset_of s first) (sym o);
        is = ap (λ (x : ℕ). bit_or x bit) g.is
            ∙ number_put (weighs s first) k bit (m ∙ ap (λ (a : ℕ). one (ltb 1 (get_or s (a + 4) 0)) * 2 ^ k) g.place);
      }

  pub weighed_all : {n at k b : ℕ} → Weighed s first at k b → k ≡ n
      → ◌≡◌ {A = SlotWord} (record { bits = b; next = at }) (weights_at s first n)
  unfolding weights_at
  weighed_all {n} {at} {k} {b} g e =
      ap₂ (λ (x y : ℕ). record { bits = x; next = y }) (g.is ∙ ap (number_of (weighs s first) 0) e) (g.place ∙ ap (offset_of s first) e)

-- ---- one word of each set
-- what the k-th await adds
abbrev pub added : List ℕ → ℕ → ℕ → ℕ → ℕ → ℕ
added v weights w j k = ones (bit_and (get_or v (set_at w 0 k + j) 0) weights)

-- after k of the awaits, behind which these words are left
pub record Summed (v : List ℕ) (weights w j from : ℕ) (rest : List ℕ) (k total : ℕ) : Type 0 where
  pub below : k * (1 + w) ≤ length v
  pub left : rest ≡ drop (k * (1 + w)) v
  pub is : total ≡ saturated (from + sum (tabulate 0 k (added v weights w j)))

next_place : (k w : ℕ) → (k + 1) * (1 + w) ≡ k * (1 + w) + (1 + w)
next_place k w = ap (λ (i : ℕ). i * (1 + w)) (add-one k) ∙ suc-mul k (1 + w)

module _ {v : List ℕ} {weights w j from : ℕ} where
  pub summed_none : from < 2 ^ 64 → Summed v weights w j from v 0 from
  summed_none h =
      let z : 0 * (1 + w) ≡ 0 = zero-mul (1 + w) in
      record { below = omega arith; left = sym (ap (λ (n : ℕ). drop n v) z); is = saturated-fits from h }

  module _ {rest : List ℕ} {k total : ℕ} (g : Summed v weights w j from rest k total) where
    left-long : length rest ≡ length v - k * (1 + w)
    left-long = ap length g.left ∙ length-drop (k * (1 + w)) v

    pub summed_more : (x behind : List ℕ) → rest ≡ x ++ behind → length x ≡ 1 + w → j < w → {n next : ℕ} → n ≡ ones (bit_and (get_or x (1 + j) 0) weights)
        → next ≡ saturated (total + n) → Summed v weights w j from behind (k + 1) next
    summed_more x behind e long hj {n} {next} en em =
        let a = length-append x behind in
        let here : k * (1 + w) + (1 + j) ≡ set_at w 0 k + j = omega arith in
        let word : get_or x (1 + j) 0 ≡ get_or v (set_at w 0 k + j) 0 =
        sym (get_or_append_left x behind 0 (1 + j) (omega arith)) ∙ ap (λ (l : List ℕ). get_or l (1 + j) 0) (sym e ∙ g.left)
        ∙ get_or-drop (k * (1 + w)) v (1 + j) 0 ∙ ap (λ (i : ℕ). get_or v i 0) here in
        let d : ℕ → ℕ = added v weights w j in
        let is-n : n ≡ d k = en ∙ ap (λ (y : ℕ). ones (bit_and y weights)) word in
        let one_more : from + sum (tabulate 0 k d) + d k ≡ from + sum (tabulate 0 (k + 1) d) = omega (arith, sum_more k d) in
        record {
          below = omega (arith, next_place k w, left-long, ap length e, g.below);
          left = sym (drop_at x behind (1 + w) long) ∙ ap (drop (1 + w)) (sym e ∙ g.left) ∙ drop-drop (1 + w) (k * (1 + w)) v
              ∙ ap (λ (i : ℕ). drop i v) (sym (next_place k w));
          is = em ∙ ap₂ (λ (a b : ℕ). saturated (a + b)) g.is is-n ∙ saturated-more (from + sum (tabulate 0 k d)) (d k) ∙ ap saturated one_more;
        }

    pub summed_all : length rest < 1 + w → total ≡ saturated (from + word_load v weights w 0 (length v / (1 + w)) j)
    unfolding word_load
    summed_all h =
        let p : 0 < 1 + w = omega arith in
        let low : k ≤ length v / (1 + w) = (le-div_iff_mul-le p).1 g.below in
        let high : length v / (1 + w) < k + 1 = (div-lt_iff_lt-mul p).1 (omega (arith, next_place k w, left-long)) in
        let e : k ≡ length v / (1 + w) = omega arith in
        g.is ∙ ap (λ (n : ℕ). saturated (from + sum (tabulate 0 n (added v weights w j)))) e

-- ---- the load: after j words of slots, so many of which are left
pub record Counted (s : List ℕ) (at slots : ℕ) (v : List ℕ) (w awaits j next left total : ℕ) : Type 0 where
  pub left_is : left ≡ slots - 64 * j
  pub place : next ≡ offset_of s at (slots - left)
  pub is : total ≡ saturated (load_below s at v w 0 awaits (slots - left))

module _ {s : List ℕ} {at slots : ℕ} {v : List ℕ} {w awaits : ℕ} where
  pub counted_none : Counted s at slots v w awaits 0 at slots 0
  unfolding offset_of
  counted_none =
      let z : slots - slots ≡ 0 = omega arith in
      record {
        left_is = omega arith;
        place = ap (offset_of s at) (sym z);
        is = rw z (omega (arith, below_none s at v w 0 awaits));
      }

  module _ {j next left total : ℕ} (g : Counted s at slots v w awaits j next left total) where
    pub counted_stand : (n : ℕ) → SlotsStand s at slots → n ≤ left → SlotsStand s next n
    counted_stand n p h = stand_from p (slots - left) n g.place (omega (arith, g.left_is))

    pub counted_more : (n : ℕ) → j < w → w ≡ (slots + 63) / 64 → n ≡ min left 64 → {x : SlotWord} {more : ℕ} → x ≡ weights_at s next n
        → more ≡ saturated (total + word_load v x.bits w 0 awaits j) → Counted s at slots v w awaits (j + 1) x.next (left - n) more
    unfolding weights_at
    counted_more n hj wide en {x} {more} ex em =
        let some : slots - left ≡ 64 * j = omega (arith, g.left_is) in
        let few : n ≤ 64 = omega arith in
        let behind : slots - left + n ≡ slots - (left - n) = omega (arith, g.left_is) in
        record {
          left_is = omega (arith, g.left_is);
          place = ap (λ (x : SlotWord). x.next) ex ∙ ap (λ (a : ℕ). offset_of s a n) g.place ∙ sym (offset-add s at (slots - left) n) ∙ ap (offset_of s at) behind;
          is = em ∙ ap (λ (y : ℕ). saturated (y + word_load v x.bits w 0 awaits j)) g.is
              ∙ saturated-more (load_below s at v w 0 awaits (slots - left)) (word_load v x.bits w 0 awaits j)
              ∙ ap saturated (below_more s at v w 0 awaits (slots - left) j n some hj few g.place (ap (λ (x : SlotWord). x.bits) ex)
              ∙ ap (load_below s at v w 0 awaits) behind);
        }

    pub counted_all : j ≡ w → w ≡ (slots + 63) / 64 → total ≡ saturated (load_below s at v w 0 awaits slots)
    counted_all e wide =
        let z : slots - left ≡ slots = omega (arith, g.left_is) in
        g.is ∙ ap (λ (n : ℕ). saturated (load_below s at v w 0 awaits n)) z
