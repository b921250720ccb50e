-- Host slots put into a row a word at a time: the bits of one word, and the steps of the loop over words. Assumes nothing.
use mathlib.Core.Path.{◌≡◌, refl, sym, ap, ap₂, ◌∙◌, subst}
use mathlib.Core.Bool.{Bool, true, false}
use mathlib.Core.List.{List, [], ◌∷◌, ◌++◌, append_assoc, append-nil}
use Prim.Native.Nat.{ℕ, zero, suc, ◌+◌, ◌*◌, ◌-◌, ◌/◌, ◌%◌, ◌^◌, ◌≤◌, ◌<◌, min}
use native.Mathlib.Nat.{zero-add, suc-add}
use native.Mathlib.Omega.{arith}
use lib.Bits.{bit_or, or_zero_r}
use lib.ListN.{length, get_or, set, take, replicate, length-set, length-append, length-replicate}
use lib.Seq.{get_or-set_same, set-set, set-get_or, set-append_seam, get_or-append_seam, take-length}
use Rattle.std.proofs.lemmas.List.{length-take-le, take_more_set}
use Rattle.operands.specs.Choice.{pick}
use Rattle.bitset.specs.Operations.{inserted}
use Rattle.format.specs.Heads.{end_at}
use Rattle.sheet.specs.Decode.{SlotKind, offset_of, slot_of, records_from, is_host}
use Rattle.sheet.proofs.WalkLaws.{offset-add}
use Rattle.instructions.specs.declared.sets.SlotWord.{SlotWord}
use Rattle.instructions.specs.Slots.{SlotsStand, SlotStands}
use Rattle.instructions.specs.Sets.{inserted_hosts, host_bits, host_word_at}
use Rattle.instructions.proofs.SetSteps.{offset-next}
use Rattle.instructions.proofs.SetMembers.{records-count}

-- ---- where records stand
-- some of so many records, from the k-th on
pub stand_from : {s : List ℕ} {first count : ℕ} → SlotsStand s first count → {at : ℕ} (k n : ℕ) → at ≡ offset_of s first k → k + n ≤ count
    → SlotsStand s at n
stand_from {s} {first} p k n e h = record {
  each = λ i l. subst (SlotStands s) (offset-add s first k i ∙ ap (λ (a : ℕ). offset_of s a i) (sym e)) (p.each (k + i) (omega arith));
}

-- ---- the bits of one word: k of n records are passed, the next stands at an offset, and the bits are b
pub record Bitted (s : List ℕ) (first n at k b : ℕ) : Type 0 where
  pub place : at ≡ offset_of s first k
  pub is : host_bits (records_from (slot_of s) s at (n - k)) k b ≡ host_bits (records_from (slot_of s) s first n) 0 0

module _ {s : List ℕ} {first n : ℕ} where
  pub bitted_none : Bitted s first n first 0 0
  unfolding offset_of
  bitted_none =
      let z : n - 0 ≡ n = omega arith in
      record { place = refl; is = rw z refl }

  pub bitted_more : {at k b : ℕ} → Bitted s first n at k b → k < n → {next bit : ℕ} → next ≡ end_at s at
      → bit ≡ pick (is_host (slot_of s at)) (2 ^ (k % 64)) 0 → Bitted s first n next (k + 1) (bit_or b bit)
  unfolding records_from host_bits
  bitted_more {at} {k} {b} g h {next} {bit} e m =
      let q : n - k ≡ suc (n - (k + 1)) = omega arith in
      let one : k + 1 ≡ suc k = omega arith in
      let more : records_from (slot_of s) s at (n - k) ≡ slot_of s at ∷ records_from (slot_of s) s next (n - (k + 1)) = rw (q, e) in
      record {
        place = e ∙ ap (end_at s) g.place ∙ sym (offset-next s first k) ∙ ap (offset_of s first) (sym one);
        is = ap (λ (c : ℕ). host_bits (records_from (slot_of s) s next (n - (k + 1))) (k + 1) (bit_or b c)) m
            ∙ sym (ap (λ (l : List SlotKind). host_bits l k b) more) ∙ g.is;
      }

  pub bitted_all : {at k b : ℕ} → Bitted s first n at k b → k ≡ n
      → ◌≡◌ {A = SlotWord} (record { bits = b; next = at }) (host_word_at s first n)
  unfolding records_from host_bits host_word_at
  bitted_all {at} {k} {b} g h =
      let q : n - k ≡ 0 = omega arith in
      let bits : b ≡ host_bits (records_from (slot_of s) s first n) 0 0 = sym (ap (λ (c : ℕ). host_bits (records_from (slot_of s) s at c) k b) q) ∙ g.is in
      rw (bits, g.place, h)

-- ---- host slots of one word, put into the row at once
module _ (ws : List ℕ) (j : ℕ) (h : j < length ws) where
  put-bit : (b : Bool) (i : ℕ) → i < 64 → pick b (inserted ws (64 * j + i)) ws ≡ set ws j (bit_or (get_or ws j 0) (pick b (2 ^ (i % 64)) 0))
  unfolding inserted
  put-bit true i l =
      let q : (64 * j + i) / 64 ≡ j = omega arith in
      let r : (64 * j + i) % 64 ≡ i % 64 = omega arith in
      ap₂ (λ (a c : ℕ). set ws a (bit_or (get_or ws a 0) (2 ^ c))) q r
  put-bit false i l = sym (ap (set ws j) (or_zero_r (get_or ws j 0)) ∙ set-get_or ws j 0)

pub hosts-word : (xs : List SlotKind) (i j : ℕ) (ws : List ℕ) → j < length ws → i + length xs ≤ 64
    → inserted_hosts xs (64 * j + i) ws ≡ set ws j (host_bits xs i (get_or ws j 0))
unfolding inserted_hosts host_bits
hosts-word [] i j ws h l = sym (set-get_or ws j 0)
hosts-word (x ∷ xs) i j ws h l =
    let u : ℕ = bit_or (get_or ws j 0) (pick (is_host x) (2 ^ (i % 64)) 0) in
    let one : 64 * j + i + 1 ≡ 64 * j + (i + 1) = omega arith in
    let long : length (set ws j u) ≡ length ws = simp length-set in
    ap₂ (inserted_hosts xs) one (put-bit ws j h (is_host x) i (omega arith))
    ∙ hosts-word xs (i + 1) j (set ws j u) (omega arith) (omega arith)
    ∙ ap (λ (v : ℕ). set (set ws j u) j (host_bits xs (i + 1) v)) (get_or-set_same ws j u 0 h)
    ∙ set-set ws j u (host_bits xs (i + 1) u)

-- m records, then those behind them
hosts-split : (s : List ℕ) (at m r k : ℕ) (ws : List ℕ)
    → inserted_hosts (records_from (slot_of s) s at (m + r)) k ws
    ≡ inserted_hosts (records_from (slot_of s) s (offset_of s at m) r) (k + m) (inserted_hosts (records_from (slot_of s) s at m) k ws)
unfolding records_from inserted_hosts offset_of
hosts-split s at zero r k ws =
    let z : k ≡ k + 0 = omega arith in
    ap₂ (λ (n c : ℕ). inserted_hosts (records_from (slot_of s) s at n) c ws) (zero-add r) z
hosts-split s at (suc m) r k ws =
    let one : k + 1 + m ≡ k + suc m = omega arith in
    let ws₁ : List ℕ = pick (is_host (slot_of s at)) (inserted ws k) ws in
    let ws₂ : List ℕ = inserted_hosts (records_from (slot_of s) s (end_at s at) m) (k + 1) ws₁ in
    ap (λ (n : ℕ). inserted_hosts (records_from (slot_of s) s at n) k ws) (suc-add m r)
    ∙ hosts-split s (end_at s at) m r (k + 1) ws₁
    ∙ ap (λ (c : ℕ). inserted_hosts (records_from (slot_of s) s (offset_of s (end_at s at) m) r) c ws₂) one

-- ---- words that are done, and empty ones behind them
module _ (w i : ℕ) (row : List ℕ) (h : i < w) (l : length row ≡ w) where
  seam : take i row ++ replicate (w - i) 0 ≡ take i row ++ (0 ∷ replicate (w - (i + 1)) 0)
  seam = let q : w - i ≡ suc (w - (i + 1)) = omega arith in ap (λ (m : ℕ). take i row ++ replicate m 0) q

  done : length (take i row) ≡ i
  done = length-take-le i row (omega arith)

  empty_word : get_or (take i row ++ replicate (w - i) 0) i 0 ≡ 0
  empty_word =
      ap₂ (λ (xs : List ℕ) (j : ℕ). get_or xs j 0) seam (sym done)
      ∙ get_or-append_seam (take i row) 0 (replicate (w - (i + 1)) 0) 0

  filled_word : (v : ℕ) → set (take i row ++ replicate (w - i) 0) i v ≡ take (i + 1) (set row i v) ++ replicate (w - (i + 1)) 0
  filled_word v =
      ap₂ (λ (xs : List ℕ) (j : ℕ). set xs j v) seam (sym done)
      ∙ set-append_seam (take i row) 0 (replicate (w - (i + 1)) 0) v
      ∙ sym (ap (λ (xs : List ℕ). xs ++ replicate (w - (i + 1)) 0) (take_more_set row i v (omega arith))
      ∙ append_assoc (take i row) (v ∷ []) (replicate (w - (i + 1)) 0))

  some_words : length (take i row ++ replicate (w - i) 0) ≡ w
  some_words = length-append (take i row) (replicate (w - i) 0) ∙ ap₂ ◌+◌ done (length-replicate (w - i) 0) ∙ omega arith

-- where no slots are left, it does not matter which is the next
same_next : (s : List ℕ) (at r k k' : ℕ) (ws : List ℕ) → (0 < r → k ≡ k')
    → inserted_hosts (records_from (slot_of s) s at r) k ws ≡ inserted_hosts (records_from (slot_of s) s at r) k' ws
unfolding records_from inserted_hosts
same_next s at zero k k' ws h = refl
same_next s at (suc r) k k' ws h = ap (λ (j : ℕ). inserted_hosts (records_from (slot_of s) s at (suc r)) j ws) (h (omega arith))

-- ---- one turn of the loop over words: i words of w are done, and the records of the slots left stand from an offset on
pub record Hosting (s : List ℕ) (first n w i at left : ℕ) (row : List ℕ) : Type 0 where
  pub left_is : left ≡ n - 64 * i
  pub place : at ≡ offset_of s first (n - left)
  pub is : inserted_hosts (records_from (slot_of s) s first n) 0 (replicate w 0)
      ≡ inserted_hosts (records_from (slot_of s) s at left) (64 * i) (take i row ++ replicate (w - i) 0)

module _ {s : List ℕ} {first n w : ℕ} where
  pub hosting_none : (row : List ℕ) → Hosting s first n w 0 first n row
  unfolding offset_of
  hosting_none row =
      let z : w - 0 ≡ w = omega arith in
      let y : n - n ≡ 0 = omega arith in
      record { left_is = omega arith; place = rw y refl; is = rw z }

  module _ {i at left : ℕ} {row : List ℕ} (g : Hosting s first n w i at left row) where
    pub hosting_stand : (m : ℕ) → SlotsStand s first n → m ≤ left → SlotsStand s at m
    hosting_stand m p h = stand_from p (n - left) m g.place (omega (arith, g.left_is))

    pub hosting_more : (m : ℕ) → i < w → length row ≡ w → m ≡ min left 64 → {x : SlotWord} → x ≡ host_word_at s at m
        → Hosting s first n w (i + 1) x.next (left - m) (set row i x.bits)
    unfolding host_word_at
    hosting_more m h l e {x} p =
        let acc : List ℕ = take i row ++ replicate (w - i) 0 in
        let xs : List SlotKind = records_from (slot_of s) s at m in
        let some : m ≤ left = omega arith in
        let parts : left ≡ m + (left - m) = omega arith in
        let here : 64 * i ≡ 64 * i + 0 = omega arith in
        let next : x.next ≡ offset_of s at m = ap (λ (x : SlotWord). x.next) p in
        let bits : x.bits ≡ host_bits xs 0 0 = ap (λ (x : SlotWord). x.bits) p in
        let word : inserted_hosts xs (64 * i) acc ≡ take (i + 1) (set row i x.bits) ++ replicate (w - (i + 1)) 0 =
        ap (λ (c : ℕ). inserted_hosts xs c acc) here
        ∙ hosts-word xs 0 i acc (omega (arith, some_words w i row h l)) (omega (arith, records-count (slot_of s) s at m))
        ∙ ap (λ (v : ℕ). set acc i (host_bits xs 0 v)) (empty_word w i row h l)
        ∙ ap (set acc i) (sym bits)
        ∙ filled_word w i row h l x.bits in
        let before : n - left + m ≡ n - (left - m) = omega (arith, g.left_is) in
        record {
          left_is = omega (arith, g.left_is);
          place = next ∙ ap (λ (a : ℕ). offset_of s a m) g.place ∙ sym (offset-add s first (n - left) m) ∙ ap (offset_of s first) before;
          is = g.is
              ∙ ap (λ (c : ℕ). inserted_hosts (records_from (slot_of s) s at c) (64 * i) acc) parts
              ∙ hosts-split s at m (left - m) (64 * i) acc
              ∙ ap₂ (λ (a : ℕ) (ws : List ℕ). inserted_hosts (records_from (slot_of s) s a (left - m)) (64 * i + m) ws) (sym next) word
              ∙ same_next s x.next (left - m) (64 * i + m) (64 * (i + 1)) _ (λ z. omega arith);
        }

    pub hosting_all : i ≡ w → n ≤ 64 * w → length row ≡ w → inserted_hosts (records_from (slot_of s) s first n) 0 (replicate w 0) ≡ row
    unfolding records_from inserted_hosts
    hosting_all h f l =
        let z : left ≡ 0 = omega (arith, g.left_is) in
        let y : w - i ≡ 0 = omega arith in
        let long : i ≡ length row = omega arith in
        g.is
        ∙ ap₂ (λ (c m : ℕ). inserted_hosts (records_from (slot_of s) s at c) (64 * i) (take i row ++ replicate m 0)) z y
        ∙ append-nil (take i row) ∙ ap (λ (j : ℕ). take j row) long ∙ take-length row

-- ---- slots behind the last host slot
no_hosts : (s : List ℕ) (n at k : ℕ) (ws : List ℕ) → ((i : ℕ) → i < n → is_host (slot_of s (offset_of s at i)) ≡ false)
    → inserted_hosts (records_from (slot_of s) s at n) k ws ≡ ws
unfolding records_from inserted_hosts offset_of
no_hosts s zero at k ws f = refl
no_hosts s (suc n) at k ws f =
    ap (λ (b : Bool). inserted_hosts (records_from (slot_of s) s (end_at s at) n) (k + 1) (pick b (inserted ws k) ws)) (f 0 (omega arith))
    ∙ no_hosts s n (end_at s at) (k + 1) ws (λ i h. f (suc i) (omega arith))

-- are not put in
pub hosts-first : (s : List ℕ) (at m n : ℕ) (ws : List ℕ) → m ≤ n → ((k : ℕ) → m ≤ k → k < n → is_host (slot_of s (offset_of s at k)) ≡ false)
    → inserted_hosts (records_from (slot_of s) s at m) 0 ws ≡ inserted_hosts (records_from (slot_of s) s at n) 0 ws
hosts-first s at m n ws h f =
    let q : n ≡ m + (n - m) = omega arith in
    sym (ap (λ (c : ℕ). inserted_hosts (records_from (slot_of s) s at c) 0 ws) q
    ∙ hosts-split s at m (n - m) 0 ws
    ∙ no_hosts s (n - m) (offset_of s at m) (0 + m) (inserted_hosts (records_from (slot_of s) s at m) 0 ws)
    (λ i l. ap (λ (a : ℕ). is_host (slot_of s a)) (sym (offset-add s at m i)) ∙ f (m + i) (omega arith) (omega arith)))
