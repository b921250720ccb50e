-- Rows of a slice, and the slice with a row replaced. Assumes nothing.
use mathlib.Core.Logic.{◌⊎◌, inl, inr}
use mathlib.Core.Path.{◌≡◌, sym, ap, ap₂, ◌∙◌, subst}
use mathlib.Core.List.{List, ◌++◌}
use Prim.Native.Nat.{ℕ, ◌+◌, ◌-◌, ◌/◌, ◌%◌, ◌^◌, ◌≤◌, ◌<◌}
use native.Mathlib.Omega.{arith}
use lib.Bits.{bit_and, bit_or}
use lib.ListN.{length, take, drop, get_or, set, length-set, take-append-drop, length-append, length-take, length-drop, get_or-append}
use lib.Seq.{get_or-take, get_or-drop, get_or-append-add, ext_get_or, drop-drop, set-append_left, length-take-le, take-set-le, drop-set-add}
use Rattle.bitset.specs.Sets.{ones, member, Words}
use Rattle.bitset.specs.Operations.{inserted, removed}
use Rattle.bitset.specs.Rows.{row, patched}
use Rattle.bitset.proofs.Digits.{bit}
use Rattle.bitset.proofs.SetLaws.{words-each}

-- ---- a row
pub length-row : (l : List ℕ) (base w : ℕ) → base + w ≤ length l → length (row l base w) ≡ w
unfolding row
length-row l base w h = simp (length-take, length-drop) (omega arith)

pub get_or-row : (l : List ℕ) (base w i : ℕ) → i < w → get_or (row l base w) i 0 ≡ get_or l (base + i) 0
unfolding row
get_or-row l base w i h = get_or-take w (drop base l) i 0 h ∙ get_or-drop base l i 0

-- rows of equal words are equal
row-ext : (l m : List ℕ) (b c w : ℕ) → b + w ≤ length l → c + w ≤ length m
    → ((i : ℕ) → i < w → get_or l (b + i) 0 ≡ get_or m (c + i) 0) → row l b w ≡ row m c w
row-ext l m b c w hl hm at =
    ext_get_or 0 (row l b w) (row m c w) (length-row l b w hl ∙ sym (length-row m c w hm))
    (λ i h. let k : i < w = omega (arith, length-row l b w hl) in get_or-row l b w i k ∙ at i k ∙ sym (get_or-row m c w i k))

-- ---- a row replaced
pub length-patched : (l : List ℕ) (base : ℕ) (ys : List ℕ) → base + length ys ≤ length l → length (patched l base ys) ≡ length l
unfolding patched
length-patched l base ys h = simp (length-append, length-take, length-drop) (omega arith)

module _ (l : List ℕ) (base : ℕ) (ys : List ℕ) (fits : base + length ys ≤ length l) where
  front : length (take base l) ≡ base
  front = length-take-le base l (omega arith)

  pub patched_before : (i : ℕ) → i < base → get_or (patched l base ys) i 0 ≡ get_or l i 0
  unfolding patched
  patched_before i h =
      get_or-append (take base l) (ys ++ drop (base + length ys) l) 0 i (omega (arith, front)) ∙ get_or-take base l i 0 h

  -- from the base on
  beyond : (i : ℕ) → get_or (patched l base ys) (base + i) 0 ≡ get_or (ys ++ drop (base + length ys) l) i 0
  unfolding patched
  beyond i =
      let r : List ℕ = ys ++ drop (base + length ys) l in
      subst (λ (b : ℕ). get_or (take base l ++ r) (b + i) 0 ≡ get_or r i 0) front (get_or-append-add (take base l) r i 0)

  pub patched_in : (i : ℕ) → i < length ys → get_or (patched l base ys) (base + i) 0 ≡ get_or ys i 0
  patched_in i h = beyond i ∙ get_or-append ys (drop (base + length ys) l) 0 i h

  pub patched_after : (i : ℕ) → base + length ys ≤ i → get_or (patched l base ys) i 0 ≡ get_or l i 0
  patched_after i h =
      let n : ℕ = i - (base + length ys) in
      ap (λ (m : ℕ). get_or (patched l base ys) m 0) (omega arith) ∙ beyond (length ys + n)
      ∙ get_or-append-add ys (drop (base + length ys) l) n 0 ∙ get_or-drop (base + length ys) l n 0 ∙ ap (λ (m : ℕ). get_or l m 0) (omega arith)

  -- the row itself, and any row apart from it
  pub row_same : row (patched l base ys) base (length ys) ≡ ys
  row_same =
      ext_get_or 0 (row (patched l base ys) base (length ys)) ys long
      (λ i h. let k : i < length ys = omega (arith, long) in get_or-row (patched l base ys) base (length ys) i k ∙ patched_in i k)
    where
      long : length (row (patched l base ys) base (length ys)) ≡ length ys
      long = length-row (patched l base ys) base (length ys) (omega (arith, length-patched l base ys fits))

  pub row_apart : (b w : ℕ) → b + w ≤ length l → (b + w ≤ base) ⊎ (base + length ys ≤ b) → row (patched l base ys) b w ≡ row l b w
  row_apart b w h apart = row-ext (patched l base ys) l b b w (omega (arith, length-patched l base ys fits)) h (at apart)
    where
      at : (b + w ≤ base) ⊎ (base + length ys ≤ b) → (i : ℕ) → i < w → get_or (patched l base ys) (b + i) 0 ≡ get_or l (b + i) 0
      at (inl q) i k = patched_before (b + i) (omega arith)
      at (inr q) i k = patched_after (b + i) (omega arith)

pub words_row : (l : List ℕ) (base w : ℕ) → ((k : ℕ) → get_or l k 0 < 2 ^ 64) → base + w ≤ length l → Words w (row l base w)
words_row l base w h room =
    words-each w (row l base w) (length-row l base w room) (λ k i. rw (get_or-row l base w k i) (h (base + k)))

-- ---- stores
-- past the first words it is a store into the others
set-drop : (l : List ℕ) (base i v : ℕ) → set l (base + i) v ≡ take base l ++ set (drop base l) i v
set-drop l base i v =
    sym (take-append-drop base (set l (base + i) v))
    ∙ ap₂ ◌++◌ (take-set-le base l (base + i) v (omega arith)) (drop-set-add base l i v)

-- a row replaced by itself
pub patched-self : (l : List ℕ) (base w : ℕ) → base + w ≤ length l → patched l base (row l base w) ≡ l
unfolding patched row
patched-self l base w h =
    ap (λ (n : ℕ). take base l ++ (take w (drop base l) ++ drop (base + n) l)) (simp (length-take, length-drop) (omega arith))
    ∙ ap (λ (t : List ℕ). take base l ++ (take w (drop base l) ++ t)) (sym (drop-drop w base l))
    ∙ ap (λ (t : List ℕ). take base l ++ t) (take-append-drop w (drop base l)) ∙ take-append-drop base l

-- a store into a row
pub set-row : (l : List ℕ) (base w i v : ℕ) → base + w ≤ length l → i < w → set l (base + i) v ≡ patched l base (set (row l base w) i v)
unfolding patched row
set-row l base w i v h k =
    let r : List ℕ = take w (drop base l) in
    let q : length r ≡ w = length-row l base w h in
    set-drop l base i v
    ∙ ap (λ (t : List ℕ). take base l ++ set t i v) (sym (take-append-drop w (drop base l)))
    ∙ ap (λ (t : List ℕ). take base l ++ t) (set-append_left r (drop w (drop base l)) i v (omega arith))
    ∙ ap (λ (t : List ℕ). take base l ++ (set r i v ++ t)) (drop-drop w base l)
    ∙ ap (λ (n : ℕ). take base l ++ (set r i v ++ drop (base + n) l)) (sym (length-set r i v ∙ q))

-- ---- one slot of a row
pub member-row : (l : List ℕ) (base w slot : ℕ) → slot / 64 < w → member (drop base l) slot ≡ member (row l base w) slot
unfolding member row
member-row l base w slot h = ap (λ (x : ℕ). bit x (slot % 64)) (sym (get_or-take w (drop base l) (slot / 64) 0 h))

-- ---- one slot of the set that begins at base
-- l with the slot put into it, and with the slot taken out of it
unfoldable pub inserted_at : List ℕ → ℕ → ℕ → List ℕ
inserted_at l base slot = take base l ++ inserted (drop base l) slot

unfoldable pub removed_at : List ℕ → ℕ → ℕ → List ℕ
removed_at l base slot = take base l ++ removed (drop base l) slot

-- word i from base on becomes f of itself, seen as a row replaced
put-row : (f : ℕ → ℕ) (l : List ℕ) (base w i : ℕ) → base + w ≤ length l → i < w
    → take base l ++ set (drop base l) i (f (get_or (drop base l) i 0)) ≡ patched l base (set (row l base w) i (f (get_or (row l base w) i 0)))
put-row f l base w i h k =
    sym (set-drop l base i (f (get_or (drop base l) i 0)))
    ∙ ap (λ (x : ℕ). set l (base + i) (f x)) (get_or-drop base l i 0 ∙ sym (get_or-row l base w i k))
    ∙ set-row l base w i (f (get_or (row l base w) i 0)) h k

module _ (l : List ℕ) (base w slot : ℕ) (h : base + w ≤ length l) (k : slot / 64 < w) where
  pub inserted_row : inserted_at l base slot ≡ patched l base (inserted (row l base w) slot)
  unfolding inserted_at inserted
  inserted_row = put-row (λ x. bit_or x (2 ^ (slot % 64))) l base w (slot / 64) h k

  pub removed_row : removed_at l base slot ≡ patched l base (removed (row l base w) slot)
  unfolding removed_at removed
  removed_row = put-row (λ x. bit_and x (ones - 2 ^ (slot % 64))) l base w (slot / 64) h k
