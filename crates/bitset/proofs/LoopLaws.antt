-- The loops: one that stores f of two words at each place of a row, from the front, and one that compares two rows. Assumes nothing.
use mathlib.Core.Logic.{inl, inr}
use mathlib.Core.Path.{◌≡◌, refl, sym, ap, ap₂, ◌∙◌}
use mathlib.Core.Bool.{Bool, true, false, not, ◌&&◌, ◌||◌, and-true, and_assoc, or-false, or_assoc}
use mathlib.Core.List.{List, [], ◌∷◌, ◌++◌, append_assoc}
use Prim.Native.Nat.{ℕ, ◌+◌, ◌-◌, ◌≤◌, ◌<◌}
use native.Mathlib.Numerals.{add-one}
use native.Mathlib.Omega.{arith}
use lib.Bits.{bit_and, bit_or, bit_xor}
use lib.Dec.{eqb}
use lib.ListN.{length, take, drop, get_or, set, length-set}
use lib.Seq.{take_all, take-suc, length-take-le, paste, paste-zero, paste-suc}
use Rattle.bitset.specs.Sets.{ones}
use Rattle.bitset.specs.Operations.{zipped, meet, join, difference, same, common, within}
use Rattle.bitset.specs.Rows.{row, patched, Apart}
use Rattle.bitset.proofs.Digits.{or_zero, xor_zero}
use Rattle.bitset.proofs.SetLaws.{length-zipped, get_or-zipped}
use Rattle.bitset.proofs.RowLaws.{length-row, get_or-row, patched_before, patched_after}

-- ---- a loop that stores

-- z has f of the words of the row at d of l and of the row at s of m
pub record Made (f : ℕ → ℕ → ℕ) (l : List ℕ) (d : ℕ) (m : List ℕ) (s w : ℕ) (z : List ℕ) : Type 0 where
  pub room : d + w ≤ length l
  pub size : length z ≡ w
  pub each : (k : ℕ) → k < w → get_or z k 0 ≡ f (get_or l (d + k) 0) (get_or m (s + k) 0)

-- after k turns of w the slice l has become x: the first k words of z stand from d on
pub record Stored (l : List ℕ) (d : ℕ) (z : List ℕ) (w k : ℕ) (x : List ℕ) : Type 0 where
  pub below : k ≤ w
  pub long : length x ≡ length l
  pub is : x ≡ patched l d (take k z)

pub made-zipped : {f : ℕ → ℕ → ℕ} {l : List ℕ} {d : ℕ} {m : List ℕ} {s w : ℕ} → d + w ≤ length l
    → Made f l d m s w (zipped f (row l d w) (row m s w))
made-zipped {f} {l} {d} {m} {s} {w} h =
    let q : length (row l d w) ≡ w = length-row l d w h in
    record {
      room = h;
      size = length-zipped f (row l d w) (row m s w) ∙ q;
      each = λ k i. get_or-zipped f (row l d w) (row m s w) k (omega arith) ∙ ap₂ f (get_or-row l d w k i) (get_or-row m s w k i);
    }

-- a row itself, where f is its second argument
pub made_row : {l : List ℕ} {d : ℕ} {m : List ℕ} {s w : ℕ} → d + w ≤ length l → s + w ≤ length m → Made (λ x y. y) l d m s w (row m s w)
made_row {l} {d} {m} {s} {w} h g =
    record { room = h; size = length-row m s w g; each = λ k i. get_or-row m s w k i }

module _ {f : ℕ → ℕ → ℕ} {l : List ℕ} {d : ℕ} {m : List ℕ} {s w : ℕ} {z : List ℕ} (made : Made f l d m s w z) where
  -- the slice after k turns, as the library has it
  pasted : (k : ℕ) → k ≤ w → patched l d (take k z) ≡ paste l d z k
  unfolding patched
  pasted k h =
      ap (λ (n : ℕ). take d l ++ (take k z ++ drop (d + n) l)) (length-take-le k z (omega (arith, made.size)))
      ∙ sym (append_assoc (take d l) (take k z) (drop (d + k) l))

  pub stored_none : Stored l d z w 0 l
  stored_none = record { below = omega arith; long = refl; is = paste-zero l d z ∙ sym (pasted 0 (omega arith)) }

  module _ {k : ℕ} {x : List ℕ} (stored : Stored l d z w k x) where
    pub stored_all : w ≤ k → x ≡ patched l d z
    stored_all h = stored.is ∙ ap (λ (t : List ℕ). patched l d t) (take_all k z (omega (arith, made.size)))

    module _ (turn : k < w) where
      size-k : length (take k z) ≡ k
      size-k = length-take-le k z (omega (arith, made.size))

      -- the word to be replaced is still the old one
      own : get_or x (d + k) 0 ≡ get_or l (d + k) 0
      own =
          ap (λ (t : List ℕ). get_or t (d + k) 0) stored.is
          ∙ patched_after l d (take k z) (omega (arith, size-k, made.room)) (d + k) (omega (arith, size-k))

      -- and so is each word of a row of the slice that is apart
      other : (i : ℕ) → Apart d i w → get_or x (i + k) 0 ≡ get_or l (i + k) 0
      other i apart = ap (λ (t : List ℕ). get_or t (i + k) 0) stored.is ∙ go apart
        where
          go : Apart d i w → get_or (patched l d (take k z)) (i + k) 0 ≡ get_or l (i + k) 0
          go (inl h) = patched_after l d (take k z) (omega (arith, size-k, made.room)) (i + k) (omega (arith, size-k))
          go (inr h) = patched_before l d (take k z) (omega (arith, size-k, made.room)) (i + k) (omega arith)

      -- one turn, with b the word of the source
      turned : (b : ℕ) → b ≡ get_or m (s + k) 0 → Stored l d z w (k + 1) (set x (d + k) (f (get_or x (d + k) 0) b))
      turned b e = record {
        below = omega arith;
        long = length-set x (d + k) (f (get_or x (d + k) 0) b) ∙ stored.long;
        is =
            ap₂ (λ (t : List ℕ) (v : ℕ). set t (d + k) v) (stored.is ∙ pasted k stored.below) (ap₂ f own e ∙ sym (made.each k turn))
            ∙ paste-suc l d z k 0 (omega (arith, made.room)) (omega (arith, made.size)) ∙ ap (paste l d z) (sym (add-one k))
            ∙ sym (pasted (k + 1) (omega arith));
      }

-- a source row of the same slice
pub stored-within : {f : ℕ → ℕ → ℕ} {l : List ℕ} {d s w : ℕ} {z : List ℕ} → Made f l d l s w z → Apart d s w
    → {k : ℕ} {x : List ℕ} → Stored l d z w k x → k < w → Stored l d z w (k + 1) (set x (d + k) (f (get_or x (d + k) 0) (get_or x (s + k) 0)))
stored-within {s} made apart {k} {x} stored turn = turned made stored turn (get_or x (s + k) 0) (other made stored turn s apart)

-- two source rows of the same slice: the row at d loses what is in that at i, then takes in what is in that at j
abbrev pub replaced : List ℕ → ℕ → ℕ → ℕ → ℕ → List ℕ
replaced l d i j w = join (difference (row l d w) (row l i w)) (row l j w)

module _ (l : List ℕ) (d i j w : ℕ) (h : d + w ≤ length l) where
  abbrev lost : List ℕ
  lost = difference (row l d w) (row l i w)

  long-lost : length lost ≡ w
  long-lost = length-zipped (λ x y. bit_and x (ones - y)) (row l d w) (row l i w) ∙ length-row l d w h

  -- a copy of the words that are to stand there
  pub made_replaced : Made (λ a b. b) l d (replaced l d i j w) 0 w (replaced l d i j w)
  made_replaced = record {
    room = h;
    size = length-zipped bit_or lost (row l j w) ∙ long-lost;
    each = λ k n. ap (λ (m : ℕ). get_or (replaced l d i j w) m 0) (omega arith);
  }

  word-replaced : (k : ℕ) → k < w
      → get_or (replaced l d i j w) k 0 ≡ bit_or (bit_and (get_or l (d + k) 0) (ones - get_or l (i + k) 0)) (get_or l (j + k) 0)
  word-replaced k n =
      get_or-zipped bit_or lost (row l j w) k (omega (arith, long-lost))
      ∙ ap₂ bit_or
      (get_or-zipped (λ x y. bit_and x (ones - y)) (row l d w) (row l i w) k (omega (arith, length-row l d w h))
      ∙ ap₂ (λ (x y : ℕ). bit_and x (ones - y)) (get_or-row l d w k n) (get_or-row l i w k n))
      (get_or-row l j w k n)

  pub stored_replaced : Apart d i w → Apart d j w → {k : ℕ} {x : List ℕ} → Stored l d (replaced l d i j w) w k x → k < w
      → Stored l d (replaced l d i j w) w (k + 1)
      (set x (d + k) (bit_or (bit_and (get_or x (d + k) 0) (ones - get_or x (i + k) 0)) (get_or x (j + k) 0)))
  stored_replaced ai aj {k} {x} stored turn =
      turned made_replaced stored turn (bit_or (bit_and (get_or x (d + k) 0) (ones - get_or x (i + k) 0)) (get_or x (j + k) 0))
      (ap₂ bit_or
      (ap₂ (λ (u v : ℕ). bit_and u (ones - v)) (own made_replaced stored turn) (other made_replaced stored turn i ai))
      (other made_replaced stored turn j aj)
      ∙ sym (word-replaced k turn) ∙ ap (λ (m : ℕ). get_or (replaced l d i j w) m 0) (omega arith))

-- ---- a loop that compares
taken_more : (l : List ℕ) (k : ℕ) → k < length l → take (k + 1) l ≡ take k l ++ (get_or l k 0 ∷ [])
taken_more l k h = ap (λ (n : ℕ). take n l) (add-one k) ∙ take-suc l k 0 h

-- a test g of two rows, told by `told` of one number: an OR of h of the two words at each place
pub record Tells (g : List ℕ → List ℕ → Bool) (told : ℕ → Bool) (h : ℕ → ℕ → ℕ) : Type 0 where
  pub none : told 0 ≡ g [] []
  pub more : (xs ys : List ℕ) (d x y : ℕ) → length xs ≡ length ys → told d ≡ g xs ys
      → told (bit_or d (h x y)) ≡ g (xs ++ x ∷ []) (ys ++ y ∷ [])

-- after k turns the number d tells the test of the first k words
abbrev pub Compared : (List ℕ → List ℕ → Bool) → (ℕ → Bool) → List ℕ → List ℕ → ℕ → ℕ → Type 0
Compared g told a b k d = told d ≡ g (take k a) (take k b)

module _ {g : List ℕ → List ℕ → Bool} {told : ℕ → Bool} {h : ℕ → ℕ → ℕ} (tells : Tells g told h) (a b : List ℕ) (m : length a ≡ length b) where
  pub compared_more : (k d : ℕ) → k < length a → Compared g told a b k d
      → Compared g told a b (k + 1) (bit_or d (h (get_or a k 0) (get_or b k 0)))
  compared_more k d l e =
      tells.more (take k a) (take k b) d (get_or a k 0) (get_or b k 0)
      (length-take-le k a (omega arith) ∙ sym (length-take-le k b (omega arith))) e
      ∙ sym (ap₂ g (taken_more a k l) (taken_more b k (omega arith)))

  pub compared_all : (k d : ℕ) → length a ≤ k → Compared g told a b k d → told d ≡ g a b
  compared_all k d l e = e ∙ ap₂ g (take_all k a l) (take_all k b (omega arith))

-- ---- whether the rows are the same: the OR of the XORs is 0
same-snoc : (xs ys : List ℕ) (x y : ℕ) → length xs ≡ length ys → same (xs ++ x ∷ []) (ys ++ y ∷ []) ≡ (same xs ys && eqb x y)
unfolding same
same-snoc [] [] x y h = and-true (eqb x y)
same-snoc [] (b ∷ ys) x y h = absurd (omega arith)
same-snoc (a ∷ xs) [] x y h = absurd (omega arith)
same-snoc (a ∷ xs) (b ∷ ys) x y h =
    ap (λ (t : Bool). eqb a b && t) (same-snoc xs ys x y (omega arith)) ∙ sym (and_assoc (eqb a b) (same xs ys) (eqb x y))

pub tells_same : Tells same (λ d. eqb d 0) bit_xor
unfolding same
tells_same = record {
  none = refl;
  more = λ xs ys d x y l e. or_zero d (bit_xor x y) ∙ ap₂ ◌&&◌ e (xor_zero x y) ∙ sym (same-snoc xs ys x y l);
}

-- ---- whether they have a slot in common: the OR of the ANDs is not 0
common-snoc : (xs ys : List ℕ) (x y : ℕ) → length xs ≡ length ys
    → common (xs ++ x ∷ []) (ys ++ y ∷ []) ≡ (common xs ys || not (eqb (bit_and x y) 0))
unfolding common
common-snoc [] [] x y h = or-false (not (eqb (bit_and x y) 0))
common-snoc [] (b ∷ ys) x y h = absurd (omega arith)
common-snoc (a ∷ xs) [] x y h = absurd (omega arith)
common-snoc (a ∷ xs) (b ∷ ys) x y h =
    ap (λ (t : Bool). not (eqb (bit_and a b) 0) || t) (common-snoc xs ys x y (omega arith))
    ∙ sym (or_assoc (not (eqb (bit_and a b) 0)) (common xs ys) (not (eqb (bit_and x y) 0)))

not-and : (a b : Bool) → not (a && b) ≡ (not a || not b)
not-and true b = refl
not-and false b = refl

pub tells_common : Tells common (λ d. not (eqb d 0)) bit_and
unfolding common
tells_common = record {
  none = refl;
  more = λ xs ys d x y l e. ap not (or_zero d (bit_and x y)) ∙ not-and (eqb d 0) (eqb (bit_and x y) 0)
      ∙ ap (λ (t : Bool). t || not (eqb (bit_and x y) 0)) e ∙ sym (common-snoc xs ys x y l);
}

-- ---- whether the second has all slots of the first: the OR of what each word of the first has besides is 0
zipped-snoc : (f : ℕ → ℕ → ℕ) (xs ys : List ℕ) (x y : ℕ) → length xs ≡ length ys
    → zipped f (xs ++ x ∷ []) (ys ++ y ∷ []) ≡ zipped f xs ys ++ (f x y ∷ [])
unfolding zipped
zipped-snoc f [] [] x y h = refl
zipped-snoc f [] (b ∷ ys) x y h = absurd (omega arith)
zipped-snoc f (a ∷ xs) [] x y h = absurd (omega arith)
zipped-snoc f (a ∷ xs) (b ∷ ys) x y h = ap (λ (l : List ℕ). f a b ∷ l) (zipped-snoc f xs ys x y (omega arith))

pub tells_within : Tells within (λ d. eqb d 0) (λ x y. bit_xor (bit_and x y) x)
unfolding same zipped
tells_within = record {
  none = refl;
  more = λ xs ys d x y l e. tells_same.more (meet xs ys) xs d (bit_and x y) x (length-zipped bit_and xs ys) e
      ∙ ap (λ (m : List ℕ). same m (xs ++ x ∷ [])) (sym (zipped-snoc bit_and xs ys x y l));
}
