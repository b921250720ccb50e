-- What is read in the body of a record is what stands there in the sheet. Assumes nothing.
use mathlib.Core.Path.{◌≡◌, refl, ap, ap₂, sym, ◌∙◌}
use mathlib.Core.Bool.{Bool, true, false}
use mathlib.Core.List.{List, ◌∷◌, map}
use Prim.Native.Nat.{ℕ, zero, suc, ◌+◌, ◌-◌, ◌*◌, ◌/◌, ◌≤◌, ◌<◌}
use native.Mathlib.Omega.{arith}
use borrow.Author.Tests.{le-leb, lt-leb, ltb-true, ltb-false, eqb-true, eqb-false, eq-eqb, ne_eqb}
use lib.Dec.{eqb, leb, ltb}
use lib.ListN.{length, get_or, take, drop}
use Rattle.std.specs.Simd.{first_chunks}
use Rattle.std.proofs.lemmas.List.{get_or-drop, get_or-take, length-take-le, length-drop, take-take, drop-take}
use Rattle.operands.specs.Choice.{pick}
use Rattle.operands.specs.Bytes.{number_in}
use Rattle.operands.proofs.NumberLaws.{chunk_numbers}
use Rattle.format.specs.Heads.{short, end_at, body_length, fields_at}
use Rattle.format.specs.Types.{Ty, absent, other, host, reference, tuple, item, Read, got, unfit, then, items_at, leaf, type_at, whole_type, ends_with}
use Rattle.format.specs.Answers.{body_at}
use Rattle.format.proofs.HeadLaws.{lies}

-- the bytes of a body
module _ (s : List ℕ) (at : ℕ) (h : short s at ≡ false) where
  pub body_size : length (body_at s at) ≡ body_length s at
  body_size =
      let w = lies s at h in
      length-take-le (body_length s at) (drop (at + 4) s) (omega (arith, length-drop (at + 4) s, w.within))

  pub body_byte : (i d : ℕ) → i < body_length s at → get_or (body_at s at) i d ≡ get_or s (at + 4 + i) d
  body_byte i d l = get_or-take (body_length s at) (drop (at + 4) s) i d l ∙ get_or-drop (at + 4) s i d

-- the first chunks of the front of a list
pub chunks_of_front : (n k : ℕ) (l : List ℕ) → 4 * n ≤ k → first_chunks 4 n (take k l) ≡ first_chunks 4 n l
chunks_of_front zero k l h = refl
chunks_of_front (suc n) k l h =
    let q : k ≡ 4 + (k - 4) = omega arith in
    ap₂ (λ (x : List ℕ) (xs : List (List ℕ)). x ∷ xs) (take-take 4 k l (omega arith))
    (ap (λ (m : ℕ). first_chunks 4 n (drop 4 (take m l))) q
    ∙ ap (first_chunks 4 n) (drop-take 4 (k - 4) l)
    ∙ chunks_of_front n (k - 4) (drop 4 l) (omega arith))

-- the fields of a body, as `as_chunks` gives them, are those of its record
pub body_fields : (s : List ℕ) (at : ℕ) → short s at ≡ false
    → map number_in (first_chunks 4 (length (body_at s at) / 4) (body_at s at)) ≡ fields_at s at
unfolding fields_at
body_fields s at h =
    rw (body_size s at h)
    (ap (map number_in) (chunks_of_front (body_length s at / 4) (body_length s at) (drop (at + 4) s) (omega arith))
    ∙ chunk_numbers s (at + 4) (body_length s at / 4))

-- what was read, further on by so much
abbrev pub moved : {A : Type 0} → ℕ → Read A → Read A
moved n (got x next) = got x (n + next)
moved n unfit = unfit

moved_then : {A B : Type 0} (n : ℕ) (r : Read A) (f g : A → ℕ → Read B) → ((x : A) (next : ℕ) → f x (n + next) ≡ moved n (g x next))
    → then (moved n r) f ≡ moved n (then r g)
moved_then n (got x next) f g h = h x next
moved_then n unfit f g h = refl

leaf_moved : (n b at : ℕ) → leaf b (n + at) ≡ moved n (leaf b at)
unfolding leaf
leaf_moved n b at = let q : n + at + 1 ≡ n + (at + 1) = omega arith in rw q (go (eqb b 1) (eqb b 2) (eqb b 3))
  where
    go : (x y z : Bool) → pick x (got other (n + (at + 1))) (pick y (got host (n + (at + 1))) (pick z (got reference (n + (at + 1))) unfit))
        ≡ moved n (pick x (got other (at + 1)) (pick y (got host (at + 1)) (pick z (got reference (at + 1)) unfit)))
    go true y z = refl
    go false true z = refl
    go false false true = refl
    go false false false = refl

module _ (n : ℕ) (read read' : ℕ → Read Ty) (h : (p : ℕ) → read (n + p) ≡ moved n (read' p)) where
  items_moved : (k p : ℕ) → items_at read k (n + p) ≡ moved n (items_at read' k p)
  unfolding items_at
  items_moved zero p = refl
  items_moved (suc k) p =
      rw (h p)
      (moved_then n (read' p) (λ t next. then (items_at read k next) (λ ts end. got (item t ts) end))
      (λ t next. then (items_at read' k next) (λ ts end. got (item t ts) end))
      (λ t next. rw (items_moved k next)
      (moved_then n (items_at read' k next) (λ ts end. got (item t ts) end) (λ ts end. got (item t ts) end) (λ ts end. refl))))

-- a type in a list b that stands from n on in s
module _ (s b : List ℕ) (n e : ℕ) (same : (i : ℕ) → i < e → get_or s (n + i) 0 ≡ get_or b i 0) where
  tuple_moved : (d p : ℕ) → ((q : ℕ) → type_at d s (n + e) (n + q) ≡ moved n (type_at d b e q))
      → pick (leb (n + e) (n + p + 1)) unfit
      (then (items_at (λ a. type_at d s (n + e) a) (get_or s (n + p + 1) 0) (n + p + 2)) (λ ts next. got (tuple ts) next))
      ≡ moved n (pick (leb e (p + 1)) unfit (then (items_at (λ a. type_at d b e a) (get_or b (p + 1) 0) (p + 2)) (λ ts next. got (tuple ts) next)))
  tuple_moved d p h = go (ltb (p + 1) e) refl
    where
      go : (t : Bool) → ltb (p + 1) e ≡ t
          → pick (leb (n + e) (n + p + 1)) unfit
          (then (items_at (λ a. type_at d s (n + e) a) (get_or s (n + p + 1) 0) (n + p + 2)) (λ ts next. got (tuple ts) next))
          ≡ moved n (pick (leb e (p + 1)) unfit (then (items_at (λ a. type_at d b e a) (get_or b (p + 1) 0) (p + 2)) (λ ts next. got (tuple ts) next)))
      go true t =
          let l = ltb-true (p + 1) e t in
          let o : n + p + 1 ≡ n + (p + 1) = omega arith in
          let q : n + p + 2 ≡ n + (p + 2) = omega arith in
          rw (lt-leb (n + e) (n + p + 1) (omega arith), lt-leb e (p + 1) l, o, q, same (p + 1) l)
          (rw (items_moved n (λ a. type_at d s (n + e) a) (λ a. type_at d b e a) h (get_or b (p + 1) 0) (p + 2))
          (moved_then n (items_at (λ a. type_at d b e a) (get_or b (p + 1) 0) (p + 2)) (λ ts next. got (tuple ts) next)
          (λ ts next. got (tuple ts) next) (λ ts next. refl)))
      go false t =
          let l = ltb-false (p + 1) e t in
          rw (le-leb (n + e) (n + p + 1) (omega arith), le-leb e (p + 1) l)

  chosen : {A : Type 0} (t : Bool) (x y x' y' : Read A) → x ≡ moved n x' → y ≡ moved n y' → pick t x y ≡ moved n (pick t x' y')
  chosen true x y x' y' h h' = h
  chosen false x y x' y' h h' = h'

  type_moved : (d p : ℕ) → type_at d s (n + e) (n + p) ≡ moved n (type_at d b e p)
  unfolding type_at
  type_moved zero p = go (ltb p e) refl
    where
      go : (t : Bool) → ltb p e ≡ t → pick (leb (n + e) (n + p)) unfit (leaf (get_or s (n + p) 0) (n + p)) ≡ moved n (pick (leb e p) unfit (leaf (get_or b p 0) p))
      go true t =
          let l = ltb-true p e t in
          rw (lt-leb (n + e) (n + p) (omega arith), lt-leb e p l, same p l) (leaf_moved n (get_or b p 0) p)
      go false t =
          let l = ltb-false p e t in
          rw (le-leb (n + e) (n + p) (omega arith), le-leb e p l)
  type_moved (suc d) p = go (λ q. type_moved d q) (ltb p e) refl
    where
      go : ((q : ℕ) → type_at d s (n + e) (n + q) ≡ moved n (type_at d b e q)) → (t : Bool) → ltb p e ≡ t
          → type_at (suc d) s (n + e) (n + p) ≡ moved n (type_at (suc d) b e p)
      go m true t =
          let l = ltb-true p e t in
          rw (lt-leb (n + e) (n + p) (omega arith), lt-leb e p l, same p l)
          (chosen (eqb (get_or b p 0) 4) _ _ _ _ (tuple_moved d p m) (leaf_moved n (get_or b p 0) p))
      go m false t =
          let l = ltb-false p e t in
          rw (le-leb (n + e) (n + p) (omega arith), le-leb e p l)

  whole_moved : (p : ℕ) → whole_type s (n + e) (n + p) ≡ moved n (whole_type b e p)
  unfolding whole_type
  whole_moved p = go (ltb p e) refl
    where
      go : (t : Bool) → ltb p e ≡ t → whole_type s (n + e) (n + p) ≡ moved n (whole_type b e p)
      go true t =
          let l = ltb-true p e t in
          let q : n + p + 1 ≡ n + (p + 1) = omega arith in
          rw (lt-leb (n + e) (n + p) (omega arith), lt-leb e p l, same p l, q)
          (chosen (eqb (get_or b p 0) 0) _ _ (got absent (p + 1)) (type_at 16 b e p) refl (type_moved 16 p))
      go false t =
          let l = ltb-false p e t in
          rw (le-leb (n + e) (n + p) (omega arith), le-leb e p l)

-- the type of a slot record, read in its body
pub body_type : (s : List ℕ) (at : ℕ) → short s at ≡ false
    → whole_type s (end_at s at) (at + 5) ≡ moved (at + 4) (whole_type (body_at s at) (length (body_at s at)) 1)
body_type s at h =
    let w = lies s at h in
    let e : end_at s at ≡ at + 4 + body_length s at = omega (arith, w.ordered) in
    let p : at + 5 ≡ at + 4 + 1 = omega arith in
    ap₂ (whole_type s) e p
    ∙ whole_moved s (body_at s at) (at + 4) (body_length s at) (λ i l. sym (body_byte s at h i 0 l)) 1
    ∙ ap (λ (n : ℕ). moved (at + 4) (whole_type (body_at s at) n 1)) (sym (body_size s at h))

-- where it ends
pub moved_end : {A : Type 0} (n e : ℕ) (r : Read A) → ends_with (n + e) (moved n r) ≡ ends_with e r
moved_end n e (got x next) = go (eqb next e) refl
  where
    go : (t : Bool) → eqb next e ≡ t → eqb (n + next) (n + e) ≡ eqb next e
    go true t = rw (eqb-true next e t, eq-eqb (n + e) (n + e) refl, eq-eqb e e refl)
    go false t = rw t (ne_eqb (n + next) (n + e) (λ q. eqb-false next e t (omega arith)))
moved_end n e unfit = refl
