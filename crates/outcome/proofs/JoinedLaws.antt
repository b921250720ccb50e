-- Lists of one length each, one after the other: where each stands. Assumes nothing.
use mathlib.Core.Path.{◌≡◌, refl, sym, ap, ◌∙◌}
use mathlib.Core.List.{List, [], ◌∷◌, ◌++◌, append_assoc}
use Prim.Native.Nat.{ℕ, zero, suc, ◌+◌, ◌*◌, ◌<◌}
use native.Mathlib.Nat.{zero-mul}
use native.Mathlib.Omega.{arith}
use lib.ListN.{length, get_or, drop, length-append}
use lib.Seq.{drop_at, drop-append-add}
use Rattle.dataflow.specs.Lists.{range}
use Rattle.dataflow.proofs.Lists.{range_length}
use Rattle.outcome.specs.Buffers.{joined}

pub joined-append : {A : Type 0} (f : A → List ℕ) (l m : List A) → joined f (l ++ m) ≡ joined f l ++ joined f m
joined-append f [] m = refl
joined-append f (a ∷ l) m = ap (λ (r : List ℕ). f a ++ r) (joined-append f l m) ∙ sym (append_assoc (f a) (joined f l) (joined f m))

module _ {A : Type 0} (f : A → List ℕ) (h : ℕ) (all : (a : A) → length (f a) ≡ h) where
  pub joined_length : (l : List A) → length (joined f l) ≡ length l * h
  joined_length [] = omega arith
  joined_length (a ∷ l) = length-append (f a) (joined f l) ∙ rw (all a, joined_length l) omega arith

  -- behind the first k + 1 lists is what is behind the first k of the rest
  behind-first : (a : A) (rest : List ℕ) (k : ℕ) → drop (suc k * h) (f a ++ rest) ≡ drop (k * h) rest
  behind-first a rest k =
      let e : suc k * h ≡ length (f a) + k * h = rw (all a) omega arith in
      ap (λ (j : ℕ). drop j (f a ++ rest)) e ∙ drop-append-add (f a) rest (k * h)

  -- the k-th list stands at k × h
  pub joined_at : (l : List A) (rest : List ℕ) (k : ℕ) (d : A) → k < length l
      → (r : List ℕ) × (drop (k * h) (joined f l ++ rest) ≡ f (get_or l k d) ++ r)
  joined_at [] rest k d lt = absurd (omega arith)
  joined_at (a ∷ l) rest zero d lt = (
    joined f l ++ rest,
    ap (λ (j : ℕ). drop j (joined f (a ∷ l) ++ rest)) (zero-mul h) ∙ append_assoc (f a) (joined f l) rest,
  )
  joined_at (a ∷ l) rest (suc k) d lt =
      let z = joined_at l rest k d (omega arith) in
      (z.0, ap (drop (suc k * h)) (append_assoc (f a) (joined f l) rest) ∙ behind-first a (joined f l ++ rest) k ∙ z.1)

  -- behind all lists stands the rest
  pub joined_past : (l : List A) (rest : List ℕ) → drop (length l * h) (joined f l ++ rest) ≡ rest
  joined_past l rest = drop_at (joined f l) rest (length l * h) (joined_length l)

-- lists of one length, by number
pub joined-range : (f : ℕ → List ℕ) (h : ℕ) → ((c : ℕ) → length (f c) ≡ h) → (n : ℕ) → length (joined f (range 0 n)) ≡ n * h
joined-range f h all n = joined_length f h all (range 0 n) ∙ ap (λ (k : ℕ). k * h) (range_length 0 n)
