-- Laws of repeats: from the front of a list, and from a set of those seen before. Assumes nothing.
use mathlib.Core.Path.{◌≡◌, refl, sym, ap, ap₂, ◌∙◌}
use mathlib.Core.Bool.{Bool, true, false, ◌||◌}
use mathlib.Core.List.{List, [], ◌∷◌, map}
use Prim.Native.Nat.{ℕ, zero, suc, ◌+◌, ◌*◌, ◌-◌, ◌/◌, ◌≤◌, ◌<◌}
use native.Mathlib.Omega.{arith}
use lib.Dec.{eqb}
use lib.ListN.{length, get_or, drop, replicate}
use Rattle.std.specs.List.{list_any}
use Rattle.std.proofs.lemmas.List.{at_drop_more, at_drop_all}
use Rattle.bitset.specs.Below.{AllBelow}
use Rattle.bitset.specs.Sets.{member}
use Rattle.bitset.specs.Operations.{inserted}
use Rattle.bitset.proofs.SetLaws.{member-zero, member_inserted, length_inserted}
use Rattle.bitset.proofs.RowLaws.{inserted_at}
use Rattle.operands.specs.Bytes.{number_in, u32_at, numbers_at}
use Rattle.operands.specs.Patterns.{among}
use Rattle.repeats.specs.Repeats.{any_twice}
use Rattle.repeats.specs.Seen.{twice_seen}

-- the first of some numbers, and the others
pub numbers-cons : (s : List ℕ) (at n : ℕ) → 0 < n → numbers_at s at n ≡ u32_at s at ∷ numbers_at s (at + 4) (n - 1)
unfolding numbers_at
numbers-cons s at zero lt = absurd (omega arith)
numbers-cons s at (suc n) lt = let e : n ≡ suc n - 1 = omega arith in ap (λ (k : ℕ). u32_at s at ∷ numbers_at s (at + 4) k) e

pub numbers-none : (s : List ℕ) (at n : ℕ) → n ≡ 0 → numbers_at s at n ≡ []
unfolding numbers_at
numbers-none s at zero e = refl
numbers-none s at (suc n) e = absurd (omega (arith, e))

-- the set at the front of a slice
pub inserted-front : (ws : List ℕ) (x : ℕ) → inserted_at ws 0 x ≡ inserted ws x
unfolding inserted_at
inserted-front ws x = refl

-- a number among others, as a test of each finds it
pub among_any : (x : ℕ) (l : List (List ℕ)) → list_any (λ b. eqb x (number_in b)) l ≡ among x (map number_in l)
among_any x [] = refl
among_any x (b ∷ l) = ap (λ (t : Bool). eqb x (number_in b) || t) (among_any x l)

module _ (l : List (List ℕ)) (i : ℕ) where
  -- a repeat in what is left of a list, behind its first and at its end
  pub twice_more : i < length l → any_twice (map number_in (drop i l))
      ≡ (among (number_in (get_or l i [])) (map number_in (drop (i + 1) l)) || any_twice (map number_in (drop (i + 1) l)))
  unfolding any_twice
  twice_more h = at_drop_more (λ xs. any_twice (map number_in xs)) l i [] h

  pub twice_end : length l ≤ i → any_twice (map number_in (drop i l)) ≡ false
  unfolding any_twice
  twice_end h = at_drop_all (λ xs. any_twice (map number_in xs)) l i h

  -- and behind its first, by an answer to whether that is among the others
  pub twice_step : (x : ℕ) (rest : List (List ℕ)) (t : Bool) → i < length l → x ≡ number_in (get_or l i []) → rest ≡ drop (i + 1) l
      → t ≡ list_any (λ b. eqb x (number_in b)) rest → any_twice (map number_in (drop i l)) ≡ (t || any_twice (map number_in (drop (i + 1) l)))
  twice_step x rest t h e r a =
      twice_more h ∙ ap (λ (u : Bool). u || any_twice (map number_in (drop (i + 1) l)))
      (ap (λ (y : ℕ). among y (map number_in (drop (i + 1) l))) (sym e) ∙ sym (among_any x (drop (i + 1) l))
      ∙ ap (list_any (λ b. eqb x (number_in b))) (sym r) ∙ sym a)

  module _ (ws : List ℕ) where
    -- and a set of those seen before
    pub seen_more : i < length l → twice_seen ws (map number_in (drop i l))
        ≡ (member ws (number_in (get_or l i [])) || twice_seen (inserted ws (number_in (get_or l i []))) (map number_in (drop (i + 1) l)))
    unfolding twice_seen
    seen_more h = at_drop_more (λ xs. twice_seen ws (map number_in xs)) l i [] h

    pub seen_end : length l ≤ i → twice_seen ws (map number_in (drop i l)) ≡ false
    unfolding twice_seen
    seen_end h = at_drop_all (λ xs. twice_seen ws (map number_in xs)) l i h

-- each number of a list below a bound
pub number_below : (m : ℕ) (l : List (List ℕ)) (i : ℕ) → i < length l → AllBelow m (map number_in l) → number_in (get_or l i []) < m
number_below m [] i h a = absurd (omega arith)
number_below m (b ∷ l) zero h a = a.0
number_below m (b ∷ l) (suc i) h a = number_below m l i (omega arith) a.1

-- one more in the set: the bound stays
pub below-inserted : (ws : List ℕ) (x : ℕ) (l : List ℕ) → AllBelow (64 * length ws) l → AllBelow (64 * length (inserted ws x)) l
below-inserted ws x l b = rw (length_inserted ws x) b

-- whether one of the numbers is in a set
abbrev pub any_member : List ℕ → List ℕ → Bool
any_member ws [] = false
any_member ws (x ∷ xs) = member ws x || any_member ws xs

shuffle : (a b c d : Bool) → ((a || b) || (c || d)) ≡ ((a || c) || (b || d))
shuffle true b c d = refl
shuffle false true true d = refl
shuffle false true false d = refl
shuffle false false c d = refl

gather : (a b c d : Bool) → (a || ((b || c) || d)) ≡ ((a || c) || (b || d))
gather true b c d = refl
gather false true true d = refl
gather false true false d = refl
gather false false c d = refl

-- with one more in the set, those that are it or were in it
inserted-any : (ws : List ℕ) (x : ℕ) → x / 64 < length ws → (l : List ℕ) → any_member (inserted ws x) l ≡ (among x l || any_member ws l)
inserted-any ws x lt [] = refl
inserted-any ws x lt (y ∷ l) =
    ap₂ ◌||◌ (member_inserted ws x lt y) (inserted-any ws x lt l) ∙ shuffle (eqb x y) (member ws y) (among x l) (any_member ws l)

seen-or : (l ws : List ℕ) → AllBelow (64 * length ws) l → twice_seen ws l ≡ (any_member ws l || any_twice l)
unfolding twice_seen any_twice
seen-or [] ws b = refl
seen-or (x ∷ xs) ws b =
    let lt : x / 64 < length ws = omega (arith, b.0) in
    ap (λ (t : Bool). member ws x || t) (seen-or xs (inserted ws x) (below-inserted ws x xs b.1)
    ∙ ap (λ (t : Bool). t || any_twice xs) (inserted-any ws x lt xs))
    ∙ gather (member ws x) (among x xs) (any_member ws xs) (any_twice xs)

none-member : (n : ℕ) (l : List ℕ) → any_member (replicate n 0) l ≡ false
none-member n [] = refl
none-member n (x ∷ l) = ap₂ ◌||◌ (member-zero n x) (none-member n l)

-- from an empty set: whether one stands twice
pub seen_none : (n : ℕ) (l : List ℕ) → AllBelow (64 * length (replicate {A = ℕ} n 0)) l → twice_seen (replicate n 0) l ≡ any_twice l
seen_none n l b = seen-or l (replicate n 0) b ∙ ap (λ (t : Bool). t || any_twice l) (none-member n l)
