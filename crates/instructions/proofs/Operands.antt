-- The operands of a record whose fields passed the checks: slots below the slot count, targets below N. Assumes nothing.
use mathlib.Core.Path.{◌≡◌, refl, ap, sym, subst, ◌∙◌}
use mathlib.Core.Bool.{Bool, true, false, ◌&&◌, not}
use mathlib.Core.List.{List, [], ◌∷◌}
use mathlib.Core.Option.{some}
use Prim.Native.Nat.{ℕ, zero, suc, ◌+◌, ◌-◌, ◌≤◌, ◌<◌}
use native.Mathlib.Omega.{arith}
use borrow.Author.Tests.{leb-false, eqb-true, eqb-false}
use lib.Dec.{eqb, leb}
use lib.ListN.{length, get_or, drop, length-drop, drop_of_length-le}
use lib.Seq.{get_or-drop}
use Rattle.operands.specs.Choice.{pick}
use Rattle.operands.specs.Places.{absent, gathered}
use Rattle.operands.specs.Patterns.{D, S, Sopt, Dopt, T, role_at, single_of, fixed_at, list_at, fits}
use Rattle.operands.specs.Operands.{inputs_of, output_of, targets_of, first_of}
use Rattle.operands.specs.ByPattern.{places_from, singles, by_pattern}
use Rattle.operands.specs.Instructions.{single_values}
use Rattle.operands.proofs.PatternLaws.{role_late, field_there}
use Rattle.operands.proofs.PlaceLaws.{singles-more}
use Rattle.operands.proofs.OperandLaws.{inputs_two, targets_single}
use Rattle.operands.proofs.Agree.{output-agree}
use Rattle.format.specs.Fields.{no_slot, no_target, any_field}
use Rattle.std.proofs.lemmas.Bool.{or_parts}
use Rattle.bitset.specs.Below.{AllBelow}
use Rattle.bitset.proofs.Below.{below-append, below_all}

below-first : (n : ℕ) (l : List ℕ) (x : ℕ) → AllBelow n l → first_of l ≡ some x → x < n
below-first n [] x a e = let z : ◌≡◌ {A = ℕ} 0 1 = cc in absurd (omega arith)
below-first n (y ∷ l) x a e = let q : y ≡ x = cc in subst (λ (z : ℕ). z < n) q a.0

-- where a test holds at no field, it does not hold at any one
no_field : (f : ℕ → ℕ → Bool) (k j : ℕ) (v : List ℕ) → any_field f k j v ≡ false
    → (i : ℕ) → i < length v → f (role_at k (j + i)) (get_or v i absent) ≡ false
unfolding any_field
no_field f k j [] e i h = absurd (omega arith)
no_field f k j (x ∷ v) e zero h =
    let q : j + 0 ≡ j = omega arith in
    rw q (or_parts (f (role_at k j) x) (any_field f k (j + 1) v) e).0
no_field f k j (x ∷ v) e (suc i) h =
    let q : j + suc i ≡ j + 1 + i = omega arith in
    rw q (no_field f k (j + 1) v (or_parts (f (role_at k j) x) (any_field f k (j + 1) v) e).1 i (omega arith))

pub no_field_at : (f : ℕ → ℕ → Bool) (k : ℕ) (v : List ℕ) → any_field f k 0 v ≡ false → (i : ℕ) → i < length v → f (role_at k i) (get_or v i absent)
    ≡ false
no_field_at f k v e i h = let q : 0 + i ≡ i = omega arith in rw q at (no_field f k 0 v e i h)

-- a field that passed
slot-below : (slots x : ℕ) (b : Bool) → (leb slots x && not (b && eqb x absent)) ≡ false → (b ≡ true → x ≡ absent → ⊥) → x < slots
slot-below slots x b e n = go (leb slots x) refl b (eqb x absent) refl refl e
  where
    go : (p : Bool) → leb slots x ≡ p → (q r : Bool) → b ≡ q → eqb x absent ≡ r → (p && not (q && r)) ≡ false → x < slots
    go false p q r q' r' e = leb-false slots x p
    go true p true true q r e = absurd (n q (eqb-true x absent r))
    go true p true false q r e = let z : ◌≡◌ {A = ℕ} 0 1 = cc in absurd (omega arith)
    go true p false r q r' e = let z : ◌≡◌ {A = ℕ} 0 1 = cc in absurd (omega arith)

-- of a class of operands: those whose role is a, and those whose role is b that are not absent, are below a bound
record Class (f : ℕ → ℕ → Bool) (a b bound : ℕ) : Type 0 where
  pub a_single : single_of a ≡ 1
  pub b_single : single_of b ≡ 1
  pub plain : (x : ℕ) → f a x ≡ false → x < bound
  pub present : (x : ℕ) → f b x ≡ false → (x ≡ absent → ⊥) → x < bound

never : {A : Type 0} → ◌≡◌ {A = Bool} false true → A
never e = let z : ◌≡◌ {A = ℕ} 0 1 = cc in absurd (omega arith)

inputs-class : (slots : ℕ) → Class (no_slot slots) S Sopt slots
unfolding no_slot
inputs-class slots = record {
  a_single = refl;
  b_single = refl;
  plain = λ x e. slot-below slots x false e (λ q. never q);
  present = λ x e n. slot-below slots x true e (λ q. n);
}

output-class : (slots : ℕ) → Class (no_slot slots) D Dopt slots
unfolding no_slot
output-class slots = record {
  a_single = refl;
  b_single = refl;
  plain = λ x e. slot-below slots x false e (λ q. never q);
  present = λ x e n. slot-below slots x true e (λ q. n);
}

targets-class : (n : ℕ) → Class (no_target n) T T n
unfolding no_target
targets-class n = record {
  a_single = refl;
  b_single = refl;
  plain = λ x e. leb-false n x e;
  present = λ x e m. leb-false n x e;
}

-- the operands of a record whose fields passed
module _ (k : ℕ) (v : List ℕ) (low : 1 ≤ k) (high : k ≤ 41) (fit : fits k (length v) ≡ true) where
  module _ (f : ℕ → ℕ → Bool) (ok : (j : ℕ) → j < length v → f (role_at k j) (get_or v j absent) ≡ false) (a b bound : ℕ) (c : Class f a b bound) where
    single-below : (j : ℕ) → j < 4 → AllBelow bound (single_values a b (role_at k j) (get_or v j absent))
    single-below j h = go (eqb (role_at k j) a) refl (eqb (role_at k j) b) refl (eqb (get_or v j absent) absent) refl
      where
        go : (p : Bool) → eqb (role_at k j) a ≡ p → (q : Bool) → eqb (role_at k j) b ≡ q → (r : Bool) → eqb (get_or v j absent) absent ≡ r
            → AllBelow bound (pick p (get_or v j absent ∷ []) (pick q (pick r [] (get_or v j absent ∷ [])) []))
        go true p q q' r r' =
            let e = eqb-true (role_at k j) a p in
            (c.plain (get_or v j absent) (rw e at (ok j (field_there k (length v) j low high fit h (ap single_of e ∙ c.a_single)))), tt)
        go false p true q true r = tt
        go false p true q false r =
            let e = eqb-true (role_at k j) b q in (
              c.present (get_or v j absent) (rw e at (ok j (field_there k (length v) j low high fit h (ap single_of e ∙ c.b_single))))
                  (eqb-false (get_or v j absent) absent r),
              tt,
            )
        go false p false q r r' = tt

    singles-below : (left j : ℕ) → j + left ≤ 4 → AllBelow bound (gathered (places_from a b k j left) v)
    unfolding places_from gathered
    singles-below zero j h = tt
    singles-below (suc left) j h =
        let q : suc left - 1 ≡ left = omega arith in
        let r = singles-below left (j + 1) (omega arith) in
        let e = rw q at (singles-more a b k j (suc left) v (omega arith)) in
        subst (AllBelow bound) (sym e)
        (below-append bound (single_values a b (role_at k j) (get_or v j absent)) (gathered (places_from a b k (j + 1) left) v)
        (single-below j (omega arith)) r)

  module _ (slots : ℕ) (ok : (j : ℕ) → j < length v → no_slot slots (role_at k j) (get_or v j absent) ≡ false) where
    listed_at : (i : ℕ) → list_at k ≡ true → fixed_at k + i < length v → get_or v (fixed_at k + i) absent < slots
    unfolding no_slot
    listed_at i q h =
        let r = role_late k (fixed_at k + i) low high q (omega arith) in
        let o = rw r at (ok (fixed_at k + i) h) in
        slot-below slots (get_or v (fixed_at k + i) absent) false o (λ z. never z)

    listed_below : AllBelow slots (drop (fixed_at k) v)
    unfolding fits
    listed_below = go (list_at k) refl fit
      where
        go : (q : Bool) → list_at k ≡ q → pick q (leb (fixed_at k) (length v)) (eqb (length v) (fixed_at k)) ≡ true → AllBelow slots (drop (fixed_at k) v)
        go true q e =
            below_all slots (drop (fixed_at k) v) absent (λ i h.
            let m = length-drop (fixed_at k) v in
            let j : fixed_at k + i < length v = omega arith in
            simp get_or-drop (listed_at i q j))
        go false q e =
            let z = eqb-true (length v) (fixed_at k) e in
            subst (AllBelow slots) (sym (drop_of_length-le v {i = fixed_at k} (omega arith))) tt

    pub inputs_ok : AllBelow slots (inputs_of k v)
    inputs_ok =
        let r = singles-below (no_slot slots) ok S Sopt slots (inputs-class slots) 4 0 (omega arith) in
        subst (AllBelow slots) (sym (inputs_two k v low high fit))
        (below-append slots (drop (fixed_at k) v) (gathered (singles S Sopt k) v) listed_below r)

    pub outputs_ok : AllBelow slots (gathered (singles D Dopt k) v)
    outputs_ok = singles-below (no_slot slots) ok D Dopt slots (output-class slots) 4 0 (omega arith)

    pub output_ok : (x : ℕ) → output_of k v ≡ some x → x < slots
    unfolding by_pattern
    output_ok x e = below-first slots (gathered (singles D Dopt k) v) x outputs_ok (sym (output-agree k v low high) ∙ e)

  pub targets_ok : (n : ℕ) → ((j : ℕ) → j < length v → no_target n (role_at k j) (get_or v j absent) ≡ false) → AllBelow n (targets_of k v)
  targets_ok n ok =
      subst (AllBelow n) (sym (targets_single k v low high)) (singles-below (no_target n) ok T T n (targets-class n) 4 0 (omega arith))
