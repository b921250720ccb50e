-- The fields of a record one after the other: the steps of the loops over them. Assumes nothing.
use mathlib.Core.Path.{◌≡◌, refl, ap, sym, ◌∙◌}
use mathlib.Core.Bool.{Bool, ◌||◌, or_assoc, or-false}
use mathlib.Core.List.{List, [], ◌∷◌, ◌++◌, map}
use Prim.Native.Nat.{ℕ, zero, suc, ◌+◌, ◌≤◌, ◌<◌}
use native.Mathlib.Omega.{arith}
use lib.Dec.{leb}
use lib.ListN.{length, get_or, take}
use Rattle.std.proofs.Common.{add-one}
use Rattle.std.proofs.lemmas.List.{take_all}
use Rattle.operands.specs.Patterns.{role_at}
use Rattle.operands.specs.Bytes.{number_in}
use Rattle.format.specs.declared.fields.Faults.{Faults}
use Rattle.format.specs.Fields.{bad_module, no_slot, no_target, any_field, any_above}
use Rattle.format.specs.Answers.{FaultsIn}

-- one more field
one_more : (f : ℕ → ℕ → Bool) (k i j : ℕ) (v : List ℕ) → j < length v
    → any_field f k i (take (suc j) v) ≡ (any_field f k i (take j v) || f (role_at k (i + j)) (get_or v j 0))
unfolding any_field
one_more f k i j [] h = absurd (omega arith)
one_more f k i zero (x ∷ v) h = let q : i + 0 ≡ i = omega arith in rw q (or-false (f (role_at k i) x))
one_more f k i (suc j) (x ∷ v) h =
    let q : i + suc j ≡ i + 1 + j = omega arith in
    rw q (ap (λ (t : Bool). f (role_at k i) x || t) (one_more f k (i + 1) j v (omega arith)) ∙ sym (or_assoc (f (role_at k i) x) _ _))

-- the loop over the fields of an instruction: after a turn and at its end
module _ (k slots n : ℕ) (v : List ℕ) where
  pub faults_more : (j role x : ℕ) (r : Faults) → j < length v → role ≡ role_at k j → x ≡ get_or v j 0 → FaultsIn k (take j v) slots n r
      → FaultsIn k (take (j + 1) v) slots n (record {
        modules = r.modules || bad_module role x;
        slots = r.slots || no_slot slots role x;
        targets = r.targets || no_target n role x;
      })
  faults_more j role x r h p e a = record {
    modules_are = turn bad_module r.modules a.modules_are;
    slots_are = turn (no_slot slots) r.slots a.slots_are;
    targets_are = turn (no_target n) r.targets a.targets_are;
  }
    where
      turn : (f : ℕ → ℕ → Bool) (b : Bool) → b ≡ any_field f k 0 (take j v) → (b || f role x) ≡ any_field f k 0 (take (j + 1) v)
      turn f b i = let q : 0 + j ≡ j = omega arith in rw (i, p, e, add-one, ← ap (role_at k) q) (sym (one_more f k 0 j v h))

  pub faults_end : (j : ℕ) (r : Faults) → length v ≤ j → FaultsIn k (take j v) slots n r → FaultsIn k v slots n r
  faults_end j r h a = rw (take_all j v h) at a

-- a number at or above a bound is a field that passes a test which looks at no role
pub above-field : (bound k j : ℕ) (v : List ℕ) → any_above bound v ≡ any_field (λ role x. leb bound x) k j v
unfolding any_above any_field
above-field bound k j [] = refl
above-field bound k j (x ∷ v) = ap (λ (t : Bool). leb bound x || t) (above-field bound k (j + 1) v)

-- whether a number is at or above a bound: after one more
pub above_more : (bound x : ℕ) (l : List (List ℕ)) (y : List ℕ) → x ≡ number_in y
    → (any_above bound (map number_in l) || leb bound x) ≡ any_above bound (map number_in (l ++ (y ∷ [])))
unfolding any_above
above_more bound x [] y e = rw e (sym (or-false (leb bound (number_in y))))
above_more bound x (z ∷ l) y e =
    or_assoc (leb bound (number_in z)) _ _ ∙ ap (λ (t : Bool). leb bound (number_in z) || t) (above_more bound x l y e)
