-- The operands of a record that fits its pattern, field by field. Assumes nothing.
use mathlib.Core.Path.{◌≡◌, refl, ap, sym, ◌∙◌}
use mathlib.Core.Bool.{Bool, true, false}
use mathlib.Core.List.{List, [], ◌∷◌, ◌++◌, append-nil}
use Prim.Native.Nat.{ℕ, ◌+◌, ◌≤◌, ◌<◌}
use native.Mathlib.Omega.{arith}
use borrow.Author.Tests.{eqb-true}
use lib.Dec.{eqb, leb}
use lib.ListN.{length, get_or, drop, drop_of_length-le}
use Rattle.std.specs.Prelude.{Some}
use Rattle.operands.specs.Choice.{pick}
use Rattle.operands.specs.Places.{Place, rest, absent, gathered}
use Rattle.operands.specs.Patterns.{D, S, Sopt, Dopt, T, role_at, fixed_at, list_at, fits}
use Rattle.operands.specs.Operands.{inputs_of, output_of, targets_of, first_of}
use Rattle.operands.specs.ByPattern.{list_place, singles, by_pattern}
use Rattle.operands.specs.Instructions.{nth, value_of, single_values, singles_from}
use Rattle.operands.proofs.Agree.{inputs-agree, output-agree, targets-agree}
use Rattle.operands.proofs.PatternLaws.{outputs-first, inputs-direct}
use Rattle.operands.proofs.PlaceLaws.{gathered-append, singles-more, nth-one}

-- L holds all values after the single fields
list-values : (k : ℕ) (v : List ℕ) → fits k (length v) ≡ true → gathered (list_place k) v ≡ drop (fixed_at k) v
unfolding fits list_place gathered
list-values k v e = go (list_at k) e
  where
    go : (q : Bool) → pick q (leb (fixed_at k) (length v)) (eqb (length v) (fixed_at k)) ≡ true
        → gathered (pick q (rest (fixed_at k) ∷ []) []) v ≡ drop (fixed_at k) v
    go true e = append-nil (drop (fixed_at k) v)
    go false e =
        let h : length v ≡ fixed_at k = eqb-true (length v) (fixed_at k) e in
        sym (drop_of_length-le v {i = fixed_at k} (omega arith))

-- an input S, where it stands
pub input-direct : (k n j : ℕ) (v : List ℕ) → 1 ≤ k → k ≤ 41 → n < 3 → j < 4 → j ≡ pick (eqb (role_at k 0) S) 0 1 + n → role_at k j ≡ S
    → Some (get_or v j absent) ≡ nth (gathered (singles S Sopt k) v) n
input-direct k n j v l h m b e r =
    let d = inputs-direct k n l h (omega arith) (ap (role_at k) (sym e) ∙ r) in
    sym (nth-one (singles S Sopt k) v n j (d ∙ sym e) (omega arith))

module _ (k : ℕ) (v : List ℕ) (l : 1 ≤ k) (h : k ≤ 41) where
  -- the inputs of a record that fits: L, then the single ones
  pub inputs_two : fits k (length v) ≡ true → inputs_of k v ≡ drop (fixed_at k) v ++ singles_from S Sopt k v 0
  unfolding by_pattern
  inputs_two e =
      inputs-agree k v l h ∙ gathered-append (list_place k) (singles S Sopt k) v
      ∙ ap (λ (m : List ℕ). m ++ gathered (singles S Sopt k) v) (list-values k v e)

  -- the output is field 0 alone
  pub output_field : value_of (output_of k v) ≡ nth (single_values D Dopt (role_at k 0) (get_or v 0 absent)) 0
  unfolding by_pattern gathered
  output_field =
      let x : List ℕ = single_values D Dopt (role_at k 0) (get_or v 0 absent) in
      ap value_of (output-agree k v l h) ∙ go (singles_from D Dopt k v 0)
      ∙ ap (λ (l : List ℕ). nth l 0) (singles-more D Dopt k 0 4 v (omega arith))
      ∙ ap (λ (ps : List Place). nth (x ++ gathered ps v) 0) (outputs-first k l h)
      ∙ ap (λ (l : List ℕ). nth l 0) (append-nil x)
    where
      go : (x : List ℕ) → value_of (first_of x) ≡ nth x 0
      go [] = refl
      go (y ∷ x) = refl

  -- the targets are single fields
  pub targets_single : targets_of k v ≡ singles_from T T k v 0
  unfolding by_pattern
  targets_single = targets-agree k v l h
