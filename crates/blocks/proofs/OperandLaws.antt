-- The operands of an instruction: at most two targets, few inputs, and the output that is read. Assumes nothing.
use mathlib.Core.Path.{◌≡◌, refl, ap}
use mathlib.Core.Bool.{Bool, true, false, ◌&&◌}
use mathlib.Core.List.{List, [], ◌∷◌}
use mathlib.Core.Option.{Option, none, some}
use Prim.Native.Nat.{ℕ, zero, suc, ◌+◌, ◌*◌, ◌-◌, ◌≤◌}
use native.Mathlib.Omega.{arith}
use borrow.Author.Tests.{leb-true}
use lib.Dec.{T, eqb, leb}
use lib.ListN.{length, get_or, drop, length-append, length-drop}
use Rattle.std.proofs.Common.{Some, None}
use Rattle.operands.specs.Choice.{pick}
use Rattle.operands.specs.Places.{Place, one, optional, rest, absent, gathered}
use Rattle.operands.specs.Variants.{Variant, Unreachable, variants, slot_inputs, jump_targets}
use Rattle.operands.specs.Operands.{by_source, inputs_of, targets_of}
use Rattle.operands.specs.Instructions.{value_of}
use Rattle.script.specs.Script.{list_of}

-- ---- a test at each variant

all_of : (Variant → Bool) → List Variant → Bool
all_of f [] = true
all_of f (v ∷ l) = f v && all_of f l

-- two tests that pass together
both : (a b : Bool) → T (a && b) → T a × T b
both true b t = (tt, t)
both false b t = absurd t

each : (f : Variant → Bool) (l : List Variant) (d : Variant) (i : ℕ) → T (all_of f l) → T (f d) → T (f (get_or l i d))
unfolding all_of
each f [] d i t u = u
each f (v ∷ l) d zero t u = (both (f v) (all_of f l) t).0
each f (v ∷ l) d (suc i) t u = each f l d i (both (f v) (all_of f l) t).1 u

-- ---- at most two targets

-- at most one place, of one field
one_place : List Place → Bool
one_place [] = true
one_place (one i ∷ []) = true
one_place (one i ∷ p ∷ ps) = false
one_place (optional i ∷ ps) = false
one_place (rest i ∷ ps) = false

-- at most two places, each of one field
two : List Place → Bool
two [] = true
two (one i ∷ ps) = one_place ps
two (optional i ∷ ps) = false
two (rest i ∷ ps) = false

-- and so at most two values
two-gathered : (ps : List Place) (v : List ℕ) → T (two ps) → length (gathered ps v) ≤ 2
unfolding gathered two one_place
two-gathered [] v t = omega arith
two-gathered (one i ∷ []) v t = omega arith
two-gathered (one i ∷ one j ∷ []) v t = omega arith
two-gathered (one i ∷ one j ∷ p ∷ ps) v t = absurd t
two-gathered (one i ∷ optional j ∷ ps) v t = absurd t
two-gathered (one i ∷ rest j ∷ ps) v t = absurd t
two-gathered (optional i ∷ ps) v t = absurd t
two-gathered (rest i ∷ ps) v t = absurd t

-- the computed test, at each variant
few_targets : Variant → Bool
few_targets v = two (jump_targets v)

all-few : (k : ℕ) → T (two (by_source k).targets)
unfolding by_source few_targets variants jump_targets two one_place all_of
all-few k = each few_targets variants Unreachable (k - 1) tt tt

-- an instruction names at most two targets
pub targets_few : (k : ℕ) (v : List ℕ) → length (targets_of k v) ≤ 2
unfolding targets_of
targets_few k v = two-gathered (by_source k).targets v (all-few k)

-- ---- few inputs

-- how many places are of all fields from one on
rests : List Place → ℕ
rests [] = 0
rests (one i ∷ ps) = rests ps
rests (optional i ∷ ps) = rests ps
rests (rest i ∷ ps) = suc (rests ps)

gathered-few : (ps : List Place) (v : List ℕ) → length (gathered ps v) ≤ rests ps * length v + length ps
unfolding gathered rests
gathered-few [] v = omega arith
gathered-few (one i ∷ ps) v = omega (arith, gathered-few ps v)
gathered-few (optional i ∷ ps) v = go (eqb (get_or v i absent) absent) (gathered-few ps v)
  where
    go : (t : Bool) → length (gathered ps v) ≤ rests ps * length v + length ps
        → length (pick t (gathered ps v) (get_or v i absent ∷ gathered ps v)) ≤ rests ps * length v + suc (length ps)
    go true h = omega arith
    go false h = omega arith
gathered-few (rest i ∷ ps) v = omega (arith, length-append (drop i v) (gathered ps v), length-drop i v, gathered-few ps v)

-- the computed test, at each variant
few_inputs : Variant → Bool
few_inputs v = leb (rests (slot_inputs v)) 1 && leb (length (slot_inputs v)) 4

all-sparse : (k : ℕ) → T (leb (rests (by_source k).inputs) 1 && leb (length (by_source k).inputs) 4)
unfolding by_source few_inputs variants slot_inputs rests all_of
all-sparse k = each few_inputs variants Unreachable (k - 1) tt tt

-- as many inputs as fields and four more, at most
pub inputs_few : (k : ℕ) (v : List ℕ) → length (inputs_of k v) ≤ length v + 4
unfolding inputs_of
inputs_few k v = go (leb (rests ps) 1) (leb (length ps) 4) refl refl (all-sparse k)
  where
    ps : List Place
    ps = (by_source k).inputs

    go : (a b : Bool) → leb (rests ps) 1 ≡ a → leb (length ps) 4 ≡ b → T (a && b) → length (gathered ps v) ≤ length v + 4
    go true true p q t = many (rests ps) refl (leb-true (rests ps) 1 p) (leb-true (length ps) 4 q)
      where
        many : (n : ℕ) → rests ps ≡ n → n ≤ 1 → length ps ≤ 4 → length (gathered ps v) ≤ length v + 4
        many zero e h l = omega (arith, gathered-few ps v, ap (λ (x : ℕ). x * length v) e)
        many (suc zero) e h l = omega (arith, gathered-few ps v, ap (λ (x : ℕ). x * length v) e)
        many (suc (suc n)) e h l = absurd (omega arith)
    go true false p q t = absurd t
    go false b p q t = absurd t

-- ---- the output

-- the output, as it is read
pub output_there : (x : ℕ) (v : Option ℕ) → Some x ≡ value_of v → list_of v ≡ x ∷ []
output_there x (some y) e = let q : x ≡ y = cc in rw q
output_there x none e = let z : ◌≡◌ {A = ℕ} 0 1 = cc in absurd (omega arith)

pub output_missing : (v : Option ℕ) → None ≡ value_of v → list_of v ≡ []
output_missing (some y) e = let z : ◌≡◌ {A = ℕ} 0 1 = cc in absurd (omega arith)
output_missing none e = refl
