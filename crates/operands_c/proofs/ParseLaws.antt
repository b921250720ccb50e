-- An instruction that parses is the one of its kind and bytes. Assumes nothing.
use mathlib.Core.Path.{◌≡◌, refl, ap, ◌∙◌}
use mathlib.Core.Bool.{Bool, true, false}
use mathlib.Core.List.{List, map}
use Prim.Native.Nat.{ℕ, ◌%◌, ◌/◌}
use lib.ListN.{length}
use borrow.Author.Tests.{le-leb, eq-eqb}
use Rattle.std.specs.Prelude.{Option, Some, None, IfSome, IsNone, ◌≢◌, ◌↔◌}
use Rattle.std.specs.Simd.{first_chunks}
use Rattle.operands.specs.Bytes.{number_in}
use Rattle.operands.specs.Kinds.{kind_number}
use Rattle.operands.specs.Patterns.{fits}
use Rattle.operands.specs.declared.kind.Kind.{Kind}
use Rattle.operands.specs.declared.instruction.Instruction.{Instruction}
use Rattle.operands.proofs.KindLaws.{kind_low, kind_high}
use Rattle.operands.proofs.NumberLaws.{chunk_numbers}
use Rattle.operands_c.specs.Exports.{well_formed, Parses}

pub parsed : (k : Kind) (body : List ℕ) (fields : List (List ℕ)) (r : Option Instruction) → length body % 4 ≡ 0
    → fields ≡ first_chunks 4 (length body / 4) body → length fields ≡ length body / 4
    → IfSome r (λ i. (i.kind ≡ k) × (i.fields.now ≡ fields)) → (IsNone r ↔ (fits (kind_number k) (length fields) ≢ true))
    → Parses (kind_number k) body r
unfolding well_formed
parsed k body fields None w f n made none =
    rw (le-leb _ _ (kind_low k), le-leb _ _ (kind_high k), eq-eqb _ _ w, ← n) (go (fits (kind_number k) (length fields)) (none.0 refl))
  where
    go : (b : Bool) → b ≢ true → b ≡ false
    go true h = absurd (h refl)
    go false h = refl
parsed k body fields (Some i) w f n made none = (
  rw (le-leb _ _ (kind_low k), le-leb _ _ (kind_high k), eq-eqb _ _ w, ← n) (go (fits (kind_number k) (length fields)) none.1),
  ap kind_number made.0,
  ap (map number_in) (made.1 ∙ f) ∙ chunk_numbers body 0 (length body / 4),
)
  where
    go : (b : Bool) → (b ≢ true → true ≡ false) → b ≡ true
    go true h = refl
    go false h = absurd (let e = h (λ z. cc) in cc)
