-- The slot record of six bytes. Assumes nothing.
use mathlib.Core.Path.{◌≡◌, sym, ap, ◌∙◌}
use mathlib.Core.Bool.{Bool, true, false, ◌&&◌, not, and-eq-true_iff}
use mathlib.Core.List.{List}
use mathlib.Core.Option.{none}
use Prim.Native.Nat.{ℕ, ◌+◌, ◌≤◌, ◌<◌}
use native.Mathlib.Omega.{arith}
use borrow.Author.Tests.{lt-leb, eq-eqb, eqb-true, leb-true}
use lib.Dec.{eqb, leb}
use lib.ListN.{length, get_or}
use Rattle.operands.specs.Choice.{pick}
use Rattle.format.specs.Heads.{u16_at, kind_at, end_at, short}
use Rattle.format.proofs.HeadLaws.{not_short}
use Rattle.format.proofs.TypeLaws.{byte_type}
use Rattle.records.specs.Records.{bad_slot, top_physical, plain_slot, slot_fault}
use Rattle.records.proofs.RecordLaws.{slot_typed}

pub plain_short : (s : List ℕ) (top at : ℕ) → length s < at + 6 → plain_slot s top at ≡ false
unfolding plain_slot
plain_short s top at h = rw (lt-leb (at + 6) (length s) h)

-- what its bytes are
pub record Plain (s : List ℕ) (top at : ℕ) : Type 0 where
  pub inside : at + 6 ≤ length s
  pub long : u16_at s at ≡ 4
  pub kind : kind_at s at ≡ 258
  pub physical : get_or s (at + 4) 0 ≤ top_physical top
  pub type : get_or s (at + 5) 0 ≤ top

pub plain : (s : List ℕ) (top at : ℕ) → plain_slot s top at ≡ true → Plain s top at
unfolding plain_slot
plain s top at e =
    let a = (and-eq-true_iff (leb (at + 6) (length s)) _).0 e in
    let b = (and-eq-true_iff (eqb (u16_at s at) 4 && eqb (kind_at s at) 258) _).0 a.1 in
    let h = (and-eq-true_iff (eqb (u16_at s at) 4) (eqb (kind_at s at) 258)).0 b.0 in
    let t = (and-eq-true_iff (leb (get_or s (at + 4) 0) (top_physical top)) (leb (get_or s (at + 5) 0) top)).0 b.1 in
    record {
      inside = leb-true _ _ a.0;
      long = eqb-true _ _ h.0;
      kind = eqb-true _ _ h.1;
      physical = leb-true _ _ t.0;
      type = leb-true _ _ t.1;
    }

fits : (top : ℕ) → top_physical top ≤ 12
fits top = go (leb top 1)
  where
    go : (b : Bool) → pick b 9 12 ≤ 12
    go true = omega arith
    go false = omega arith

module _ (s : List ℕ) (top at : ℕ) (p : Plain s top at) where
  pub plain_end : at + 6 ≡ end_at s at
  plain_end = omega (arith, p.long)

  pub plain_whole : short s at ≡ false
  plain_whole = not_short s at (omega (arith, p.inside)) (omega (arith, p.long)) (omega (arith, p.long, p.inside))

  plain-good : top ≤ 3 → bad_slot s (at + 4) (at + 6) ≡ false
  plain-good h =
      let q : at + 4 + 1 ≡ at + 5 = omega arith in
      let l : get_or s (at + 4 + 1) 0 ≤ 3 = rw q (omega (arith, p.type)) in
      slot_typed s (at + 4) (at + 6) _ (omega arith) (omega (arith, p.physical, fits top)) (byte_type s (at + 6) (at + 4 + 1) (omega arith) l)
      ∙ ap not (eq-eqb (at + 4 + 1 + 1) (at + 6) (omega arith))

  plain-passes : top ≤ 3 → slot_fault s at ≡ none
  unfolding slot_fault
  plain-passes h = rw (plain_whole, eq-eqb (kind_at s at) 258 p.kind, ← plain_end, plain-good h)

  -- it passes, as a record of its kind with six bytes
  pub plain_due : top ≤ 3 → (slot_fault s at ≡ none) × (end_at s at ≡ at + 6) × (kind_at s at ≡ 258)
  plain_due h = (plain-passes h, sym plain_end, p.kind)
