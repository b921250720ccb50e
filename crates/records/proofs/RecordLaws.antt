-- The laws of a slot record: its body read alone, and a body whose type is known. Assumes nothing.
use mathlib.Core.Path.{◌≡◌, refl, ap, ap₂, sym, ◌∙◌}
use mathlib.Core.Bool.{Bool, true, false, ◌||◌, not}
use mathlib.Core.List.{List}
use Prim.Native.Nat.{ℕ, ◌+◌, ◌≤◌, ◌<◌}
use native.Mathlib.Omega.{arith}
use borrow.Author.Tests.{le-leb, lt-leb, le-ltb, ltb-true, ltb-false}
use lib.Dec.{eqb, ltb}
use lib.ListN.{length, get_or}
use Rattle.std.specs.Prelude.{Some}
use Rattle.format.specs.declared.types.Typed.{Typed}
use Rattle.format.specs.Heads.{short, end_at, body_length}
use Rattle.format.specs.Types.{Ty, Read, got, unfit, ends_with, whole_type}
use Rattle.format.specs.Answers.{body_at, typed_of}
use Rattle.format.proofs.HeadLaws.{lies}
use Rattle.format.proofs.BodyLaws.{body_size, body_byte, body_type, moved_end}
use Rattle.records.specs.Records.{bad_slot}

-- the body of a slot record, read alone
module _ (s : List ℕ) (at : ℕ) (h : short s at ≡ false) where
  ends_at : end_at s at ≡ at + 4 + length (body_at s at)
  ends_at = omega (arith, (lies s at h).ordered, body_size s at h)

  same_end : ends_with (end_at s at) (whole_type s (end_at s at) (at + 4 + 1))
      ≡ ends_with (length (body_at s at)) (whole_type (body_at s at) (length (body_at s at)) 1)
  same_end =
      let p : at + 4 + 1 ≡ at + 5 = omega arith in
      ap (λ (x : ℕ). ends_with (end_at s at) (whole_type s (end_at s at) x)) p
      ∙ ap₂ (λ (x : ℕ) (r : Read Ty). ends_with x r) ends_at (body_type s at h)
      ∙ moved_end (at + 4) (length (body_at s at)) (whole_type (body_at s at) (length (body_at s at)) 1)

  same_byte : 0 < body_length s at → get_or s (at + 4) 0 ≡ get_or (body_at s at) 0 0
  same_byte l = let q : at + 4 ≡ at + 4 + 0 = omega arith in ap (λ (x : ℕ). get_or s x 0) q ∙ sym (body_byte s at h 0 0 l)

  pub slot_in_body : bad_slot s (at + 4) (end_at s at) ≡ bad_slot (body_at s at) 0 (length (body_at s at))
  unfolding bad_slot
  slot_in_body = go (ltb 0 (body_length s at)) refl
    where
      n : ℕ
      n = length (body_at s at)

      go : (t : Bool) → ltb 0 (body_length s at) ≡ t → bad_slot s (at + 4) (end_at s at) ≡ bad_slot (body_at s at) 0 n
      go true t =
          let l = ltb-true 0 (body_length s at) t in
          rw (
            lt-leb (end_at s at) (at + 4) (omega (arith, ends_at, body_size s at h)),
            lt-leb n 0 (omega (arith, body_size s at h)),
          ) (ap₂ (λ (x : ℕ) (b : Bool). ltb 12 x || not b) (same_byte l) same_end)
      go false t =
          let l = ltb-false 0 (body_length s at) t in
          rw (le-leb (end_at s at) (at + 4) (omega (arith, ends_at, body_size s at h)), le-leb n 0 (omega (arith, body_size s at h)))

-- a body whose type is known
pub slot_typed : (s : List ℕ) (body end : ℕ) (x : Typed) → body < end → get_or s body 0 ≤ 12 → Some x ≡ typed_of (whole_type s end (body + 1))
    → bad_slot s body end ≡ not (eqb x.end end)
unfolding bad_slot
slot_typed s body end x l m e = rw (lt-leb end body l, le-ltb 12 (get_or s body 0) m) (go (whole_type s end (body + 1)) e)
  where
    go : (r : Read Ty) → Some x ≡ typed_of r → not (ends_with end r) ≡ not (eqb x.end end)
    go (got t next) e = let q : x.end ≡ next = cc in rw q
    go unfit e = cc
