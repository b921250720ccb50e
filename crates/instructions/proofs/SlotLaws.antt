-- A slot as the code holds it. Assumes nothing.
use mathlib.Core.Path.{◌≡◌, refl, ap, sym, subst, ◌∙◌}
use mathlib.Core.Bool.{Bool, true, false, ◌||◌}
use mathlib.Core.List.{List}
use Prim.Native.Nat.{ℕ, zero, suc, ◌+◌, ◌-◌, ◌≤◌, ◌<◌}
use native.Mathlib.Omega.{arith}
use borrow.Author.Tests.{ne_eqb, lt-leb, le-leb}
use lib.Dec.{eqb}
use lib.ListN.{length, get_or, take, drop}
use Rattle.std.specs.Prelude.{Option, MatchOption}
use Rattle.operands.specs.Choice.{pick}
use Rattle.format.specs.Types.{Ty, absent, inline_host, Read, got, unfit, leaf, type_at, whole_type}
use Rattle.format.specs.Answers.{typed_of, body_at}
use Rattle.format.specs.declared.types.Typed.{Typed}
use Rattle.format.specs.Heads.{u16_at, end_at}
use Rattle.format.proofs.HeadLaws.{lies}
use Rattle.format.proofs.BodyLaws.{body_byte, moved, body_type}
use Rattle.records.specs.Records.{plain_slot}
use Rattle.records.proofs.PlainLaws.{plain}
use Rattle.sheet.specs.Decode.{type_in, slot_of, is_host}
use Rattle.instructions.specs.declared.slot.SlotRecord.{SlotRecord}
use Rattle.instructions.specs.Slots.{SlotStands, slot_record_at}

-- its record lies in the sheet
pub record SlotWithin (s : List ℕ) (at : ℕ) : Type 0 where
  pub some_body : at + 5 ≤ end_at s at
  pub within : end_at s at ≤ length s

pub slot_lies : {s : List ℕ} {at : ℕ} → SlotStands s at → SlotWithin s at
slot_lies {s} {at} h = let w = lies s at h.whole in record { some_body = omega (arith, h.some_body); within = w.within }

-- and so does a body of two bytes
pub two_bytes : (s : List ℕ) (at : ℕ) → SlotStands s at → u16_at s at ≡ 4 → at + 6 ≤ length s
two_bytes s at h e = let w = slot_lies h in omega (arith, w.within)

-- whether a type that was read in a body is a host type, as the code tells it
host_told : (r : Read Ty) (n : ℕ) (o : Option Typed) (b : Bool) → o ≡ typed_of r → MatchOption o (b ≡ false) (λ x. b ≡ x.host)
    → b ≡ inline_host (type_in (moved n r))
host_told (got t next) n o b e m = subst (λ (o : Option Typed). MatchOption o (b ≡ false) (λ x. b ≡ x.host)) e m
host_told unfit n o b e m = subst (λ (o : Option Typed). MatchOption o (b ≡ false) (λ x. b ≡ x.host)) e m

-- what is made of a body is the slot there
pub slot_made : (s : List ℕ) (at n : ℕ) (o : Option Typed) (b : Bool) → SlotStands s at → n ≡ u16_at s at
    → o ≡ typed_of (whole_type (take (at + 2 + n - (at + 4)) (drop (at + 4) s)) (length (take (at + 2 + n - (at + 4)) (drop (at + 4) s))) 1)
    → MatchOption o (b ≡ false) (λ x. b ≡ x.host)
    → ◌≡◌ {A = SlotRecord} (
    record { physical = get_or (take (at + 2 + n - (at + 4)) (drop (at + 4) s)) 0 0; inline_host = b; next = at + 2 + n }
    ) (slot_record_at s at)
unfolding slot_record_at
slot_made s at n o b h e q m =
    let w = slot_lies h in
    let z : at + 4 + 0 ≡ at + 4 = omega arith in
    let end : at + 2 + n ≡ end_at s at = ap (λ (x : ℕ). at + 2 + x) e in
    let body : take (at + 2 + n - (at + 4)) (drop (at + 4) s) ≡ body_at s at = ap (λ (x : ℕ). take (x - (at + 4)) (drop (at + 4) s)) end in
    let physical : get_or (take (at + 2 + n - (at + 4)) (drop (at + 4) s)) 0 0 ≡ get_or s (at + 4) 0 =
    ap (λ (l : List ℕ). get_or l 0 0) body ∙ body_byte s at h.whole 0 0 (omega (arith, w.some_body)) ∙ ap (λ (j : ℕ). get_or s j 0) z in
    let told : b ≡ inline_host (slot_of s at).type =
    host_told (whole_type (body_at s at) (length (body_at s at)) 1) (at + 4) o b (q ∙ ap (λ (l : List ℕ). typed_of (whole_type l (length l) 1)) body) m
    ∙ ap (λ (r : Read Ty). inline_host (type_in r)) (sym (body_type s at h.whole)) in
    rw (physical, told, end)

-- a type in one byte
byte_read : (s : List ℕ) (at : ℕ)
    → whole_type s (at + 1) at ≡ pick (eqb (get_or s at 0) 0) (got absent (at + 1)) (pick (eqb (get_or s at 0) 4) unfit (leaf (get_or s at 0) at))
unfolding whole_type type_at
byte_read s at = rw (lt-leb (at + 1) at (omega arith), le-leb (at + 1) (at + 1) (omega arith))

read_host : (b at : ℕ) → inline_host (type_in (pick (eqb b 0) (got absent (at + 1)) (pick (eqb b 4) unfit (leaf b at)))) ≡ (eqb b 2 || eqb b 3)
unfolding leaf
read_host zero at = refl
read_host (suc zero) at = refl
read_host (suc (suc zero)) at = refl
read_host (suc (suc (suc zero))) at = refl
read_host (suc (suc (suc (suc zero)))) at = refl
read_host (suc (suc (suc (suc (suc b))))) at =
    rw (other 0 (omega arith), other 1 (omega arith), other 2 (omega arith), other 3 (omega arith), other 4 (omega arith))
  where
    other : (n : ℕ) → n < 5 → eqb (suc (suc (suc (suc (suc b))))) n ≡ false
    other n h = ne_eqb (suc (suc (suc (suc (suc b))))) n (λ e. omega arith)

pub byte_host : (s : List ℕ) (at : ℕ) → inline_host (type_in (whole_type s (at + 1) at)) ≡ (eqb (get_or s at 0) 2 || eqb (get_or s at 0) 3)
byte_host s at = ap (λ (r : Read Ty). inline_host (type_in r)) (byte_read s at) ∙ read_host (get_or s at 0) at

-- the slot of a body of two bytes
pub plain_host : (s : List ℕ) (at : ℕ) → u16_at s at ≡ 4
    → is_host (slot_of s at) ≡ (eqb (get_or s (at + 4) 0) 10 || (eqb (get_or s (at + 5) 0) 2 || eqb (get_or s (at + 5) 0) 3))
unfolding is_host
plain_host s at e =
    let r : at + 5 + 1 ≡ end_at s at = omega arith in
    ap (λ (b : Bool). eqb (get_or s (at + 4) 0) 10 || b) (rw r at (byte_host s (at + 5)))

-- a slot with a plain record below the host types is no host slot
pub no_host : (s : List ℕ) (at : ℕ) → plain_slot s 1 at ≡ true → is_host (slot_of s at) ≡ false
no_host s at e =
    let p = plain s 1 at e in
    plain_host s at p.long
    ∙ rw (
      ne_eqb (get_or s (at + 4) 0) 10 (λ z. omega (arith, p.physical)),
      ne_eqb (get_or s (at + 5) 0) 2 (λ z. omega (arith, p.type)),
      ne_eqb (get_or s (at + 5) 0) 3 (λ z. omega (arith, p.type)),
    )
