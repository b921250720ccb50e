-- The kinds of the instruction records walked over, and how many are awaits. Assumes nothing.
use mathlib.Core.Path.{◌≡◌, refl, ap, ◌∙◌}
use mathlib.Core.Bool.{Bool, true, false}
use mathlib.Core.List.{List}
use mathlib.Core.Option.{none}
use Prim.Native.Nat.{ℕ, zero, suc, ◌+◌, ◌-◌, ◌≤◌}
use native.Mathlib.Omega.{arith}
use Rattle.std.specs.Prelude.{Some}
use Rattle.std.specs.Int.{from_bool}
use Rattle.operands.specs.Choice.{pick}
use Rattle.operands.specs.declared.kind.Kind.{Kind}
use Rattle.operands.specs.Kinds.{kind_number, kind_of, ends_block, is_await}
use Rattle.operands.proofs.KindLaws.{number_back}
use Rattle.format.specs.Heads.{kind_at, end_at}
use Rattle.records.specs.Records.{instruction_fault}
use Rattle.records.proofs.Passed.{neither, instruction-passed}
use Rattle.sheet.specs.declared.walk.Code.{Code}
use Rattle.sheet.specs.Decode.{offset_of, instruction_of, records_from}
use Rattle.sheet.specs.Scripts.{awaits_in}
use Rattle.sheet.specs.Stages.{first_of}
use Rattle.sheet.specs.Code.{code_from, closes}

-- the kind of an instruction that passed, by its number
pub same_kind : (s : List ℕ) (slots n at : ℕ) → instruction_fault s slots n at ≡ none → kind_number (kind_of (kind_at s at)) ≡ kind_at s at
same_kind s slots n at e = let p = instruction-passed s slots n at e in number_back (kind_at s at) p.low p.high

-- an await counts once
pub await_once : (b : Bool) → from_bool b ≤ 1
await_once true = omega arith
await_once false = omega arith

-- one record more
pub code_more : (s : List ℕ) (slots n at rest left next awaits : ℕ) (c : Code) (k : Kind) → left ≡ suc rest → instruction_fault s slots n at ≡ none
    → next ≡ end_at s at → k ≡ kind_of (kind_at s at) → awaits ≡ c.awaits + from_bool (is_await (kind_number k))
    → code_from s at left c ≡ code_from s next rest (record { last = Some k; awaits = awaits })
unfolding code_from
code_more s slots n at rest left next awaits c k l e p q a =
    let t : awaits ≡ c.awaits + from_bool (is_await (kind_at s at)) = a ∙ rw (q, same_kind s slots n at e) in
    rw (l, p, q, t)

pub code_end : (s : List ℕ) (at left : ℕ) (c : Code) → left ≡ 0 → code_from s at left c ≡ c
unfolding code_from
code_end s at left c l = rw l

-- whether a block ends with the last one, where all passed
pub last_closes : (s : List ℕ) (slots n at k : ℕ) (c : Code) → 1 ≤ k → first_of (λ a. instruction_fault s slots n a) s at k ≡ none
    → closes (code_from s at k c).last ≡ ends_block (kind_at s (offset_of s at (k - 1)))
unfolding code_from first_of offset_of
last_closes s slots n at zero c h e = absurd (omega arith)
last_closes s slots n at (suc zero) c h e = ap ends_block (same_kind s slots n at (neither (instruction_fault s slots n at) none e).0)
last_closes s slots n at (suc (suc k)) c h e =
    let q : suc (suc k) - 1 ≡ suc (suc k - 1) = omega arith in
    let rest = (neither (instruction_fault s slots n at) (first_of (λ a. instruction_fault s slots n a) s (end_at s at) (suc k)) e).1 in
    let c' : Code = record { last = Some (kind_of (kind_at s at)); awaits = c.awaits + from_bool (is_await (kind_at s at)) } in
    last_closes s slots n (end_at s at) (suc k) c' (omega arith) rest ∙ rw q

-- the awaits of a sheet's instructions
once : (b : Bool) → from_bool b ≡ pick b 1 0
once true = refl
once false = refl

pub awaits_are : (s : List ℕ) (at k : ℕ) (c : Code) → (code_from s at k c).awaits ≡ c.awaits + awaits_in (records_from (instruction_of s) s at k)
unfolding code_from awaits_in records_from
awaits_are s at zero c = omega arith
awaits_are s at (suc k) c =
    let x = awaits_are s (end_at s at) k (record { last = Some (kind_of (kind_at s at)); awaits = c.awaits + from_bool (is_await (kind_at s at)) }) in
    let o = once (is_await (kind_at s at)) in
    omega arith
