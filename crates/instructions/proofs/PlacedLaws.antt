-- An instruction as the code holds it. Assumes nothing.
use mathlib.Core.Path.{◌≡◌, ap, sym, ◌∙◌}
use mathlib.Core.Bool.{false}
use mathlib.Core.List.{List, map}
use Prim.Native.Nat.{ℕ, ◌+◌, ◌*◌, ◌-◌, ◌/◌, ◌≤◌}
use native.Mathlib.Omega.{arith}
use lib.ListN.{length, drop, take, length-drop}
use Rattle.std.proofs.lemmas.List.{length-take-le}
use Rattle.std.specs.Simd.{first_chunks}
use Rattle.operands.specs.Bytes.{number_in}
use Rattle.operands.proofs.NumberLaws.{chunk_numbers}
use Rattle.format.specs.Heads.{u16_at, short, fields_at}
use Rattle.format.proofs.BodyLaws.{body_fields, chunks_of_front}
use Rattle.sheet.specs.Decode.{parts_of}
use Rattle.sheet.specs.declared.script.Script.{Script}
use Rattle.instructions.specs.Sound.{Sound}

-- the fields of a record as the code takes them, from its length n
pub made_fields : (s : List ℕ) (at n : ℕ) → n ≡ u16_at s at → short s at ≡ false
    → map number_in (first_chunks 4 (length (take (at + 2 + n - (at + 4)) (drop (at + 4) s)) / 4) (take (at + 2 + n - (at + 4)) (drop (at + 4) s)))
    ≡ fields_at s at
made_fields s at n e h = rw e (body_fields s at h)

-- and the parameters of a sheet that passed
pub made_parameters : (s : List ℕ) (x : Script) → Sound s x
    → map number_in (first_chunks 4 (length (take (x.params_at + 4 * x.params - x.params_at) (drop x.params_at s)) / 4)
    (take (x.params_at + 4 * x.params - x.params_at) (drop x.params_at s))) ≡ (parts_of s).params
made_parameters s x ok =
    let m : x.params_at + 4 * x.params - x.params_at ≡ 4 * x.params = omega arith in
    let d = length-drop x.params_at s in
    let inside : 4 * x.params ≤ length (drop x.params_at s) = omega (arith, ok.params_inside) in
    let q : length (take (4 * x.params) (drop x.params_at s)) / 4 ≡ x.params = omega (arith, length-take-le (4 * x.params) (drop x.params_at s) inside) in
    rw (m, q)
    (ap (map number_in) (chunks_of_front x.params (4 * x.params) (drop x.params_at s) (omega arith))
    ∙ chunk_numbers s x.params_at x.params ∙ sym ok.params_are)
