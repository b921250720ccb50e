-- An answer that is the defined one meets the contract of `check`. Assumes nothing.
use mathlib.Core.Path.{◌≡◌, refl, sym, ap, subst, ◌∙◌}
use mathlib.Core.List.{List}
use mathlib.Core.Option.{Option, none, some}
use Prim.Native.Nat.{ℕ}
use Rattle.format.specs.declared.refusal.Refusal.{Refusal}
use Rattle.std.specs.Prelude.{Result}
use Rattle.sheet.specs.declared.script.Script.{Script}
use Rattle.sheet.specs.declared.script.Refused.{Refused}
use Rattle.sheet.specs.Decode.{refusal, id_of, parts_of, decoded, decode}
use Rattle.sheet.specs.Rows.{Table}
use Rattle.sheet.specs.Scripts.{script_of, checked_by, checked_of}
use Rattle.sheet.specs.Checks.{outcome_of, Inside, Checks}
use Rattle.sheet.proofs.Checked.{passed, inside_of}
use Rattle.sheet.proofs.Numbers.{table}

same_outcome : (s : List ℕ) (f : Option Refusal) → outcome_of s (checked_by f (id_of s) (script_of s)) ≡ decoded f (id_of s) (parts_of s)
same_outcome s none = refl
same_outcome s (some r) = refl

means : (s : List ℕ) (r : Result Script Refused) → r ≡ checked_of s → outcome_of s r ≡ decode s
unfolding decode checked_of
means s r e = ap (outcome_of s) e ∙ same_outcome s (refusal s)

pub checks : (s : List ℕ) (r : Result Script Refused) → r ≡ checked_of s → Checks s r
unfolding decode checked_of
checks s r e = record {
  answer = e;
  outcome = means s r e;
  table = subst (Table s) (sym (means s r e)) (table s);
  inside = λ x q.
      let p = passed s x (sym e ∙ q) in
      subst (Inside s) (sym p.1) (inside_of s p.0);
}
