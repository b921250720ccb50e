-- The stages together answer what `decode` says. Assumes nothing.
use mathlib.Core.Path.{◌≡◌, refl, ap, sym, ◌∙◌}
use mathlib.Core.List.{List, ◌++◌}
use mathlib.Core.Option.{Option, none, some}
use Prim.Native.Nat.{ℕ, zero, suc}
use native.Mathlib.Omega.{arith}
use lib.ListN.{replicate}
use Rattle.std.specs.Prelude.{Result, Ok, Err, MatchResult, IsErrAnd}
use Rattle.std.proofs.lemmas.Result.{err_from_is_err_and}
use Rattle.format.specs.declared.refusal.Refusal.{Refusal}
use Rattle.format.specs.Refusals.{or_else, answered}
use Rattle.format.specs.Heads.{end_at}
use Rattle.records.specs.Records.{function_fault, parameters_fault, slot_fault, instruction_fault}
use Rattle.sheet.specs.declared.script.Refused.{Refused}
use Rattle.sheet.specs.Decode.{
  id_in,
  slots_in,
  count_in,
  Due,
  slot,
  instruction,
  dues,
  sizes_fault,
  fault_at,
  first_bad,
  offset_of,
  parameters_at,
  slots_at,
  code_at,
  end_fault,
  refusal,
  id_of,
  instruction_of,
  records_from,
  parts_of,
}
use Rattle.sheet.specs.Scripts.{awaits_in, script_of, checked_by, checked_of}
use Rattle.sheet.specs.Code.{no_code, code_from}
use Rattle.sheet.specs.Stages.{first_of, last_fault, rest_fault, script_from}
use Rattle.sheet.proofs.WalkLaws.{or_first}
use Rattle.sheet.proofs.CodeLaws.{awaits_are}

-- records of one sort, and then others
same_first : (s : List ℕ) (d : Due) (ds : List Due) (at n : ℕ)
    → first_bad s (replicate n d ++ ds) at ≡ or_else (first_of (λ a. fault_at s d a) s at n) (first_bad s ds (offset_of s at n))
unfolding first_bad first_of offset_of
same_first s d ds at zero = refl
same_first s d ds at (suc n) =
    ap (or_else (fault_at s d at)) (same_first s d ds (end_at s at) n)
    ∙ sym (or_first (fault_at s d at) (first_of (λ a. fault_at s d a) s (end_at s at) n) (first_bad s ds (offset_of s (end_at s at) n)))

only-first : (s : List ℕ) (d : Due) (at n : ℕ) → first_bad s (replicate n d) at ≡ first_of (λ a. fault_at s d a) s at n
unfolding first_bad first_of
only-first s d at zero = refl
only-first s d at (suc n) = ap (or_else (fault_at s d at)) (only-first s d (end_at s at) n)

-- the refusals of the slot records and of the instruction records
abbrev pub slots_fault : List ℕ → Option Refusal
slots_fault s = first_of (λ a. slot_fault s a) s (slots_at s) (slots_in s)

abbrev pub code_fault : List ℕ → Option Refusal
code_fault s = first_of (λ a. instruction_fault s (slots_in s) (count_in s) a) s (code_at s) (count_in s)

-- the refusal of a sheet, sort by sort
pub by_sorts : (s : List ℕ) → refusal s ≡
    or_else (function_fault s 0)
    (or_else (sizes_fault (slots_in s) (count_in s))
    (or_else (parameters_fault s (slots_in s) (parameters_at s)) (or_else (slots_fault s) (or_else (code_fault s) (end_fault s)))))
unfolding refusal dues first_bad fault_at
by_sorts s =
    or_first (or_else (function_fault s 0) (sizes_fault (slots_in s) (count_in s))) _ (end_fault s)
    ∙ or_first (function_fault s 0) (sizes_fault (slots_in s) (count_in s)) _
    ∙ ap (λ (r : Option Refusal). or_else (function_fault s 0) (or_else (sizes_fault (slots_in s) (count_in s)) r))
    (or_first (parameters_fault s (slots_in s) (parameters_at s)) _ (end_fault s)
    ∙ ap (λ (r : Option Refusal). or_else (parameters_fault s (slots_in s) (parameters_at s)) (or_else r (end_fault s)))
    (same_first s slot (replicate (count_in s) instruction) (slots_at s) (slots_in s)
    ∙ ap (or_else (slots_fault s)) (only-first s instruction (code_at s) (count_in s)))
    ∙ ap (or_else (parameters_fault s (slots_in s) (parameters_at s))) (or_first (slots_fault s) (code_fault s) (end_fault s)))

-- the scripts are the same
same_script : (s : List ℕ) → script_from s (id_in s) (slots_in s) (count_in s) (parameters_at s) ≡ script_of s
unfolding script_from script_of parts_of
same_script s =
    let q : (code_from s (code_at s) (count_in s) no_code).awaits ≡ awaits_in (records_from (instruction_of s) s (code_at s) (count_in s)) =
    awaits_are s (code_at s) (count_in s) no_code ∙ omega arith in
    rw q

-- an answer, with the function id if it is a refusal
abbrev pub with_id : {A : Type 0} → ℕ → Result A Refusal → Result A Refused
with_id id (Ok a) = Ok a
with_id id (Err r) = Err (record { why = r; id = id })

-- which is what `map_err` makes of it
pub mapped : {A : Type 0} {Q : Refusal → Refused → Type 0} (id : ℕ) (x : Result A Refusal) (y : Result A Refused)
    → MatchResult x (λ a. y ≡ Ok a) (λ r. IsErrAnd y (Q r)) → ((r : Refusal) (e : Refused) → Q r e → e ≡ record { why = r; id = id }) → y ≡ with_id id x
mapped id (Ok a) y m f = m
mapped id (Err r) y m f = let p = err_from_is_err_and y m in p.1 ∙ ap Err (f r p.0 p.2)

module _ (s : List ℕ) where
  -- a function record that did not pass, and one that did
  pub function_bad : (e : Refused) → with_id {A = Unit {0}} 0 (answered (function_fault s 0) (tt {0})) ≡ Err e → Err e ≡ checked_of s
  unfolding checked_of id_of
  function_bad e h = go (function_fault s 0) refl h
    where
      go : (f : Option Refusal) → function_fault s 0 ≡ f → with_id {A = Unit {0}} 0 (answered f (tt {0})) ≡ Err e → Err e ≡ checked_of s
      go none q h = let z : ◌≡◌ {A = ℕ} 0 1 = cc in absurd (omega arith)
      go (some r) q h = let p : e ≡ record { why = r; id = 0 } = cc in rw (p, by_sorts s, q)

  pub function_passed : (x : Unit {0}) → with_id {A = Unit {0}} 0 (answered (function_fault s 0) (tt {0})) ≡ Ok x → function_fault s 0 ≡ none
  function_passed x h = go (function_fault s 0) h
    where
      go : (f : Option Refusal) → with_id {A = Unit {0}} 0 (answered f (tt {0})) ≡ Ok x → f ≡ none
      go none h = refl
      go (some r) h = let z : ◌≡◌ {A = ℕ} 0 1 = cc in absurd (omega arith)

  -- then what stands behind it decides
  pub rest_decides : function_fault s 0 ≡ none
      → with_id (id_in s) (answered (rest_fault s (slots_in s) (count_in s) (parameters_at s)) (script_from s (id_in s) (slots_in s) (count_in s) (parameters_at s)))
      ≡ checked_of s
  unfolding checked_of id_of rest_fault last_fault end_fault
  rest_decides e = rw (by_sorts s, e) (go (rest_fault s (slots_in s) (count_in s) (parameters_at s)))
    where
      go : (f : Option Refusal) → with_id (id_in s) (answered f (script_from s (id_in s) (slots_in s) (count_in s) (parameters_at s)))
          ≡ checked_by f (id_in s) (script_of s)
      go none = ap Ok (same_script s)
      go (some r) = refl
