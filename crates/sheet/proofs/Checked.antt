-- What `check` ensures, from its answer: a sheet that passed has no refusal due at any record, and its parts lie in the sheet. Assumes nothing.
use mathlib.Core.Path.{◌≡◌, refl, sym, ◌∙◌}
use mathlib.Core.Bool.{true, ◌||◌, not}
use mathlib.Core.List.{List}
use mathlib.Core.Option.{Option, none, some}
use Prim.Native.Nat.{ℕ, zero, suc, ◌-◌, ◌≤◌, ◌<◌}
use native.Mathlib.Omega.{arith}
use borrow.Author.Tests.{not-false, eqb-true, ltb-false}
use lib.Dec.{eqb, ltb}
use lib.ListN.{length}
use Rattle.std.specs.Prelude.{Ok}
use Rattle.operands.specs.Kinds.{ends_block}
use Rattle.format.specs.declared.refusal.Refusal.{Refusal}
use Rattle.format.specs.declared.refusal.Refusal.TheVariants.{LeftOver, TooMany, NoCode, OpenEnd}
use Rattle.format.specs.Refusals.{due}
use Rattle.format.specs.Heads.{kind_at, end_at}
use Rattle.records.specs.Records.{function_fault, parameters_fault}
use Rattle.std.proofs.lemmas.Bool.{or_parts}
use Rattle.records.proofs.Passed.{none-due, neither, parameters-passed}
use Rattle.format.proofs.HeadLaws.{lies}
use Rattle.sheet.specs.declared.script.Script.{Script}
use Rattle.sheet.specs.Decode.{slots_in, count_in, sizes_fault, offset_of, parameters_at, slots_at, code_at, instruction_at, end_fault, refusal, id_of}
use Rattle.sheet.specs.Stages.{first_of}
use Rattle.sheet.specs.Checks.{Inside}
use Rattle.sheet.specs.Scripts.{script_of, checked_by, checked_of}
use Rattle.sheet.proofs.Answer.{slots_fault, code_fault, by_sorts}
use Rattle.sheet.proofs.StageLaws.{some_code}

-- no refusal is due, sort by sort
pub record Clean (s : List ℕ) : Type 0 where
  pub function_ok : function_fault s 0 ≡ none
  pub sizes_ok : sizes_fault (slots_in s) (count_in s) ≡ none
  pub parameters_ok : parameters_fault s (slots_in s) (parameters_at s) ≡ none
  pub slots_ok : slots_fault s ≡ none
  pub code_ok : code_fault s ≡ none
  pub end_ok : end_fault s ≡ none

pub clean : (s : List ℕ) → refusal s ≡ none → Clean s
clean s e =
    let a = neither _ _ (sym (by_sorts s) ∙ e) in
    let b = neither _ _ a.1 in
    let c = neither _ _ b.1 in
    let d = neither _ _ c.1 in
    let f = neither _ _ d.1 in
    record { function_ok = a.0; sizes_ok = b.0; parameters_ok = c.0; slots_ok = d.0; code_ok = f.0; end_ok = f.1 }

-- each of the records passed
pub each_none : (fault : ℕ → Option Refusal) (s : List ℕ) (at n : ℕ) → first_of fault s at n ≡ none → (k : ℕ) → k < n
    → fault (offset_of s at k) ≡ none
unfolding first_of offset_of
each_none fault s at zero e k h = absurd (omega arith)
each_none fault s at (suc n) e zero h = (neither (fault at) (first_of fault s (end_at s at) n) e).0
each_none fault s at (suc n) e (suc k) h =
    each_none fault s (end_at s at) n (neither (fault at) (first_of fault s (end_at s at) n) e).1 k (omega arith)

-- the end of a sheet that passed
pub ends-well : (s : List ℕ) → end_fault s ≡ none
    → (instruction_at s (count_in s) ≡ length s) × (ends_block (kind_at s (instruction_at s (count_in s - 1))) ≡ true)
unfolding end_fault
ends-well s e =
    let a = none-due (not (eqb (instruction_at s (count_in s)) (length s))) LeftOver
    (due (not (ends_block (kind_at s (instruction_at s (count_in s - 1))))) OpenEnd none) e in
    let b = none-due (not (ends_block (kind_at s (instruction_at s (count_in s - 1))))) OpenEnd none a.1 in
    (eqb-true _ _ (not-false _ a.0), not-false _ b.0)

-- its sizes and its end
pub record Sized (s : List ℕ) : Type 0 where
  pub few_slots : slots_in s ≤ 65536
  pub few_code : count_in s ≤ 65536
  pub code_there : 1 ≤ count_in s
  pub ends : instruction_at s (count_in s) ≡ length s
  pub last_ends : ends_block (kind_at s (instruction_at s (count_in s - 1))) ≡ true

pub sized : (s : List ℕ) → Clean s → Sized s
unfolding sizes_fault
sized s c =
    let a = none-due (ltb 65536 (slots_in s) || ltb 65536 (count_in s)) TooMany (due (eqb (count_in s) 0) NoCode none) c.sizes_ok in
    let b = or_parts (ltb 65536 (slots_in s)) (ltb 65536 (count_in s)) a.0 in
    let d = ends-well s c.end_ok in
    record {
      few_slots = ltb-false _ _ b.0;
      few_code = ltb-false _ _ b.1;
      code_there = some_code (slots_in s) (count_in s) c.sizes_ok;
      ends = d.0;
      last_ends = d.1;
    }

-- a later record stands further on
pub offset_up : (s : List ℕ) (at k : ℕ) → at ≤ offset_of s at k
unfolding offset_of
offset_up s at zero = omega arith
offset_up s at (suc k) = let h = offset_up s (end_at s at) k in omega arith

pub inside_of : (s : List ℕ) → refusal s ≡ none → Inside s (script_of s)
unfolding script_of
inside_of s e =
    let c = clean s e in
    let p = parameters-passed s (slots_in s) (parameters_at s) c.parameters_ok in
    let w = lies s (parameters_at s) p.all_slots.whole in
    let z = sized s c in
    let u = offset_up s (code_at s) (count_in s) in
    record {
      params_end = omega (arith, w.ordered);
      slots_end = offset_up s (slots_at s) (slots_in s);
      code_end = omega (arith, z.ends);
    }

-- the script of a sheet that passed
pub passed : (s : List ℕ) (x : Script) → checked_of s ≡ Ok x → (refusal s ≡ none) × (x ≡ script_of s)
unfolding checked_of
passed s x e = go (refusal s) e
  where
    go : (f : Option Refusal) → checked_by f (id_of s) (script_of s) ≡ Ok x → (f ≡ none) × (x ≡ script_of s)
    go none e = let q : x ≡ script_of s = cc in (refl, q)
    go (some r) e = let z : ◌≡◌ {A = ℕ} 0 1 = cc in absurd (omega arith)
