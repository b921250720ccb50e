-- A sheet that passed the checks is sound. Assumes nothing.
use mathlib.Core.Path.{◌≡◌, refl, ap, sym, subst, ◌∙◌}
use mathlib.Core.Bool.{Bool, true, false}
use mathlib.Core.List.{List, []}
use mathlib.Core.Option.{none, some}
use Prim.Native.Nat.{ℕ, zero, suc, ◌+◌, ◌/◌, ◌≤◌, ◌<◌}
use native.Mathlib.Omega.{arith}
use lib.ListN.{length, get_or}
use Rattle.std.specs.Prelude.{Result, Ok}
use Rattle.operands.specs.Choice.{pick}
use Rattle.operands.specs.Kinds.{is_await}
use Rattle.operands.specs.Bytes.{numbers_at}
use Rattle.operands.specs.Patterns.{fits}
use Rattle.operands.specs.Operands.{inputs_of, output_of, targets_of}
use Rattle.operands.proofs.NumberLaws.{number_count}
use Rattle.format.specs.Heads.{kind_at, end_at, body_length, fields_at}
use Rattle.format.specs.Fields.{no_slot, no_target}
use Rattle.format.proofs.HeadLaws.{lies}
use Rattle.records.specs.Records.{slot_fault, instruction_fault}
use Rattle.records.proofs.Passed.{InstructionPassed, parameters-passed, slot-passed, instruction-passed, none_above}
use Rattle.sheet.specs.declared.script.Script.{Script}
use Rattle.sheet.specs.declared.script.Refused.{Refused}
use Rattle.sheet.specs.Decode.{
  slots_in,
  count_in,
  slot_of,
  instruction_of,
  records_from,
  offset_of,
  parameters_at,
  slots_at,
  code_at,
  refusal,
  parts_of,
  decode,
}
use Rattle.sheet.specs.Checks.{Checks}
use Rattle.sheet.specs.Scripts.{awaits_in, script_of, checked_of}
use Rattle.sheet.proofs.Checked.{clean, each_none, sized, offset_up, passed}
use Rattle.sheet.proofs.WordLaws.{few_words, behind-words}
use Rattle.bitset.specs.Below.{AllBelow}
use Rattle.instructions.specs.declared.checked.Sheet.{Sheet}
use Rattle.instructions.specs.Sound.{Sound}
use Rattle.instructions.proofs.Operands.{no_field_at, inputs_ok, output_ok, targets_ok}
use Rattle.instructions.proofs.SlotLaws.{no_host}
use Rattle.instructions.proofs.SetSteps.{offset-next}

-- what stands in the k-th record
pub record-at : {A : Type 0} (read : ℕ → A) (s : List ℕ) (at n k : ℕ) (d : A) → k < n → get_or (records_from read s at n) k d ≡ read (offset_of s at k)
unfolding records_from offset_of
record-at read s at zero k d h = absurd (omega arith)
record-at read s at (suc n) zero d h = refl
record-at read s at (suc n) (suc k) d h = record-at read s (end_at s at) n k d (omega arith)

-- a later record stands further on
offset-far : (s : List ℕ) (at k n : ℕ) → k ≤ n → offset_of s at k ≤ offset_of s at n
unfolding offset_of
offset-far s at zero n h = offset_up s at n
offset-far s at (suc k) zero h = absurd (omega arith)
offset-far s at (suc k) (suc n) h = offset-far s (end_at s at) k n (omega arith)

-- the awaits are some of the instructions
awaits-few : (s : List ℕ) (at n : ℕ) → awaits_in (records_from (instruction_of s) s at n) ≤ n
unfolding awaits_in records_from
awaits-few s at zero = omega arith
awaits-few s at (suc n) = go (is_await (kind_at s at)) (awaits-few s (end_at s at) n)
  where
    go : (b : Bool) → awaits_in (records_from (instruction_of s) s (end_at s at) n) ≤ n
        → pick b 1 0 + awaits_in (records_from (instruction_of s) s (end_at s at) n) ≤ suc n
    go true h = omega arith
    go false h = omega arith

-- what is known of an instruction whose record passed
record Good (s : List ℕ) (slots n at : ℕ) : Type 0 where
  pub readable : fits (kind_at s at) (length (fields_at s at)) ≡ true
  pub inputs : AllBelow slots (inputs_of (kind_at s at) (fields_at s at))
  pub output : (x : ℕ) → output_of (kind_at s at) (fields_at s at) ≡ some x → x < slots
  pub targets : AllBelow n (targets_of (kind_at s at) (fields_at s at))

good : (s : List ℕ) (slots n at : ℕ) → InstructionPassed s slots n at → Good s slots n at
unfolding fields_at
good s slots n at p =
    let slots_ok = no_field_at (no_slot slots) (kind_at s at) (fields_at s at) p.slots_there in
    let targets_there = no_field_at (no_target n) (kind_at s at) (fields_at s at) p.targets_there in
    record {
      readable = fit;
      inputs = inputs_ok (kind_at s at) (fields_at s at) p.low p.high fit slots slots_ok;
      output = output_ok (kind_at s at) (fields_at s at) p.low p.high fit slots slots_ok;
      targets = targets_ok (kind_at s at) (fields_at s at) p.low p.high fit n targets_there;
    }
  where
    fit : fits (kind_at s at) (length (fields_at s at)) ≡ true
    fit = ap (fits (kind_at s at)) (number_count s (at + 4) (body_length s at / 4)) ∙ p.fitting

sound_script : (s : List ℕ) → refusal s ≡ none → Sound s (script_of s)
unfolding script_of decode parts_of fields_at
sound_script s e =
    let c = clean s e in
    let z = sized s c in
    let p = parameters-passed s (slots_in s) (parameters_at s) c.parameters_ok in
    let w = lies s (parameters_at s) p.all_slots.whole in
    let up = offset_up s (slots_at s) (slots_in s) in
    let far = offset_up s (code_at s) (count_in s) in
    let instruction : (k : ℕ) → k < count_in s → InstructionPassed s (slots_in s) (count_in s) (offset_of s (code_at s) k) =
    λ k h. instruction-passed s (slots_in s) (count_in s) (offset_of s (code_at s) k)
    (each_none (λ a. instruction_fault s (slots_in s) (count_in s) a) s (code_at s) (count_in s) c.code_ok k h) in
    let ok : (k : ℕ) → k < count_in s → Good s (slots_in s) (count_in s) (offset_of s (code_at s) k) =
    λ k h. good s (slots_in s) (count_in s) (offset_of s (code_at s) k) (instruction k h) in
    record {
      means = rw e;
      id_is = refl;
      slots_are = refl;
      params_are = same_params s;
      kinds_are = refl;
      code_are = refl;
      few_slots = z.few_slots;
      few_code = z.few_code;
      some_code = z.code_there;
      awaits_are = refl;
      few_awaits = awaits-few s (code_at s) (count_in s);
      params_inside = omega (arith, w.ordered, w.within);
      params_below = none_above (slots_in s) (fields_at s (parameters_at s)) p.all_slots.below;
      params_once = p.once;
      slots_stand = record {
        each = λ k h.
            let q = slot-passed s (offset_of s (slots_at s) k) (each_none (λ a. slot_fault s a) s (slots_at s) (slots_in s) c.slots_ok k h) in
            record { whole = q.whole; some_body = q.some_body };
      };
      few_host_words = omega (arith, few_words s (slots_in s) (slots_at s) 0 0 (omega arith));
      hosts_before = λ k h l. no_host s (offset_of s (slots_at s) k) (behind-words s (slots_in s) (slots_at s) 0 0 k (omega arith) l);
      slot_is = λ k d h. record-at (slot_of s) s (slots_at s) (slots_in s) k d h;
      stands = λ k h. let q = instruction k h in record { whole = q.whole; low = q.low; high = q.high };
      next_is = λ k. sym (offset-next s (code_at s) k);
      inside = λ k h. let f = offset-far s (code_at s) k (count_in s) h in omega (arith, z.ends);
      ends = z.ends;
      instruction_is = λ k h.
          record-at (instruction_of s) s (code_at s) (count_in s) k (record { kind = 0; fields = [] }) h;
      readable = λ k h. (ok k h).readable;
      inputs_below = λ k h. (ok k h).inputs;
      output_below = λ k y h. (ok k h).output y;
      targets_below = λ k h. (ok k h).targets;
      last_ends = z.last_ends;
    }
  where
    same_params : (s : List ℕ) → fields_at s (parameters_at s) ≡ numbers_at s (parameters_at s + 4) (body_length s (parameters_at s) / 4)
    same_params s = refl

-- whatever the check passed is sound
pub sound : (s : List ℕ) (x : Script) → checked_of s ≡ Ok x → Sound s x
sound s x e =
    let p = passed s x e in
    subst (Sound s) (sym p.1) (sound_script s p.0)

-- the same from what `check` ensures
pub sound-checked : (s : List ℕ) (r : Result Script Refused) (x : Script) → Checks s r → r ≡ Ok x → Sound s x
sound-checked s r x c e = sound s x (sym c.answer ∙ e)

-- so a sheet that passed is
pub passed_sound : (x : Sheet) → Sound x.bytes.now x.script
passed_sound x = x.sound
