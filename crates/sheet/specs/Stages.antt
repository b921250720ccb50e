-- What each stage of the code answers. `Checks` says what the answer of all of them together is.
use Rattle.std.specs.Prelude.{◌≡◌, Bool, not, List, ℕ, zero, suc, ◌+◌, ◌-◌, ◌/◌, eqb, length, Result}
use Rattle.std.proofs.Math.Option.{Option, none}
use Rattle.operands.specs.Kinds.{ends_block}
use Rattle.format.specs.declared.refusal.Refusal.{Refusal}
use Rattle.format.specs.declared.refusal.Refusal.TheVariants.{LeftOver, OpenEnd}
use Rattle.format.specs.declared.fields.Counts.{Counts}
use Rattle.format.specs.Refusals.{due, or_else, answered}
use Rattle.format.specs.Heads.{kind_at, end_at, body_length}
use Rattle.records.specs.Records.{parameter_slots_fault, parameters_fault, slot_fault, instruction_fault}
use Rattle.reader.specs.declared.Reader.{Reader}
use Rattle.reader.specs.Steps.{behind}
use Rattle.sheet.specs.declared.script.Script.{Script}
use Rattle.sheet.specs.Decode.{sizes_fault, offset_of}
use Rattle.sheet.specs.Scripts.{host_words}
use Rattle.sheet.specs.Code.{no_code, code_from}

-- the first bad one of n records of one sort, from an offset on
unfoldable pub first_of : (ℕ → Option Refusal) → List ℕ → ℕ → ℕ → Option Refusal
first_of fault s at zero = none
first_of fault s at (suc n) = or_else (fault at) (first_of fault s (end_at s at) n)

-- where it stands; where all passed, where the last one ends
unfoldable pub stop_of : (ℕ → Option Refusal) → List ℕ → ℕ → ℕ → ℕ
stop_of fault s at zero = at
stop_of fault s at (suc n) = behind (fault at) at (stop_of fault s (end_at s at) n)

-- n records of one sort were walked over: the answer is the first refusal, or `a`
pub record Walks {A : Type 0} (fault : ℕ → Option Refusal) (n : ℕ) (a : A) (r r' : Reader) (x : Result A Refusal) : Type 0 where
  pub answer : x ≡ answered (first_of fault r.sheet.now r.at n) a
  pub sheet : r'.sheet ≡ r.sheet
  pub at : r'.at ≡ stop_of fault r.sheet.now r.at n

abbrev pub WalksSlots : {A : Type 0} → ℕ → A → Reader → Reader → Result A Refusal → Type 0
WalksSlots slots a r r' x = Walks (λ at. slot_fault r.sheet.now at) slots a r r' x

abbrev pub WalksCode : {A : Type 0} → Counts → A → Reader → Reader → Result A Refusal → Type 0
WalksCode n a r r' x = Walks (λ at. instruction_fault r.sheet.now n.slots n.instructions at) n.instructions a r r' x

-- the parameter record was read, and each of its slots is named once: the answer is how many they are
pub record ReadsOnce (slots : ℕ) (r r' : Reader) (x : Result ℕ Refusal) : Type 0 where
  pub answer : x ≡ answered (parameters_fault r.sheet.now slots r.at) (body_length r.sheet.now r.at / 4)
  pub sheet : r'.sheet ≡ r.sheet
  pub at : r'.at ≡ behind (parameter_slots_fault r.sheet.now slots r.at) r.at (end_at r.sheet.now r.at)

-- 4, then 9: where the last instruction record ends, and whether it ends a block
unfoldable pub last_fault : List ℕ → ℕ → Bool → Option Refusal
last_fault s end closed = due (not (eqb end (length s))) LeftOver (due (not closed) OpenEnd none)

-- the refusal that is due behind the function record: for so many slots, N, and the offset of the parameter record
unfoldable pub rest_fault : List ℕ → ℕ → ℕ → ℕ → Option Refusal
rest_fault s slots n at =
    let code = offset_of s (end_at s at) slots in
    or_else (sizes_fault slots n)
    (or_else (parameters_fault s slots at)
    (or_else (first_of (λ a. slot_fault s a) s (end_at s at) slots)
    (or_else (first_of (λ a. instruction_fault s slots n a) s code n)
    (last_fault s (offset_of s code n) (ends_block (kind_at s (offset_of s code (n - 1))))))))

-- the script, if none is due
unfoldable pub script_from : List ℕ → ℕ → ℕ → ℕ → ℕ → Script
script_from s id slots n at =
    let code = offset_of s (end_at s at) slots in
    record {
      id = id;
      slots = slots;
      count = n;
      params_at = at + 4;
      params = body_length s at / 4;
      slots_at = end_at s at;
      code_at = code;
      host_words = host_words s (end_at s at) slots 0 0;
      awaits = (code_from s code n no_code).awaits;
    }
