-- The side conditions as a test on code, and code that empties nothing.
use mathlib.Core.Path.{◌≡◌, refl, ap, ◌∙◌}
use mathlib.Core.Bool.{Bool, true, ◌&&◌}
use mathlib.Core.List.Memᴰ
use mathlib.Core.List.{List, [], Memᴰ}
use Prim.Native.Nat.{ℕ, suc, ◌-◌, ◌<◌}
use native.Mathlib.Omega.{arith}
use native.Mathlib.Decide.{dec_lt}
use lib.Dec.{ltb, ltb→lt}
use lib.ListN.{length, get_or-eq_default}
use Rattle.dataflow.specs.Program.{EmptiesNothing}
use Rattle.dataflow.specs.Lists.{every, elem}
use Rattle.dataflow.specs.Code.{Instruction, outside, instruction_at, program}
use Rattle.dataflow.specs.Checked.{Checked}
use Rattle.dataflow.proofs.Bools.{and_left, and_right, true-test}
use Rattle.dataflow.proofs.Lists.{every_at, mem-get_or, elem_mem}

abbrev pub all_below : ℕ → List ℕ → Bool
all_below n l = every (λ x. ltb x n) l

-- one instruction: its slots below the slot count, its targets below the number of instructions
abbrev pub fits : ℕ → ℕ → Instruction → Bool
fits slots n k = all_below slots k.inputs && (all_below slots k.outputs && all_below n k.targets)

-- refusals 6 to 9, for a list of parameters
abbrev pub checks : List Instruction → List ℕ → ℕ → Bool
checks code parameters slots =
    ltb 0 (length code) && (all_below slots parameters && ((instruction_at code (length code - 1)).ends && every (fits slots (length code)) code))

below_at : (n : ℕ) (l : List ℕ) → all_below n l ≡ true → (x : ℕ) → Memᴰ x l → x < n
below_at n l e x m = ltb→lt x n (true-test _ (every_at (λ y. ltb y n) l e x m))

module _ (code : List Instruction) (parameters : List ℕ) (slots : ℕ) (ok : checks code parameters slots ≡ true) where
  some : ltb 0 (length code) ≡ true
  some = and_left (ltb 0 (length code)) _ ok

  rest : (all_below slots parameters && ((instruction_at code (length code - 1)).ends && every (fits slots (length code)) code)) ≡ true
  rest = and_right (ltb 0 (length code)) _ ok

  rest₂ : ((instruction_at code (length code - 1)).ends && every (fits slots (length code)) code) ≡ true
  rest₂ = and_right (all_below slots parameters) _ rest

  -- what each instruction of the code keeps to
  fit : (i : ℕ) → i < length code → fits slots (length code) (instruction_at code i) ≡ true
  fit i lt = every_at (fits slots (length code)) code (and_right (instruction_at code (length code - 1)).ends _ rest₂) (instruction_at code i)
      (mem-get_or code i outside lt)

  -- past the code nothing is read, written or a target
  below-part : (n : ℕ) (part : Instruction → List ℕ) → part outside ≡ []
      → ((i : ℕ) → i < length code → all_below n (part (instruction_at code i)) ≡ true) → (i x : ℕ)
      → Memᴰ x (part (instruction_at code i)) → x < n
  below-part n part none inside i x m = go (dec_lt i (length code))
    where
      go : Dec (i < length code) → x < n
      go (yes lt) = below_at n (part (instruction_at code i)) (inside i lt) x m
      go (no ge) = absurd (Memᴰ.not-nil (rw (ap part (get_or-eq_default code outside {n = i} (omega arith)) ∙ none) at m))

  -- Code that passes the test is checked.
  pub checks_checked : Checked code (λ s. elem s parameters) slots
  checks_checked = record {
    some_code = ltb→lt 0 (length code) (true-test _ some);
    reads_below = λ i s e. below-part slots (λ (k : Instruction). k.inputs) refl
        (λ i lt. and_left (all_below slots (instruction_at code i).inputs) _ (fit i lt)) i s
        (elem_mem s (instruction_at code i).inputs e);
    writes_below = λ i s e. below-part slots (λ (k : Instruction). k.outputs) refl
        (λ i lt. and_left (all_below slots (instruction_at code i).outputs) _
        (and_right (all_below slots (instruction_at code i).inputs) _ (fit i lt))) i s
        (elem_mem s (instruction_at code i).outputs e);
    parameters_below = λ s e. below_at slots parameters (and_left (all_below slots parameters) _ rest) s (elem_mem s parameters e);
    targets_below = λ i t m. below-part (length code) (λ (k : Instruction). k.targets) refl
        (λ i lt. and_right (all_below slots (instruction_at code i).outputs) _
        (and_right (all_below slots (instruction_at code i).inputs) _ (fit i lt))) i t m;
    closed_end = λ i e. last i e;
  }
    where
      last : (i : ℕ) → suc i ≡ length code → (instruction_at code i).ends ≡ true
      last i e =
          let q : i ≡ length code - 1 = omega arith in
          ap (λ (j : ℕ). (instruction_at code j).ends) q ∙ and_left (instruction_at code (length code - 1)).ends _ rest₂

-- Code none of whose instructions empties a slot empties nothing: edition 1.
pub code-empties_nothing : (code : List Instruction) (parameter : ℕ → Bool) → ((i : ℕ) → (instruction_at code i).emptied ≡ [])
    → EmptiesNothing (program code parameter)
code-empties_nothing code parameter none i s = ap (λ (l : List ℕ). elem s l) (none i)
