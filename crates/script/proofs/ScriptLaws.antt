-- The code of a sheet that passed meets the side conditions of every law on code. Assumes nothing.
use mathlib.Core.Path.{◌≡◌, refl, sym, ap, subst, ◌∙◌}
use mathlib.Core.Bool.{Bool, true, false, ◌||◌, true≢false, false≢true}
use mathlib.Core.List.Memᴰ
use mathlib.Core.List.{List, [], ◌∷◌, Memᴰ}
use mathlib.Core.Option.{Option, none, some}
use Prim.Native.Nat.{ℕ, suc, ◌-◌, ◌≤◌, ◌<◌}
use native.Mathlib.Decide.{dec_lt}
use native.Mathlib.Omega.{arith}
use lib.Dec.{T, eqb, eqb→eq}
use lib.ListN.{length, length-map, get_or-eq_default}
use Rattle.std.proofs.lemmas.List.{nil_from_length}
use Rattle.dataflow.specs.Lists.{elem}
use Rattle.dataflow.specs.Code as flow
use Rattle.dataflow.specs.Checked.{Checked}
use Rattle.dataflow.proofs.Lists.{elem_mem, map_at}
use Rattle.operands.specs.Kinds.{ends_block}
use Rattle.operands.specs.Places.{Place, gathered}
use Rattle.operands.specs.Variants.{variants, jump_targets}
use Rattle.operands.specs.Operands.{by_source, inputs_of, output_of, targets_of}
use Rattle.operands.proofs.Table.{at_kind}
use Rattle.sheet.specs.declared.script.Script.{Script}
use Rattle.sheet.specs.Decode.{Instruction, parts_of, instruction_of}
use Rattle.bitset.specs.Below.{AllBelow}
use Rattle.bitset.proofs.Below.{below-mem}
use Rattle.instructions.specs.Sound.{Sound, code_kind, code_values}
use Rattle.instructions.proofs.SetMembers.{records-count}
use Rattle.script.specs.Script.{list_of, flow_instruction, flow_code, parameter_in}

-- ---- lists

-- what stands in a list of numbers below n, by the test, is below n
elem_below : (n x : ℕ) (l : List ℕ) → AllBelow n l → elem x l ≡ true → x < n
elem_below n x l b e = below-mem n x l b (elem_mem x l e)

-- ---- the code of a sheet that passed

module _ (s : List ℕ) (x : Script) (h : Sound s x) where
  abbrev pub code : List flow.Instruction
  code = flow_code (parts_of s)

  -- the k-th instruction, as it is read where it stands
  abbrev pub read : ℕ → Instruction
  read k = record { kind = code_kind s x k; fields = code_values s x k }

  code-count : length (parts_of s).code ≡ x.count
  code-count = ap length h.code_are ∙ records-count (instruction_of s) s x.code_at x.count

  pub code_length : length (flow_code (parts_of s)) ≡ x.count
  unfolding flow_code
  code_length = length-map (parts_of s).code flow_instruction ∙ code-count

  pub code_at : (k : ℕ) → k < x.count → flow.instruction_at (flow_code (parts_of s)) k ≡ flow_instruction (read k)
  unfolding flow_code
  code_at k l =
      map_at flow_instruction (parts_of s).code k (record { kind = 0; fields = [] }) flow.outside (omega (arith, code-count))
      ∙ ap flow_instruction (h.instruction_is k l)

  pub code_past : (k : ℕ) → x.count ≤ k → flow.instruction_at (flow_code (parts_of s)) k ≡ flow.outside
  code_past k l = get_or-eq_default (flow_code (parts_of s)) flow.outside (omega (arith, code_length))

  -- a property of every instruction, inside the code and past its end
  pub everywhere : (P : flow.Instruction → Type 0) → ((k : ℕ) → k < x.count → P (flow_instruction (read k))) → P flow.outside
      → (k : ℕ) → P (flow.instruction_at (flow_code (parts_of s)) k)
  everywhere P f g k = go (dec_lt k x.count)
    where
      go : Dec (k < x.count) → P (flow.instruction_at (flow_code (parts_of s)) k)
      go (yes l) = subst P (sym (code_at k l)) (f k l)
      go (no l) = subst P (sym (code_past k (omega arith))) g

  pub checked : Checked (flow_code (parts_of s)) (parameter_in (parts_of s)) x.slots
  unfolding parameter_in
  checked = record {
    some_code = omega (arith, code_length, h.some_code);
    reads_below = λ i t. everywhere (λ v. elem t v.inputs ≡ true → t < x.slots)
        (λ k l. elem_below x.slots t (inputs_of (read k).kind (read k).fields) (h.inputs_below k l)) (λ e. absurd (false≢true e)) i;
    writes_below = λ i t. everywhere (λ v. elem t v.outputs ≡ true → t < x.slots)
        (λ k l. written k l (output_of (read k).kind (read k).fields) refl) (λ e. absurd (false≢true e)) i;
    parameters_below = λ t e. elem_below x.slots t (parts_of s).params h.params_below e;
    targets_below = λ i t. everywhere (λ v. Memᴰ t v.targets → t < length (flow_code (parts_of s)))
        (λ k l m. subst (λ (n : ℕ). t < n) (sym code_length) (below-mem x.count t (targets_of (read k).kind (read k).fields) (h.targets_below k l) m)) (λ m. absurd (Memᴰ.not-nil m)) i;
    closed_end = λ i e. ends i (omega (arith, code_length));
  }
    where
      written : (k : ℕ) → k < x.count → (o : Option ℕ) → output_of (read k).kind (read k).fields ≡ o → {t : ℕ} → elem t (list_of o) ≡ true → t < x.slots
      written k l none q e = absurd (false≢true e)
      written k l (some y) q {t} e = elem_below x.slots t (y ∷ []) (h.output_below k y l q, tt) e

      ends : (i : ℕ) → suc i ≡ x.count → (flow.instruction_at (flow_code (parts_of s)) i).ends ≡ true
      ends i e =
          let q : i ≡ x.count - 1 = omega arith in
          ap (λ (v : flow.Instruction). v.ends) (code_at i (omega arith)) ∙ ap (λ (j : ℕ). (flow_instruction (read j)).ends) q ∙ h.last_ends

-- ---- only an instruction that ends a block has targets

-- whether there is no place
has_no_place : List Place → Bool
has_no_place [] = true
has_no_place (p ∷ ps) = false

-- then the list is empty
no_place : (ps : List Place) → T (has_no_place ps) → ps ≡ []
unfolding has_no_place
no_place [] t = refl
no_place (p ∷ ps) t = absurd t

-- the computed test: each kind ends a block or names no target
unfoldable still : ℕ → Bool
still k = ends_block k || eqb (length (by_source k).targets) 0

all-still : (k : ℕ) → 1 ≤ k → k ≤ 41 → T (still k)
unfolding still by_source variants jump_targets ends_block has_no_place
all-still = at_kind still tt

targets-still : (k : ℕ) (v : List ℕ) → 1 ≤ k → k ≤ 41 → ends_block k ≡ false → targets_of k v ≡ []
unfolding still targets_of gathered
targets-still k v l h e =
    ap (λ (ps : List Place). gathered ps v) (nil_from_length (by_source k).targets (eqb→eq (length (by_source k).targets) 0 (rw e at (all-still k l h))))

-- an instruction of a sheet that passed has targets only if it ends a block
pub quiet : (s : List ℕ) (x : Script) → Sound s x → (k : ℕ) → (flow.instruction_at (flow_code (parts_of s)) k).ends ≡ false
    → (flow.instruction_at (flow_code (parts_of s)) k).targets ≡ []
quiet s x h = everywhere s x h (λ v. v.ends ≡ false → v.targets ≡ [])
    (λ k l e. let p = h.stands k l in targets-still (code_kind s x k) (code_values s x k) p.low p.high e)
    (λ e. absurd (true≢false e))
