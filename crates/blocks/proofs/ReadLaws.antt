-- An instruction of a sheet that passed, read at the offset that the words note. Assumes nothing.
use mathlib.Core.Path.{◌≡◌, refl, sym, ap, subst, ◌∙◌}
use mathlib.Core.Bool.{true}
use mathlib.Core.List.{List, []}
use mathlib.Core.Option.{Option, none, some}
use Prim.Native.Nat.{ℕ, ◌+◌, ◌*◌, ◌/◌, ◌≤◌, ◌<◌}
use native.Mathlib.Omega.{arith}
use lib.ListN.{length}
use Rattle.dataflow.specs.Code as flow
use Rattle.operands.specs.Kinds.{kind_number, ends_block, is_await}
use Rattle.operands.specs.Operands.{inputs_of, output_of}
use Rattle.operands.specs.Patterns.{fits}
use Rattle.operands.specs.Instructions.{values_of, inputs_in, output_in, targets_in}
use Rattle.operands.specs.declared.instruction.Instruction.{Instruction}
use Rattle.operands.proofs.NumberLaws.{number_count}
use Rattle.format.specs.Heads.{body_length, fields_at}
use Rattle.format.proofs.HeadLaws.{lies}
use Rattle.sheet.specs.declared.script.Script.{Script}
use Rattle.sheet.specs.Decode as sheet
use Rattle.sheet.specs.Decode.{parts_of}
use Rattle.instructions.specs.declared.placed.Placed.{Placed}
use Rattle.instructions.specs.Placed.{Stands, IsPlaced}
use Rattle.bitset.specs.Below.{AllBelow}
use Rattle.instructions.specs.Sound.{Sound, code_offset, code_kind, code_values}
use Rattle.bitset.proofs.Below.{below_up}
use Rattle.script.specs.Script.{list_of, flow_instruction, flow_code}
use Rattle.script.proofs.ScriptLaws.{code_at, everywhere}
use Rattle.leaders.proofs.LeaderLaws.{fitting_at, read_is}
use Rattle.blocks.proofs.OperandLaws.{targets_few, inputs_few}

-- what is read is the i-th instruction of the code, whose slots fit w words
pub record Read (s : List ℕ) (w i : ℕ) (v : Instruction) : Type 0 where
  pub few : length (inputs_in v) ≤ length s + 4
  pub inputs_are : (flow.instruction_at (flow_code (parts_of s)) i).inputs ≡ inputs_in v
  pub outputs_are : (flow.instruction_at (flow_code (parts_of s)) i).outputs ≡ list_of (output_in v)
  pub emptied_none : (flow.instruction_at (flow_code (parts_of s)) i).emptied ≡ []
  pub ends_are : (flow.instruction_at (flow_code (parts_of s)) i).ends ≡ ends_block (kind_number v.kind)
  pub targets_are : (flow.instruction_at (flow_code (parts_of s)) i).targets ≡ targets_in v
  pub await_is : (flow.instruction_at (flow_code (parts_of s)) i).is_await ≡ is_await (kind_number v.kind)
  pub inputs_below : AllBelow (64 * w) (inputs_in v)
  pub output_below : AllBelow (64 * w) (list_of (output_in v))

-- no more fields than bytes
few_fields : {s : List ℕ} {x : Script} (ok : Sound s x) (i : ℕ) → i < x.count → length (code_values s x i) ≤ length s
unfolding fields_at
few_fields {s} {x} ok i l =
    let w = lies s (code_offset s x i) (ok.stands i l).whole in
    omega (arith, number_count s (code_offset s x i + 4) (body_length s (code_offset s x i) / 4), w.ordered, w.within)

-- the slots of the i-th instruction fit the words
module _ {s : List ℕ} {x : Script} (ok : Sound s x) {i : ℕ} (w : ℕ) (l : i < x.count) (h : x.slots ≤ 64 * w) where
  code_inputs : AllBelow (64 * w) (inputs_of (code_kind s x i) (code_values s x i))
  code_inputs = below_up x.slots (64 * w) (inputs_of (code_kind s x i) (code_values s x i)) h (ok.inputs_below i l)

  code_output : AllBelow (64 * w) (list_of (output_of (code_kind s x i) (code_values s x i)))
  code_output = go (output_of (code_kind s x i) (code_values s x i)) (λ y. ok.output_below i y l)
    where
      go : (o : Option ℕ) → ((y : ℕ) → o ≡ some y → y < x.slots) → AllBelow (64 * w) (list_of o)
      go none f = tt
      go (some z) f = (omega (arith, f z refl), tt)

module _ {s : List ℕ} {x : Script} (ok : Sound s x) {i at : ℕ} (q : at ≡ code_offset s x i) (l : i < x.count) where
  -- a record stands there, whose fields fit its kind
  pub stands_at : Stands s at
  stands_at = subst (Stands s) (sym q) (ok.stands i l)

  module _ {p : Placed} (e : IsPlaced s at p) where
    pub fits_at : fits (kind_number p.kind) (length p.fields.now) ≡ true
    fits_at = fitting_at ok i e q l

    -- its kind tells whether the i-th instruction of the code is an await
    pub await_is_at : (flow.instruction_at (flow_code (parts_of s)) i).is_await ≡ is_await (kind_number p.kind)
    await_is_at =
        ap (λ (v : flow.Instruction). v.is_await) (code_at s x ok i l)
        ∙ ap is_await (sym (subst (λ (n : ℕ). IsPlaced s n p) q e).kind_is)

    -- it is the i-th instruction of the code, and its slots fit the words
    pub read_at : {w : ℕ} → x.slots ≤ 64 * w → (v : Instruction) → v.kind ≡ p.kind → v.fields.now ≡ p.fields.now → Read s w i v
    read_at {w} h v f g = record {
      few = omega (arith, inputs_few (kind_number v.kind) (values_of v), few_fields ok i l, ap (λ (c : sheet.Instruction). length c.fields) there);
      inputs_are = ap (λ (v : flow.Instruction). v.inputs) is;
      outputs_are = ap (λ (v : flow.Instruction). v.outputs) is;
      emptied_none = ap (λ (v : flow.Instruction). v.emptied) is;
      ends_are = ap (λ (v : flow.Instruction). v.ends) is;
      targets_are = ap (λ (v : flow.Instruction). v.targets) is;
      await_is = ap (λ (v : flow.Instruction). v.is_await) is;
      inputs_below = subst (λ (c : sheet.Instruction). AllBelow (64 * w) (inputs_of c.kind c.fields)) (sym there) (code_inputs ok w l h);
      output_below = subst (λ (c : sheet.Instruction). AllBelow (64 * w) (list_of (output_of c.kind c.fields))) (sym there) (code_output ok w l h);
    }
      where
        there : ◌≡◌ {A = sheet.Instruction} (record { kind = kind_number v.kind; fields = values_of v }) (record { kind = code_kind s x i; fields = code_values s x i })
        there = read_is ok i e q v f g

        is : flow.instruction_at (flow_code (parts_of s)) i ≡ flow_instruction (record { kind = kind_number v.kind; fields = values_of v })
        is = code_at s x ok i l ∙ ap flow_instruction (sym there)

-- ---- each instruction of the code, and what stands past its end

module _ (s : List ℕ) (x : Script) (ok : Sound s x) where
  -- at most two targets
  pub targets_everywhere : (i : ℕ) → length (flow.instruction_at (flow_code (parts_of s)) i).targets ≤ 2
  targets_everywhere = everywhere s x ok (λ v. length v.targets ≤ 2) (λ i l. targets_few (code_kind s x i) (code_values s x i)) (omega arith)

  -- its slots fit the words
  module _ (w : ℕ) (h : x.slots ≤ 64 * w) where
    pub inputs_everywhere : (i : ℕ) → AllBelow (64 * w) (flow.instruction_at (flow_code (parts_of s)) i).inputs
    inputs_everywhere = everywhere s x ok (λ v. AllBelow (64 * w) v.inputs) (λ i l. code_inputs ok w l h) tt

    pub outputs_everywhere : (i : ℕ) → AllBelow (64 * w) (flow.instruction_at (flow_code (parts_of s)) i).outputs
    outputs_everywhere = everywhere s x ok (λ v. AllBelow (64 * w) v.outputs) (λ i l. code_output ok w l h) tt
