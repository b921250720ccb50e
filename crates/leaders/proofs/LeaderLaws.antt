-- The marks are the leaders. Assumes nothing.
use mathlib.Core.Path.{◌≡◌, refl, sym, ap, ap₂, subst, ◌∙◌}
use mathlib.Core.Bool.{Bool, true, false, ◌&&◌, ◌||◌, or-false, or-true, false≢true}
use mathlib.Core.List.{List, [], ◌∷◌, Memᴰ, map}
use Prim.Native.Nat.{ℕ, zero, suc, ◌+◌, ◌≤◌, ◌<◌}
use native.Mathlib.Decide.{ℕ_discrete}
use native.Mathlib.Numerals.{add-one}
use native.Mathlib.Omega.{arith}
use lib.Dec.{eqb}
use lib.ListN.{length, length-map, replicate, length-replicate, get_or-replicate}
use borrow.Author.Tests.{eq-eqb, ne_eqb, eqb-true}
use Rattle.dataflow.specs.Lists.{range, some, elem, flag}
use Rattle.dataflow.specs.Code.{Instruction, outside, instruction_at, leader}
use Rattle.dataflow.proofs.Bools.{and_left, and_right, same_truth}
use Rattle.dataflow.proofs.Lists.{some_at, some_to, mem-range, range-bounds, mem-get_or, mem-place}
use Rattle.operands.specs.Bytes.{number_in}
use Rattle.operands.specs.Kinds.{kind_number, ends_block}
use Rattle.operands.specs.Patterns.{fits}
use Rattle.operands.specs.Operands.{targets_of}
use Rattle.operands.specs.Instructions.{values_of, targets_in}
use Rattle.operands.specs.declared.instruction.Instruction as operands
use Rattle.memory.specs.Cells.{Mem, cell, word, store, store_cell}
use Rattle.memory.specs.Names.{block_of_cell, offset_cell}
use Rattle.memory.specs.Scratch.{scratch_widths, Whole}
use Rattle.sizes.specs.declared.Layout.{Layout}
use Rattle.memory.proofs.CellLaws.{same_word, sized-store, sized-cell, cell-store_other, word-cell_same, word-cell_other, word-store_other}
use Rattle.memory.proofs.ScratchLaws.{word_put, place_instructions, width_instructions, sized_among}
use Rattle.sheet.specs.declared.script.Script.{Script}
use Rattle.sheet.specs.Decode.{parts_of}
use Rattle.sheet.specs.Decode as sheet
use Rattle.budget.specs.declared.FlowBudget.{FlowBudget}
use Rattle.budget.specs.declared.Limits.{Limits}
use Rattle.std.specs.Prelude.{Ok}
use Rattle.budget.specs.Budget.{over, charged}
use Rattle.budget.proofs.BudgetLaws.{ones-crossed, over-not_ok}
use Rattle.instructions.specs.declared.placed.Placed.{Placed}
use Rattle.instructions.specs.Placed.{IsPlaced}
use Rattle.bitset.specs.Below.{AllBelow}
use Rattle.instructions.specs.Sound.{Sound, code_offset, code_kind, code_values}
use Rattle.script.specs.Script.{flow_code}
use Rattle.script.proofs.ScriptLaws.{code_at, code_length, quiet}
use Rattle.leaders.specs.Leaders.{marking, marked_by, leads, led_by, Begun, Led, Leads}
use Rattle.leaders.proofs.MarkLaws.{marked_word, marked_other, led-more}

-- after i instructions
pub record Marking (s : List ℕ) (x : Script) (m m' : Mem) (i : ℕ) : Type 0 where
  pub offsets : (k : ℕ) → k < i → word m' offset_cell k ≡ code_offset s x k
  pub marks : (j : ℕ) → j < x.count → word m' block_of_cell j ≡ flag (led_by (flow_code (parts_of s)) i j)
  pub others : (k : ℕ) → (k ≡ offset_cell → ⊥) → (k ≡ block_of_cell → ⊥) → cell m' k ≡ cell m k

pub marking-none : {s : List ℕ} {x : Script} {m : Mem} → Begun x m → Marking s x m m 0
marking-none b = record {
  offsets = λ k h. absurd (omega arith);
  marks = λ j h. b j h ∙ ap flag (sym (or-false (eqb j 0)));
  others = λ k f g. refl;
}

module _ (s : List ℕ) (x : Script) (h : Sound s x) where
  -- one instruction more
  marking-more : (m m' m₁ m₂ : Mem) (i at : ℕ) → Marking s x m m' i → Whole (marking x) m' → i < x.count → at ≡ code_offset s x i
      → m₁ ≡ store m' offset_cell i at
      → m₂ ≡ marked_by (ends_block (code_kind s x i)) (targets_of (code_kind s x i) (code_values s x i)) x.count i m₁
      → Marking s x m m₂ (i + 1)
  marking-more m m' m₁ m₂ i at g z l e e₁ e₂ = record {
    offsets = λ k b. same_word k (kept offset_cell (λ p. omega arith)) ∙ offset k b (ℕ_discrete k i);
    marks = λ j b. ap (λ (w : Mem). word w block_of_cell j) e₂
        ∙ marked_word (marking x) ends ts i m₁ j z₁ (h.targets_below i l) b (led_by code i j)
        (ap (λ (w : Mem). word w block_of_cell j) e₁ ∙ word-cell_other m' offset_cell _ block_of_cell j (λ p. omega arith) ∙ g.marks j b)
        ∙ ap flag (sym (led-more code i j ∙ ap (λ (v : Instruction). led_by code i j || (v.ends && (eqb j (suc i) || elem j v.targets))) (code_at s x h i l)));
    others = λ k f f'. kept k f' ∙ ap (λ (w : Mem). cell w k) e₁ ∙ cell-store_other m' offset_cell _ k f ∙ g.others k f f';
  }
    where
      code : List Instruction
      code = flow_code (parts_of s)

      ends : Bool
      ends = ends_block (code_kind s x i)

      ts : List ℕ
      ts = targets_of (code_kind s x i) (code_values s x i)

      z₁ : Whole (marking x) m₁
      z₁ = subst (Whole (marking x)) (sym e₁) (sized-store (scratch_widths (marking x)) m' offset_cell i at z)

      kept : (k : ℕ) → (k ≡ block_of_cell → ⊥) → cell m₂ k ≡ cell m₁ k
      kept k f = ap (λ (w : Mem). cell w k) e₂ ∙ marked_other ends ts x.count i m₁ k f

      offset : (k : ℕ) → k < i + 1 → Dec (k ≡ i) → word m₁ offset_cell k ≡ code_offset s x k
      offset k b (yes p) = ap (λ (w : Mem). word w offset_cell k) e₁ ∙ rw p (word_put (marking x) z (place_instructions (marking x) offset_cell i (omega arith) l) at ∙ e)
      offset k b (no p) = ap (λ (w : Mem). word w offset_cell k) e₁ ∙ word-store_other m' offset_cell i at offset_cell k (λ _. p) ∙ g.offsets k (omega arith)

-- ---- leaders by all instructions are the leaders

-- an instruction names a target
names : ℕ → Instruction → Bool
names t v = elem t v.targets

module _ (s : List ℕ) (x : Script) (h : Sound s x) where
  led-leader : (j : ℕ) → j < x.count → led_by (flow_code (parts_of s)) x.count j ≡ leader (flow_code (parts_of s)) j
  unfolding names
  led-leader zero b = refl
  led-leader (suc i) b = rw (ne_eqb (suc i) 0 (λ e. omega arith)) (same_truth _ _ there back)
    where
      code : List Instruction
      code = flow_code (parts_of s)

      at : ℕ → Instruction
      at k = instruction_at (flow_code (parts_of s)) k

      there : some (leads code (suc i)) (range 0 x.count) ≡ true → ((at i).ends || some (names (suc i)) code) ≡ true
      there e =
          let z = some_at (leads code (suc i)) (range 0 x.count) e in
          one z.0 (range-bounds 0 x.count z.0 z.1).1 (and_left (at z.0).ends _ z.2) (and_right (at z.0).ends _ z.2)
        where
          one : (k : ℕ) → k < 0 + x.count → (at k).ends ≡ true → (eqb (suc i) (suc k) || elem (suc i) (at k).targets) ≡ true
              → ((at i).ends || some (names (suc i)) code) ≡ true
          one k l p = go (eqb (suc i) (suc k)) refl
            where
              go : (t : Bool) → eqb (suc i) (suc k) ≡ t → (t || elem (suc i) (at k).targets) ≡ true
                  → ((at i).ends || some (names (suc i)) code) ≡ true
              go true q f =
                  let r : i ≡ k = omega (arith, eqb-true (suc i) (suc k) q) in
                  let g : (at i).ends ≡ true = ap (λ (n : ℕ). (at n).ends) r ∙ p in rw g refl
              go false q f =
                  rw (some_to (names (suc i)) code (at k) (mem-get_or code k outside (omega (arith, code_length s x h))) f) (or-true (at i).ends)

      back : ((at i).ends || some (names (suc i)) code) ≡ true → some (leads code (suc i)) (range 0 x.count) ≡ true
      back e = two (at i).ends refl e
        where
          from : (k : ℕ) → k < x.count → leads code (suc i) k ≡ true → some (leads code (suc i)) (range 0 x.count) ≡ true
          from k l f = some_to (leads code (suc i)) (range 0 x.count) k (subst (λ (n : ℕ). Memᴰ n (range 0 x.count)) (omega arith) (mem-range 0 x.count k l)) f

          third : (k : ℕ) → k < x.count → names (suc i) (at k) ≡ true → (t : Bool) → (at k).ends ≡ t → some (leads code (suc i)) (range 0 x.count) ≡ true
          third k l f true q = from k l (rw (q, f) (or-true (eqb (suc i) (suc k))))
          third k l f false q = absurd (false≢true (rw (quiet s x h k q) at f))

          two : (t : Bool) → (at i).ends ≡ t → (t || some (names (suc i)) code) ≡ true → some (leads code (suc i)) (range 0 x.count) ≡ true
          two true q e = from i (omega arith) (rw (q, eq-eqb (suc i) (suc i) refl) refl)
          two false q e =
              let z = some_at (names (suc i)) code e in
              let k = mem-place code z.0 outside z.1 in
              third k.0 (omega (arith, k.1, code_length s x h)) (ap (names (suc i)) k.2 ∙ z.2) (at k.0).ends refl

  marking-all : (m m' : Mem) (i : ℕ) → Marking s x m m' i → i ≡ x.count → Led s x m'
  marking-all m m' i g e = record {
    offsets = λ k b. g.offsets k (omega arith);
    marks = λ j b. g.marks j b ∙ ap flag (ap (λ (n : ℕ). led_by (flow_code (parts_of s)) n j) e ∙ led-leader j b);
  }

-- ---- what the loop makes of it

module _ {s : List ℕ} {x : Script} (h : Sound s x) where
  -- the instruction that is read at the i-th offset
  module _ (i : ℕ) {at : ℕ} {p : Placed} (e : IsPlaced s at p) (q : at ≡ code_offset s x i) where
    there : IsPlaced s (code_offset s x i) p
    there = subst (λ (n : ℕ). IsPlaced s n p) q e

    pub next_at : p.next ≡ code_offset s x (i + 1)
    next_at = there.next_is ∙ h.next_is i ∙ ap (code_offset s x) (sym (add-one i))

    -- its fields fit its kind
    pub fitting_at : i < x.count → fits (kind_number p.kind) (length p.fields.now) ≡ true
    fitting_at l =
        ap₂ fits there.kind_is (sym (length-map p.fields.now number_in) ∙ ap length there.values_are) ∙ h.readable i l

    module _ (v : operands.Instruction) (f : v.kind ≡ p.kind) (g : v.fields.now ≡ p.fields.now) where
      -- it is that of the sheet
      pub read_is : ◌≡◌ {A = sheet.Instruction} (record { kind = kind_number v.kind; fields = values_of v }) (record { kind = code_kind s x i; fields = code_values s x i })
      read_is =
          ap₂ (λ (k : ℕ) (l : List ℕ). record { kind = k; fields = l }) (ap kind_number f ∙ there.kind_is) (ap (map number_in) g ∙ there.values_are)

      pub targets_at : i < x.count → AllBelow x.count (targets_in v)
      targets_at l = subst (λ (w : sheet.Instruction). AllBelow x.count (targets_of w.kind w.fields)) (sym read_is) (h.targets_below i l)

      pub marking_placed : {y : Layout} {m m' m₁ m₂ : Mem} → y ≡ marking x → Marking s x m m' i → Whole y m' → i < x.count
          → m₁ ≡ store m' offset_cell i at → m₂ ≡ marked_by (ends_block (kind_number v.kind)) (targets_in v) y.instructions i m₁ → Marking s x m m₂ (i + 1)
      marking_placed {y} {m} {m'} {m₁} {m₂} a d z l e₁ e₂ =
          marking-more s x h m m' m₁ m₂ i at d (subst (λ (w : Layout). Whole w m') a z) l q e₁
          (e₂ ∙ ap (λ (w : Layout). marked_by (ends_block (kind_number v.kind)) (targets_in v) w.instructions i m₁) a
          ∙ ap (λ (w : sheet.Instruction). marked_by (ends_block w.kind) (targets_of w.kind w.fields) x.count i m₁) read_is)

  -- a charge crosses the limit at instruction i
  pub leads_over : {l : Limits} {b left y : FlowBudget} {m m' : Mem} {i : ℕ} → Marking s x m m' i → i < x.count
      → charged l b (replicate i 1) ≡ Ok left → over y ≡ charged l left (1 ∷ []) → Leads s x l b m m' (over y)
  leads_over {l} {b} {i = i} g h c e = record {
    charges = sym (ones-crossed l b i x.count c h (sym e));
    led = λ z q. absurd (over-not_ok q);
    others = g.others;
  }

  -- all instructions are charged and marked
  pub leads_all : {l : Limits} {b left : FlowBudget} {m m' : Mem} {i : ℕ} → Marking s x m m' i → i ≡ x.count
      → charged l b (replicate i 1) ≡ Ok left → Leads s x l b m m' (Ok left)
  leads_all {l} {b} {m = m} {m' = m'} {i = i} g e c = record {
    charges = sym c ∙ ap (λ (n : ℕ). charged l b (replicate n 1)) e;
    led = λ z q. marking-all s x h m m' i g e;
    others = g.others;
  }

-- ---- before the loop

module _ (y : Layout) {m m₁ m₂ : Mem} (z : Whole y m) (e₁ : m₁ ≡ store_cell m block_of_cell (replicate y.instructions 0))
    (e₂ : m₂ ≡ store m₁ block_of_cell 0 1) where
  whole₁ : Whole y m₁
  whole₁ = subst (Whole y) (sym e₁)
      (sized-cell (scratch_widths y) m block_of_cell _ z (length-replicate y.instructions 0 ∙ sym (width_instructions y block_of_cell (omega arith))))

  pub begun : (x : Script) → y ≡ marking x → 1 ≤ x.count → Begun x m₂
  begun x q h j l = go (ℕ_discrete j 0)
    where
      n : y.instructions ≡ x.count
      n = ap (λ (w : Layout). w.instructions) q

      zero-at : word m₁ block_of_cell j ≡ 0
      zero-at = ap (λ (w : Mem). word w block_of_cell j) e₁ ∙ word-cell_same m block_of_cell _ j (sized_among y z (omega arith))
          ∙ get_or-replicate y.instructions j 0 0 (omega (arith, n))

      go : Dec (j ≡ 0) → word m₂ block_of_cell j ≡ flag (eqb j 0)
      go (yes p) = ap (λ (w : Mem). word w block_of_cell j) e₂
          ∙ rw (eq-eqb j 0 p) (rw p (word_put y whole₁ (place_instructions y block_of_cell 0 (omega arith) (omega (arith, n))) 1))
      go (no p) = ap (λ (w : Mem). word w block_of_cell j) e₂ ∙ rw (ne_eqb j 0 p) (word-store_other m₁ block_of_cell 0 1 block_of_cell j (λ _. p) ∙ zero-at)
