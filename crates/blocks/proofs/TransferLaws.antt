-- The instructions of a block one by one: their charges, the costs noted, and the two rows. Assumes nothing.
use mathlib.Core.Path.{◌≡◌, refl, sym, ap, ap₂, ◌∙◌}
use mathlib.Core.Bool.{true}
use mathlib.Core.List.{List, [], ◌∷◌, ◌++◌, map, map-append}
use Prim.Native.Nat.{ℕ, suc, ◌+◌, ◌-◌, ◌≤◌, ◌<◌}
use native.Mathlib.Decide.{ℕ_discrete}
use native.Mathlib.Omega.{arith}
use lib.ListN.{length, length-set}
use Rattle.dataflow.specs.Lists.{range}
use Rattle.dataflow.proofs.Lists.{range-append, range_snoc}
use Rattle.dataflow.specs.Code.{Instruction, instruction_at}
use Rattle.dataflow.specs.Charges.{cost_at}
use Rattle.memory.specs.Cells.{Mem, cell, word, store, store_cell, Sized}
use Rattle.memory.specs.Names.{offset_cell, block_of_cell, leader_cell, cost_cell, first_row, uses_row, defines_row}
use Rattle.memory.specs.Frame.{Only, NoRow, ThisRow, RowsOf}
use Rattle.memory.specs.Scratch.{scratch_widths, scratch_cells}
use Rattle.sizes.specs.declared.Layout.{Layout}
use Rattle.memory.proofs.CellLaws.{same_word, sized-store, cell-store_same, word-store_other}
use Rattle.memory.proofs.FrameLaws.{only_none, only_then, only-more, only-cell, only_row}
use Rattle.memory.proofs.ScratchLaws.{word_put, scratch_count, place_instructions}
use Rattle.budget.specs.declared.FlowBudget.{FlowBudget}
use Rattle.budget.specs.declared.Limits.{Limits}
use Rattle.std.specs.Prelude.{Ok}
use Rattle.budget.specs.Budget.{Charged, over, charged}
use Rattle.budget.proofs.BudgetLaws.{charged-none, met_then, over_then, over-not_ok}
use Rattle.sheet.specs.declared.script.Script.{Script}
use Rattle.instructions.specs.declared.placed.Placed.{Placed}
use Rattle.instructions.specs.Placed.{Stands, IsPlaced}
use Rattle.operands.specs.Kinds.{kind_number}
use Rattle.operands.specs.Patterns.{fits}
use Rattle.operands.specs.declared.instruction.Instruction as operands
use Rattle.instructions.specs.Sets.{inserted_all}
use Rattle.instructions.specs.Sound.{code_offset}
use Rattle.blocks.specs.Rows.{used_in, Transfer, transfer_one, transfer_all, rows_at, Transferred}
use Rattle.blocks.specs.Blocks.{Ready}
use Rattle.blocks.proofs.ReadLaws.{Read, stands_at, fits_at, read_at}
use Rattle.blocks.proofs.KeptLaws.{ready_kept}

-- ---- lists

-- the numbers from start to i, and one more
pub range-more : (start i : ℕ) → start ≤ i → range start (i + 1 - start) ≡ range start (i - start) ++ (i ∷ [])
range-more start i h =
    let e : i + 1 - start ≡ suc (i - start) = omega arith in
    let f : start + (i - start) ≡ i = omega arith in
    ap (range start) e ∙ range_snoc start (i - start) ∙ ap (λ (k : ℕ). range start (i - start) ++ (k ∷ [])) f

-- those from start to end, of which i is one
pub range_at : (start i end : ℕ) → start ≤ i → i < end
    → range start (end - start) ≡ range start (i - start) ++ (i ∷ range (suc i) (end - suc i))
range_at start i end a b =
    let e : end - start ≡ i - start + suc (end - suc i) = omega arith in
    let f : start + (i - start) ≡ i = omega arith in
    ap (range start) e ∙ range-append start (i - start) (suc (end - suc i))
    ∙ ap (λ (k : ℕ). range start (i - start) ++ range k (suc (end - suc i))) f

-- the instructions of two lists
pub transfer-append : (code : List Instruction) (a b : List ℕ) (r : Transfer)
    → transfer_all code (a ++ b) r ≡ transfer_all code b (transfer_all code a r)
unfolding transfer_all
transfer-append code [] b r = refl
transfer-append code (i ∷ a) b r = transfer-append code a b (transfer_one (instruction_at code i) r)

-- ---- after the instructions from start to pc

pub record Transferring (code : List Instruction) (l : Limits) (budget left : FlowBudget) (b start pc : ℕ) (m m' : Mem) : Type 0 where
  pub charges : charged l budget (map (cost_at code) (range start (pc - start))) ≡ Ok left
  pub rows : rows_at m' b ≡ transfer_all code (range start (pc - start)) (rows_at m b)
  pub costs : (i : ℕ) → start ≤ i → i < pc → word m' cost_cell i ≡ cost_at code i
  pub other_costs : (i : ℕ) → i < start → word m' cost_cell i ≡ word m cost_cell i
  pub only : Only (cost_cell ∷ []) (RowsOf b) m m'

-- before the first of them
pub transferring_none : {code : List Instruction} {l : Limits} {budget : FlowBudget} {b start : ℕ} {m : Mem}
    → Transferring code l budget budget b start start m m
unfolding transfer_all
transferring_none {l = l} {budget = budget} {start = start} {m = m} =
    let e : start - start ≡ 0 = omega arith in
    record {
      charges = rw e (charged-none l budget);
      rows = rw e refl;
      costs = λ i a c. absurd (omega arith);
      other_costs = λ i a. refl;
      only = only_none m;
    }

module _ {code : List Instruction} {l : Limits} {budget : FlowBudget} {b start : ℕ} {m : Mem} where
  -- all charges are met
  pub transferred_all : {left : FlowBudget} {pc end : ℕ} {m' : Mem} → pc ≡ end → Transferring code l budget left b start pc m m'
      → Transferred code l budget b start end m m' (Ok left)
  transferred_all q g = record {
    charges = sym g.charges ∙ ap (λ (n : ℕ). charged l budget (map (cost_at code) (range start (n - start)))) q;
    rows = λ x e. g.rows ∙ ap (λ (n : ℕ). transfer_all code (range start (n - start)) (rows_at m b)) q;
    costs = λ x e i a c. g.costs i a (omega arith);
    other_costs = g.other_costs;
    only = g.only;
  }

  module _ {left : FlowBudget} {pc n : ℕ} {m' m₁ : Mem} (a : start ≤ pc) (g : Transferring code l budget left b start pc m m')
      (e : n ≡ length (instruction_at code pc).inputs) (e₁ : m₁ ≡ store m' cost_cell pc (n + 1)) {r : Charged}
      (c : r ≡ charged l left ((n + 1) ∷ [])) where
    cost-is : n + 1 ≡ cost_at code pc
    cost-is = ap (λ (k : ℕ). k + 1) e

    -- the charge noted
    noted : {rows : ℕ → Type 0} → Only (cost_cell ∷ []) rows m' m₁
    noted = only-cell cost_cell _ (omega arith) e₁

    -- a charge crosses the limit
    pub transferred_over : {end : ℕ} {x : FlowBudget} → pc < end → r ≡ over x → Transferred code l budget b start end m m₁ r
    transferred_over {end} h f = record {
      charges = f ∙ sym (ap (λ (ns : List ℕ). charged l budget (map (cost_at code) ns)) (range_at start pc end a h)
          ∙ ap (charged l budget) (map-append (cost_at code) (range start (pc - start)) (pc ∷ range (suc pc) (end - suc pc)))
          ∙ met_then l budget _ _ g.charges
          ∙ over_then l left (cost_at code pc ∷ []) _ (ap (λ (k : ℕ). charged l left (k ∷ [])) (sym cost-is) ∙ sym c ∙ f));
      rows = λ y q. absurd (over-not_ok (sym f ∙ q));
      costs = λ y q. absurd (over-not_ok (sym f ∙ q));
      other_costs = λ i h. ap (λ (w : Mem). word w cost_cell i) e₁ ∙ word-store_other m' cost_cell pc (n + 1) cost_cell i (λ _ q. omega arith)
          ∙ g.other_costs i h;
      only = only_then g.only noted;
    }

    -- one instruction more
    module _ (y : Layout) (z : Sized (scratch_widths y) m') {left' : FlowBudget} (f : r ≡ Ok left') {m₂ m₃ : Mem} {ins outs : List ℕ}
        (p : (instruction_at code pc).inputs ≡ ins) (q : (instruction_at code pc).outputs ≡ outs) (h : pc < y.instructions) (hb : b < y.blocks)
        (e₂ : m₂ ≡ store_cell m₁ (uses_row b) (used_in (cell m₁ (defines_row b)) ins (cell m₁ (uses_row b))))
        (e₃ : m₃ ≡ store_cell m₂ (defines_row b) (inserted_all outs (cell m₂ (defines_row b)))) where
      -- a row each
      used : Only [] (ThisRow (uses_row b)) m₁ m₂
      used = only_row (uses_row b) _ (omega arith) e₂

      defined : Only [] (ThisRow (defines_row b)) m₂ m₃
      defined = only_row (defines_row b) _ (omega arith) e₃

      -- the rows as they were
      row₁ : (k : ℕ) → first_row ≤ k → cell m₁ k ≡ cell m' k
      row₁ k h = (noted {rows = NoRow}).others k h (λ w. w)

      count₁ : length m₁ ≡ scratch_cells y
      count₁ = ap length e₁ ∙ (sized-store (scratch_widths y) m' cost_cell pc (n + 1) z).count ∙ scratch_count y

      count₂ : length m₂ ≡ length m₁
      count₂ = ap length e₂ ∙ length-set m₁ (uses_row b) _

      uses-is : cell m₃ (uses_row b) ≡ used_in (cell m' (defines_row b)) (instruction_at code pc).inputs (cell m' (uses_row b))
      uses-is =
          defined.others (uses_row b) (omega arith) (λ w. omega arith) ∙ ap (λ (w : Mem). cell w (uses_row b)) e₂
          ∙ cell-store_same m₁ (uses_row b) _ (omega (arith, count₁))
          ∙ ap₂ (λ (d u : List ℕ). used_in d ins u) (row₁ (defines_row b) (omega arith)) (row₁ (uses_row b) (omega arith))
          ∙ ap (λ (w : List ℕ). used_in (cell m' (defines_row b)) w (cell m' (uses_row b))) (sym p)

      defines-is : cell m₃ (defines_row b) ≡ inserted_all (instruction_at code pc).outputs (cell m' (defines_row b))
      defines-is =
          ap (λ (w : Mem). cell w (defines_row b)) e₃ ∙ cell-store_same m₂ (defines_row b) _ (omega (arith, count₁, count₂))
          ∙ ap₂ inserted_all (sym q) (used.others (defines_row b) (omega arith) (λ w. omega arith) ∙ row₁ (defines_row b) (omega arith))

      rows_more : rows_at m₃ b ≡ transfer_one (instruction_at code pc) (rows_at m' b)
      rows_more = ap₂ (λ (u d : List ℕ). record { uses = u; defines = d }) uses-is defines-is

      cost₃ : (i : ℕ) → word m₃ cost_cell i ≡ word m₁ cost_cell i
      cost₃ i = same_word i (defined.named cost_cell refl ∙ used.named cost_cell refl)

      cost-at : (i : ℕ) → start ≤ i → i < pc + 1 → Dec (i ≡ pc) → word m₁ cost_cell i ≡ cost_at code i
      cost-at i lo hi (yes w) =
          ap (λ (v : Mem). word v cost_cell i) e₁ ∙ rw w (word_put y z (place_instructions y cost_cell pc (omega arith) h) (n + 1) ∙ cost-is)
      cost-at i lo hi (no w) =
          ap (λ (v : Mem). word v cost_cell i) e₁ ∙ word-store_other m' cost_cell pc (n + 1) cost_cell i (λ _. w) ∙ g.costs i lo (omega arith)

      -- a row of this block
      wider : {rows : ℕ → Type 0} {w w' : Mem} → Only [] rows w w' → ((k : ℕ) → first_row ≤ k → rows k → RowsOf b k)
          → Only (cost_cell ∷ []) (RowsOf b) w w'
      wider o f = only-more (cost_cell ∷ []) (RowsOf b) refl f o

      pub transferring_more : Transferring code l budget left' b start (pc + 1) m m₃
      unfolding transfer_all
      transferring_more = record {
        charges = ap (λ (ns : List ℕ). charged l budget (map (cost_at code) ns)) (range-more start pc a)
            ∙ ap (charged l budget) (map-append (cost_at code) (range start (pc - start)) (pc ∷ []))
            ∙ met_then l budget _ (cost_at code pc ∷ []) g.charges
            ∙ ap (λ (k : ℕ). charged l left (k ∷ [])) (sym cost-is) ∙ sym c ∙ f;
        rows = rows_more ∙ ap (transfer_one (instruction_at code pc)) g.rows
            ∙ sym (ap (λ (ns : List ℕ). transfer_all code ns (rows_at m b)) (range-more start pc a)
            ∙ transfer-append code (range start (pc - start)) (pc ∷ []) (rows_at m b));
        costs = λ i lo hi. cost₃ i ∙ cost-at i lo hi (ℕ_discrete i pc);
        other_costs = λ i lo. cost₃ i ∙ ap (λ (w : Mem). word w cost_cell i) e₁
            ∙ word-store_other m' cost_cell pc (n + 1) cost_cell i (λ _ w. omega arith) ∙ g.other_costs i lo;
        only = only_then g.only (only_then noted
            (only_then (wider used (λ k h w. (omega arith, omega arith))) (wider defined (λ k h w. (omega arith, omega arith)))));
      }

-- ---- what is read at pc

module _ {s : List ℕ} {x : Script} {y : Layout} {m : Mem} (ok : Ready s x y m) {i : ℕ} (h : i < y.instructions) {at : ℕ}
    (e : at ≡ word m offset_cell i) where
  there : i < x.count
  there = omega (arith, ok.fits.instructions)

  -- the offset that is noted is the instruction's
  pub offset_is : at ≡ code_offset s x i
  offset_is = e ∙ ok.index.offsets i there

  pub noted_stands : Stands s at
  noted_stands = stands_at ok.sound offset_is there

  module _ {p : Placed} (f : IsPlaced s at p) where
    pub noted_fits : fits (kind_number p.kind) (length p.fields.now) ≡ true
    noted_fits = fits_at ok.sound offset_is there f

    pub noted_read : (v : operands.Instruction) → v.kind ≡ p.kind → v.fields.now ≡ p.fields.now → Read s y.words i v
    noted_read = read_at ok.sound offset_is there f ok.fits.slots

-- the index of the blocks stays while the instructions of a block are gone through
pub transferring_ready : {s : List ℕ} {x : Script} {y : Layout} {code : List Instruction} {l : Limits} {budget left : FlowBudget} {b start pc : ℕ}
    {m m' : Mem} → Ready s x y m → Transferring code l budget left b start pc m m' → Ready s x y m'
transferring_ready ok g = ready_kept ok (g.only.named offset_cell refl) (g.only.named block_of_cell refl) (g.only.named leader_cell refl)
