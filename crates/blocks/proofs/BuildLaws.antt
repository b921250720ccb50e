-- The blocks one by one: their charges, their words and rows, and the sets as they begin. Assumes nothing.
use mathlib.Core.Logic.{◌≢◌}
use mathlib.Core.Path.{◌≡◌, refl, sym, ap, subst, ◌∙◌}
use mathlib.Core.Bool.{Bool}
use mathlib.Core.List.{List, [], ◌∷◌, ◌++◌, map, map-append, append-nil, append_assoc}
use Prim.Native.Nat.{ℕ, suc, ◌+◌, ◌-◌, ◌<◌}
use native.Mathlib.Decide.{ℕ_discrete}
use native.Mathlib.Omega.{arith}
use lib.ListN.{length, replicate, length-set}
use Rattle.bitset.specs.Sets.{ones}
use Rattle.dataflow.specs.Lists.{range}
use Rattle.dataflow.specs.Blocks.{points_of}
use Rattle.dataflow.specs.Code.{Instruction, body, block_graph}
use Rattle.dataflow.specs.Results.{block_count}
use Rattle.dataflow.specs.Charges.{cost_at}
use Rattle.memory.specs.Cells.{Mem, cell, store_cell}
use Rattle.memory.specs.Names.{offset_cell, block_of_cell, leader_cell, initialized_row, live_row}
use Rattle.memory.specs.Frame.{Only, RowsBefore}
use Rattle.sizes.specs.declared.Layout.{Layout}
use Rattle.memory.proofs.CellLaws.{cell-store_same, cell-store_other}
use Rattle.memory.proofs.FrameLaws.{only_none, only_then, only-more}
use Rattle.budget.specs.declared.FlowBudget.{FlowBudget}
use Rattle.budget.specs.declared.Limits.{Limits}
use Rattle.std.specs.Prelude.{Ok}
use Rattle.budget.specs.Budget.{Charged, over, charged}
use Rattle.budget.proofs.BudgetLaws.{charged-none, met_then, over_then, over-not_ok}
use Rattle.sheet.specs.declared.script.Script.{Script}
use Rattle.blocks.specs.Blocks.{Ready, Block, Fresh, block_cells, BuiltOne, Built}
use Rattle.blocks.proofs.TransferLaws.{range-more, range_at}
use Rattle.blocks.proofs.KeptLaws.{ready_kept}

-- ---- the instructions of blocks, in two parts

module _ (code : List Instruction) where
  points-append : (a b : List ℕ) → points_of (block_graph code) (a ++ b) ≡ points_of (block_graph code) a ++ points_of (block_graph code) b
  points-append [] b = refl
  points-append (c ∷ a) b =
      ap (λ (l : List ℕ). body code c ++ l) (points-append a b)
      ∙ sym (append_assoc (body code c) (points_of (block_graph code) a) (points_of (block_graph code) b))

  -- the charges of these blocks
  abbrev pub charges_of : List ℕ → List ℕ
  charges_of l = map (cost_at code) (points_of (block_graph code) l)

  charges-append : (a : List ℕ) (c : ℕ) (b : List ℕ) → charges_of (a ++ (c ∷ b)) ≡ charges_of a ++ (map (cost_at code) (body code c) ++ charges_of b)
  charges-append a c b =
      ap (map (cost_at code)) (points-append a (c ∷ b))
      ∙ map-append (cost_at code) (points_of (block_graph code) a) (body code c ++ points_of (block_graph code) b)
      ∙ ap (λ (l : List ℕ). charges_of a ++ l) (map-append (cost_at code) (body code c) (points_of (block_graph code) b))

  -- one block more
  pub charges_more : (c : ℕ) → charges_of (range 0 (c + 1)) ≡ charges_of (range 0 c) ++ map (cost_at code) (body code c)
  charges_more c =
      let e : c + 1 ≡ c + 1 - 0 = omega arith in
      let f : c - 0 ≡ c = omega arith in
      ap (λ (n : ℕ). charges_of (range 0 n)) e ∙ ap charges_of (range-more 0 c (omega arith))
      ∙ ap (λ (n : ℕ). charges_of (range 0 n ++ (c ∷ []))) f ∙ charges-append (range 0 c) c []
      ∙ ap (λ (l : List ℕ). charges_of (range 0 c) ++ l) (append-nil (map (cost_at code) (body code c)))

  -- all blocks, of which c is one
  pub charges_at : (c n : ℕ) → c < n
      → charges_of (range 0 n) ≡ charges_of (range 0 c) ++ (map (cost_at code) (body code c) ++ charges_of (range (suc c) (n - suc c)))
  charges_at c n h =
      let e : n ≡ n - 0 = omega arith in
      let f : c - 0 ≡ c = omega arith in
      ap (λ (k : ℕ). charges_of (range 0 k)) e ∙ ap charges_of (range_at 0 c n (omega arith) h)
      ∙ ap (λ (k : ℕ). charges_of (range 0 k ++ (c ∷ range (suc c) (n - suc c)))) f
      ∙ charges-append (range 0 c) c (range (suc c) (n - suc c))

-- ---- after the first blocks

pub record Building (code : List Instruction) (y : Layout) (l : Limits) (budget left : FlowBudget) (index : ℕ) (m m' t' : Mem) : Type 0 where
  pub charges : charged l budget (charges_of code (range 0 index)) ≡ Ok left
  pub blocks : (parameter : ℕ → Bool) (c : ℕ) → c < index → Block code parameter m' c
  pub fresh : (c : ℕ) → c < index → Fresh y t' c
  pub only : Only block_cells (RowsBefore y.blocks) m m'

-- before the first block
pub building_none : {code : List Instruction} {y : Layout} {l : Limits} {budget : FlowBudget} {m t : Mem} → Building code y l budget budget 0 m m t
building_none {l = l} {budget = budget} {m = m} = record {
  charges = charged-none l budget;
  blocks = λ parameter c h. absurd (omega arith);
  fresh = λ c h. absurd (omega arith);
  only = only_none m;
}

-- the index of the blocks stays
pub building_ready : {s : List ℕ} {x : Script} {code : List Instruction} {y : Layout} {l : Limits} {budget left : FlowBudget} {index : ℕ}
    {m m' t' : Mem} → Ready s x y m → Building code y l budget left index m m' t' → Ready s x y m'
building_ready ok g = ready_kept ok (g.only.named offset_cell refl) (g.only.named block_of_cell refl) (g.only.named leader_cell refl)

-- the sets of one block begun: those of others stay
fresh-more : (y : Layout) (index : ℕ) (t' t'' : Mem) → live_row index < length t'
    → t'' ≡ store_cell (store_cell t' (initialized_row index) (replicate y.words ones)) (live_row index) (replicate y.words 0)
    → ((c : ℕ) → c < index → Fresh y t' c) → (c : ℕ) → c < index + 1 → Fresh y t'' c
fresh-more y index t' t'' h e g c l = go (ℕ_discrete c index)
  where
    this : Fresh y t'' index
    this = record {
      initialized = ap (λ (w : Mem). cell w (initialized_row index)) e
          ∙ cell-store_other (store_cell t' (initialized_row index) _) (live_row index) _ (initialized_row index) (λ q. omega arith)
          ∙ cell-store_same t' (initialized_row index) _ (omega arith);
      live = ap (λ (w : Mem). cell w (live_row index)) e
          ∙ cell-store_same (store_cell t' (initialized_row index) _) (live_row index) _
          (omega (arith, length-set t' (initialized_row index) (replicate y.words ones)));
    }

    kept : (k : ℕ) → k ≢ initialized_row index → k ≢ live_row index → cell t'' k ≡ cell t' k
    kept k p q = ap (λ (w : Mem). cell w k) e ∙ cell-store_other (store_cell t' (initialized_row index) _) (live_row index) _ k q
        ∙ cell-store_other t' (initialized_row index) _ k p

    go : Dec (c ≡ index) → Fresh y t'' c
    go (yes q) = subst (λ (d : ℕ). Fresh y t'' d) (sym q) this
    go (no q) =
        let f = g c (omega arith) in
        record {
          initialized = kept (initialized_row c) (λ w. omega arith) (λ w. omega arith) ∙ f.initialized;
          live = kept (live_row c) (λ w. omega arith) (λ w. omega arith) ∙ f.live;
        }

module _ {code : List Instruction} {y : Layout} {l : Limits} {budget left : FlowBudget} {index : ℕ} {m m' t' : Mem}
    (g : Building code y l budget left index m m' t') where
  -- all blocks are built
  pub built_all : {t : Mem} → index ≡ y.blocks → y.blocks ≡ block_count code → Built code y l budget m m' t t' (Ok left)
  built_all e f = record {
    charges = sym g.charges ∙ ap (λ (n : ℕ). charged l budget (charges_of code (range 0 n))) (e ∙ f);
    blocks = λ x q parameter c h. g.blocks parameter c (omega arith);
    fresh = λ x q c h. g.fresh c (omega arith);
    only = g.only;
  }

  module _ (h : index < y.blocks) {m'' : Mem} {r : Charged} (o : BuiltOne code l left index m' m'' r) where
    only-one_more : Only block_cells (RowsBefore y.blocks) m m''
    only-one_more = only_then g.only (only-more block_cells (RowsBefore y.blocks) refl (λ k lo w. omega arith) o.only)

    -- a charge of this block crosses the limit
    pub built_over : {t t'' : Mem} {x : FlowBudget} → y.blocks ≡ block_count code → r ≡ over x → Built code y l budget m m'' t t'' r
    built_over e f = record {
      charges = f ∙ sym (ap (charged l budget) (charges_at code index (block_count code) (omega arith))
          ∙ met_then l budget _ _ g.charges ∙ over_then l left (map (cost_at code) (body code index)) _ (sym o.charges ∙ f));
      blocks = λ z q. absurd (over-not_ok (sym f ∙ q));
      fresh = λ z q. absurd (over-not_ok (sym f ∙ q));
      only = only-one_more;
    }

    -- one block more
    pub building_more : {t'' : Mem} {left' : FlowBudget} → r ≡ Ok left' → live_row index < length t'
        → t'' ≡ store_cell (store_cell t' (initialized_row index) (replicate y.words ones)) (live_row index) (replicate y.words 0)
        → Building code y l budget left' (index + 1) m m'' t''
    building_more {t''} {left'} f n e = record {
      charges = ap (charged l budget) (charges_more code index) ∙ met_then l budget _ _ g.charges ∙ sym o.charges ∙ f;
      blocks = λ parameter c b. block_at parameter c b (ℕ_discrete c index);
      fresh = fresh-more y index t' t'' n e g.fresh;
      only = only-one_more;
    }
      where
        block_at : (parameter : ℕ → Bool) (c : ℕ) → c < index + 1 → Dec (c ≡ index) → Block code parameter m'' c
        block_at parameter c b (yes q) = subst (λ (d : ℕ). Block code parameter m'' d) (sym q) (o.block left' f parameter)
        block_at parameter c b (no q) = o.earlier parameter c (omega arith) (g.blocks parameter c (omega arith))
