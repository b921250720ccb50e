-- The blocks of a script in the words of both buffers.
use Rattle.std.specs.Prelude.{◌≡◌, Bool, false, List, [], ◌∷◌, map, ℕ, suc, ◌≤◌, ◌<◌, length, get_or, replicate, Ok}
use Rattle.bitset.specs.Sets.{member, ones}
use Rattle.dataflow.specs.BasicBlocks.{uses, defines}
use Rattle.dataflow.specs.Code.{Instruction, program, leaders, body, block_successors}
use Rattle.dataflow.specs.Charges.{cost_at, operand_charges}
use Rattle.memory.specs.Cells.{Mem, cell, word}
use Rattle.memory.specs.Names.{cost_cell, start_cell, end_cell, successor_cell, successor_count_cell, uses_row, defines_row, initialized_row, live_row}
use Rattle.memory.specs.Edges.{edge_word}
use Rattle.memory.specs.Frame.{Only, RowsOf, RowsBefore}
use Rattle.sizes.specs.declared.Layout.{Layout}
use Rattle.budget.specs.declared.FlowBudget.{FlowBudget}
use Rattle.budget.specs.declared.Limits.{Limits}
use Rattle.budget.specs.Budget.{Charged, charged}
use Rattle.sheet.specs.declared.script.Script.{Script}
use Rattle.instructions.specs.Sound.{Sound}
use Rattle.leaders.specs.Index.{Indexed, Fits}

-- a sheet that passed, a layout of its sizes, and the index of its blocks
pub record Ready (s : List ℕ) (x : Script) (y : Layout) (m : Mem) : Type 0 where
  pub sound : Sound s x
  pub fits : Fits s x y
  pub index : Indexed s x m

-- the words of scratch that hold block b of the code: where it begins and ends, its edges, and what its instructions are charged
pub record BlockWords (code : List Instruction) (m : Mem) (b : ℕ) : Type 0 where
  pub start : word m start_cell b ≡ get_or (leaders code) b (length code)
  pub end : word m end_cell b ≡ get_or (leaders code) (suc b) (length code)
  pub counted : word m successor_count_cell b ≡ length (block_successors code b)
  pub edges : (k : ℕ) → k < length (block_successors code b) → edge_word m b k ≡ get_or (block_successors code b) k 0
  pub unused : (k : ℕ) → k < 2 → length (block_successors code b) ≤ k → edge_word m b k ≡ 0
  pub costs : (i : ℕ) → word m start_cell b ≤ i → i < word m end_cell b → word m cost_cell i ≡ cost_at code i

-- its two rows; `parameter` says which slots are parameters, and neither row depends on it
pub record BlockRows (code : List Instruction) (parameter : ℕ → Bool) (m : Mem) (b : ℕ) : Type 0 where
  pub uses_are : (i : ℕ) → member (cell m (uses_row b)) i ≡ uses (program code parameter) i false false (body code b)
  pub defines_are : (i : ℕ) → member (cell m (defines_row b)) i ≡ defines (program code parameter) i false (body code b)

-- scratch holds block b of the code
pub record Block (code : List Instruction) (parameter : ℕ → Bool) (m : Mem) (b : ℕ) : Type 0 where
  pub words : BlockWords code m b
  pub rows : BlockRows code parameter m b

-- the sets of block b are as flow.rs begins them: initialized all ones, live zero
pub record Fresh (y : Layout) (t : Mem) (b : ℕ) : Type 0 where
  pub initialized : cell t (initialized_row b) ≡ replicate y.words ones
  pub live : cell t (live_row b) ≡ replicate y.words 0

-- the cells of the words of a block
abbrev pub block_cells : List ℕ
block_cells = cost_cell ∷ start_cell ∷ end_cell ∷ successor_count_cell ∷ successor_cell ∷ []

-- what `block` does for block c: a charge for each of its instructions, and if they are met, its words and rows; those of other blocks stay
pub record BuiltOne (code : List Instruction) (l : Limits) (b : FlowBudget) (c : ℕ) (m m' : Mem) (r : Charged) : Type 0 where
  pub charges : r ≡ charged l b (map (cost_at code) (body code c))
  pub block : (left : FlowBudget) → r ≡ Ok left → (parameter : ℕ → Bool) → Block code parameter m' c
  pub earlier : (parameter : ℕ → Bool) (d : ℕ) → d < c → Block code parameter m d → Block code parameter m' d
  pub only : Only block_cells (RowsOf c) m m'

-- what `blocks` does: its charges, and if they are met, every block's words and rows
pub record Built (code : List Instruction) (y : Layout) (l : Limits) (b : FlowBudget) (m m' t t' : Mem) (r : Charged) : Type 0 where
  pub charges : r ≡ charged l b (operand_charges code)
  pub blocks : (left : FlowBudget) → r ≡ Ok left → (parameter : ℕ → Bool) (c : ℕ) → c < y.blocks → Block code parameter m' c
  pub fresh : (left : FlowBudget) → r ≡ Ok left → (c : ℕ) → c < y.blocks → Fresh y t' c
  pub only : Only block_cells (RowsBefore y.blocks) m m'
