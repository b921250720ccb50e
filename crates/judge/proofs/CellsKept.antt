-- A block's words stay where the graph's cells stay, and hold the charge of each instruction. Assumes nothing.
use mathlib.Core.Path.{◌≡◌, refl, sym, subst}
use mathlib.Core.Bool.{Bool}
use mathlib.Core.List.Memᴰ
use mathlib.Core.List.{List, Memᴰ}
use Prim.Native.Nat.{ℕ, suc, ◌≤◌, ◌<◌}
use native.Mathlib.Omega.{arith}
use lib.ListN.{length, get_or}
use Rattle.dataflow.specs.Code.{Instruction, leaders, body}
use Rattle.dataflow.specs.Results.{block_count}
use Rattle.dataflow.specs.Charges.{cost_at}
use Rattle.dataflow.proofs.Leaders.{block_range, block_place}
use Rattle.memory.specs.Cells.{Mem, word}
use Rattle.memory.specs.Names.{cost_cell, start_cell, end_cell, successor_count_cell, successor_cell}
use Rattle.sizes.specs.declared.Layout.{Layout}
use Rattle.edges.proofs.FlowLaws.{Still}
use Rattle.blocks.specs.Blocks.{Block}
use Rattle.blocks.proofs.KeptLaws.{words-cells, block-kept}
use Rattle.dataflow.proofs.Lists.{range-bounds}

-- ---- what stays

-- each block stays where the graph's cells do
pub block-still : {code : List Instruction} {parameter : ℕ → Bool} {y : Layout} {m m' : Mem} → Still y m m' → (c : ℕ) → c < y.blocks
    → Block code parameter m c → Block code parameter m' c
block-still h c lt =
    block-kept (words-cells (h.low cost_cell (omega arith)) (h.low start_cell (omega arith)) (h.low end_cell (omega arith))
    (h.low successor_count_cell (omega arith)) (h.edges successor_cell (omega arith) (omega arith)) c)
    (λ k r. h.edges k (omega arith) (omega arith))

-- ---- the charge of each instruction

-- each instruction lies between the start and the end of a block
pub among-block : (code : List Instruction) (i : ℕ) → i < length code
    → (b : ℕ) × (b < block_count code) × (get_or (leaders code) b (length code) ≤ i) × (i < get_or (leaders code) (suc b) (length code))
among-block code i lt =
    let p = block_place code i lt in
    let q = block_range code p.0 p.3 in
    let r = range-bounds (get_or (leaders code) p.0 (length code)) (length (body code p.0)) i
    (subst (λ (l : List ℕ). Memᴰ i l) q.0 (subst (λ (l : List ℕ). Memᴰ i l) (sym p.4) (Memᴰ.append_right p.1 (Memᴰ.head refl)))) in
    (p.0, p.3, r.0, omega (arith, r.1, q.1))

-- the words of all blocks hold the charge of each
pub all-costs : {code : List Instruction} {parameter : ℕ → Bool} (y : Layout) {m : Mem} → y.blocks ≡ block_count code
    → ((c : ℕ) → c < y.blocks → Block code parameter m c) → (i : ℕ) → i < length code → word m cost_cell i ≡ cost_at code i
all-costs {code} {parameter} y {m} e f i lt =
    let p = among-block code i lt in
    let g = (f p.0 (omega (arith, p.1))).words in
    g.costs i (omega (arith, p.2, g.start)) (omega (arith, p.3, g.end))
