-- The stack and the marks in the words: as the search begins, and a block that joins. Assumes nothing.
use mathlib.Core.Path.{◌≡◌, refl, sym, ap, ap₂, ◌∙◌, subst}
use mathlib.Core.Bool.{Bool, true, false}
use mathlib.Core.List.{List, [], ◌∷◌}
use Prim.Native.Nat.{ℕ, zero, suc, ◌+◌, ◌<◌}
use native.Mathlib.Numerals.{add-one}
use native.Mathlib.Omega.{arith}
use native.Mathlib.Decide.{ℕ_discrete}
use lib.ListN.{get_or, set, replicate, length-set, length-replicate}
use lib.Seq.{get_or-set_same, get_or-set_other}
use Rattle.dataflow.specs.Search.{Sweep, unvisited, add}
use Rattle.dataflow.proofs.Lists.{get_or-same}
use Rattle.dataflow.proofs.Reachability.{unvisited-set, unvisited-all}
use Rattle.memory.specs.Cells.{Mem, word, store}
use Rattle.memory.specs.Frame.{Only, NoRow}
use Rattle.memory.specs.Names.{reachable_cell, stack_block_cell}
use Rattle.dataflow.specs.Lists.{flag}
use Rattle.memory.specs.Scratch.{scratch_widths}
use Rattle.sizes.specs.declared.Layout.{Layout}
use Rattle.memory.specs.Cells.{Sized}
use Rattle.memory.proofs.CellLaws.{sized-store, word-store_other}
use Rattle.memory.proofs.ScratchLaws.{word_put, place_blocks}
use Rattle.memory.proofs.FrameLaws.{only_then}
use Rattle.edges.specs.Reachability.{sweep_cells}
use Rattle.edges.specs.Stack.{stack_of, Sweeps, Begun}
use Rattle.edges.proofs.EdgeLaws.{flag-no, only_store}

-- ---- a mark, then a block on the stack
pub search-stored : {m m₁ m₂ : Mem} (i v j w : ℕ) → m₁ ≡ store m reachable_cell i v → m₂ ≡ store m₁ stack_block_cell j w → Only sweep_cells NoRow m m₂
search-stored i v j w e₁ e₂ =
    only_then (only_store sweep_cells reachable_cell i v (omega arith) refl e₁) (only_store sweep_cells stack_block_cell j w (omega arith) refl e₂)

-- ---- the stack
stack_same : (m m' : Mem) (n : ℕ) → ((i : ℕ) → i < n → word m' stack_block_cell i ≡ word m stack_block_cell i) → stack_of m' n ≡ stack_of m n
stack_same m m' zero f = refl
stack_same m m' (suc n) f = ap₂ (λ (b : ℕ) (l : List ℕ). b ∷ l) (f n (omega arith)) (stack_same m m' n (λ i lt. f i (omega arith)))

-- ---- a block that joins unless it is marked
module _ {y : Layout} {top block v : ℕ} {r : Sweep} {m : Mem} (s : Sweeps y top r m) (lt : block < y.blocks)
    (ev : v ≡ word m reachable_cell block) where
  fresh : v ≡ 0 → get_or r.visited block false ≡ false
  fresh z = flag-no (get_or r.visited block false) (sym (s.marks block lt) ∙ sym ev ∙ z)

  less : v ≡ 0 → suc (unvisited (set r.visited block true)) ≡ unvisited r.visited
  less z = unvisited-set r.visited block (omega (arith, s.long)) (fresh z)

  pub enter_room : v ≡ 0 → top < y.blocks
  enter_room z = omega (arith, less z, s.room)

  pub enter_new : Sized (scratch_widths y) m → (next : ℕ → List ℕ) → v ≡ 0 → {m₁ m₂ : Mem} → m₁ ≡ store m reachable_cell block 1
      → m₂ ≡ store m₁ stack_block_cell top block → Sweeps y (top + 1) (add next (get_or r.visited block false) block r) m₂
  enter_new sz next z {m₁} {m₂} e₁ e₂ =
      subst (λ (t : Bool). Sweeps y (top + 1) (add next t block r) m₂) (sym (fresh z)) record {
        pending = sym (ap (stack_of m₂) (add-one top) ∙ ap₂ (λ (b : ℕ) (l : List ℕ). b ∷ l) on_top_lem (stack_same m m₂ top beneath ∙ sym s.pending));
        below = (lt, s.below);
        long = length-set r.visited block true ∙ s.long;
        marks = λ c l. mark c l (ℕ_discrete c block);
        room = omega (arith, less z, s.room);
      }
    where
      sz₁ : Sized (scratch_widths y) m₁
      sz₁ = subst (λ (x : Mem). Sized (scratch_widths y) x) (sym e₁) (sized-store (scratch_widths y) m reachable_cell block 1 sz)

      on_top_lem : word m₂ stack_block_cell top ≡ block
      on_top_lem =
          ap (λ (x : Mem). word x stack_block_cell top) e₂
          ∙ word_put y sz₁ (place_blocks y stack_block_cell top (omega arith) (omega arith) (enter_room z)) block

      beneath : (i : ℕ) → i < top → word m₂ stack_block_cell i ≡ word m stack_block_cell i
      beneath i l =
          ap (λ (x : Mem). word x stack_block_cell i) e₂ ∙ word-store_other m₁ stack_block_cell top block stack_block_cell i (λ _ q. omega arith)
          ∙ ap (λ (x : Mem). word x stack_block_cell i) e₁ ∙ word-store_other m reachable_cell block 1 stack_block_cell i (λ q. absurd (omega arith))

      still : (c : ℕ) → word m₂ reachable_cell c ≡ word (store m reachable_cell block 1) reachable_cell c
      still c =
          ap (λ (x : Mem). word x reachable_cell c) e₂ ∙ word-store_other m₁ stack_block_cell top block reachable_cell c (λ q. absurd (omega arith))
          ∙ ap (λ (x : Mem). word x reachable_cell c) e₁

      mark : (c : ℕ) → c < y.blocks → Dec (c ≡ block) → word m₂ reachable_cell c ≡ flag (get_or (set r.visited block true) c false)
      mark c l (yes q) =
          still c ∙ ap (word (store m reachable_cell block 1) reachable_cell) q
          ∙ word_put y sz (place_blocks y reachable_cell block (omega arith) (omega arith) lt) 1
          ∙ sym (ap flag (ap (λ (i : ℕ). get_or (set r.visited block true) i false) q
          ∙ get_or-set_same r.visited block true false (omega (arith, s.long))))
      mark c l (no q) =
          still c ∙ word-store_other m reachable_cell block 1 reachable_cell c (λ _. q) ∙ s.marks c l
          ∙ sym (ap flag (get_or-set_other r.visited block c true false q))

-- ---- the search as it begins: block 0 joins where nothing is marked
abbrev unsearched : ℕ → Sweep
unsearched n = record { pending = []; visited = replicate n false; taken = [] }

pub begun : {y : Layout} {m m₁ m₂ : Mem} → Sized (scratch_widths y) m → 0 < y.blocks → ((c : ℕ) → c < y.blocks → word m reachable_cell c ≡ 0)
    → m₁ ≡ store m reachable_cell 0 1 → m₂ ≡ store m₁ stack_block_cell 0 0 → Begun y m₂
begun {y} {m} {m₁} {m₂} sz pos zeros e₁ e₂ next =
    subst (λ (t : Bool). Sweeps y 1 (add next t 0 (unsearched y.blocks)) m₂) (get_or-same y.blocks 0 false)
    (enter_new none pos (sym (zeros 0 pos)) sz next refl e₁ e₂)
  where
    none : Sweeps y 0 (unsearched y.blocks) m
    none = record {
      pending = refl;
      below = tt;
      long = length-replicate y.blocks false;
      marks = λ c l. zeros c l ∙ sym (ap flag (get_or-same y.blocks c false));
      room = omega (arith, unvisited-all y.blocks);
    }
