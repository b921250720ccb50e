-- The stack that the words stand for, and the graph that stays where only the four cells of the search change. Assumes nothing.
use mathlib.Core.Path.{◌≡◌, refl, sym, ap, ◌∙◌}
use mathlib.Core.List.{List, [], ◌∷◌}
use Prim.Native.Nat.{ℕ, zero, suc, ◌+◌, ◌-◌, ◌<◌}
use native.Mathlib.Omega.{arith}
use lib.ListN.{length, get_or, set, drop, length-drop}
use lib.Seq.{get_or-set_same, get_or-set_other, get_or-drop}
use Rattle.dataflow.specs.Search.{Frame}
use Rattle.memory.specs.Cells.{Mem, cell, word}
use Rattle.memory.specs.Frame.{Only, NoRow}
use Rattle.memory.specs.Names.{stack_block_cell, stack_edge_cell}
use Rattle.sizes.specs.declared.Layout.{Layout}
use Rattle.edges.specs.Edges.{Holds, Held}
use Rattle.edges.proofs.EdgeLaws.{holds-only}
use Rattle.order.specs.Postorder.{search_cells}
use Rattle.order.specs.Turns.{frames_of, stack_of}

-- what the word at i of the stack's cells says
abbrev pub frame_at : (ℕ → List ℕ) → Mem → ℕ → Frame
frame_at next m i =
    record { block = word m stack_block_cell i; rest = drop (word m stack_edge_cell i) (next (word m stack_block_cell i)) }

pub frames-none : (next : ℕ → List ℕ) (bs es : List ℕ) → frames_of next bs es 0 ≡ []
unfolding frames_of
frames-none next bs es = refl

frames-suc : (next : ℕ → List ℕ) (bs es : List ℕ) (i : ℕ)
    → frames_of next bs es (suc i) ≡ record { block = get_or bs i 0; rest = drop (get_or es i 0) (next (get_or bs i 0)) } ∷ frames_of next bs es i
unfolding frames_of
frames-suc next bs es i = refl

-- the frame on top
pub stack_top : (next : ℕ → List ℕ) (m : Mem) (top : ℕ) → 0 < top → stack_of next m top ≡ frame_at next m (top - 1) ∷ stack_of next m (top - 1)
stack_top next m zero h = absurd (omega arith)
stack_top next m (suc i) h =
    let e : suc i - 1 ≡ i = omega arith in
    frames-suc next (cell m stack_block_cell) (cell m stack_edge_cell) i
    ∙ ap {B = List Frame} (λ (j : ℕ). frame_at next m j ∷ stack_of next m j) (sym e)

-- only the words below `top` count
frames-same : (next : ℕ → List ℕ) (bs es bs' es' : List ℕ) (top : ℕ) → ((i : ℕ) → i < top → get_or bs' i 0 ≡ get_or bs i 0)
    → ((i : ℕ) → i < top → get_or es' i 0 ≡ get_or es i 0) → frames_of next bs' es' top ≡ frames_of next bs es top
unfolding frames_of
frames-same next bs es bs' es' zero p q = refl
frames-same next bs es bs' es' (suc i) p q =
    rw (p i (omega arith), q i (omega arith), frames-same next bs es bs' es' i (λ j h. p j (omega arith)) (λ j h. q j (omega arith))) refl

-- a frame more
pub frames-push : (next : ℕ → List ℕ) (bs es : List ℕ) (top b : ℕ) → top < length bs → top < length es
    → frames_of next (set bs top b) (set es top 0) (suc top) ≡ record { block = b; rest = next b } ∷ frames_of next bs es top
frames-push next bs es top b h g =
    frames-suc next (set bs top b) (set es top 0) top
    ∙ rw (
      get_or-set_same bs top b 0 h,
      get_or-set_same es top 0 0 g,
      frames-same next bs es (set bs top b) (set es top 0) top
          (λ i lt. get_or-set_other bs top i b 0 (λ q. omega arith)) (λ i lt. get_or-set_other es top i 0 0 (λ q. omega arith)),
    ) refl

-- the frame on top with another edge
pub frames-next : (next : ℕ → List ℕ) (bs es : List ℕ) (i e : ℕ) → i < length es
    → frames_of next bs (set es i e) (suc i) ≡ record { block = get_or bs i 0; rest = drop e (next (get_or bs i 0)) } ∷ frames_of next bs es i
frames-next next bs es i e g =
    frames-suc next bs (set es i e) i
    ∙ rw (
      get_or-set_same es i e 0 g,
      frames-same next bs es bs (set es i e) i (λ j lt. refl) (λ j lt. get_or-set_other es i j e 0 (λ q. omega arith)),
    ) refl

-- ---- the graph
pub holds_kept : {next : ℕ → List ℕ} {y : Layout} {m m' : Mem} → Only search_cells NoRow m m' → Holds next y m → Holds next y m'
holds_kept o h = holds-only o refl refl h

pub held_kept : {y : Layout} {m m' : Mem} → Only search_cells NoRow m m' → Held y m → Held y m'
held_kept o h = (h.0, holds_kept o h.1)

-- the successors of a frame that are to be looked at are blocks
pub rest_below : {next : ℕ → List ℕ} {y : Layout} {m : Mem} → Holds next y m → (b e : ℕ) → b < y.blocks
    → (i : ℕ) → i < length (drop e (next b)) → get_or (drop e (next b)) i 0 < y.blocks
rest_below {next} h b e lt i g =
    rw (get_or-drop e (next b) i 0) (h.below b (e + i) lt (omega (arith, rw (length-drop e (next b)) at g)))
