-- One turn over the words is one turn of the search: what each store makes of the search that the words stand for. Assumes nothing.
use mathlib.Core.Path.{◌≡◌, refl, sym, ap, ap₂, subst, ◌∙◌}
use mathlib.Core.Bool.{Bool, true, false}
use mathlib.Core.List.{List, [], ◌∷◌, map, reverse, reverse-append}
use Prim.Native.Nat.{ℕ, suc, ◌+◌, ◌-◌, ◌≤◌, ◌<◌}
use native.Mathlib.Decide.{ℕ_discrete}
use native.Mathlib.Numerals.{add-one}
use native.Mathlib.Omega.{arith}
use lib.ListN.{length, get_or, set, take, drop, replicate, length-replicate, get_or-replicate, drop_of_length-le, get_or-map, length-set}
use lib.Seq.{take-suc-set, drop-cons, get_or-set_same, get_or-set_other}
use Rattle.dataflow.specs.Search.{Frame, Search, look, advance, on_top}
use Rattle.dataflow.proofs.Lists.{map_set}
use Rattle.memory.specs.Cells.{Mem, cell, word, store, store_cell}
use Rattle.memory.specs.Frame.{Only, NoRow}
use Rattle.memory.specs.Names.{first_row, order_cell, stack_block_cell, stack_edge_cell, successor_cell, successor_count_cell, visited_cell}
use Rattle.memory.specs.Scratch.{scratch_widths}
use Rattle.sizes.specs.declared.Layout.{Layout}
use Rattle.memory.specs.Cells.{Sized}
use Rattle.memory.proofs.CellLaws.{sized-cell, cell-store_same, cell-store_other, same_word}
use Rattle.memory.proofs.FrameLaws.{only_none, only_then, only-more, only-cell}
use Rattle.memory.proofs.ScratchLaws.{sized_among, sized_blocks, width_blocks}
use Rattle.edges.specs.Edges.{marked, Holds}
use Rattle.edges.proofs.EdgeLaws.{marked-yes, only_store}
use Rattle.order.specs.Postorder.{search_cells}
use Rattle.order.specs.Turns.{marks, frames_of, stack_of, search_of, turned, Good, Begun, Facing, Entered, Turned, Looked}
use Rattle.order.proofs.Marks.{marks-fit, marks-set, marks-miss, marks-none, map_replicate}
use Rattle.memory.specs.Edges.{successor_at}
use Rattle.memory.proofs.EdgeLaws.{successor_kept}
use Rattle.order.proofs.FrameLaws.{frames-none, frames-push, frames-next, stack_top}

-- ---- searches by their parts
same-search : {st st' : List Frame} {v v' : List Bool} {f f' : List ℕ} → st ≡ st' → v ≡ v' → f ≡ f'
    → ◌≡◌ {A = Search} (record { stack = st; visited = v; finished = f }) (record { stack = st'; visited = v'; finished = f' })
same-search p q r = rw (p, q, r) refl

look-same : (next : ℕ → List ℕ) (t : Bool) (c : ℕ) (d d' : Search) {fs fs' : List Frame} → fs ≡ fs' → d.visited ≡ d'.visited
    → d.finished ≡ d'.finished → look next t c fs d ≡ look next t c fs' d'
look-same next true c d d' p q r = same-search p q r
look-same next false c d d' p q r =
    same-search (ap {B = List Frame} (λ z. record { block = c; rest = next c } ∷ z) p) (ap (λ (v : List Bool). set v c true) q) r

-- a turn with the frame on top
turned-top : (next : ℕ → List ℕ) (m : Mem) (top len : ℕ) → 0 < top
    → turned next (search_of next m top len)
    ≡ advance next (word m stack_block_cell (top - 1)) (drop (word m stack_edge_cell (top - 1)) (next (word m stack_block_cell (top - 1))))
    (stack_of next m (top - 1)) (search_of next m top len)
turned-top next m top len h =
    ap (λ (st : List Frame). on_top next (λ f fs. advance next f.block f.rest fs (search_of next m top len)) st (search_of next m top len))
    (stack_top next m top h)

-- ---- the words after `enter` at a block that is not visited, with the frame's edge passed in `look`, and with no block visited
abbrev pub pushed : Mem → ℕ → ℕ → Mem
pushed m block top = store (store (store m visited_cell block 1) stack_block_cell top block) stack_edge_cell top 0

abbrev push_cells : List ℕ
push_cells = visited_cell ∷ stack_block_cell ∷ stack_edge_cell ∷ []

abbrev pub moved : Mem → ℕ → ℕ → Mem
moved m top edge = store m stack_edge_cell (top - 1) (edge + 1)

abbrev pub cleared : Layout → Mem → Mem
cleared y m = store_cell m visited_cell (replicate y.blocks 0)

module _ (y : Layout) (m : Mem) (z : Sized (scratch_widths y) m) where
  here : (k : ℕ) → k < first_row → k < length m
  here k h = sized_among y z (omega arith)

  -- the stack and the finished blocks have room
  pub marks_room : (n : ℕ) → n ≤ marks (cell m visited_cell) → n ≤ y.blocks
  marks_room n h = omega (arith, marks-fit (cell m visited_cell), sized_blocks y z visited_cell (omega arith) (omega arith))

  pub good_room : {top len : ℕ} → Good y m top len → top + len ≤ y.blocks
  good_room {top} {len} g = marks_room (top + len) (omega (arith, g.counted))

  -- ---- `enter`
  module _ (block top : ℕ) where
    pushed-visited : cell (pushed m block top) visited_cell ≡ set (cell m visited_cell) block 1
    pushed-visited =
        cell-store_other (store (store m visited_cell block 1) stack_block_cell top block) stack_edge_cell _ visited_cell (λ q. omega arith)
        ∙ cell-store_other (store m visited_cell block 1) stack_block_cell _ visited_cell (λ q. omega arith)
        ∙ cell-store_same m visited_cell _ (here visited_cell (omega arith))

    pushed-blocks : cell (pushed m block top) stack_block_cell ≡ set (cell m stack_block_cell) top block
    pushed-blocks =
        cell-store_other (store (store m visited_cell block 1) stack_block_cell top block) stack_edge_cell _ stack_block_cell (λ q. omega arith)
        ∙ cell-store_same (store m visited_cell block 1) stack_block_cell _
        (rw (length-set m visited_cell (set (cell m visited_cell) block 1)) (here stack_block_cell (omega arith)))
        ∙ ap (λ (x : List ℕ). set x top block) (cell-store_other m visited_cell _ stack_block_cell (λ q. omega arith))

    pushed_edges : cell (pushed m block top) stack_edge_cell ≡ set (cell m stack_edge_cell) top 0
    pushed_edges =
        cell-store_same (store (store m visited_cell block 1) stack_block_cell top block) stack_edge_cell _
        (simp length-set (here stack_edge_cell (omega arith)))
        ∙ ap (λ (x : List ℕ). set x top 0)
        (cell-store_other (store m visited_cell block 1) stack_block_cell _ stack_edge_cell (λ q. omega arith)
        ∙ cell-store_other m visited_cell _ stack_edge_cell (λ q. omega arith))

    pushed-only : Only push_cells NoRow m (pushed m block top)
    pushed-only =
        only_then (only_store push_cells visited_cell block 1 (omega arith) refl refl)
        (only_then (only_store push_cells stack_block_cell top block (omega arith) refl refl)
        (only_store push_cells stack_edge_cell top 0 (omega arith) refl refl))

    -- an unvisited block has room on the stack
    pub enter_room : word m visited_cell block ≡ 0 → block < y.blocks → top ≤ marks (cell m visited_cell) → top < y.blocks
    enter_room e hb h =
        omega (
          arith,
          marks-miss (cell m visited_cell) block (rw (sized_blocks y z visited_cell (omega arith) (omega arith)) hb) e,
          sized_blocks y z visited_cell (omega arith) (omega arith),
        )

    -- the block is visited
    pub enter_old : (word m visited_cell block ≡ 0 → ⊥) → Entered y m m block top top
    enter_old ne = record {
      looks = λ next len. rw (marked-yes (word m visited_cell block) ne) refl;
      good = λ len g. g;
      only = only_none m;
    }

    -- it is not: a frame more
    enter_new : word m visited_cell block ≡ 0 → block < y.blocks → top < y.blocks → Entered y m (pushed m block top) block top (top + 1)
    enter_new e hb ht = record {
      looks = λ next len.
          rw (e, add-one top) (same-search
          (ap₂ (λ (bs es : List ℕ). frames_of next bs es (suc top)) pushed-blocks pushed_edges
          ∙ frames-push next (cell m stack_block_cell) (cell m stack_edge_cell) top block
          (rw (sized_blocks y z stack_block_cell (omega arith) (omega arith)) ht) (rw (sized_blocks y z stack_edge_cell (omega arith) (omega arith)) ht))
          (ap (map marked) pushed-visited ∙ map_set marked (cell m visited_cell) block 1)
          (ap (λ (x : List ℕ). reverse (take len x)) (pushed-only.named order_cell refl)));
      good = λ len g. record {
        blocks = λ i lt. at g i lt (ℕ_discrete i top);
        counted =
            omega (
              arith,
              g.counted,
              ap marks pushed-visited,
              marks-set (cell m visited_cell) block (rw (sized_blocks y z visited_cell (omega arith) (omega arith)) hb) e,
            );
      };
      only = only-more search_cells NoRow refl (λ k h r. r) pushed-only;
    }
      where
        at : {len : ℕ} → Good y m top len → (i : ℕ) → i < top + 1 → Dec (i ≡ top) → word (pushed m block top) stack_block_cell i < y.blocks
        at g i lt (yes q) =
            rw (
              pushed-blocks,
              q,
              get_or-set_same (cell m stack_block_cell) top block 0 (rw (sized_blocks y z stack_block_cell (omega arith) (omega arith)) ht),
            ) hb
        at g i lt (no q) = rw (pushed-blocks, get_or-set_other (cell m stack_block_cell) top i block 0 q) (g.blocks i (omega arith))

    pub entered : (m' : Mem) → m' ≡ pushed m block top → word m visited_cell block ≡ 0 → block < y.blocks → top < y.blocks
        → Entered y m m' block top (top + 1)
    entered m' q e hb ht = subst (λ (x : Mem). Entered y m x block top (top + 1)) (sym q) (enter_new e hb ht)

  -- ---- `advance`, where no edge is left: the block is finished
  module _ (top len : ℕ) (h : 0 < top) (g : Good y m top len) (fit : len < y.blocks) where
    finish-order : cell (store m order_cell len (word m stack_block_cell (top - 1))) order_cell ≡ set (cell m order_cell) len (word m stack_block_cell (top - 1))
    finish-order = cell-store_same m order_cell _ (here order_cell (omega arith))

    finish-only : Only (order_cell ∷ []) NoRow m (store m order_cell len (word m stack_block_cell (top - 1)))
    finish-only = only-cell order_cell _ (omega arith) refl

    pub finish : word m successor_count_cell (word m stack_block_cell (top - 1)) ≤ word m stack_edge_cell (top - 1)
        → Turned y m (store m order_cell len (word m stack_block_cell (top - 1))) top len (top - 1) (len + 1)
    finish le = record {
      turns = λ next holds.
          let b : ℕ = word m stack_block_cell (top - 1) in
          same-search
          (ap₂ (λ (bs es : List ℕ). frames_of next bs es (top - 1)) (finish-only.named stack_block_cell refl) (finish-only.named stack_edge_cell refl))
          (ap (map marked) (finish-only.named visited_cell refl))
          (ap (λ (x : List ℕ). reverse (take (len + 1) x)) finish-order
          ∙ rw add-one (ap reverse (take-suc-set (cell m order_cell) len b (rw (sized_blocks y z order_cell (omega arith) (omega arith)) fit))
          ∙ reverse-append (take len (cell m order_cell)) (b ∷ [])))
          ∙ sym (turned-top next m top len h
          ∙ ap (λ (l : List ℕ). advance next b l (stack_of next m (top - 1)) (search_of next m top len))
          (drop_of_length-le (next b) {i = word m stack_edge_cell (top - 1)} (omega (arith, holds.counted b (g.blocks (top - 1) (omega arith))))));
      good = record {
        blocks = λ i lt. rw (finish-only.named stack_block_cell refl) (g.blocks i (omega arith));
        counted = omega (arith, g.counted, ap marks (finish-only.named visited_cell refl));
      };
      only = only-more search_cells NoRow refl (λ k h r. r) finish-only;
    }

    -- by the words that the code has read
    pub finished : (m' : Mem) (block edge : ℕ) → block ≡ word m stack_block_cell (top - 1) → edge ≡ word m stack_edge_cell (top - 1)
        → word m successor_count_cell block ≤ edge → m' ≡ store m order_cell len block → Turned y m m' top len (top - 1) (len + 1)
    finished m' block edge eb ee le e =
        subst (λ (x : Mem). Turned y m x top len (top - 1) (len + 1)) (sym (e ∙ ap (store m order_cell len) eb))
        (finish (rw (eb, ee) at le))

  -- ---- `look`: the frame's next edge
  module _ (top block n edge : ℕ) (f : Facing y m top block n edge) where
    pub look_room : top ≤ y.blocks
    look_room = marks_room top f.room

    moved-edges : cell (moved m top edge) stack_edge_cell ≡ set (cell m stack_edge_cell) (top - 1) (edge + 1)
    moved-edges = cell-store_same m stack_edge_cell _ (here stack_edge_cell (omega arith))

    moved-only : Only (stack_edge_cell ∷ []) NoRow m (moved m top edge)
    moved-only = only-cell stack_edge_cell _ (omega arith) refl

    -- whatever is written to the frame's edge, the edge leads to a block, and the count and the marks stay
    module _ (v : ℕ) (m₁ : Mem) (e : m₁ ≡ store m stack_edge_cell (top - 1) v) where
      still : Only (stack_edge_cell ∷ []) NoRow m m₁
      still = only-cell stack_edge_cell _ (omega arith) e

      pub lead_below : successor_at m₁ block edge < y.blocks
      lead_below =
          rw (
            successor_kept m m₁ (still.named successor_count_cell refl) (still.named successor_cell refl) block edge,
            f.held.1.stored block edge f.inside there,
          )
          (f.held.1.below block edge f.inside there)
        where
          there : edge < length (f.held.0 block)
          there = omega (arith, f.left, f.counted, f.held.1.counted block f.inside)

      pub moved_counted : n ≡ word m₁ successor_count_cell block
      moved_counted = f.counted ∙ sym (same_word block (still.named successor_count_cell refl))

      pub moved_marks : marks (cell m₁ visited_cell) ≡ marks (cell m visited_cell)
      moved_marks = ap marks (still.named visited_cell refl)

    moved-stack : (next : ℕ → List ℕ)
        → stack_of next (moved m top edge) top ≡ record { block = block; rest = drop (suc edge) (next block) } ∷ stack_of next m (top - 1)
    moved-stack next =
        let s : top ≡ suc (top - 1) = omega arith in
        let e : edge + 1 ≡ suc edge = omega arith in
        ap₂ (λ (bs es : List ℕ). frames_of next bs es top) (moved-only.named stack_block_cell refl) moved-edges
        ∙ ap (frames_of next (cell m stack_block_cell) (set (cell m stack_edge_cell) (top - 1) (edge + 1))) s
        ∙ frames-next next (cell m stack_block_cell) (cell m stack_edge_cell) (top - 1) (edge + 1)
        (rw (sized_blocks y z stack_edge_cell (omega arith) (omega arith)) (omega (arith, look_room)))
        ∙ rw (e, ← f.at_block) refl

    -- where it leads
    leads : (next : ℕ → List ℕ) → Holds next y m → successor_at (moved m top edge) block edge ≡ get_or (next block) edge 0
    leads next holds =
        successor_kept m (moved m top edge) (moved-only.named successor_count_cell refl) (moved-only.named successor_cell refl) block edge
        ∙ holds.stored block edge f.inside (omega (arith, f.left, f.counted, holds.counted block f.inside))

    turned-look : (m' : Mem) (to top' : ℕ) → to ≡ successor_at (moved m top edge) block edge → Entered y (moved m top edge) m' to top top'
        → Looked y m m' top top'
    turned-look m' to top' et r len g = record {
      turns = λ next holds.
          let c : ℕ = get_or (next block) edge 0 in
          let e : to ≡ c = et ∙ leads next holds in
          let v : marked (word (moved m top edge) visited_cell to) ≡ get_or (map marked (cell m visited_cell)) c false =
          ap₂ (λ (x : List ℕ) (i : ℕ). marked (get_or x i 0)) (moved-only.named visited_cell refl) e ∙ sym (get_or-map marked (cell m visited_cell) c 0)
          in
          r.looks next len
          ∙ ap₂ (λ (t : Bool) (i : ℕ). look next t i (stack_of next (moved m top edge) top) (search_of next (moved m top edge) top len)) v e
          ∙ look-same next (get_or (map marked (cell m visited_cell)) c false) c (search_of next (moved m top edge) top len) (search_of next m top len)
          (moved-stack next) (ap (map marked) (moved-only.named visited_cell refl))
          (ap (λ (x : List ℕ). reverse (take len x)) (moved-only.named order_cell refl))
          ∙ sym (turned-top next m top len f.frames
          ∙ ap₂ (λ (b i : ℕ). advance next b (drop i (next b)) (stack_of next m (top - 1)) (search_of next m top len))
          (sym f.at_block) (sym f.at_edge)
          ∙ ap (λ (l : List ℕ). advance next block l (stack_of next m (top - 1)) (search_of next m top len))
          (drop-cons (next block) edge 0 (omega (arith, f.left, f.counted, holds.counted block f.inside))));
      good = r.good len (record {
        blocks = λ i lt. rw (moved-only.named stack_block_cell refl) (g.blocks i lt);
        counted = g.counted ∙ sym (ap marks (moved-only.named visited_cell refl));
      });
      only = only_then (only-more search_cells NoRow refl (λ k h r. r) moved-only) r.only;
    }

    -- by the words that the code has read
    pub looked : (m₁ m' : Mem) (to top' : ℕ) → m₁ ≡ moved m top edge → to ≡ successor_at m₁ block edge
        → Entered y m₁ m' to top top' → Looked y m m' top top'
    looked m₁ m' to top' e et r =
        turned-look m' to top' (et ∙ ap (λ (x : Mem). successor_at x block edge) e)
        (subst (λ (x : Mem). Entered y x m' to top top') e r)

-- ---- `start`
module _ (y : Layout) (m : Mem) (z : Sized (scratch_widths y) m) where
  cleared-visited : cell (cleared y m) visited_cell ≡ replicate y.blocks 0
  cleared-visited = cell-store_same m visited_cell (replicate y.blocks 0) (here y m z visited_cell (omega arith))

  cleared-sized : Sized (scratch_widths y) (cleared y m)
  cleared-sized =
      sized-cell (scratch_widths y) m visited_cell (replicate y.blocks 0) z
      (length-replicate y.blocks 0 ∙ sym (width_blocks y visited_cell (omega arith) (omega arith)))

  pub begun : 0 < y.blocks → (m' : Mem) → m' ≡ pushed (cleared y m) 0 0 → Begun y m' × Only search_cells NoRow m m'
  begun h m' e =
      let v : word (cleared y m) visited_cell 0 ≡ 0 = ap (λ (x : List ℕ). get_or x 0 0) cleared-visited ∙ get_or-replicate y.blocks 0 0 0 h in
      let r : Entered y (cleared y m) m' 0 0 1 = entered y (cleared y m) cleared-sized 0 0 m' e v h h in (
        record {
          begins = λ next.
              r.looks next 0
              ∙ ap (λ (t : Bool). look next t 0 (stack_of next (cleared y m) 0) (search_of next (cleared y m) 0 0)) (ap marked v)
              ∙ same-search (ap {B = List Frame} (λ s. record { block = 0; rest = next 0 } ∷ s) (frames-none next _ _))
              (ap (λ (x : List ℕ). set (map marked x) 0 true) cleared-visited
              ∙ ap (λ (x : List Bool). set x 0 true) (map_replicate marked y.blocks 0)) refl;
          good = r.good 0 (record {
            blocks = λ i lt. absurd (omega arith);
            counted = omega (arith, ap marks cleared-visited, marks-none y.blocks);
          });
        },
        only_then (only-more search_cells NoRow refl (λ k h r. r) (only-cell visited_cell _ (omega arith) refl)) r.only,
      )
