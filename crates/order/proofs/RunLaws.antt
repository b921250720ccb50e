-- The search turn by turn, with its charges: what is kept between turns, and what follows at each way out. Assumes nothing.
use mathlib.Core.Path.{◌≡◌, sym, ap, subst, ◌∙◌}
use mathlib.Core.List.{List, [], ◌∷◌, reverse, reverse-reverse}
use Prim.Native.Nat.{ℕ, suc, ◌+◌, ◌-◌, ◌*◌, ◌≤◌, ◌<◌}
use native.Mathlib.Omega.{arith}
use lib.ListN.{length, get_or, take, replicate, length-map, length-reverse}
use lib.Seq.{length-take-le}
use Rattle.dataflow.specs.Search.{Frame, Search, search, turns, search_from, all_turns}
use Rattle.dataflow.proofs.Search.{turns_left, start_left, none_left}
use Rattle.memory.specs.Cells.{Mem, cell, word}
use Rattle.memory.specs.Frame.{Only, NoRow}
use Rattle.memory.specs.Names.{order_cell, stack_block_cell, stack_edge_cell, visited_cell}
use Rattle.memory.specs.Scratch.{Whole}
use Rattle.sizes.specs.declared.Layout.{Layout}
use Rattle.memory.proofs.FrameLaws.{only_none, only_then}
use Rattle.memory.proofs.ScratchLaws.{sized_blocks}
use Rattle.budget.specs.declared.FlowBudget.{FlowBudget}
use Rattle.budget.specs.declared.Limits.{Limits}
use Rattle.budget.specs.declared.OverWork.{OverWork}
use Rattle.std.specs.Prelude.{Result, Ok, Err}
use Rattle.budget.specs.Budget.{charged}
use Rattle.budget.proofs.BudgetLaws.{charged-none, met_then, over_then}
use Rattle.edges.specs.Edges.{marked, Holds}
use Rattle.order.specs.Postorder.{searched_from, search_charges, search_cells, Searched}
use Rattle.order.specs.Turns.{stack_of, search_of, turned, Good, Begun, Turned, Resumed}
use Rattle.order.proofs.SearchEnd.{search_step, search_stop, turns_step, turns_stop, turn_left, all_turns_lem}
use Rattle.order.proofs.FrameLaws.{frame_at, frames-none, stack_top, holds_kept, rest_below}
use Rattle.order.proofs.TurnLaws.{good_room}

-- the charges of the whole search, one a turn
abbrev pub turn_charges : (ℕ → List ℕ) → ℕ → List ℕ
turn_charges next n = replicate (turns next (all_turns next n) (search_from next n 0)) 1

-- ---- one graph
module _ (next : ℕ → List ℕ) (y : Layout) (l : Limits) (b : FlowBudget) where
  -- the search from block 0 with budget b stands at d after some turns, with `left` to go on with
  pub record Way (d : Search) (left : FlowBudget) (turn : ℕ) : Type 0 where
    pub fuel : turn + turns_left next d ≡ all_turns next y.blocks
    pub whole : search next (turns_left next d) d ≡ searched_from next y.blocks
    pub charges : charged l b (turn_charges next y.blocks) ≡ charged l left (replicate (turns next (turns_left next d) d) 1)

  pub way_start : 0 < y.blocks → (d : Search) → d ≡ search_from next y.blocks 0 → Way d b 0
  way_start h d e = subst (λ (x : Search). Way x b 0) (sym e) first
    where
      first : Way (search_from next y.blocks 0) b 0
      first =
          let s = start_left next y.blocks 0 h in
          record {
            fuel = omega (arith, s);
            whole = ap (λ (n : ℕ). search next n (search_from next y.blocks 0)) s;
            charges = ap (λ (n : ℕ). charged l b (replicate (turns next n (search_from next y.blocks 0)) 1)) (sym s);
          }

  module _ (d : Search) (left : FlowBudget) (turn : ℕ) (w : Way d left turn) where
    -- a turn with a frame on top
    module _ (f : Frame) (fs : List Frame) (e : d.stack ≡ f ∷ fs)
        (below : (i : ℕ) → i < length f.rest → get_or f.rest i 0 < length d.visited) where
      abbrev after : ℕ
      after = turns_left next (turned next d)

      one : turns_left next d ≡ suc after
      one = turn_left next d f fs e below

      spent : charged l b (turn_charges next y.blocks)
          ≡ charged l left (1 ∷ replicate (turns next after (turned next d)) 1)
      spent =
          w.charges
          ∙ ap (λ (n : ℕ). charged l left (replicate n 1)) (ap (λ (n : ℕ). turns next n d) one ∙ turns_step next d f fs e after)

      pub way_more : (left' : FlowBudget) → charged l left (1 ∷ []) ≡ Ok left' → (d' : Search) → d' ≡ turned next d
          → Way d' left' (turn + 1)
      way_more left' q d' t = subst (λ (x : Search). Way x left' (turn + 1)) (sym t) (record {
        fuel = omega (arith, w.fuel, one);
        whole = sym (search_step next d f fs e after) ∙ ap (λ (n : ℕ). search next n d) (sym one) ∙ w.whole;
        charges = spent ∙ met_then l left (1 ∷ []) (replicate (turns next after (turned next d)) 1) q;
      })

      pub way_over : {e : OverWork} → charged l left (1 ∷ []) ≡ Err e → charged l b (turn_charges next y.blocks) ≡ Err e
      way_over q = spent ∙ over_then l left (1 ∷ []) (replicate (turns next after (turned next d)) 1) q

    -- with an empty stack
    module _ (e : d.stack ≡ []) where
      pub way_whole : d ≡ searched_from next y.blocks
      way_whole = sym (search_stop next d e (turns_left next d)) ∙ w.whole

      pub way_met : charged l b (turn_charges next y.blocks) ≡ Ok left
      way_met =
          w.charges ∙ ap (λ (n : ℕ). charged l left (replicate n 1)) (turns_stop next d e (turns_left next d)) ∙ charged-none l left

-- ---- the words, for whatever graph they hold

-- a charge of the search crossed the limit
searched-crossed : (y : Layout) (l : Limits) (b : FlowBudget) (m m' : Mem) {e : OverWork} → Only search_cells NoRow m m'
    → ((next : ℕ → List ℕ) → Holds next y m → charged l b (search_charges next y.blocks) ≡ Err e) → Searched y l b m m' (Err e)
searched-crossed y l b m m' only crossed = record {
  charges = crossed;
  order = λ next holds. tt;
  len = λ next holds. tt;
  only = only;
}

module _ (y : Layout) (l : Limits) (b : FlowBudget) (m₀ : Mem) where
  pub record Going (m : Mem) (left : FlowBudget) (top len turn : ℕ) : Type 0 where
    pub whole : Whole y m
    pub good : Good y m top len
    pub only : Only search_cells NoRow m₀ m
    pub way : (next : ℕ → List ℕ) → Holds next y m₀ → Way next y l b (search_of next m top len) left turn

  pub going_start : Whole y m₀ → 0 < y.blocks → Begun y m₀ → Going m₀ b 1 0 0
  going_start z h s = record {
    whole = z;
    good = s.good;
    only = only_none m₀;
    way = λ next holds. way_start next y l b h (search_of next m₀ 1 0) (s.begins next);
  }

  module _ (m : Mem) (left : FlowBudget) (top len turn : ℕ) (g : Going m left top len turn) where
    flags : (next : ℕ → List ℕ) → length (search_of next m top len).visited ≡ y.blocks
    flags next = length-map (cell m visited_cell) marked ∙ sized_blocks y g.whole visited_cell (omega arith) (omega arith)

    module _ (h : 0 < top) where
      below : (next : ℕ → List ℕ) → Holds next y m₀ → (i : ℕ) → i < length (frame_at next m (top - 1)).rest
          → get_or (frame_at next m (top - 1)).rest i 0 < length (search_of next m top len).visited
      below next holds i lt =
          rw (flags next) (rest_below holds (word m stack_block_cell (top - 1)) (word m stack_edge_cell (top - 1)) (g.good.blocks (top - 1) (omega arith)) i lt)

      pub going_more : (m' : Mem) (left' : FlowBudget) (top' len' : ℕ) → Ok left' ≡ charged l left (1 ∷ [])
          → Whole y m' → Turned y m m' top len top' len' → Going m' left' top' len' (turn + 1)
      going_more m' left' top' len' q z t = record {
        whole = z;
        good = t.good;
        only = only_then g.only t.only;
        way = λ next holds.
            way_more next y l b (search_of next m top len) left turn (g.way next holds) (frame_at next m (top - 1)) (stack_of next m (top - 1))
            (stack_top next m top h) (below next holds) left' (sym q) (search_of next m' top' len')
            (t.turns next (holds_kept g.only holds));
      }

      pub going_over : {e : OverWork} → Err e ≡ charged l left (1 ∷ []) → Resumed y l b m₀ m (Err e)
      going_over q b₀ first =
          searched-crossed y l b₀ m₀ m g.only (λ next holds.
          met_then l b₀ ((3 * y.blocks) ∷ []) (turn_charges next y.blocks) first
          ∙ way_over next y l b (search_of next m top len) left turn (g.way next holds) (frame_at next m (top - 1)) (stack_of next m (top - 1))
          (stack_top next m top h) (below next holds) (sym q))

    going_end : ((next : ℕ → List ℕ) → Holds next y m₀ → (search_of next m top len).stack ≡ []) → Resumed y l b m₀ m (Ok (len, left))
    going_end stop b₀ e = record {
      charges = λ next holds.
          met_then l b₀ ((3 * y.blocks) ∷ []) (turn_charges next y.blocks) e
          ∙ way_met next y l b (search_of next m top len) left turn (g.way next holds) (stop next holds);
      order = λ next holds.
          sym (reverse-reverse (take len (cell m order_cell))) ∙ ap (λ (d : Search). reverse d.finished) (end next holds);
      len = λ next holds.
          sym (length-reverse (take len (cell m order_cell)) ∙ length-take-le len (cell m order_cell) fit)
          ∙ ap (λ (d : Search). length d.finished) (end next holds);
      only = g.only;
    }
      where
        end : (next : ℕ → List ℕ) → Holds next y m₀ → search_of next m top len ≡ searched_from next y.blocks
        end next holds = way_whole next y l b (search_of next m top len) left turn (g.way next holds) (stop next holds)

        fit : len ≤ length (cell m order_cell)
        fit = rw (sized_blocks y g.whole order_cell (omega arith) (omega arith)) (omega (arith, good_room y m g.whole g.good))

    -- no frame is left
    pub going_empty : top ≡ 0 → Resumed y l b m₀ m (Ok (len, left))
    going_empty e = going_end (λ next holds. rw e (frames-none next _ _))

    -- a turn for each block and each edge was taken
    pub going_full : 3 * y.blocks + y.extra ≤ turn → Resumed y l b m₀ m (Ok (len, left))
    going_full h =
        going_end (λ next holds. none_left next (search_of next m top len)
        (omega (arith, (g.way next holds).fuel, all_turns_lem next y.blocks, holds.few)))

-- ---- the whole: the first charge crosses the limit, or the search goes on from words that hold the same graph
pub searched-over : (y : Layout) (l : Limits) (b : FlowBudget) (m : Mem) {e : OverWork} → Err e ≡ charged l b ((3 * y.blocks) ∷ [])
    → Searched y l b m m (Err e)
searched-over y l b m q =
    searched-crossed y l b m m (only_none m)
    (λ next holds. over_then l b ((3 * y.blocks) ∷ []) (turn_charges next y.blocks) (sym q))

pub searched-kept : (y : Layout) (l : Limits) (b : FlowBudget) (m₀ m m' : Mem) (r : Result (ℕ × FlowBudget) OverWork) → Only search_cells NoRow m₀ m → Searched y l b m m' r
    → Searched y l b m₀ m' r
searched-kept y l b m₀ m m' r k s = record {
  charges = λ next holds. s.charges next (holds_kept k holds);
  order = λ next holds. s.order next (holds_kept k holds);
  len = λ next holds. s.len next (holds_kept k holds);
  only = only_then k s.only;
}
