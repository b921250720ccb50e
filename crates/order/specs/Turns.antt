-- The search that the words of scratch stand for, and what each part of `postorder` makes of it.
use Rattle.std.specs.Prelude.{◌≡◌, List, [], ◌∷◌, map, reverse, ℕ, zero, suc, ◌+◌, ◌-◌, ◌*◌, ◌≤◌, ◌<◌, get_or, take, drop, Result, Ok}
use Rattle.dataflow.specs.Search.{Frame, Search, look, advance, on_top, search_from}
use Rattle.memory.specs.Cells.{Mem, cell, word}
use Rattle.memory.specs.Frame.{Only, NoRow}
use Rattle.memory.specs.Names.{order_cell, stack_block_cell, stack_edge_cell, successor_count_cell, visited_cell}
use Rattle.dataflow.specs.Lists.{flag}
use Rattle.sizes.specs.declared.Layout.{Layout}
use Rattle.budget.specs.declared.FlowBudget.{FlowBudget}
use Rattle.budget.specs.declared.Limits.{Limits}
use Rattle.budget.specs.declared.OverWork.{OverWork}
use Rattle.budget.specs.Budget.{charged}
use Rattle.edges.specs.Edges.{marked, Holds, Held}
use Rattle.order.specs.Postorder.{search_cells, Searched}

-- how many words are marks
unfoldable pub marks : List ℕ → ℕ
marks [] = 0
marks (x ∷ l) = flag (marked x) + marks l

-- the frames below `top`, the highest first, by the words of STACK_BLOCK and STACK_EDGE
unfoldable pub frames_of : (ℕ → List ℕ) → List ℕ → List ℕ → ℕ → List Frame
frames_of next bs es zero = []
frames_of next bs es (suc i) = record { block = get_or bs i 0; rest = drop (get_or es i 0) (next (get_or bs i 0)) } ∷ frames_of next bs es i

-- the stack of `top` frames
abbrev pub stack_of : (ℕ → List ℕ) → Mem → ℕ → List Frame
stack_of next m top = frames_of next (cell m stack_block_cell) (cell m stack_edge_cell) top

-- the search that the words stand for, with `top` frames and `len` finished blocks
abbrev pub search_of : (ℕ → List ℕ) → Mem → ℕ → ℕ → Search
search_of next m top len =
    record { stack = stack_of next m top; visited = map marked (cell m visited_cell); finished = reverse (take len (cell m order_cell)) }

-- one turn with the frame on top
abbrev pub turned : (ℕ → List ℕ) → Search → Search
turned next d = on_top next (λ f fs. advance next f.block f.rest fs d) d.stack d

-- each frame is of a block, and as many blocks are visited as are on the stack or finished
pub record Good (y : Layout) (m : Mem) (top len : ℕ) : Type 0 where
  pub blocks : (i : ℕ) → i < top → word m stack_block_cell i < y.blocks
  pub counted : top + len ≡ marks (cell m visited_cell)

-- `start`: the search from block 0
pub record Begun (y : Layout) (m : Mem) : Type 0 where
  pub begins : (next : ℕ → List ℕ) → search_of next m 1 0 ≡ search_from next y.blocks 0
  pub good : Good y m 1 0

-- `look` may begin: the frame on top is at this block, which has n edges, and at this one of them
pub record Facing (y : Layout) (m : Mem) (top block n edge : ℕ) : Type 0 where
  pub frames : 0 < top
  pub room : top ≤ marks (cell m visited_cell)
  pub held : Held y m
  pub inside : block < y.blocks
  pub at_block : block ≡ word m stack_block_cell (top - 1)
  pub at_edge : edge ≡ word m stack_edge_cell (top - 1)
  pub counted : n ≡ word m successor_count_cell block
  pub left : edge < n

-- `enter`: the block is pushed if it is not visited yet
pub record Entered (y : Layout) (m m' : Mem) (block top top' : ℕ) : Type 0 where
  pub looks : (next : ℕ → List ℕ) (len : ℕ)
      → search_of next m' top' len ≡ look next (marked (word m visited_cell block)) block (stack_of next m top) (search_of next m top len)
  pub good : (len : ℕ) → Good y m top len → Good y m' top' len
  pub only : Only search_cells NoRow m m'

-- `advance`: one turn, for whatever graph the words hold
pub record Turned (y : Layout) (m m' : Mem) (top len top' len' : ℕ) : Type 0 where
  pub turns : (next : ℕ → List ℕ) → Holds next y m → search_of next m' top' len' ≡ turned next (search_of next m top len)
  pub good : Good y m' top' len'
  pub only : Only search_cells NoRow m m'

-- `look`: one turn, however many blocks are finished
abbrev pub Looked : Layout → Mem → Mem → ℕ → ℕ → Type 0
Looked y m m' top top' = (len : ℕ) → Good y m top len → Turned y m m' top len top' len

-- `search`: what `postorder` does with any budget of which the first charge leaves `left`
abbrev pub Resumed : Layout → Limits → FlowBudget → Mem → Mem → Result (ℕ × FlowBudget) OverWork → Type 0
Resumed y l left m m' r = (b : FlowBudget) → charged l b ((3 * y.blocks) ∷ []) ≡ Ok left → Searched y l b m m' r
