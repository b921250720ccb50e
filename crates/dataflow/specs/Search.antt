-- The two searches over the blocks: solver.rs `postorder` (depth first) and flow.rs `reachability` (a stack).
use Rattle.std.specs.Prelude.{Bool, true, false, List, [], ◌∷◌, ℕ, zero, suc, length, get_or, set, replicate}
use Rattle.dataflow.specs.Lists.{tabulate, sum}

-- a block on the stack, with the successors that are still to be looked at
pub record Frame : Type 0 where
  pub block : ℕ
  pub rest : List ℕ

pub record Search : Type 0 where
  pub stack : List Frame
  pub visited : List Bool
  -- the finished blocks, the latest first: `order` from its back
  pub finished : List ℕ

pub record Sweep : Type 0 where
  -- `pending`, its top first
  pub pending : List ℕ
  pub visited : List Bool
  -- the blocks taken from it, the latest first
  pub taken : List ℕ

-- how many blocks are not visited
abbrev pub unvisited : List Bool → ℕ
unvisited [] = 0
unvisited (true ∷ l) = unvisited l
unvisited (false ∷ l) = suc (unvisited l)

module _ (next : ℕ → List ℕ) where
  -- ── postorder ──

  -- the successor c: pushed if it is not visited yet. fs is the stack below it
  abbrev pub look : Bool → ℕ → List Frame → Search → Search
  look true c fs d = record { stack = fs; visited = d.visited; finished = d.finished }
  look false c fs d = record { stack = record { block = c; rest = next c } ∷ fs; visited = set d.visited c true; finished = d.finished }

  -- one turn with block b on top, l its successors to look at and fs below it
  abbrev pub advance : ℕ → List ℕ → List Frame → Search → Search
  advance b [] fs d = record { stack = fs; visited = d.visited; finished = b ∷ d.finished }
  advance b (c ∷ l) fs d = look (get_or d.visited c false) c (record { block = b; rest = l } ∷ fs) d

  abbrev pub on_top : {A : Type 0} → (Frame → List Frame → A) → List Frame → A → A
  on_top k [] d = d
  on_top k (f ∷ fs) d = k f fs

  -- at most n turns
  unfoldable pub search : ℕ → Search → Search
  search zero d = d
  search (suc n) d = on_top (λ f fs. search n (advance f.block f.rest fs d)) d.stack d

  -- how many turns it takes, of at most n
  unfoldable pub turns : ℕ → Search → ℕ
  turns zero d = 0
  turns (suc n) d = on_top (λ f fs. suc (turns n (advance f.block f.rest fs d))) d.stack 0

  -- block b alone is on the stack, of n blocks
  abbrev pub search_from : ℕ → ℕ → Search
  search_from n b = record { stack = record { block = b; rest = next b } ∷ []; visited = set (replicate n false) b true; finished = [] }

  -- turns that are enough: one for each block and one for each edge
  abbrev pub all_turns : ℕ → ℕ
  all_turns n = sum (tabulate 0 n (λ b. suc (length (next b))))

  -- ── reachability ──

  -- c joins the stack unless it is visited (t)
  abbrev pub add : Bool → ℕ → Sweep → Sweep
  add true c r = r
  add false c r = record { pending = c ∷ r.pending; visited = set r.visited c true; taken = r.taken }

  abbrev pub add_all : List ℕ → Sweep → Sweep
  add_all [] r = r
  add_all (c ∷ cs) r = add_all cs (add (get_or r.visited c false) c r)

  abbrev pub on_next : (ℕ → List ℕ → Sweep) → List ℕ → Sweep → Sweep
  on_next k [] r = r
  on_next k (b ∷ q) r = k b q

  -- b is taken from the stack, q lies below it
  abbrev pub take_top : ℕ → List ℕ → Sweep → Sweep
  take_top b q r = add_all (next b) (record { pending = q; visited = r.visited; taken = b ∷ r.taken })

  -- at most n blocks are taken
  unfoldable pub sweep : ℕ → Sweep → Sweep
  sweep zero r = r
  sweep (suc n) r = on_next (λ b q. sweep n (take_top b q r)) r.pending r

  abbrev pub sweep_from : ℕ → ℕ → Sweep
  sweep_from n b = record { pending = b ∷ []; visited = set (replicate n false) b true; taken = [] }
