-- The search from the words: the successors of a block, the turns, and the charges. Assumes nothing.
use mathlib.Core.Path.{◌≡◌, refl, sym, ap, ◌∙◌, subst}
use mathlib.Core.Bool.{false}
use mathlib.Core.List.{List, [], ◌∷◌, map}
use Prim.Native.Nat.{ℕ, zero, suc, ◌+◌, ◌-◌, ◌≤◌, ◌<◌}
use native.Mathlib.Numerals.{add-one}
use native.Mathlib.Omega.{arith}
use lib.ListN.{length, get_or, drop, replicate, drop_of_length-le}
use lib.Seq.{drop-cons}
use Rattle.dataflow.specs.Lists.{sum, flag}
use Rattle.dataflow.specs.Search.{Sweep, add, add_all, on_next, take_top, sweep, sweep_from}
use Rattle.dataflow.proofs.Reachability.{add-taken}
use Rattle.memory.specs.Cells.{Mem, word}
use Rattle.memory.specs.Names.{reachable_cell, stack_block_cell, successor_count_cell}
use Rattle.memory.specs.Edges.{successor_at}
use Rattle.sizes.specs.declared.Layout.{Layout}
use Rattle.budget.specs.declared.FlowBudget.{FlowBudget}
use Rattle.budget.specs.declared.Limits.{Limits}
use Rattle.budget.specs.declared.OverWork.{OverWork}
use Rattle.std.specs.Prelude.{Ok, Err}
use Rattle.budget.specs.Budget.{Charged, charged}
use Rattle.budget.proofs.BudgetLaws.{charged-none, ones_more, ones_on, ones_over, ones-crossed}
use Rattle.edges.specs.Edges.{Holds}
use Rattle.bitset.specs.Below.{AllBelow}
use Rattle.memory.specs.Frame.{Only, NoRow}
use Rattle.memory.proofs.FrameLaws.{only_then}
use Rattle.edges.specs.Reachability.{swept_from, sweep_charges, sweep_cells, Reached}
use Rattle.edges.specs.Stack.{stack_of, Sweeps, Begun, Entered, Advanced}
use Rattle.edges.proofs.EdgeLaws.{holds-only}

-- ---- the successors of a block, k of which have been added to r
pub record Adding (next : ℕ → List ℕ) (y : Layout) (block k top : ℕ) (r : Sweep) (m : Mem) : Type 0 where
  pub at : Sweep
  pub here : add_all next (drop k (next block)) at ≡ add_all next (next block) r
  pub sweeps : Sweeps y top at m

module _ {next : ℕ → List ℕ} {y : Layout} {block top : ℕ} {r : Sweep} {m : Mem} where
  pub adding_none : Sweeps y top r m → Adding next y block 0 top r m
  adding_none s = record { at = r; here = refl; sweeps = s }

  pub adding_more : {k to top' : ℕ} {m' : Mem} → k < length (next block) → to ≡ get_or (next block) k 0 → Adding next y block k top r m
      → Entered y to top m m' top' → Adding next y block (k + 1) top' r m'
  adding_more {k} {to} h e a p = record {
    at = add next (get_or a.at.visited to false) to a.at;
    here =
        ap (λ (i : ℕ). add_all next (drop i (next block)) (add next (get_or a.at.visited to false) to a.at)) (add-one k)
        ∙ sym (ap (λ (cs : List ℕ). add_all next cs a.at) rest) ∙ a.here;
    sweeps = p.sweeps next a.at a.sweeps;
  }
    where
      rest : drop k (next block) ≡ to ∷ drop (suc k) (next block)
      rest = drop-cons (next block) k 0 h ∙ ap (λ (d : ℕ). d ∷ drop (suc k) (next block)) (sym e)

  pub adding_all : {k : ℕ} → length (next block) ≤ k → Adding next y block k top r m → Sweeps y top (add_all next (next block) r) m
  adding_all {k} h a =
      subst (λ (x : Sweep). Sweeps y top x m)
      (sym (ap (λ (cs : List ℕ). add_all next cs a.at) (drop_of_length-le (next block) {i = k} h)) ∙ a.here) a.sweeps

-- the next successor is a block
pub successor_at_lem : {next : ℕ → List ℕ} {y : Layout} {block n k to : ℕ} {m m' : Mem} → block < y.blocks → Holds next y m → Only sweep_cells NoRow m m'
    → n ≡ word m successor_count_cell block → k < n → to ≡ successor_at m' block k
    → (k < length (next block)) × (to ≡ get_or (next block) k 0) × (to < y.blocks)
successor_at_lem {next} {block = block} {k = k} lt h f en less e =
    let few : k < length (next block) = omega (arith, h.counted block lt) in
    let is = e ∙ (holds-only f refl refl h).stored block k lt few in
    (few, is, rw is (h.below block k lt few))

-- one charge more is met
pub paid_more : (l : Limits) (b : FlowBudget) {left left' : FlowBudget} (k : ℕ) → charged l b (replicate k 1) ≡ Ok left
    → Ok left' ≡ charged l left (1 ∷ []) → charged l b (replicate (k + 1) 1) ≡ Ok left'
paid_more l b k p q = ones_more l b k p ∙ sym q

-- ---- the answer of the successors
module _ {y : Layout} {l : Limits} {b left : FlowBudget} {block top k n : ℕ} {m m' : Mem} (lt : block < y.blocks)
    (en : n ≡ word m successor_count_cell block) (paid : charged l b (replicate k 1) ≡ Ok left) (only : Only sweep_cells NoRow m m') where
  -- a charge crossed the limit
  pub advanced_over : k < n → {e : OverWork} → Err e ≡ charged l left (1 ∷ []) → Advanced y l b block top m m' (Err e)
  advanced_over less {e} ec = record {
    charges = λ next h. ap (λ (i : ℕ). charged l b (replicate i 1)) (sym (h.counted block lt) ∙ sym en) ∙ ones-crossed l b k n paid less (sym ec);
    sweeps = λ next h d s. tt;
    only = only;
  }

  -- all charges were met, and all successors joined
  pub advanced_all : n ≤ k → k ≤ n → {high : ℕ}
      → ((next : ℕ → List ℕ) → Holds next y m → (r : Sweep) → Sweeps y top r m → Adding next y block k high r m')
      → Advanced y l b block top m m' (Ok (high, left))
  advanced_all past most {high} add = record {
    charges = λ next h. let q : k ≡ length (next block) = omega (arith, h.counted block lt) in
        ap (λ (i : ℕ). charged l b (replicate i 1)) (sym q) ∙ paid;
    sweeps = λ next h d s. adding_all (omega (arith, h.counted block lt)) (add next h d s);
    only = only;
  }

-- ---- the blocks taken
module _ (next : ℕ → List ℕ) where
  -- how many edges leave these blocks
  abbrev pub edges_of : List ℕ → ℕ
  edges_of bs = sum (map (λ b. length (next b)) bs)

  all-taken : (cs : List ℕ) (r : Sweep) → (add_all next cs r).taken ≡ r.taken
  all-taken [] r = refl
  all-taken (c ∷ cs) r = all-taken cs (add next (get_or r.visited c false) c r) ∙ add-taken next (get_or r.visited c false) c r

  top-edges : (b : ℕ) (q : List ℕ) (r : Sweep) → edges_of (take_top next b q r).taken ≡ length (next b) + edges_of r.taken
  top-edges b q r = ap edges_of (all-taken (next b) (record { pending = q; visited = r.visited; taken = b ∷ r.taken }))

  -- no turn takes any back
  edges-grow : (n : ℕ) (r : Sweep) → edges_of r.taken ≤ edges_of (sweep next n r).taken
  unfolding sweep
  edges-grow zero r = omega arith
  edges-grow (suc n) r = go r.pending (λ b q. edges-grow n (take_top next b q r))
    where
      go : (l : List ℕ) → ((b : ℕ) (q : List ℕ) → edges_of (take_top next b q r).taken ≤ edges_of (sweep next n (take_top next b q r)).taken)
          → edges_of r.taken ≤ edges_of (on_next next (λ b q. sweep next n (take_top next b q r)) l r).taken
      go [] f = omega arith
      go (b ∷ q) f = omega (arith, f b q, top-edges b q r)

  -- a turn with b on top, and none
  sweep-turn : (n b : ℕ) (q : List ℕ) (r : Sweep) → r.pending ≡ b ∷ q → sweep next (suc n) r ≡ sweep next n (take_top next b q r)
  unfolding sweep
  sweep-turn n b q r e = ap (λ (l : List ℕ). on_next next (λ b q. sweep next n (take_top next b q r)) l r) e

  sweep-none : (n : ℕ) (r : Sweep) → r.pending ≡ [] → sweep next n r ≡ r
  unfolding sweep
  sweep-none zero r e = refl
  sweep-none (suc n) r e = ap (λ (l : List ℕ). on_next next (λ b q. sweep next n (take_top next b q r)) l r) e

-- ---- the search with n turns to go: the search from here is the search from the start, and the charges so far are met
pub record Swept (next : ℕ → List ℕ) (y : Layout) (l : Limits) (b : FlowBudget) (n top : ℕ) (left : FlowBudget) (m : Mem) : Type 0 where
  pub at : Sweep
  pub here : sweep next n at ≡ swept_from next y.blocks
  pub sweeps : Sweeps y top at m
  pub paid : charged l b (replicate (edges_of next at.taken) 1) ≡ Ok left

pub swept-begun : {next : ℕ → List ℕ} {y : Layout} {l : Limits} {b : FlowBudget} {m : Mem} → Begun y m → Swept next y l b (y.blocks - 0) 1 b m
swept-begun {next} {y} {l} {b} s = record {
  at = sweep_from next y.blocks 0;
  here = let e : y.blocks - 0 ≡ y.blocks = omega arith in ap (λ (n : ℕ). sweep next n (sweep_from next y.blocks 0)) e;
  sweeps = s next;
  paid = charged-none l b;
}

module _ {next : ℕ → List ℕ} {y : Layout} {l : Limits} {b : FlowBudget} {n top : ℕ} {left : FlowBudget} {m : Mem}
    (s : Swept next y l b n top left m) where
  -- ---- a block on top
  module _ (some : 0 < top) where
    pending : s.at.pending ≡ word m stack_block_cell (top - 1) ∷ stack_of m (top - 1)
    pending = let e : top ≡ suc (top - 1) = omega arith in s.sweeps.pending ∙ ap (stack_of m) e

    below : AllBelow y.blocks (word m stack_block_cell (top - 1) ∷ stack_of m (top - 1))
    below = subst (λ (bs : List ℕ). AllBelow y.blocks bs) pending s.sweeps.below

    pub swept_top : word m stack_block_cell (top - 1) < y.blocks
    swept_top = below.0

    module _ {block : ℕ} (e : block ≡ word m stack_block_cell (top - 1)) where
      abbrev popped : Sweep
      popped = record { pending = stack_of m (top - 1); visited = s.at.visited; taken = block ∷ s.at.taken }

      -- the search without its top
      pub swept_popped : Sweeps y (top - 1) popped m
      swept_popped = record {
        pending = refl;
        below = below.1;
        long = s.sweeps.long;
        marks = s.sweeps.marks;
        room = omega (arith, s.sweeps.room);
      }

      module _ {n' : ℕ} (more : n ≡ suc n') (h : Holds next y m) where
        turned : sweep next n' (take_top next block (stack_of m (top - 1)) s.at) ≡ swept_from next y.blocks
        turned =
            sym (sweep-turn next n' block (stack_of m (top - 1)) s.at (pending ∙ ap (λ (x : ℕ). x ∷ stack_of m (top - 1)) (sym e)))
            ∙ sym (ap (λ (i : ℕ). sweep next i s.at) more) ∙ s.here

        taken : edges_of next (take_top next block (stack_of m (top - 1)) s.at).taken ≡ length (next block) + edges_of next s.at.taken
        taken = top-edges next block (stack_of m (top - 1)) s.at

        both : charged l b (replicate (length (next block) + edges_of next s.at.taken) 1) ≡ charged l left (replicate (length (next block)) 1)
        both =
            let q : length (next block) + edges_of next s.at.taken - edges_of next s.at.taken ≡ length (next block) = omega arith in
            ones_on l b (edges_of next s.at.taken) (length (next block) + edges_of next s.at.taken) s.paid (omega arith)
            ∙ ap (λ (i : ℕ). charged l left (replicate i 1)) q

        -- its successors joined
        pub swept_more : {m' : Mem} {top' : ℕ} {left' : FlowBudget} → Advanced y l left block (top - 1) m m' (Ok (top', left'))
            → Swept next y l b n' top' left' m'
        swept_more a = record {
          at = take_top next block (stack_of m (top - 1)) s.at;
          here = turned;
          sweeps = a.sweeps next h popped swept_popped;
          paid = ap (λ (i : ℕ). charged l b (replicate i 1)) taken ∙ both ∙ a.charges next h;
        }

        over_at : {m' : Mem} {x : OverWork} → Advanced y l left block (top - 1) m m' (Err x) → charged l b (sweep_charges next y.blocks) ≡ Err x
        over_at {x} a =
            ones_over l b (length (next block) + edges_of next s.at.taken) (edges_of next (swept_from next y.blocks).taken)
            (both ∙ a.charges next h) (omega (arith, grown, taken))
          where
            grown : edges_of next (take_top next block (stack_of m (top - 1)) s.at).taken ≤ edges_of next (swept_from next y.blocks).taken
            grown =
                subst (λ (x : Sweep). edges_of next (take_top next block (stack_of m (top - 1)) s.at).taken ≤ edges_of next x.taken) turned
                (edges-grow next n' (take_top next block (stack_of m (top - 1)) s.at))

      -- a charge crossed the limit
      pub swept_over : 0 < n → Holds next y m → {m' : Mem} {x : OverWork} → Advanced y l left block (top - 1) m m' (Err x)
          → charged l b (sweep_charges next y.blocks) ≡ Err x
      swept_over some h a = over_at {n' = n - 1} (omega arith) h a

  -- ---- the end
  module _ (e : s.at ≡ swept_from next y.blocks) where
    pub ended_charges : Ok left ≡ charged l b (sweep_charges next y.blocks)
    ended_charges = sym s.paid ∙ ap (λ (x : Sweep). charged l b (replicate (edges_of next x.taken) 1)) e

    pub ended_marks : (c : ℕ) → c < y.blocks → word m reachable_cell c ≡ flag (get_or (swept_from next y.blocks).visited c false)
    ended_marks c lt = s.sweeps.marks c lt ∙ ap (λ (x : Sweep). flag (get_or x.visited c false)) e

  -- the stack is empty
  pub swept_empty : top ≡ 0 → s.at ≡ swept_from next y.blocks
  swept_empty z = sym (sweep-none next n s.at (s.sweeps.pending ∙ ap (stack_of m) z)) ∙ s.here

  -- all turns are taken
  pub swept_out : n ≡ 0 → s.at ≡ swept_from next y.blocks
  unfolding sweep
  swept_out z = sym (ap (λ (i : ℕ). sweep next i s.at) z) ∙ s.here

-- ---- what the words before the search began hold
pub reached-from : {y : Layout} {l : Limits} {b : FlowBudget} {m m₁ m' : Mem} {r : Charged} → Only sweep_cells NoRow m m₁ → Reached y l b m₁ m' r
    → Reached y l b m m' r
reached-from f r = record {
  charges = λ next h. r.charges next (holds-only f refl refl h);
  marks = λ next h. r.marks next (holds-only f refl refl h);
  only = only_then f r.only;
}

-- ---- the two ways out
module _ {y : Layout} {l : Limits} {b left : FlowBudget} {n top : ℕ} {m m' : Mem} (only : Only sweep_cells NoRow m m') where
  pub reached_end : ((next : ℕ → List ℕ) → Holds next y m → Swept next y l b n top left m')
      → ((next : ℕ → List ℕ) (s : Swept next y l b n top left m') → s.at ≡ swept_from next y.blocks) → Reached y l b m m' (Ok left)
  reached_end s e = record {
    charges = λ next h. ended_charges (s next h) (e next (s next h));
    marks = λ next h. ended_marks (s next h) (e next (s next h));
    only = only;
  }

pub reached-over : {y : Layout} {l : Limits} {b : FlowBudget} {e : OverWork} {m m' : Mem} → Only sweep_cells NoRow m m'
    → ((next : ℕ → List ℕ) → Holds next y m → charged l b (sweep_charges next y.blocks) ≡ Err e) → Reached y l b m m' (Err e)
reached-over only f = record {
  charges = λ next h. sym (f next h);
  marks = λ next h. tt;
  only = only;
}
