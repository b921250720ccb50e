-- `check_points`: the blocks in turn, and the answer for each way out of the loop. Assumes nothing.
use mathlib.Core.Path.{◌≡◌, refl, sym, ap, subst, ◌∙◌}
use mathlib.Core.Bool.{Bool}
use mathlib.Core.List.{List, [], ◌∷◌, ◌++◌, append-nil}
use Prim.Native.Nat.{ℕ, suc, ◌+◌, ◌-◌, ◌≤◌, ◌<◌}
use native.Mathlib.Nat.{add-zero}
use native.Mathlib.Omega.{arith}
use lib.ListN.{length, length-append}
use Rattle.dataflow.specs.Lists.{range}
use Rattle.dataflow.proofs.Lists.{range-append}
use Rattle.budget.specs.declared.FlowBudget.{FlowBudget}
use Rattle.budget.specs.declared.Limits.{Limits}
use Rattle.std.specs.Prelude.{Ok, Err}
use Rattle.memory.specs.Cells.{Mem, cell}
use Rattle.memory.specs.Sets.{SetsRow}
use Rattle.sizes.specs.declared.Layout.{Layout}
use Rattle.sizes.specs.declared.Stopped.{Stopped}
use Rattle.sheet.specs.declared.script.Script.{Script}
use Rattle.sheet.specs.Decode.{parts_of}
use Rattle.script.specs.Script.{host_in}
use Rattle.verdict.specs.Points.{Checking, and_then, Point, block_run, blocks_run, points_run, block_points, points}
use Rattle.awaits.specs.Awaits.{Entries}
use Rattle.awaits.proofs.BackwardLaws.{entries-kept}
use Rattle.reads.specs.Reads.{Counting, checking_of, held_set}
use Rattle.reads.proofs.ReadLaws.{same_count, refused-not_passed}
use Rattle.check_points.specs.CheckPoints.{code_of, Solved, facts_of, Facing, BlockChecked, PointsChecked}
use Rattle.check_points.proofs.SolvedLaws.{RunningOnly, running-then, held_kept, solved_kept, solved-sets}
use Rattle.check_points.proofs.SpanLaws.{blocks_append, points_few}

-- ---- entries

-- entries, and then more
entries-append : (y : Layout) (t : Mem) (first : ℕ) (ps qs : List Point) → Entries y t first ps → Entries y t (first + length ps) qs
    → Entries y t first (ps ++ qs)
entries-append y t first [] qs h g = subst (λ (k : ℕ). Entries y t k qs) (add-zero first) g
entries-append y t first (p ∷ ps) qs h g = (
  h.0,
  entries-append y t (first + 1) ps qs h.1
      (subst (λ (k : ℕ). Entries y t k qs) (let e : first + suc (length ps) ≡ first + 1 + length ps = omega arith in e) g),
)

-- ---- the blocks before a block are checked

-- the run over a block
abbrev pub run_of : List ℕ → (ℕ → Bool) → Script → Layout → Limits → ℕ → FlowBudget → Checking
run_of s parameter x y l = block_run (code_of s) parameter l y.words x.slots (host_in (parts_of s))

-- over blocks in turn
abbrev pub run_over : List ℕ → (ℕ → Bool) → Script → Layout → Limits → List ℕ → FlowBudget → Checking
run_over s parameter x y l = blocks_run (code_of s) parameter l y.words x.slots (host_in (parts_of s))

-- the points of the blocks before a block
abbrev pub points_before : List ℕ → (ℕ → Bool) → ℕ → ℕ → List Point
points_before s parameter words block = block_points (code_of s) parameter words (range 0 block)

-- the run from here is the run from the start, the entries of the points so far stand, and the rows and all but the running rows are as they were
pub record Turned (s : List ℕ) (parameter : ℕ → Bool) (x : Script) (y : Layout) (l : Limits) (b : FlowBudget) (block place : ℕ) (left : FlowBudget)
    (m m' t t' : Mem) : Type 0 where
  pub solved : Solved s parameter x y m' t'
  pub some : block ≤ y.blocks
  pub run : run_over s parameter x y l (range block (y.blocks - block)) left
      ≡ points_run (code_of s) parameter l y.words x.slots (host_in (parts_of s)) b
  pub count : place ≡ length (points_before s parameter y.words block)
  pub entries : Entries y t' 0 (points_before s parameter y.words block)
  pub rows : (k : ℕ) → SetsRow y k → cell t' k ≡ cell t k
  pub others : RunningOnly y m m'

-- before the first block
pub turned_none : {s : List ℕ} {parameter : ℕ → Bool} {x : Script} {y : Layout} (l : Limits) (b : FlowBudget) {m t : Mem} → Solved s parameter x y m t → Turned s parameter x y l b 0 0 b m m t t
unfolding points_run block_points
turned_none {s} {parameter} {x} {y} l b p = record {
  solved = p;
  some = omega arith;
  run = ap (λ (n : ℕ). run_over s parameter x y l (range 0 n) b)
      (let e : y.blocks - 0 ≡ y.blocks = omega arith in e ∙ p.flows.blocks);
  count = refl;
  entries = tt;
  rows = λ k lt. refl;
  others = record { others = λ k a d. refl };
}

-- the points up to and with a block
points-more : (s : List ℕ) (parameter : ℕ → Bool) (words block : ℕ) → points_before s parameter words (block + 1) ≡ points_before s parameter words block ++ facts_of s parameter words block
unfolding block_points
points-more s parameter words block =
    ap (block_points (code_of s) parameter words) (range-append 0 block 1)
    ∙ blocks_append (code_of s) parameter words (range 0 block) (range (0 + block) 1)
    ∙ ap (λ (c : ℕ). points_before s parameter words block ++ (facts_of s parameter words c ++ [])) (let e : 0 + block ≡ block = omega arith in e)
    ∙ ap (λ (qs : List Point). points_before s parameter words block ++ qs) (append-nil (facts_of s parameter words block))

-- there are no more of them than of the whole code
points-within : (s : List ℕ) (parameter : ℕ → Bool) (words n k : ℕ) → k ≤ n → length (points_before s parameter words k) ≤ length (points_before s parameter words n)
points-within s parameter words n k le = omega (
  arith,
  ap (λ (j : ℕ). length (points_before s parameter words j)) (let e : n ≡ k + (n - k) = omega arith in e),
  ap (λ (cs : List ℕ). length (block_points (code_of s) parameter words cs)) (range-append 0 k (n - k)),
  ap length (blocks_append (code_of s) parameter words (range 0 k) (range (0 + k) (n - k))),
  length-append (points_before s parameter words k) (block_points (code_of s) parameter words (range (0 + k) (n - k))),
)

module _ {s : List ℕ} {parameter : ℕ → Bool} {x : Script} {y : Layout} {l : Limits} {b : FlowBudget} {block place : ℕ} {left : FlowBudget} {m m' t t' : Mem}
    (h : Turned s parameter x y l b block place left m m' t t') where
  -- all points are those before the last block's end
  points-are : points_before s parameter y.words y.blocks ≡ points (code_of s) parameter y.words
  unfolding points
  points-are = ap (points_before s parameter y.words) h.solved.flows.blocks

  -- all blocks are checked
  pub turned_all : y.blocks ≤ block → PointsChecked s parameter x y l b m m' t t' (Ok (place, left))
  unfolding blocks_run
  turned_all le = record {
    answer = ap (λ (n : ℕ). run_over s parameter x y l (range block n) left)
        (let e : 0 ≡ y.blocks - block = omega (arith, le) in e) ∙ h.run;
    count = λ n last e. sym (same_count e) ∙ h.count ∙ ap length all;
    entries = λ n last e. subst (λ (ps : List Point). Entries y t' 0 ps) all h.entries;
    rows = λ n last e. h.rows;
    others = h.others.others;
  }
    where
      all : points_before s parameter y.words block ≡ points (code_of s) parameter y.words
      all = ap (points_before s parameter y.words) (let e : block ≡ y.blocks = omega (arith, le, h.some) in e) ∙ points-are

  module _ (lt : block < y.blocks) where
    -- what `check_block` requires
    pub turned_facing : Facing s parameter x y block place m' t'
    turned_facing = record {
      solved = h.solved;
      inside = lt;
      room = omega (
        arith,
        h.count,
        ap length (points-more s parameter y.words block),
        length-append (points_before s parameter y.words block) (facts_of s parameter y.words block),
        points-within s parameter y.words y.blocks (block + 1) (omega arith),
        ap length points-are,
        points_few s parameter x h.solved.coded.sound y.words,
        h.solved.awaits,
      );
    }

    -- the run over this block and the rest
    run-block : and_then (run_of s parameter x y l block left)
        (run_over s parameter x y l (range (block + 1) (y.blocks - (block + 1))))
        ≡ points_run (code_of s) parameter l y.words x.slots (host_in (parts_of s)) b
    unfolding blocks_run
    run-block =
        ap (λ (k : ℕ). and_then (run_of s parameter x y l block left)
        (run_over s parameter x y l (range k (y.blocks - (block + 1)))))
        (let e : block + 1 ≡ suc block = omega arith in e)
        ∙ ap (λ (n : ℕ). run_over s parameter x y l (range block n) left)
        (let e : suc (y.blocks - (block + 1)) ≡ y.blocks - block = omega (arith, lt) in e)
        ∙ h.run

    module _ {m'' t'' : Mem} {r : Counting} (p : BlockChecked s parameter x y l left block place m' m'' t' t'' r) where
      -- of scratch the block changes the running rows alone
      only : RunningOnly y m' m''
      only = record { others = p.others }

      -- a block is refused
      pub turned_over : {z : Stopped} → r ≡ Err z → PointsChecked s parameter x y l b m m'' t t'' (Err z)
      turned_over e = record {
        answer = ap (λ (c : Checking). and_then c (run_over s parameter x y l
            (range (block + 1) (y.blocks - (block + 1))))) (sym (ap checking_of e) ∙ p.answer)
            ∙ run-block;
        count = λ n k q. absurd (refused-not_passed q);
        entries = λ n k q. absurd (refused-not_passed q);
        rows = λ n k q. absurd (refused-not_passed q);
        others = (running-then h.others only).others;
      }

      -- a block passed
      pub turned_more : {n : ℕ} {last : FlowBudget} → r ≡ Ok (n, last) → Turned s parameter x y l b (block + 1) n last m m'' t t''
      turned_more {n} {last} e = record {
        solved = solved-sets below (solved_kept only h.solved);
        some = omega (arith, lt);
        run = ap (λ (c : Checking). and_then c (run_over s parameter x y l
            (range (block + 1) (y.blocks - (block + 1))))) (sym (ap checking_of e) ∙ p.answer)
            ∙ run-block;
        count = p.count n last e ∙ omega (
          arith,
          h.count,
          ap length (points-more s parameter y.words block),
          length-append (points_before s parameter y.words block) (facts_of s parameter y.words block),
        );
        entries = subst (λ (ps : List Point). Entries y t'' 0 ps) (sym (points-more s parameter y.words block))
            (entries-append y t'' 0 (points_before s parameter y.words block) (facts_of s parameter y.words block)
            (entries-kept y t' t'' 0 (points_before s parameter y.words block) (λ k lo kt. p.earlier n last e k (omega (arith, kt, h.count))) h.entries)
            (subst (λ (k : ℕ). Entries y t'' k (facts_of s parameter y.words block))
            (let z : place ≡ 0 + length (points_before s parameter y.words block) = omega (arith, h.count) in z) (p.entries n last e)));
        rows = λ k kt. below k kt ∙ h.rows k kt;
        others = running-then h.others only;
      }
        where
          below : (k : ℕ) → SetsRow y k → cell t'' k ≡ cell t' k
          below k kt = p.earlier n last e k (omega (arith, kt))

-- ---- the parameters as their row holds them

module _ {s : List ℕ} {x : Script} {y : Layout} {l : Limits} {b : FlowBudget} {block place : ℕ} {left : FlowBudget} {m m' t t' : Mem}
    (h : Turned s (held_set y m) x y l b block place left m m' t t') where
  -- what `check_block` requires, with those of its own words
  pub turned_held : block < y.blocks → Facing s (held_set y m') x y block place m' t'
  turned_held lt = subst (λ (p : ℕ → Bool). Facing s p x y block place m' t') (sym (held_kept h.others)) (turned_facing h lt)

  -- what it does, with those of the first words
  pub block_held : {m'' t'' : Mem} {r : Counting} → BlockChecked s (held_set y m') x y l left block place m' m'' t' t'' r
      → BlockChecked s (held_set y m) x y l left block place m' m'' t' t'' r
  block_held {m''} {t''} {r} p =
      subst (λ (q : ℕ → Bool). BlockChecked s q x y l left block place m' m'' t' t'' r) (held_kept h.others) p
