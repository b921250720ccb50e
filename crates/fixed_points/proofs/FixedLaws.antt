-- The three stages of `fixed_points` put together: what stays between them, and the answer for each way to stop. Assumes nothing.
use mathlib.Core.Path.{◌≡◌, refl, sym, ap, ◌∙◌}
use mathlib.Core.Bool.{Bool}
use mathlib.Core.List.{List, reverse}
use Prim.Native.Nat.{ℕ}
use native.Mathlib.Omega.{arith}
use lib.ListN.{length, take}
use Rattle.bitset.specs.Sets.{member}
use Rattle.dataflow.specs.Analyses.{initialization, liveness}
use Rattle.dataflow.specs.Code.{Instruction, block_successors}
use Rattle.dataflow.specs.Charges.{postorder_charges, propagate_charges, rounds_charges}
use Rattle.budget.specs.declared.FlowBudget.{FlowBudget}
use Rattle.budget.specs.declared.Limits.{Limits}
use Rattle.budget.specs.declared.OverWork.{OverWork}
use Rattle.std.specs.Prelude.{Result, Ok, Err}
use Rattle.budget.specs.Budget.{Charged, charged}
use Rattle.budget.proofs.BudgetLaws.{met_then, over_then, over-not_ok}
use Rattle.memory.specs.Cells.{Mem, cell, Sized, InWords}
use Rattle.memory.specs.Names.{order_cell, parameters_row, initialized_row, live_row}
use Rattle.memory.specs.Scratch.{scratch_widths, Whole}
use Rattle.sizes.specs.declared.Layout.{Layout}
use Rattle.memory.proofs.WordLaws.{row_in_words}
use Rattle.edges.proofs.FlowLaws.{Still, still-only, flows-still}
use Rattle.order.specs.Postorder.{searched_from, search_charges, Searched}
use Rattle.transfer.specs.declared.direction.Direction.{Direction}
use Rattle.transfer.specs.declared.direction.Direction.TheVariants.{Initialization, Liveness}
use Rattle.propagate.specs.Rounds.{Seedable, Propagated}
use Rattle.transfer.proofs.TransferLaws.{running-at}
use Rattle.edges.specs.Flow.{Flows}
use Rattle.fixed_points.specs.FixedPoints.{Fixed}
use Rattle.fixed_points.specs.Stages.{Flowing, InOrder, Ready, RoundsDone}
use Rattle.fixed_points.proofs.Bits.{RowsOfWords}
use Rattle.fixed_points.proofs.RoundLaws.{FreshIn, fresh_in, round_charges_lem, round_sets}
use Rattle.fixed_points.proofs.Seeds.{seedable}

-- ---- what stays

-- the search leaves the graph's cells as they were
pub still-searched : {y : Layout} {l : Limits} {b : FlowBudget} {m m' : Mem} {r : Result (ℕ × FlowBudget) OverWork}
    → Searched y l b m m' r → Still y m m'
still-searched p = still-only refl (λ k r. absurd r) p.only

-- so does a round
pub still-round : {d : Direction} {y : Layout} {l : Limits} {b : FlowBudget} {n : ℕ} {m m' t t' : Mem} {r : Charged} {left : FlowBudget}
    → Propagated d y l b n m m' t t' r → r ≡ Ok left → Still y m m'
still-round {d} {y} {left = left} p e = record {
  low = λ k lt. p.others left e k (λ q. omega arith) (λ q. omega arith) (λ q. omega (arith, (running-at d y).0));
  edges = λ k lo hi. p.others left e k (λ q. omega arith) (λ q. omega arith) (λ q. omega (arith, (running-at d y).0));
  parameters = p.others left e (parameters_row y.blocks) (λ q. omega arith) (λ q. omega arith) (λ q. omega (arith, (running-at d y).1));
}

-- the order stays through a round
pub order-round : {code : List Instruction} {d : Direction} {y : Layout} {l : Limits} {b : FlowBudget} {n : ℕ} {m m' t t' : Mem} {r : Charged}
    {left : FlowBudget} → Propagated d y l b n m m' t t' r → r ≡ Ok left → InOrder code n m → InOrder code n m'
order-round {d = d} {y = y} {n = n} {left = left} p e o = record {
  order = ap (take n) (p.others left e order_cell (λ q. omega arith) (λ q. omega arith) (λ q. omega (arith, (running-at d y).0))) ∙ o.order;
  len = o.len;
}

-- the other direction's rows stay
pub fresh-round : {y : Layout} {l : Limits} {b : FlowBudget} {n : ℕ} {m m' t t' : Mem} {r : Charged} {left : FlowBudget}
    → Propagated Initialization y l b n m m' t t' r → r ≡ Ok left → FreshIn Liveness y t → FreshIn Liveness y t'
fresh-round {left = left} p e h =
    record { rows = λ c lt. p.other_sets left e (live_row c) (λ c' lt' q. omega arith) ∙ h.rows c lt }

-- backwards too
pub initialized-round : {y : Layout} {l : Limits} {b : FlowBudget} {n : ℕ} {m m' t t' : Mem} {r : Charged} {left : FlowBudget}
    → Propagated Liveness y l b n m m' t t' r → r ≡ Ok left → (c : ℕ) → cell t' (initialized_row c) ≡ cell t (initialized_row c)
initialized-round {left = left} p e c = p.other_sets left e (initialized_row c) (λ c' lt' q. omega arith)

-- ---- after the search

-- its charges are those of the code's postorder
search-charges : {code : List Instruction} {parameter : ℕ → Bool} {y : Layout} {m : Mem} → Flows code parameter y m
    → postorder_charges code ≡ search_charges (block_successors code) y.blocks
search-charges {code} f = sym (ap (search_charges (block_successors code)) f.blocks)

module _ {code : List Instruction} {parameter : ℕ → Bool} {y : Layout} {l : Limits} {b : FlowBudget} {m m' : Mem}
    (f : Flows code parameter y m) where
  -- they crossed the limit
  searched_over : {e : OverWork} → Searched y l b m m' (Err e) → charged l b (postorder_charges code) ≡ Err e
  searched_over p = ap (charged l b) (search-charges f) ∙ p.charges (block_successors code) f.holds

  module _ {n : ℕ} {left : FlowBudget} (p : Searched y l b m m' (Ok (n, left))) where
    -- they were met
    searched_met : charged l b (postorder_charges code) ≡ Ok left
    searched_met = ap (charged l b) (search-charges f) ∙ p.charges (block_successors code) f.holds

    -- it leaves the code's postorder
    pub order_searched : InOrder code n m'
    order_searched = record {
      order = p.order (block_successors code) f.holds
          ∙ ap (λ (k : ℕ). reverse (searched_from (block_successors code) k).finished) f.blocks;
      len = p.len (block_successors code) f.holds
          ∙ ap (λ (k : ℕ). length (searched_from (block_successors code) k).finished) f.blocks;
    }

-- ---- both rounds
module _ {y : Layout} {l : Limits} {b : FlowBudget} {n : ℕ} {m m₁ t t₁ : Mem} {c : Charged} (z : Sized (scratch_widths y) m) (w : RowsOfWords y m)
    (p : Propagated Initialization y l b n m m₁ t t₁ c) where
  -- the first round crossed the limit
  pub rounds_over : {x : OverWork} → c ≡ Err x → RoundsDone y l b n m m₁ t t₁ c
  rounds_over {x} e = record {
    charges = λ code parameter s f o fresh. e ∙ sym (over_then l b (propagate_charges code parameter y.words initialization)
        (propagate_charges code parameter y.words liveness) (sym (round_charges_lem s f z w o (fresh_in Initialization fresh) p) ∙ e));
    sets = λ code parameter s f o fresh left q. absurd (over-not_ok (sym e ∙ q));
    others = λ left q. absurd (over-not_ok (sym e ∙ q));
  }

  -- it was met, and the second round's answer is that of both
  pub rounds_on : {left : FlowBudget} {m' t' : Mem} {r : Charged} → c ≡ Ok left → Sized (scratch_widths y) m₁ → RowsOfWords y m₁
      → Propagated Liveness y l left n m₁ m' t₁ t' r → RoundsDone y l b n m m' t t' r
  rounds_on {left} {m'} {t'} {r} e z₁ w₁ q = record {
    charges = λ code parameter s f o fresh.
        round_charges_lem s (flows-still (still-round p e) f) z₁ w₁ (order-round p e o) (fresh-round p e (fresh_in Liveness fresh)) q
        ∙ sym (met_then l b (propagate_charges code parameter y.words initialization) (propagate_charges code parameter y.words liveness)
        (sym (round_charges_lem s f z w o (fresh_in Initialization fresh) p) ∙ e));
    sets = λ code parameter s f o fresh last u. record {
      initialized = λ k i lk li. ap (λ (ws : List ℕ). member ws i) (initialized-round q u k)
          ∙ round_sets s f z w o (fresh_in Initialization fresh) p left e k i lk li;
      live = λ k i lk li.
          round_sets s (flows-still (still-round p e) f) z₁ w₁ (order-round p e o) (fresh-round p e (fresh_in Liveness fresh)) q last u k i lk li;
    };
    others = λ last u k a d g h. q.others last u k a d h ∙ p.others left e k a d g;
  }

-- ---- all stages
module _ {y : Layout} {l : Limits} {b : FlowBudget} {m m₁ t t' : Mem} where
  -- the search crossed the limit
  pub fixed_unordered : {x : OverWork} {r : Charged} → Searched y l b m m₁ (Err x) → r ≡ Err x → Fixed y l b m m₁ t t' r
  fixed_unordered p e = rw e (record {
    charges = λ code parameter s f fresh.
        sym (over_then l b (postorder_charges code) (rounds_charges code parameter y.words) (searched_over f p));
    sets = λ code parameter s f fresh left u. absurd (over-not_ok u);
    others = λ left u. absurd (over-not_ok u);
    edges = λ left u. absurd (over-not_ok u);
    rows = λ left u. absurd (over-not_ok u);
  })

  -- it was met, and the answer of both rounds is that of all
  pub fixed_on : {n : ℕ} {left : FlowBudget} {m' : Mem} {r : Charged} → Searched y l b m m₁ (Ok (n, left)) → RoundsDone y l left n m₁ m' t t' r
      → Fixed y l b m m' t t' r
  fixed_on p q = record {
    charges = λ code parameter s f fresh.
        q.charges code parameter s (flows-still kept f) (order_searched f p) fresh
        ∙ sym (met_then l b (postorder_charges code) (rounds_charges code parameter y.words) (searched_met f p));
    sets = λ code parameter s f fresh last u. q.sets code parameter s (flows-still kept f) (order_searched f p) fresh last u;
    others = λ last u k lt.
        q.others last u k (λ v. omega arith) (λ v. omega arith) (λ v. omega arith) (λ v. omega arith) ∙ kept.low k lt;
    edges = λ last u k lo hi.
        q.others last u k (λ v. omega arith) (λ v. omega arith) (λ v. omega arith) (λ v. omega arith) ∙ kept.edges k lo hi;
    rows = λ last u k lo.
        q.others last u k (λ v. omega arith) (λ v. omega arith) (λ v. omega arith) (λ v. omega arith)
        ∙ p.only.others k (omega arith) (λ v. v);
  }
    where
      kept : Still y m m₁
      kept = still-searched p

-- ---- what the calls require

-- both rounds: the graph and its order
pub ready_searched : {y : Layout} {l : Limits} {b : FlowBudget} {m m' : Mem} {n : ℕ} {left : FlowBudget} → Flowing y m
    → Searched y l b m m' (Ok (n, left)) → Ready y n m'
ready_searched h p = (h.0, h.1, h.2, flows-still (still-searched p) h.3, order_searched h.3 p)

-- a round: these seed it
pub ready_seedable : {y : Layout} {n : ℕ} {m : Mem} → Sized (scratch_widths y) m → Ready y n m → Seedable y m n
ready_seedable z h = seedable h.2 h.3 z h.4

-- and stay for the next
pub ready_round : {d : Direction} {y : Layout} {l : Limits} {b : FlowBudget} {n : ℕ} {m m' t t' : Mem} {r : Charged} {left : FlowBudget}
    → Propagated d y l b n m m' t t' r → r ≡ Ok left → Ready y n m → Ready y n m'
ready_round p e h = (h.0, h.1, h.2, flows-still (still-round p e) h.3, order-round p e h.4)

-- ---- as the code calls them: the sizes and the words of scratch, as `layout` gives them

-- each row is of words
rows_of_words : {y : Layout} {m : Mem} → Whole y m → InWords m → RowsOfWords y m
rows_of_words z f k r = row_in_words z f r

-- a round seeds the next
pub ready_again : {d : Direction} {y : Layout} {l : Limits} {b : FlowBudget} {n : ℕ} {m m₁ t t₁ : Mem} {left : FlowBudget}
    → Propagated d y l b n m m₁ t t₁ (Ok left) → Ready y n m → Whole y m₁ → Seedable y m₁ n
ready_again p h z = ready_seedable z (ready_round p refl h)

module _ {y : Layout} {l : Limits} {b : FlowBudget} {n : ℕ} {m m₁ t t₁ : Mem} (z : Whole y m) (f : InWords m) where
  -- the first round crossed the limit
  pub rounds_over_as : {x : OverWork} {r : Charged} → Propagated Initialization y l b n m m₁ t t₁ (Err x) → r ≡ Err x → RoundsDone y l b n m m₁ t t₁ r
  rounds_over_as p e = rw e (rounds_over z (rows_of_words z f) p refl)

  -- it was met, and the second followed
  pub rounds_on_as : {m' t' : Mem} {r : Charged} {left : FlowBudget} → Whole y m₁ → InWords m₁ → Propagated Initialization y l b n m m₁ t t₁ (Ok left)
      → Propagated Liveness y l left n m₁ m' t₁ t' r → RoundsDone y l b n m m' t t' r
  rounds_on_as z₁ f₁ p q = rounds_on z (rows_of_words z f) p refl z₁ (rows_of_words z₁ f₁) q
