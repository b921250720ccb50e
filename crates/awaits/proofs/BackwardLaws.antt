-- The awaits of a block from the back, instruction by instruction: what the run has come to at pc, and the facts that stand. Assumes nothing.
use mathlib.Core.Path.{◌≡◌, refl, sym, ap, subst, ◌∙◌}
use mathlib.Core.Bool.{Bool, true, false}
use mathlib.Core.List.{List, [], ◌∷◌}
use Prim.Native.Nat.{ℕ, zero, suc, ◌+◌, ◌-◌, ◌≤◌, ◌<◌}
use native.Mathlib.Omega.{arith}
use lib.ListN.{length}
use Rattle.dataflow.specs.Lists.{pick, range, keep}
use Rattle.dataflow.specs.Analyses.{live_transfer, live_along}
use Rattle.dataflow.specs.Code.{Instruction, program, await_at}
use Rattle.budget.specs.declared.FlowBudget.{FlowBudget}
use Rattle.budget.specs.declared.Limits.{Limits}
use Rattle.memory.specs.Cells.{Mem, cell, store_cell}
use Rattle.memory.specs.Names.{offset_cell, cost_cell, live_state_row, hosts_row, await_entry}
use Rattle.sizes.specs.declared.Layout.{Layout}
use Rattle.sizes.specs.declared.Stopped.{Stopped}
use Rattle.memory.proofs.CellLaws.{cell-store_same, cell-store_other}
use Rattle.sheet.specs.declared.script.Script.{Script}
use Rattle.sheet.specs.Decode.{parts_of}
use Rattle.script.specs.Script.{flow_code, host_in}
use Rattle.std.specs.Prelude.{Ok, Err}
use Rattle.answer.specs.Words.{Means}
use Rattle.verdict.specs.Points.{Checking, on, and_then, Point, point_run, awaits_run, await_points}
use Rattle.reads.specs.Reads.{Counting, checking_of, Coded, awaits_among}
use Rattle.awaits.specs.Awaits.{Entry, Entries, InstructionChecked, AwaitsChecked}
use Rattle.reads.proofs.ReadLaws.{refused-not_passed, coded_kept}
use Rattle.awaits.proofs.ChargeLaws.{stop-stays}

-- ---- awaits counted from the back

-- those from pc on: the one there, and those behind it
awaits-first : (code : List Instruction) (pc end : ℕ) → pc < end
    → awaits_among code pc end ≡ pick (await_at code pc) 1 0 + awaits_among code (suc pc) end
awaits-first code pc end h =
    let e : end - pc ≡ suc (end - suc pc) = omega arith in
    ap (λ (n : ℕ). length (keep (await_at code) (range pc n))) e ∙ go (await_at code pc)
  where
    go : (v : Bool) → length (pick v (pc ∷ keep (await_at code) (range (suc pc) (end - suc pc))) (keep (await_at code) (range (suc pc) (end - suc pc))))
        ≡ pick v 1 0 + awaits_among code (suc pc) end
    go true = omega arith
    go false = omega arith

-- those behind are no more than all
awaits-behind : (code : List Instruction) (n start end : ℕ) → start + n ≤ end → awaits_among code (start + n) end ≤ awaits_among code start end
awaits-behind code zero start end h =
    let e : start + 0 ≡ start = omega arith in
    omega (arith, ap (λ (k : ℕ). awaits_among code k end) e)
awaits-behind code (suc n) start end h =
    let e : start + suc n ≡ suc start + n = omega arith in
    omega (arith, ap (λ (k : ℕ). awaits_among code k end) e, awaits-behind code n (suc start) end (omega arith), awaits-first code start end (omega arith))

-- an await at pc has an entry before those behind it
pub room-before : (code : List Instruction) (start end pc pc₁ place next : ℕ) → start ≤ pc₁ → pc ≡ suc pc₁ → pc ≤ end
    → awaits_among code start end ≤ place → next + awaits_among code pc end ≡ place → await_at code pc₁ ≡ true → 0 < next
room-before code start end pc pc₁ place next low q high room e w =
    let f : start + (pc₁ - start) ≡ pc₁ = omega arith in
    omega (
      arith,
      e,
      ap (λ (k : ℕ). awaits_among code k end) q,
      ap (λ (k : ℕ). awaits_among code k end) f,
      awaits-behind code (pc₁ - start) start end (omega arith),
      awaits-first code pc₁ end (omega arith),
      ap (λ (v : Bool). pick {A = ℕ} v 1 0) w,
    )

-- ---- from an instruction on

module _ (s : List ℕ) (parameter : ℕ → Bool) (end : ℕ) (g : ℕ → Bool) where
  -- the set before instruction k
  abbrev pub live_from : ℕ → ℕ → Bool
  live_from k i = live_along (program (flow_code (parts_of s)) parameter) i (g i) (range k (end - k))

  -- the awaits of the instructions from k to end
  abbrev pub points_from : ℕ → List Point
  points_from k = await_points (flow_code (parts_of s)) parameter g (range k (end - k))

  module _ (k : ℕ) (h : k < end) where
    one_more : end - k ≡ suc (end - suc k)
    one_more = omega arith

    live-first : (i : ℕ) → live_from k i ≡ live_transfer (program (flow_code (parts_of s)) parameter) k i (live_from (suc k) i)
    live-first i = ap (λ (n : ℕ). live_along (program (flow_code (parts_of s)) parameter) i (g i) (range k n)) one_more

    points-first : points_from k ≡ pick (await_at (flow_code (parts_of s)) k)
        (record {
          instruction = k;
          live = λ i. live_transfer (program (flow_code (parts_of s)) parameter) k i (live_from (suc k) i);
        } ∷ points_from (suc k)) (points_from (suc k))
    unfolding await_points
    points-first = ap (λ (n : ℕ). await_points (flow_code (parts_of s)) parameter g (range k n)) one_more

module _ (s : List ℕ) (parameter : ℕ → Bool) (x : Script) (y : Layout) (l : Limits) (end : ℕ) (g : ℕ → Bool) where
  -- their run
  abbrev pub run_from : FlowBudget → ℕ → Checking
  run_from b k = awaits_run (flow_code (parts_of s)) parameter l y.words x.slots (host_in (parts_of s)) g (range k (end - k)) b

  -- what it does at instruction k
  abbrev pub point_from : ℕ → FlowBudget → Checking
  point_from k = point_run (flow_code (parts_of s)) parameter l y.words x.slots (host_in (parts_of s)) k
      (λ i. live_transfer (program (flow_code (parts_of s)) parameter) k i (live_from s parameter end g (suc k) i))

  run-first : (k : ℕ) → k < end → (b : FlowBudget) → run_from b k ≡ and_then (run_from b (suc k)) (point_from k)
  unfolding awaits_run
  run-first k h b = ap
      (λ (n : ℕ). awaits_run (flow_code (parts_of s)) parameter l y.words x.slots (host_in (parts_of s)) g (range k n) b)
      (one_more s parameter end g k h)

-- ---- entries

-- they stay where their cells do
pub entries-kept : (y : Layout) (t t' : Mem) (first : ℕ) (ps : List Point)
    → ((k : ℕ) → await_entry y.blocks first ≤ k → k < await_entry y.blocks (first + length ps) → cell t' k ≡ cell t k)
    → Entries y t first ps → Entries y t' first ps
entries-kept y t t' first [] h a = tt
entries-kept y t t' first (p ∷ ps) h a = (
  subst (λ (ws : List ℕ). Entry y.words ws p) (sym (h (await_entry y.blocks first) (omega arith) (omega arith))) a.0,
  entries-kept y t t' (first + 1) ps (λ k g l. h k (omega arith) (omega arith)) a.1,
)

-- an await's facts are put before them
entries-more : (y : Layout) (t t' : Mem) (n next pc : ℕ) (row : List ℕ) (live : ℕ → Bool) (ps : List Point) (v : Bool)
    → (v ≡ true → await_entry y.blocks n < length t) → n + pick v 1 0 ≡ next → t' ≡ pick v (store_cell t (await_entry y.blocks n) (pc ∷ row)) t
    → Means y.words row live → Entries y t next ps → Entries y t' n (pick v (record { instruction = pc; live = live } ∷ ps) ps)
entries-more y t t' n next pc row live ps true h e f m a =
    let q : next ≡ n + 1 = omega arith in (
      (row, ap (λ (w : Mem). cell w (await_entry y.blocks n)) f ∙ cell-store_same t (await_entry y.blocks n) (pc ∷ row) (h refl), m),
      entries-kept y t t' (n + 1) ps
          (λ k g l. ap (λ (w : Mem). cell w k) f ∙ cell-store_other t (await_entry y.blocks n) (pc ∷ row) k (λ w. omega arith))
          (subst (λ (k : ℕ). Entries y t k ps) q a),
    )
entries-more y t t' n next pc row live ps false h e f m a =
    let q : next ≡ n = omega arith in
    subst (λ (w : Mem). Entries y w n ps) (sym f) (subst (λ (k : ℕ). Entries y t k ps) q a)

-- and the cells before stay
before-stays : (t t' : Mem) (e : ℕ) (ws : List ℕ) (v : Bool) → t' ≡ pick v (store_cell t e ws) t → (k : ℕ) → k < e → cell t' k ≡ cell t k
before-stays t t' e ws true f k h = ap (λ (w : Mem). cell w k) f ∙ cell-store_other t e ws k (λ w. omega arith)
before-stays t t' e ws false f k h = ap (λ (w : Mem). cell w k) f

-- ---- after the instructions from pc to end

-- a row of m that stands for a set has become one for the set before pc, the run so far went on, and the facts of the awaits stand
pub record Awaiting (s : List ℕ) (x : Script) (y : Layout) (l : Limits) (budget left : FlowBudget) (end pc place next : ℕ) (m m' t t' : Mem) : Type 0 where
  pub run : (parameter g : ℕ → Bool) → Means y.words (cell m (live_state_row y.blocks)) g → run_from s parameter x y l end g budget pc ≡ on left
  pub row : (parameter g : ℕ → Bool) → Means y.words (cell m (live_state_row y.blocks)) g
      → Means y.words (cell m' (live_state_row y.blocks)) (live_from s parameter end g pc)
  pub places : next + awaits_among (flow_code (parts_of s)) pc end ≡ place
  pub entries : (parameter g : ℕ → Bool) → Means y.words (cell m (live_state_row y.blocks)) g → Entries y t' next (points_from s parameter end g pc)
  pub others : (k : ℕ) → (k ≡ live_state_row y.blocks → ⊥) → cell m' k ≡ cell m k
  pub other_sets : (k : ℕ) → k < await_entry y.blocks next → cell t' k ≡ cell t k

-- the instructions can be read as before
pub awaiting_coded : {s : List ℕ} {x : Script} {y : Layout} {l : Limits} {budget left : FlowBudget} {end pc place next : ℕ} {m m' t t' : Mem}
    → Coded s x y m → Awaiting s x y l budget left end pc place next m m' t t' → Coded s x y m'
awaiting_coded {y = y} ok a =
    coded_kept ok (a.others offset_cell (λ q. omega arith)) (a.others cost_cell (λ q. omega arith)) (a.others (hosts_row y.blocks) (λ q. omega arith))

module _ {s : List ℕ} {x : Script} {y : Layout} {l : Limits} {budget : FlowBudget} {end place : ℕ} {m t : Mem} where
  module _ {left : FlowBudget} {pc next : ℕ} {m₁ t₁ : Mem} (a : Awaiting s x y l budget left end pc place next m m₁ t t₁) where
    module _ {pc₁ : ℕ} (q : pc ≡ suc pc₁) (high : pc ≤ end) {m₂ t₂ : Mem} {r : Counting}
        (c : InstructionChecked s x y l left pc₁ next m₁ m₂ t₁ t₂ r) where
      behind : Awaiting s x y l budget left end (suc pc₁) place next m m₁ t t₁
      behind = subst (λ (k : ℕ). Awaiting s x y l budget left end k place next m m₁ t t₁) q a

      -- the run comes to the answer of the instruction
      run_more : (parameter g : ℕ → Bool) → Means y.words (cell m (live_state_row y.blocks)) g → run_from s parameter x y l end g budget pc₁ ≡ checking_of r
      run_more parameter g h =
          run-first s parameter x y l end g pc₁ (omega arith) budget
          ∙ ap (λ (v : Checking). and_then v (point_from s parameter x y l end g pc₁)) (behind.run parameter g h)
          ∙ sym (c.answer parameter (live_from s parameter end g (suc pc₁)) (behind.row parameter g h))

      -- the instruction is refused
      pub awaits_stopped : {start : ℕ} → start ≤ pc₁ → {u : Stopped} → r ≡ Err u → AwaitsChecked s x y l budget start end place m m₂ t t₂ (Err u)
      awaits_stopped {start} low e = record {
        answer = λ parameter g h. sym (stop-stays (run_from s parameter x y l end g budget) (point_from s parameter x y l end g) end
            (λ k lt. run-first s parameter x y l end g k lt budget) start pc₁ low (omega arith) (run_more parameter g h ∙ ap checking_of e));
        places = λ n v w. absurd (refused-not_passed w);
        entries = λ n v w. absurd (refused-not_passed w);
        others = λ k h. c.others k h ∙ a.others k h;
        other_sets = λ n v w. absurd (refused-not_passed w);
      }

      -- one instruction more
      pub awaiting_more : {n : ℕ} {paid : FlowBudget} → r ≡ Ok (n, paid)
          → Awaiting s x y l budget paid end pc₁ place n m m₂ t t₂
      awaiting_more {n} {paid} e = record {
        run = λ parameter g h. run_more parameter g h ∙ ap checking_of e;
        row = λ parameter g h i o. c.row n paid e parameter (live_from s parameter end g (suc pc₁)) (behind.row parameter g h) i o ∙ sym (live-first s parameter end g pc₁ (omega arith) i);
        places = omega (arith, c.places n paid e, behind.places, awaits-first (flow_code (parts_of s)) pc₁ end (omega arith));
        entries = λ parameter g h. subst (Entries y t₂ n) (sym (points-first s parameter end g pc₁ (omega arith)))
            (entries-more y t₁ t₂ n next pc₁ (cell m₂ (live_state_row y.blocks)) _ _ (await_at (flow_code (parts_of s)) pc₁) (c.room n paid e) (c.places n paid e)
            (c.entry n paid e) (c.row n paid e parameter (live_from s parameter end g (suc pc₁)) (behind.row parameter g h)) (behind.entries parameter g h));
        others = λ k h. c.others k h ∙ a.others k h;
        other_sets = λ k h. before-stays t₁ t₂ (await_entry y.blocks n) _ (await_at (flow_code (parts_of s)) pc₁) (c.entry n paid e) k h
            ∙ a.other_sets k (omega (arith, c.places n paid e));
      }
