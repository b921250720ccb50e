-- The reads of a block's instructions one by one: the charge of each, its inputs, and its output put into the running set. Assumes nothing.
use mathlib.Core.Path.{◌≡◌, refl, sym, ap, ap₂, subst, ◌∙◌}
use mathlib.Core.Bool.{Bool, true, false, not, ◌&&◌, ◌||◌, or_comm}
use mathlib.Core.List.{List, [], ◌∷◌}
use Prim.Native.Nat.{ℕ, suc, ◌+◌, ◌*◌, ◌-◌, ◌≤◌, ◌<◌}
use native.Mathlib.Omega.{arith}
use mir.Val.{bool_byte}
use lib.ListN.{length}
use Rattle.bitset.specs.Sets.{member}
use Rattle.dataflow.specs.Lists.{pick, range, every, keep, elem}
use Rattle.dataflow.specs.Analyses.{init_transfer}
use Rattle.dataflow.specs.Code.{Instruction, instruction_at, program, await_at}
use Rattle.dataflow.specs.Charges.{cost_at}
use Rattle.dataflow.proofs.Bools.{not_yes, not-no}
use Rattle.dataflow.proofs.Lists.{keep-both}
use Rattle.budget.specs.declared.FlowBudget.{FlowBudget}
use Rattle.budget.specs.declared.Limits.{Limits}
use Rattle.budget.specs.declared.OverWork.{OverWork}
use Rattle.std.specs.Prelude.{Ok, Err}
use Rattle.budget.specs.Budget.{Charged, charged}
use Rattle.format.specs.declared.refusal.Refusal.TheVariants.{WorkLimit, UnfilledSlot}
use Rattle.memory.specs.Cells.{Mem, cell, word, store_cell}
use Rattle.memory.specs.Names.{cost_cell, offset_cell, state_row, hosts_row}
use Rattle.sizes.specs.declared.Layout.{Layout}
use Rattle.sizes.specs.declared.Stopped.{Stopped}
use Rattle.sizes.specs.Stages.{stopped}
use Rattle.memory.specs.Scratch.{Whole, Row}
use Rattle.memory.specs.declared.names.SlotRow.TheVariants.{State}
use Rattle.memory.proofs.ScratchLaws.{sized_among, sized_row}
use Rattle.memory.proofs.NamedLaws.{row_there}
use Rattle.memory.proofs.CellLaws.{same_word, cell-store_same, cell-store_other}
use Rattle.operands.specs.Kinds.{kind_number, is_await}
use Rattle.operands.specs.Patterns.{fits}
use Rattle.operands.specs.declared.instruction.Instruction as operands
use Rattle.sheet.specs.declared.script.Script.{Script}
use Rattle.sheet.specs.Decode.{parts_of}
use Rattle.instructions.specs.declared.placed.Placed.{Placed}
use Rattle.instructions.specs.Placed.{Stands, IsPlaced}
use Rattle.bitset.specs.Below.{AllBelow}
use Rattle.instructions.specs.Sets.{inserted_all}
use Rattle.script.specs.Script.{flow_code}
use Rattle.blocks.proofs.ReadLaws.{Read, stands_at, fits_at, await_is_at, read_at}
use Rattle.blocks.proofs.TransferLaws.{range-more}
use Rattle.blocks.proofs.MemberLaws.{member-all}
use Rattle.verdict.specs.Points.{Checking, stop, if_paid, reads_run}
use Rattle.answer.specs.Words.{Means}
use Rattle.reads.specs.Reads.{Counting, Coded, awaits_among, ReadsChecked}
use Rattle.reads.specs.Reads.{await_count}

-- ---- answers

-- answers that passed with the same number
pub same_count : {n k : ℕ} {b d : FlowBudget} → ◌≡◌ {A = Counting} (Ok (n, b)) (Ok (k, d)) → n ≡ k
same_count {n} {k} {b} {d} e = let same : ◌≡◌ {A = ℕ × FlowBudget} (n, b) (k, d) = cc in ap (λ (r : ℕ × FlowBudget). r.0) same

-- a refusal is none that passed
pub refused-not_passed : {e : Stopped} {n : ℕ} {b : FlowBudget} → ◌≡◌ {A = Counting} (Err e) (Ok (n, b)) → ⊥
refused-not_passed e = let o : ◌≡◌ {A = ℕ} 0 1 = cc in absurd (omega arith)

-- ---- awaits counted

-- the awaits up to pc, and the one there
pub awaits-more : (code : List Instruction) (start pc k : ℕ) → start ≤ pc → await_at code pc ≡ is_await k
    → awaits_among code start (pc + 1) ≡ awaits_among code start pc + await_count k
awaits-more code start pc k h e =
    ap (λ (l : List ℕ). length (keep (await_at code) l)) (range-more start pc h)
    ∙ keep-both (await_at code) (range start (pc - start)) (pc ∷ [])
    ∙ ap (λ (n : ℕ). awaits_among code start pc + n) (go (await_at code pc) ∙ ap (λ (t : Bool). pick {A = ℕ} t 1 0) e)
  where
    go : (t : Bool) → length (pick t (pc ∷ []) []) ≡ pick t 1 0
    go true = refl
    go false = refl

-- a test for an await, as a number
pub await_byte : (k : ℕ) (b : Bool) → b ≡ is_await k → bool_byte b ≡ await_count k
await_byte k b e = rw (← e) (go b)
  where
    go : (b : Bool) → bool_byte b ≡ pick b 1 0
    go true = refl
    go false = refl

-- an instruction counts once at most
pub counted-once : (k n : ℕ) → n ≡ await_count k → n ≤ 1
counted-once k n e = go (is_await k) e
  where
    go : (t : Bool) → n ≡ pick t 1 0 → n ≤ 1
    go true q = omega arith
    go false q = omega arith

-- ---- what is read at pc

-- the words still hold it where its three cells stay
pub coded_kept : {s : List ℕ} {x : Script} {y : Layout} {m m' : Mem} → Coded s x y m → cell m' offset_cell ≡ cell m offset_cell
    → cell m' cost_cell ≡ cell m cost_cell → cell m' (hosts_row y.blocks) ≡ cell m (hosts_row y.blocks) → Coded s x y m'
coded_kept ok e f g = record {
  sound = ok.sound;
  instructions = ok.instructions;
  slots = ok.slots;
  offsets = λ i l. same_word i e ∙ ok.offsets i l;
  costs = λ i l. same_word i f ∙ ok.costs i l;
  hosts = λ h i l. ap (λ (ws : List ℕ). member ws i) g ∙ ok.hosts h i l;
}

module _ {s : List ℕ} {x : Script} {y : Layout} {m : Mem} (ok : Coded s x y m) (i : ℕ) (h : i < y.instructions) where
  there : i < x.count
  there = omega (arith, ok.instructions)

  -- the cost that is noted is the instruction's
  pub noted_cost : {cost : ℕ} → cost ≡ word m cost_cell i → cost ≡ cost_at (flow_code (parts_of s)) i
  noted_cost e = e ∙ ok.costs i there

  -- and so is the offset
  pub noted_stands : {at : ℕ} → at ≡ word m offset_cell i → Stands s at
  noted_stands e = stands_at ok.sound (e ∙ ok.offsets i there) there

  module _ {at : ℕ} (e : at ≡ word m offset_cell i) {p : Placed} (f : IsPlaced s at p) where
    pub noted_fits : fits (kind_number p.kind) (length p.fields.now) ≡ true
    noted_fits = fits_at ok.sound (e ∙ ok.offsets i there) there f

    pub noted_read : (v : operands.Instruction) → v.kind ≡ p.kind → v.fields.now ≡ p.fields.now → Read s y.words i v
    noted_read = read_at ok.sound (e ∙ ok.offsets i there) there f ok.slots

    -- its kind tells whether it is an await
    pub noted_await : await_at (flow_code (parts_of s)) i ≡ is_await (kind_number p.kind)
    noted_await = await_is_at ok.sound (e ∙ ok.offsets i there) there f

-- ---- a row of w words that stands for a set

-- whether all inputs are there
means-every : (w : ℕ) (ws : List ℕ) (f : ℕ → Bool) → Means w ws f → (l : List ℕ) → AllBelow (64 * w) l → every (member ws) l ≡ every f l
means-every w ws f g [] b = refl
means-every w ws f g (x ∷ l) b = ap₂ (λ (p q : Bool). p && q) (g x b.0) (means-every w ws f g l b.1)

-- the outputs are put in, and nothing is emptied
means-init : (code : List Instruction) (parameter : ℕ → Bool) (i w : ℕ) (ws : List ℕ) (f : ℕ → Bool) (outs : List ℕ) → length ws ≡ w
    → (instruction_at code i).outputs ≡ outs → AllBelow (64 * w) outs → Means w ws f → (instruction_at code i).emptied ≡ []
    → Means w (inserted_all outs ws) (λ s. init_transfer (program code parameter) i s (f s))
means-init code parameter i w ws f outs long o below means e s h =
    member-all outs ws w s long below ∙ ap (λ (t : Bool). t || elem s outs) (means s h) ∙ or_comm (f s) (elem s outs)
    ∙ sym (ap₂ (λ (a b : List ℕ). elem s a || (not (elem s b) && f s)) o e)

-- ---- after the instructions from start to pc

-- a row of m that stands for a set has become one from which the run goes on as from the start
pub record Reading (code : List Instruction) (parameter : ℕ → Bool) (y : Layout) (l : Limits) (budget left : FlowBudget) (start end pc awaits : ℕ)
    (m m' : Mem) : Type 0 where
  pub run : (f : ℕ → Bool) → Means y.words (cell m (state_row y.blocks)) f
      → (g : ℕ → Bool) × Means y.words (cell m' (state_row y.blocks)) g
      × (reads_run code parameter l f (range start (end - start)) budget ≡ reads_run code parameter l g (range pc (end - pc)) left)
  pub counted : awaits ≡ awaits_among code start pc
  pub few : awaits + start ≤ pc
  pub others : (k : ℕ) → (k ≡ state_row y.blocks → ⊥) → cell m' k ≡ cell m k

-- the instructions can be read as before
pub reading_coded : {s : List ℕ} {x : Script} {code : List Instruction} {parameter : ℕ → Bool} {y : Layout} {l : Limits} {budget left : FlowBudget}
    {start end pc awaits : ℕ} {m m' : Mem} → Coded s x y m → Reading code parameter y l budget left start end pc awaits m m' → Coded s x y m'
reading_coded {y = y} ok a =
    coded_kept ok (a.others offset_cell (λ q. omega arith)) (a.others cost_cell (λ q. omega arith)) (a.others (hosts_row y.blocks) (λ q. omega arith))

module _ {code : List Instruction} {parameter : ℕ → Bool} {y : Layout} {l : Limits} {budget : FlowBudget} {start end : ℕ} {m : Mem} where
  -- before the first of them
  pub reading_none : Reading code parameter y l budget budget start end start 0 m m
  reading_none =
      let e : start - start ≡ 0 = omega arith in
      record { run = λ f h. (f, h, refl); counted = rw e refl; few = omega arith; others = λ k h. refl }

  module _ {left : FlowBudget} {pc awaits : ℕ} {m' : Mem} (a : Reading code parameter y l budget left start end pc awaits m m') where
    module _ (h : pc < end) {cost : ℕ} (c : cost ≡ cost_at code pc) where
      -- what follows the charge, if the set is g before pc
      abbrev after : (ℕ → Bool) → FlowBudget → Checking
      after g b = pick (every g (instruction_at code pc).inputs)
          (reads_run code parameter l (λ s. init_transfer (program code parameter) pc s (g s)) (range (suc pc) (end - suc pc)) b) (stop UnfilledSlot b)

      step : (g : ℕ → Bool) {r : Charged} → r ≡ charged l left (cost ∷ []) → reads_run code parameter l g (range pc (end - pc)) left ≡ if_paid r (after g)
      unfolding reads_run
      step g d =
          let e : end - pc ≡ suc (end - suc pc) = omega arith in
          ap (λ (n : ℕ). reads_run code parameter l g (range pc n) left) e
          ∙ ap (λ (z : Charged). if_paid z (after g)) (ap (λ (n : ℕ). charged l left (n ∷ [])) (sym c) ∙ sym d)

      -- a charge crosses the limit
      pub reads_over : {x : OverWork} → Err x ≡ charged l left (cost ∷ []) → ReadsChecked code parameter y l budget start end m m' (stopped WorkLimit x.budget)
      reads_over d = record {
        answer = λ f g. let u = a.run f g in sym (u.2 ∙ step u.0 d);
        counted = λ n z p. absurd (refused-not_passed p);
        others = a.others;
      }

      module _ {b : FlowBudget} (d : Ok b ≡ charged l left (cost ∷ [])) {ins : List ℕ} (p : (instruction_at code pc).inputs ≡ ins)
          (ib : AllBelow (64 * y.words) ins) where
        -- after a charge that is met, by whether all inputs are there
        met : (g : ℕ → Bool) (t : Bool) → every g ins ≡ t → reads_run code parameter l g (range pc (end - pc)) left
            ≡ pick t (reads_run code parameter l (λ s. init_transfer (program code parameter) pc s (g s)) (range (suc pc) (end - suc pc)) b)
            (stop UnfilledSlot b)
        met g t q =
            step g d
            ∙ ap (λ (v : Bool). pick v
            (reads_run code parameter l (λ s. init_transfer (program code parameter) pc s (g s)) (range (suc pc) (end - suc pc)) b)
            (stop UnfilledSlot b)) (ap (every g) p ∙ q)

        -- an input is missing
        pub reads_unfilled : {t : Bool} → t ≡ not (every (member (cell m' (state_row y.blocks))) ins) → t ≡ true
            → ReadsChecked code parameter y l budget start end m m' (stopped UnfilledSlot b)
        reads_unfilled {t} q v = record {
          answer = λ f g. let u = a.run f g in
              sym (u.2 ∙ met u.0 false (sym (means-every y.words _ u.0 u.1 ins ib) ∙ not_yes (every (member (cell m' (state_row y.blocks))) ins) (sym q ∙ v)));
          counted = λ n z' w. absurd (refused-not_passed w);
          others = a.others;
        }

        -- one instruction more
        pub reading_more : (kind : ℕ) {k : ℕ} {outs : List ℕ} {m₁ : Mem} → Whole y m'
            → {t : Bool} → t ≡ not (every (member (cell m' (state_row y.blocks))) ins) → t ≡ false
            → (instruction_at code pc).outputs ≡ outs → (instruction_at code pc).emptied ≡ [] → AllBelow (64 * y.words) outs
            → m₁ ≡ store_cell m' (state_row y.blocks) (inserted_all outs (cell m' (state_row y.blocks))) → await_at code pc ≡ is_await kind
            → k ≡ await_count kind → start ≤ pc → Reading code parameter y l budget b start end (pc + 1) (awaits + k) m m₁
        reading_more kind {k} {outs} {m₁} z {t} all filled out none ob s aw ek sp =
            let row : ℕ = state_row y.blocks in
            let r : Row y row = row_there State tt in
            let same : cell m₁ row ≡ inserted_all outs (cell m' row) =
            ap (λ (w : Mem). cell w row) s ∙ cell-store_same m' row _ (sized_among y z r.high) in
            record {
              run = λ f g. let u = a.run f g in (
                (λ s. init_transfer (program code parameter) pc s (u.0 s)),
                subst (λ (ws : List ℕ). Means y.words ws (λ s. init_transfer (program code parameter) pc s (u.0 s))) (sym same)
                    (means-init code parameter pc y.words (cell m' row) u.0 outs (sized_row y z r) out ob u.1 none),
                u.2 ∙ met u.0 true (sym (means-every y.words _ u.0 u.1 ins ib) ∙ not-no (every (member (cell m' row)) ins) (sym all ∙ filled))
                    ∙ ap (λ (z : ℕ). reads_run code parameter l (λ s. init_transfer (program code parameter) pc s (u.0 s)) (range z (end - z)) b) next,
              );
              counted = ap₂ (λ (p q : ℕ). p + q) a.counted ek ∙ sym (awaits-more code start pc kind sp aw);
              few = omega (arith, a.few, counted-once kind k ek);
              others = λ z f. ap (λ (w : Mem). cell w z) s ∙ cell-store_other m' row _ z f ∙ a.others z f;
            }
          where
            next : suc pc ≡ pc + 1
            next = omega arith
