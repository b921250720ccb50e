-- One instruction from the back: rows in common as sets in common, and each way out of `check_instruction`. Assumes nothing.
use mathlib.Core.Path.{◌≡◌, refl, sym, ap, subst, ◌∙◌}
use mathlib.Core.Bool.{Bool, true, false, ◌&&◌}
use mathlib.Core.List.{List, [], ◌∷◌, Memᴰ}
use Prim.Native.Nat.{ℕ, ◌+◌, ◌*◌, ◌≤◌, ◌<◌}
use native.Mathlib.Omega.{arith}
use borrow.Author.Tests.{ltb-true}
use lib.Dec.{ltb}
use lib.ListN.{length, get_or, length-set}
use Rattle.bitset.specs.Sets.{Words}
use Rattle.bitset.specs.Operations.{common}
use Rattle.bitset.proofs.SetLaws.{common_member, member_common}
use Rattle.dataflow.specs.Lists.{pick, range, some}
use Rattle.dataflow.specs.Analyses.{live_transfer}
use Rattle.dataflow.specs.Code.{Instruction, instruction_at, program, await_at}
use Rattle.dataflow.specs.Charges.{cost_at}
use Rattle.dataflow.proofs.Bools.{and_left, and_right, same_truth}
use Rattle.dataflow.proofs.Lists.{mem-range, some_at, some_to}
use Rattle.budget.specs.declared.FlowBudget.{FlowBudget}
use Rattle.budget.specs.declared.Limits.{Limits}
use Rattle.budget.specs.declared.OverWork.{OverWork}
use Rattle.std.specs.Prelude.{Ok, Err}
use Rattle.budget.specs.Budget.{Charged, charged, retained, facts_bytes}
use Rattle.format.specs.Types.{absent}
use Rattle.format.specs.declared.refusal.Refusal.TheVariants.{WorkLimit, HostOverAwait}
use Rattle.memory.specs.Cells.{Mem, cell, store_cell}
use Rattle.memory.specs.Names.{live_state_row, hosts_row, await_entry}
use Rattle.memory.specs.Scratch.{Whole, Row}
use Rattle.memory.specs.declared.names.SlotRow.TheVariants.{LiveState}
use Rattle.memory.proofs.ScratchLaws.{sized_among, sized_row}
use Rattle.memory.proofs.NamedLaws.{row_there}
use Rattle.sizes.specs.declared.Layout.{Layout}
use Rattle.sizes.specs.Stages.{stopped}
use Rattle.memory.proofs.CellLaws.{cell-store_same, cell-store_other}
use Rattle.operands.specs.Kinds.{is_await}
use Rattle.sheet.specs.declared.script.Script.{Script}
use Rattle.sheet.specs.Decode.{Parts, parts_of, is_host}
use Rattle.bitset.specs.Below.{AllBelow}
use Rattle.instructions.specs.Sets.{inserted_all}
use Rattle.script.specs.Script.{flow_code, host_in}
use Rattle.answer.specs.Words.{Means}
use Rattle.verdict.specs.Points.{Checking, stop, if_paid, if_kept, await_run, point_run}
use Rattle.reads.specs.Reads.{Counting, Coded}
use Rattle.awaits.specs.Awaits.{await_rows, AwaitChecked, InstructionChecked}
use Rattle.awaits.specs.Awaits.{removed_all}
use Rattle.reads.proofs.ReadLaws.{refused-not_passed}
use Rattle.awaits.proofs.MeansLaws.{means-live}

-- ---- a slot in common

-- rows that stand for sets have a slot in common exactly if some slot below n is in both; the first set has no other
common-means : (w n : ℕ) (xs ys : List ℕ) (f g : ℕ → Bool) → Words w xs → Words w ys → Means w xs f → Means w ys g → n ≤ 64 * w
    → ((i : ℕ) → f i ≡ true → i < n) → common xs ys ≡ some (λ i. f i && g i) (range 0 n)
common-means w n xs ys f g hx hy mx my le low = same_truth (common xs ys) (some (λ i. f i && g i) (range 0 n)) there back
  where
    there : common xs ys ≡ true → some (λ i. f i && g i) (range 0 n) ≡ true
    there e =
        let r = common_member hx hy e in
        let a : f r.0 ≡ true = sym (mx r.0 r.1) ∙ r.2 in
        let z : 0 + r.0 ≡ r.0 = omega arith in
        some_to (λ i. f i && g i) (range 0 n) r.0 (subst (λ (k : ℕ). Memᴰ k (range 0 n)) z (mem-range 0 n r.0 (low r.0 a)))
        (rw (a, sym (my r.0 r.1) ∙ r.3) refl)

    back : some (λ i. f i && g i) (range 0 n) ≡ true → common xs ys ≡ true
    back e =
        let r = some_at (λ i. f i && g i) (range 0 n) e in
        let a : f r.0 ≡ true = and_left (f r.0) (g r.0) r.2 in
        let lt : r.0 < 64 * w = omega (arith, low r.0 a) in
        member_common hx hy r.0 lt (mx r.0 lt ∙ a) (my r.0 lt ∙ and_right (f r.0) (g r.0) r.2)

-- a host slot is one of the slots
host-below : (p : Parts) (i : ℕ) → host_in p i ≡ true → i < p.slots
unfolding host_in
host-below p i e = ltb-true i p.slots
    (and_left (ltb i p.slots) (is_host (get_or p.kinds i (record { physical = 0; type = absent }))) e)

-- an await by rows is the await by sets
rows_run : (code : List Instruction) (parameter host live : ℕ → Bool) (y : Layout) (l : Limits) (slots : ℕ) (m : Mem) (b : FlowBudget)
    → common (cell m (hosts_row y.blocks)) (cell m (live_state_row y.blocks)) ≡ some (λ s. host s && live s) (range 0 slots)
    → await_rows y l slots m b ≡ await_run code parameter l y.words slots host live b
unfolding await_rows await_run
rows_run code parameter host live y l slots m b e = ap (λ (t : Bool). if_paid (charged l b (slots ∷ []))
    (λ b'. pick t (stop HostOverAwait b') (if_kept (retained l b' (facts_bytes y.words))))) e

-- a choice of the same where it is taken
same-pick : (v : Bool) {w : Bool} (a b n : Checking) → w ≡ v → (v ≡ true → a ≡ b) → pick v a n ≡ pick w b n
same-pick v a b n e f = go v f ∙ ap (λ (u : Bool). pick u b n) (sym e)
  where
    go : (u : Bool) → (u ≡ true → a ≡ b) → pick u a n ≡ pick u b n
    go true h = h refl
    go false h = refl

-- ---- one instruction

module _ (s : List ℕ) (x : Script) (y : Layout) (l : Limits) (b : FlowBudget) (pc place : ℕ) (m t : Mem) (ok : Coded s x y m)
    (cost : ℕ) (ec : cost ≡ cost_at (flow_code (parts_of s)) pc) where
  -- the charge is the run's
  charge_is : {c : Charged} → c ≡ charged l b (cost ∷ []) → charged l b (cost_at (flow_code (parts_of s)) pc ∷ []) ≡ c
  charge_is e = ap (λ (n : ℕ). charged l b (n ∷ [])) (sym ec) ∙ sym e

  -- the charge crosses the limit
  pub instruction_over : {z : OverWork} → Err z ≡ charged l b (cost ∷ []) → InstructionChecked s x y l b pc place m m t t (stopped WorkLimit z.budget)
  unfolding point_run
  instruction_over e = record {
    answer = λ parameter u h. sym (rw (charge_is e) refl);
    row = λ n left v. absurd (refused-not_passed v);
    places = λ n left v. absurd (refused-not_passed v);
    entry = λ n left v. absurd (refused-not_passed v);
    room = λ n left v. absurd (refused-not_passed v);
    others = λ k h. refl;
  }

  module _ {paid : FlowBudget} (e : Ok paid ≡ charged l b (cost ∷ [])) (z : Whole y m) (outs ins : List ℕ) (eo : (instruction_at (flow_code (parts_of s)) pc).outputs ≡ outs)
      (ei : (instruction_at (flow_code (parts_of s)) pc).inputs ≡ ins) (ob : AllBelow (64 * y.words) outs) (ib : AllBelow (64 * y.words) ins)
      (m₁ m₂ : Mem) (e₁ : m₁ ≡ store_cell m (live_state_row y.blocks) (removed_all outs (cell m (live_state_row y.blocks))))
      (e₂ : m₂ ≡ store_cell m₁ (live_state_row y.blocks) (inserted_all ins (cell m₁ (live_state_row y.blocks)))) where
    there : Row y (live_state_row y.blocks)
    there = row_there LiveState tt

    -- each other cell stays
    other-stays : (j : ℕ) → (j ≡ live_state_row y.blocks → ⊥) → cell m₂ j ≡ cell m j
    other-stays j h =
        ap (λ (w : Mem). cell w j) e₂ ∙ cell-store_other m₁ (live_state_row y.blocks) _ j h ∙ ap (λ (w : Mem). cell w j) e₁
        ∙ cell-store_other m (live_state_row y.blocks) _ j h

    -- the live row loses the outputs and then takes in the inputs
    live_is : cell m₂ (live_state_row y.blocks) ≡ inserted_all ins (removed_all outs (cell m (live_state_row y.blocks)))
    live_is =
        let lt : live_state_row y.blocks < length m = sized_among y z there.high in
        let lt₁ : live_state_row y.blocks < length m₁ = rw (e₁, length-set) lt in
        ap (λ (w : Mem). cell w (live_state_row y.blocks)) e₂ ∙ cell-store_same m₁ (live_state_row y.blocks) _ lt₁
        ∙ ap (inserted_all ins) (ap (λ (w : Mem). cell w (live_state_row y.blocks)) e₁ ∙ cell-store_same m (live_state_row y.blocks) _ lt)

    -- so it stands for the set before the instruction
    live-before : (parameter g : ℕ → Bool) → Means y.words (cell m (live_state_row y.blocks)) g
        → Means y.words (cell m₂ (live_state_row y.blocks)) (λ i. live_transfer (program (flow_code (parts_of s)) parameter) pc i (g i))
    live-before parameter g h = subst
        (λ (ws : List ℕ). Means y.words ws (λ i. live_transfer (program (flow_code (parts_of s)) parameter) pc i (g i))) (sym live_is)
        (means-live (flow_code (parts_of s)) parameter pc y.words (cell m (live_state_row y.blocks)) g outs
        (sized_row y z there) eo ob h ins ei ib)

    hosts-stay : 0 < y.awaits → Means y.words (cell m₂ (hosts_row y.blocks)) (host_in (parts_of s))
    hosts-stay some = subst (λ (ws : List ℕ). Means y.words ws (host_in (parts_of s)))
        (sym (other-stays (hosts_row y.blocks) (λ q. omega arith))) (ok.hosts some)

    module _ (kind : ℕ) (await : await_at (flow_code (parts_of s)) pc ≡ is_await kind) (some : is_await kind ≡ true → 0 < y.awaits) (t' : Mem) (r : Counting)
        (d : AwaitChecked (is_await kind) y l x.slots paid pc place m₂ t t' r) where
      await-run : is_await kind ≡ true → (parameter g : ℕ → Bool) → Means y.words (cell m (live_state_row y.blocks)) g → await_rows y l x.slots m₂ paid
          ≡ await_run (flow_code (parts_of s)) parameter l y.words x.slots (host_in (parts_of s))
          (λ i. live_transfer (program (flow_code (parts_of s)) parameter) pc i (g i)) paid
      await-run q parameter g h = rows_run _ _ _ _ y l x.slots m₂ paid
          (common-means y.words x.slots _ _ _ _ (d.fit q).hosts (d.fit q).live (hosts-stay (some q)) (live-before parameter g h) ok.slots
          (λ i o. omega (arith, host-below (parts_of s) i o, ok.sound.slots_are)))

      -- the charge is met, the row is changed, and an await is checked
      pub instruction_met : InstructionChecked s x y l b pc place m m₂ t t' r
      unfolding point_run
      instruction_met = record {
        answer = λ parameter g h. d.answer
            ∙ same-pick (is_await kind) _ _ _ await (λ q. await-run q parameter g h) ∙ sym (rw (charge_is e) refl);
        row = λ n left q parameter g h. live-before parameter g h;
        places = λ n left q. ap (λ (v : Bool). n + pick v 1 0) await ∙ d.places n left q;
        entry = λ n left q. d.entry n left q
            ∙ ap (λ (v : Bool). pick v (store_cell t (await_entry y.blocks n) (pc ∷ cell m₂ (live_state_row y.blocks))) t) (sym await);
        room = λ n left q v. d.room n left q (sym await ∙ v);
        others = other-stays;
      }
