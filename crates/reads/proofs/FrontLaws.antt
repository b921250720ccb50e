-- The costs of instructions charged from the front: what the run has come to at pc, and that it is the run of a list whose reads are all filled.
-- Assumes nothing.
use mathlib.Core.Path.{◌≡◌, refl, sym, ap, ap₂, ◌∙◌}
use mathlib.Core.Bool.{Bool, true, false, not, ◌&&◌, ◌||◌, false≢true}
use mathlib.Core.List.{List, [], ◌∷◌}
use Prim.Native.Nat.{ℕ, zero, suc, ◌+◌, ◌-◌, ◌/◌, ◌≤◌, ◌<◌}
use native.Mathlib.Decide.{dec_lt}
use native.Mathlib.Omega.{arith}
use lib.ListN.{length}
use Rattle.bitset.specs.Sets.{member}
use Rattle.bitset.specs.Operations.{within}
use Rattle.bitset.proofs.SetLaws.{member-past, within-member}
use Rattle.dataflow.specs.Lists.{pick, range, elem}
use Rattle.dataflow.specs.Analyses.{init_transfer}
use Rattle.dataflow.specs.Blocks.{exposed}
use Rattle.dataflow.specs.Code.{Instruction, instruction_at, program, await_at}
use Rattle.dataflow.specs.Charges.{cost_at}
use Rattle.dataflow.proofs.Blocks.{uses_exposed}
use Rattle.dataflow.proofs.Lists.{every_to, mem-elem}
use Rattle.budget.specs.declared.FlowBudget.{FlowBudget}
use Rattle.budget.specs.declared.Limits.{Limits}
use Rattle.budget.specs.declared.OverWork.{OverWork}
use Rattle.std.specs.Prelude.{Ok, Err}
use Rattle.budget.specs.Budget.{Charged, charged}
use Rattle.format.specs.declared.refusal.Refusal.TheVariants.{WorkLimit, UnfilledSlot}
use Rattle.memory.specs.Cells.{Mem, cell}
use Rattle.memory.specs.Names.{uses_row, state_row}
use Rattle.sizes.specs.declared.Layout.{Layout}
use Rattle.sizes.specs.Stages.{stopped}
use Rattle.operands.specs.Kinds.{is_await}
use Rattle.verdict.specs.Points.{Checking, stop, if_paid, reads_run}
use Rattle.answer.specs.Words.{Means}
use Rattle.reads.specs.Reads.{Counting, awaits_among, Used, front_run, ReadsCharged, ReadsChecked}
use Rattle.reads.specs.Reads.{await_count}
use Rattle.reads.proofs.ReadLaws.{refused-not_passed, awaits-more, counted-once}

-- ---- after the instructions from start to pc

-- the charges from pc on are what is left of all
pub record Charging (code : List Instruction) (l : Limits) (budget left : FlowBudget) (start end pc awaits : ℕ) : Type 0 where
  pub run : front_run (cost_at code) l (range start (end - start)) budget ≡ front_run (cost_at code) l (range pc (end - pc)) left
  pub counted : awaits ≡ awaits_among code start pc
  pub few : awaits + start ≤ pc

module _ {code : List Instruction} {l : Limits} {budget : FlowBudget} {start end : ℕ} where
  module _ {left : FlowBudget} {pc awaits : ℕ} (a : Charging code l budget left start end pc awaits) where
    module _ (h : pc < end) {cost : ℕ} (c : cost ≡ cost_at code pc) where
      step : {r : Charged} → r ≡ charged l left (cost ∷ [])
          → front_run (cost_at code) l (range pc (end - pc)) left ≡ if_paid r (front_run (cost_at code) l (range (suc pc) (end - suc pc)))
      unfolding front_run
      step d =
          let e : end - pc ≡ suc (end - suc pc) = omega arith in
          ap (λ (n : ℕ). front_run (cost_at code) l (range pc n) left) e
          ∙ ap (λ (z : Charged). if_paid z (front_run (cost_at code) l (range (suc pc) (end - suc pc))))
          (ap (λ (n : ℕ). charged l left (n ∷ [])) (sym c) ∙ sym d)

      -- a charge crosses the limit
      pub charges_over : {x : OverWork} → Err x ≡ charged l left (cost ∷ []) → ReadsCharged code l budget start end (stopped WorkLimit x.budget)
      charges_over d = record {
        answer = sym (a.run ∙ step d);
        counted = λ n z p. absurd (refused-not_passed p);
      }

      -- one instruction more
      pub charging_more : {b : FlowBudget} → Ok b ≡ charged l left (cost ∷ []) → (kind : ℕ) {k : ℕ} → await_at code pc ≡ is_await kind → k ≡ await_count kind → start ≤ pc
          → Charging code l budget b start end (pc + 1) (awaits + k)
      charging_more {b} d kind {k} aw ek sp = let next : suc pc ≡ pc + 1 = omega arith in record {
        run = a.run ∙ step d ∙ ap (λ (z : ℕ). front_run (cost_at code) l (range z (end - z)) b) next;
        counted = ap₂ (λ (p q : ℕ). p + q) a.counted ek ∙ sym (awaits-more code start pc kind sp aw);
        few = omega (arith, a.few, counted-once kind k ek);
      }

-- ---- a list whose reads are all filled

-- what follows a charge
paid-same : (c : Charged) (f g : FlowBudget → Checking) → ((b : FlowBudget) → f b ≡ g b) → if_paid c f ≡ if_paid c g
paid-same (Ok b) f g h = h b
paid-same (Err e) f g h = refl

module _ (code : List Instruction) (parameter : ℕ → Bool) (l : Limits) where
  -- if f holds what is read in the list before it is written there, the run is its charges
  pub filled_run : (start n : ℕ) → ((i : ℕ) → i < start + n → (instruction_at code i).emptied ≡ []) → (f : ℕ → Bool)
      → ((s : ℕ) → exposed (program code parameter) (range start n) s ≡ true → f s ≡ true) → (b : FlowBudget)
      → reads_run code parameter l f (range start n) b ≡ front_run (cost_at code) l (range start n) b
  unfolding reads_run front_run
  filled_run start zero none f h b = refl
  filled_run start (suc n) none f h b =
      paid-same (charged l b (cost_at code start ∷ [])) _ _ (λ b'.
      ap (λ (t : Bool). pick t (reads_run code parameter l (λ s. init_transfer (program code parameter) start s (f s)) (range (suc start) n) b')
      (stop UnfilledSlot b')) (every_to f (instruction_at code start).inputs (λ s m. h s (read_here s (mem-elem s (instruction_at code start).inputs m))))
      ∙ filled_run (suc start) n (λ i k. none i (omega arith)) (λ s. init_transfer (program code parameter) start s (f s))
      (λ s e. later (elem s (instruction_at code start).outputs) (elem s (instruction_at code start).emptied) (f s)
      (ap (elem s) (none start (omega arith))) (read-later s e)) b')
    where
      read_here : (s : ℕ) → elem s (instruction_at code start).inputs ≡ true
          → (elem s (instruction_at code start).inputs || (not (elem s (instruction_at code start).outputs)
          && exposed (program code parameter) (range (suc start) n) s)) ≡ true
      read_here s e =
          ap (λ (t : Bool). t || (not (elem s (instruction_at code start).outputs) && exposed (program code parameter) (range (suc start) n) s)) e

      read-later : (s : ℕ) → exposed (program code parameter) (range (suc start) n) s ≡ true
          → elem s (instruction_at code start).outputs ≡ false → f s ≡ true
      read-later s e w = h s (go (elem s (instruction_at code start).inputs) (elem s (instruction_at code start).outputs)
          (exposed (program code parameter) (range (suc start) n) s) w e)
        where
          go : (r o t : Bool) → o ≡ false → t ≡ true → (r || (not o && t)) ≡ true
          go true o t p q = refl
          go false true t p q = absurd (false≢true (sym p))
          go false false t p q = q

      later : (o v t : Bool) → v ≡ false → (o ≡ false → t ≡ true) → (o || (not v && t)) ≡ true
      later true v t p q = refl
      later false true t p q = absurd (false≢true (sym p))
      later false false t p q = q refl

-- what a block uses is in the running state, so all its reads are filled
pub charged-filled : (code : List Instruction) (parameter : ℕ → Bool) (y : Layout) (l : Limits) (b : FlowBudget) (c start end : ℕ) (m : Mem) (r : Counting)
    → start ≤ end → ((i : ℕ) → i < end → (instruction_at code i).emptied ≡ []) → Used code parameter c start end m
    → length (cell m (state_row y.blocks)) ≡ y.words → within (cell m (uses_row c)) (cell m (state_row y.blocks)) ≡ true
    → ReadsCharged code l b start end r → ReadsChecked code parameter y l b start end m m r
charged-filled code parameter y l b c start end m r le none used wide all p = record {
  answer = λ f h. p.answer
      ∙ sym (filled_run code parameter l start (end - start) (λ i k. none i (omega arith)) f
      (λ s e. inside f h s (within-member (cell m (uses_row c)) (cell m (state_row y.blocks)) all s
      (used.are s ∙ uses_exposed (program code parameter) s (range start (end - start)) ∙ e))) b);
  counted = p.counted;
  others = λ k h. refl;
}
  where
    inside : (f : ℕ → Bool) → Means y.words (cell m (state_row y.blocks)) f → (s : ℕ) → member (cell m (state_row y.blocks)) s ≡ true → f s ≡ true
    inside f h s e = go (dec_lt (s / 64) y.words)
      where
        go : Dec (s / 64 < y.words) → f s ≡ true
        go (yes q) = sym (h s (omega arith)) ∙ e
        go (no q) = absurd (false≢true (sym (member-past (cell m (state_row y.blocks)) s (omega (arith, wide))) ∙ e))
