-- The costs of instructions charged from the back: what the run has come to at pc, and that it is the run of a list without awaits.
-- Assumes nothing.
use mathlib.Core.Path.{◌≡◌, refl, sym, ap, ap₂, ◌∙◌}
use mathlib.Core.Bool.{Bool, true, false}
use mathlib.Core.List.{List, [], ◌∷◌}
use Prim.Native.Nat.{ℕ, zero, suc, ◌+◌, ◌-◌, ◌≤◌, ◌<◌}
use native.Mathlib.Omega.{arith}
use lib.ListN.{length}
use Rattle.dataflow.specs.Lists.{pick, range, keep}
use Rattle.dataflow.specs.Analyses.{live_along}
use Rattle.dataflow.specs.Code.{Instruction, program, await_at}
use Rattle.dataflow.specs.Charges.{cost_at}
use Rattle.budget.specs.declared.FlowBudget.{FlowBudget}
use Rattle.budget.specs.declared.Limits.{Limits}
use Rattle.budget.specs.declared.OverWork.{OverWork}
use Rattle.std.specs.Prelude.{Ok, Err}
use Rattle.budget.specs.Budget.{Charged, charged}
use Rattle.sizes.specs.Stages.{stopped}
use Rattle.format.specs.declared.refusal.Refusal.{Refusal}
use Rattle.format.specs.declared.refusal.Refusal.TheVariants.{WorkLimit}
use Rattle.memory.specs.Cells.{Mem, word}
use Rattle.memory.specs.Names.{cost_cell}
use Rattle.reads.proofs.ReadLaws.{refused-not_passed}
use Rattle.verdict.specs.Points.{Checking, stop, on, and_then, if_paid, await_run, point_run, awaits_run}
use Rattle.awaits.specs.Awaits.{back_run, ChargedBack}

-- ---- a run from the back

-- a stop at an instruction stays, whatever is before it
pub stop-stays : (run : ℕ → Checking) (point : ℕ → FlowBudget → Checking) (end : ℕ)
    → ((k : ℕ) → k < end → run k ≡ and_then (run (suc k)) (point k)) → {q : Refusal} {z : FlowBudget} (start pc : ℕ) → start ≤ pc → pc ≤ end
    → run pc ≡ stop q z → run start ≡ stop q z
stop-stays run point end first {q} {z} start pc low high e =
    let f : start + (pc - start) ≡ pc = omega arith in
    go (pc - start) start (omega arith) (ap run f ∙ e)
  where
    go : (n k : ℕ) → k + n ≤ end → run (k + n) ≡ stop q z → run k ≡ stop q z
    go zero k h e =
        let f : k ≡ k + 0 = omega arith in
        ap run f ∙ e
    go (suc n) k h e =
        let f : suc k + n ≡ k + suc n = omega arith in
        first k (omega arith) ∙ ap (λ (c : Checking). and_then c (point k)) (go n (suc k) (omega arith) (ap run f ∙ e))

-- ---- from an instruction on

module _ (cost : ℕ → ℕ) (l : Limits) (b : FlowBudget) (end : ℕ) where
  -- the costs of the instructions from k to end
  abbrev pub back_from : ℕ → Checking
  back_from k = back_run cost l (range k (end - k)) b

  back-first : (k : ℕ) → k < end → back_from k ≡ and_then (back_from (suc k)) (λ b'. if_paid (charged l b' (cost k ∷ [])) on)
  unfolding back_run
  back-first k h = let e : end - k ≡ suc (end - suc k) = omega arith in ap (λ (n : ℕ). back_run cost l (range k n) b) e

module _ (m : Mem) (l : Limits) (b : FlowBudget) (start end place pc : ℕ) (left : FlowBudget)
    (a : back_from (word m cost_cell) l b end pc ≡ on left) where
  module _ (pc₁ : ℕ) (q : pc ≡ suc pc₁) (high : pc ≤ end) {cost : ℕ} (ec : cost ≡ word m cost_cell pc₁) where
    back-next : {c : Charged} → c ≡ charged l left (cost ∷ []) → back_from (word m cost_cell) l b end pc₁ ≡ if_paid c on
    back-next e =
        back-first (word m cost_cell) l b end pc₁ (omega arith)
        ∙ ap (λ (v : Checking). and_then v (λ b'. if_paid (charged l b' (word m cost_cell pc₁ ∷ [])) on))
        (ap (back_from (word m cost_cell) l b end) (sym q) ∙ a)
        ∙ ap (λ (n : ℕ). if_paid (charged l left (n ∷ [])) on) (sym ec) ∙ ap (λ (v : Charged). if_paid v on) (sym e)

    -- one more
    pub back_more : {paid : FlowBudget} → Ok paid ≡ charged l left (cost ∷ []) → back_from (word m cost_cell) l b end pc₁ ≡ on paid
    back_more e = back-next e

    -- the limit is crossed
    pub back_over : start ≤ pc₁ → {z : OverWork} → Err z ≡ charged l left (cost ∷ []) → ChargedBack l b start end place m (stopped WorkLimit z.budget)
    back_over low e = record {
      answer = sym (stop-stays (back_from (word m cost_cell) l b end) _ end (back-first (word m cost_cell) l b end) start pc₁ low (omega arith) (back-next e));
      places = λ n v w. absurd (refused-not_passed w);
    }

-- ---- a list without awaits

module _ (code : List Instruction) (parameter : ℕ → Bool) (l : Limits) (words slots : ℕ) (host g : ℕ → Bool) (cost : ℕ → ℕ) (b : FlowBudget) where
  -- its run is its charges, whatever is live behind it
  pub none_run : (start n : ℕ) → ((i : ℕ) → i < start + n → cost i ≡ cost_at code i) → length (keep (await_at code) (range start n)) ≡ 0
      → back_run cost l (range start n) b ≡ awaits_run code parameter l words slots host g (range start n) b
  unfolding back_run awaits_run point_run
  none_run start zero costs none = refl
  none_run start (suc n) costs none =
      go (await_at code start) refl none (λ z. none_run (suc start) n (λ i h. costs i (omega arith)) z)
    where
      live : ℕ → Bool
      live s = live_along (program code parameter) s (g s) (start ∷ range (suc start) n)

      go : (v : Bool) → await_at code start ≡ v
          → length (pick v (start ∷ keep (await_at code) (range (suc start) n)) (keep (await_at code) (range (suc start) n))) ≡ 0
          → (length (keep (await_at code) (range (suc start) n)) ≡ 0
          → back_run cost l (range (suc start) n) b ≡ awaits_run code parameter l words slots host g (range (suc start) n) b)
          → and_then (back_run cost l (range (suc start) n) b) (λ b'. if_paid (charged l b' (cost start ∷ [])) on)
          ≡ and_then (awaits_run code parameter l words slots host g (range (suc start) n) b)
          (λ b'. if_paid (charged l b' (cost_at code start ∷ []))
          (λ b''. pick (await_at code start) (await_run code parameter l words slots host live b'') (on b'')))
      go true e z r = absurd (omega arith)
      go false e z r =
          ap (λ (c : Checking). and_then c (λ b'. if_paid (charged l b' (cost start ∷ [])) on)) (r z)
          ∙ ap₂ (λ (k : ℕ) (v : Bool). and_then (awaits_run code parameter l words slots host g (range (suc start) n) b)
          (λ b'. if_paid (charged l b' (k ∷ [])) (λ b''. pick v (await_run code parameter l words slots host live b'') (on b''))))
          (costs start (omega arith)) (sym e)
