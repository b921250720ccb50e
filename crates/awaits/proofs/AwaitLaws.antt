-- One await by rows: each way out of `check_await`. Assumes nothing.
use mathlib.Core.Path.{◌≡◌, refl, sym, ap, ap₂, subst, ◌∙◌}
use mathlib.Core.Bool.{Bool, true, false}
use mathlib.Core.List.{List, [], ◌∷◌}
use Prim.Native.Nat.{ℕ, ◌+◌, ◌^◌, ◌<◌}
use native.Mathlib.Omega.{arith}
use lib.ListN.{length, get_or}
use Rattle.bitset.specs.Sets.{Words}
use Rattle.bitset.specs.Operations.{common}
use Rattle.budget.specs.declared.FlowBudget.{FlowBudget}
use Rattle.budget.specs.declared.Limits.{Limits}
use Rattle.budget.specs.declared.OverWork.{OverWork}
use Rattle.budget.specs.declared.OverFacts.{OverFacts}
use Rattle.std.specs.Prelude.{Ok, Err}
use Rattle.budget.specs.Budget.{charged, retained, facts_bytes}
use Rattle.format.specs.declared.refusal.Refusal.{Refusal}
use Rattle.format.specs.declared.refusal.Refusal.TheVariants.{WorkLimit, HostOverAwait, FactsLimit}
use Rattle.memory.specs.Cells.{Mem, cell, store_cell}
use Rattle.memory.specs.Names.{live_state_row, hosts_row, await_entry}
use Rattle.memory.specs.Sets.{SetsWhole}
use Rattle.memory.proofs.SetsLaws.{sets_count}
use Rattle.sizes.specs.declared.Layout.{Layout}
use Rattle.sizes.specs.Stages.{stopped}
use Rattle.reads.proofs.ReadLaws.{refused-not_passed, same_count}
use Rattle.verdict.specs.Points.{stop}
use Rattle.awaits.specs.Awaits.{await_rows, RowsFit, AwaitChecked}

-- rows as slices
pub rows-fit : (y : Layout) (m : Mem) (h k : List ℕ) → h ≡ cell m (hosts_row y.blocks) → length h ≡ y.words → ((i : ℕ) → get_or h i 0 < 2 ^ 64)
    → k ≡ cell m (live_state_row y.blocks) → length k ≡ y.words → ((i : ℕ) → get_or k i 0 < 2 ^ 64) → RowsFit y m
rows-fit y m h k eh lh fh ek lk fk = record {
  hosts = subst (Words y.words) eh (record { long = lh; fits = fh });
  live = subst (Words y.words) ek (record { long = lk; fits = fk });
}

-- and whether they have a slot in common
common-rows : (y : Layout) (m : Mem) {h k : List ℕ} → h ≡ cell m (hosts_row y.blocks) → k ≡ cell m (live_state_row y.blocks) → {d : Bool}
    → d ≡ common h k → common (cell m (hosts_row y.blocks)) (cell m (live_state_row y.blocks)) ≡ d
common-rows y m eh ek ed = sym (ed ∙ ap₂ common eh ek)

module _ {y : Layout} {l : Limits} {slots : ℕ} {b : FlowBudget} {pc place : ℕ} {m t : Mem} (rows : RowsFit y m) where
  -- a refusal
  refused : {t' : Mem} (q : Refusal) (x : FlowBudget) → await_rows y l slots m b ≡ stop q x → AwaitChecked true y l slots b pc place m t t' (stopped q x)
  refused q x f = record {
    answer = sym f;
    places = λ n left g. absurd (refused-not_passed g);
    entry = λ n left g. absurd (refused-not_passed g);
    room = λ n left g. absurd (refused-not_passed g);
    fit = λ v. rows;
  }

  -- the slot count crosses the limit
  pub await_over : {x : OverWork} → Err x ≡ charged l b (slots ∷ []) → AwaitChecked true y l slots b pc place m t t (stopped WorkLimit x.budget)
  unfolding await_rows
  await_over {x} e = refused WorkLimit x.budget (rw (← e) refl)

  module _ {paid : FlowBudget} (e : Ok paid ≡ charged l b (slots ∷ [])) {h k : List ℕ} (eh : h ≡ cell m (hosts_row y.blocks))
      (ek : k ≡ cell m (live_state_row y.blocks)) {d : Bool} (ed : d ≡ common h k) where
    -- a host slot is in the set
    pub await_host : d ≡ true → AwaitChecked true y l slots b pc place m t t (stopped HostOverAwait paid)
    unfolding await_rows
    await_host q = refused HostOverAwait paid (rw (← e, common-rows y m eh ek ed ∙ q) refl)

    -- its facts cross their limit
    pub await_facts : d ≡ false → {n : ℕ} → facts_bytes y.words ≡ n → {x : OverFacts} → Err x ≡ retained l paid n
        → AwaitChecked true y l slots b pc place m t t (stopped FactsLimit x.budget)
    unfolding await_rows
    await_facts q en {x} w = refused FactsLimit x.budget (rw (← e, common-rows y m eh ek ed ∙ q, ap (retained l paid) en ∙ sym w) refl)

    -- it passes, and its facts are put
    pub await_passed : d ≡ false → {n : ℕ} → facts_bytes y.words ≡ n → {x : FlowBudget} {t' : Mem} {p : ℕ} → Ok x ≡ retained l paid n → p + 1 ≡ place
        → SetsWhole y t → p < y.awaits → t' ≡ store_cell t (await_entry y.blocks p) (pc ∷ cell m (live_state_row y.blocks))
        → AwaitChecked true y l slots b pc place m t t' (Ok (p, x))
    unfolding await_rows
    await_passed q en w ep z lt et = record {
      answer = sym (rw (← e, common-rows y m eh ek ed ∙ q, ap (retained l paid) en ∙ sym w) refl);
      places = λ n left g. omega (arith, same_count g, ep);
      entry = λ n left g. et ∙ ap (λ (k : ℕ). store_cell t (await_entry y.blocks k) (pc ∷ cell m (live_state_row y.blocks))) (same_count g);
      room = λ n left g v. omega (arith, same_count g, z.count, sets_count y);
      fit = λ v. rows;
    }
