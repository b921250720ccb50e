-- Charges in parts, and what a budget is after them. Assumes nothing.
use mathlib.Core.Path.{◌≡◌, refl, sym, ap, ◌∙◌}
use mathlib.Core.Bool.{Bool, true, false, false≢true}
use mathlib.Core.List.{List, [], ◌∷◌, ◌++◌}
use Prim.Native.Nat.{ℕ, ◌+◌, ◌*◌, ◌-◌, ◌≤◌, ◌<◌}
use native.Mathlib.Omega.{arith}
use native.Mathlib.Nat.{mul-le-mul}
use lib.Dec.{leb}
use lib.ListN.{replicate, replicate-append-replicate}
use borrow.Author.Tests.{le-leb, lt-leb, leb-true}
use Rattle.dataflow.specs.Lists.{pick}
use Rattle.dataflow.specs.Charges.{Spent, within, crossed, saturating_sum, spend}
use Rattle.budget.specs.declared.FlowBudget.{FlowBudget}
use Rattle.budget.specs.declared.Limits.{Limits}
use Rattle.std.specs.Prelude.{Result, Ok, Err}
use Rattle.budget.specs.Budget.{Charged, over, with_work, after_spent, charged, budget_of, and_charged}

-- no charge changes nothing
pub charged-none : (l : Limits) (b : FlowBudget) → charged l b [] ≡ Ok b
unfolding charged
charged-none l b = refl

-- the first charge, then the rest
pub charged-cons : (l : Limits) (b : FlowBudget) (c : ℕ) (cs : List ℕ)
    → charged l b (c ∷ cs) ≡ and_charged (charged l b (c ∷ [])) (λ b'. charged l b' cs)
unfolding charged
charged-cons l b c cs = go (leb (saturating_sum b.work c) l.work)
  where
    w : ℕ
    w = saturating_sum b.work c

    go : (t : Bool) → after_spent b (pick t (spend l.work w cs) (crossed w))
        ≡ and_charged (after_spent b (pick t (within w) (crossed w))) (λ b'. after_spent b' (spend l.work b'.work cs))
    go true = kept (spend l.work w cs)
      where
        kept : (s : Spent) → after_spent b s ≡ after_spent (with_work b w) s
        kept (within v) = refl
        kept (crossed v) = refl
    go false = refl

-- a list of charges in two parts
pub charged-append : (l : Limits) (b : FlowBudget) (cs ds : List ℕ)
    → charged l b (cs ++ ds) ≡ and_charged (charged l b cs) (λ b'. charged l b' ds)
charged-append l b [] ds = rw (charged-none l b) refl
charged-append l b (c ∷ cs) ds =
    charged-cons l b c (cs ++ ds) ∙ go (charged l b (c ∷ [])) (λ b'. charged-append l b' cs ds)
    ∙ ap (λ (r : Charged). and_charged r (λ b'. charged l b' ds)) (sym (charged-cons l b c cs))
  where
    go : (r : Charged) → ((b' : FlowBudget) → charged l b' (cs ++ ds) ≡ and_charged (charged l b' cs) (λ b''. charged l b'' ds))
        → and_charged r (λ b'. charged l b' (cs ++ ds)) ≡ and_charged (and_charged r (λ b'. charged l b' cs)) (λ b''. charged l b'' ds)
    go (Ok b') f = f b'
    go (Err e) f = refl

module _ (l : Limits) (b : FlowBudget) (cs ds : List ℕ) where
  -- those of the first part were met
  pub met_then : {left : FlowBudget} → charged l b cs ≡ Ok left → charged l b (cs ++ ds) ≡ charged l left ds
  met_then e = charged-append l b cs ds ∙ ap (λ (c : Charged). and_charged c (λ b'. charged l b' ds)) e

  -- they crossed the limit, whatever was to follow
  pub over_then : {x : FlowBudget} → charged l b cs ≡ over x → charged l b (cs ++ ds) ≡ over x
  over_then e = charged-append l b cs ds ∙ ap (λ (c : Charged). and_charged c (λ b'. charged l b' ds)) e

-- a crossed limit is none that was met
pub over-not_ok : {E : Type 0} {e : E} {left : FlowBudget} → ◌≡◌ {A = Result FlowBudget E} (Err e) (Ok left) → ⊥
over-not_ok {E} r = false≢true (ap is_ok r)
  where
    is_ok : Result FlowBudget E → Bool
    is_ok (Ok x) = true
    is_ok (Err x) = false

-- one charge, by the sum that it makes
module _ (l : Limits) (b : FlowBudget) (c w : ℕ) (e : w ≡ saturating_sum b.work c) where
  pub charged_met : w ≤ l.work → Ok (with_work b w) ≡ charged l b (c ∷ [])
  unfolding charged
  charged_met h = rw (← e, le-leb w l.work h) refl

  pub charged_over : l.work < w → over (with_work b w) ≡ charged l b (c ∷ [])
  unfolding charged
  charged_over h = rw (← e, lt-leb w l.work h) refl

-- a charge that was met: the work is the sum, and within the limit
pub met-one : (l : Limits) (b : FlowBudget) (c : ℕ) {left : FlowBudget} → charged l b (c ∷ []) ≡ Ok left
    → (left.work ≡ saturating_sum b.work c) × (left.work ≤ l.work)
unfolding charged
met-one l b c {left} e = go (leb w l.work) refl e
  where
    w : ℕ
    w = saturating_sum b.work c

    go : (t : Bool) → leb w l.work ≡ t → after_spent b (pick t (within w) (crossed w)) ≡ Ok left → (left.work ≡ w) × (left.work ≤ l.work)
    go true q r =
        let p : w ≡ left.work = ap (λ (x : Charged). (budget_of x).work) r in
        (sym p, omega (arith, leb-true w l.work q))
    go false q r = absurd (over-not_ok r)

-- the products of `state_bytes` fit
pub state-small : (blocks words : ℕ) → blocks ≤ 65536 → words ≤ 1024 → blocks * (32 * words + 264) ≤ 65536 * 33032
state-small blocks words h k =
    let g : 32 * words + 264 ≤ 33032 = omega arith in
    mul-le-mul h g

-- ---- a charge of 1 again and again
module _ (l : Limits) (b : FlowBudget) where
  -- so many were met: the rest are charged to what is left
  pub ones_on : (k n : ℕ) {b' : FlowBudget} → charged l b (replicate k 1) ≡ Ok b' → k ≤ n
      → charged l b (replicate n 1) ≡ charged l b' (replicate (n - k) 1)
  ones_on k n {b'} e h =
      let q : n ≡ k + (n - k) = omega arith in
      ap (λ (i : ℕ). charged l b (replicate i 1)) q
      ∙ ap (charged l b) (sym (replicate-append-replicate k (n - k) 1))
      ∙ met_then l b (replicate k 1) (replicate (n - k) 1) e

  -- so many crossed the limit: so do more
  pub ones_over : (k n : ℕ) {b' : FlowBudget} → charged l b (replicate k 1) ≡ over b' → k ≤ n → charged l b (replicate n 1) ≡ over b'
  ones_over k n {b'} e h =
      let q : n ≡ k + (n - k) = omega arith in
      ap (λ (i : ℕ). charged l b (replicate i 1)) q
      ∙ ap (charged l b) (sym (replicate-append-replicate k (n - k) 1))
      ∙ over_then l b (replicate k 1) (replicate (n - k) 1) e

  -- one more
  pub ones_more : (k : ℕ) {b' : FlowBudget} → charged l b (replicate k 1) ≡ Ok b' → charged l b (replicate (k + 1) 1) ≡ charged l b' (1 ∷ [])
  ones_more k {b'} e =
      let q : k + 1 - k ≡ 1 = omega arith in
      ones_on k (k + 1) e (omega arith) ∙ ap (λ (i : ℕ). charged l b' (replicate i 1)) q

-- so many were met and the next one crosses the limit: that one decides, however many were to follow
pub ones-crossed : (l : Limits) (b : FlowBudget) (k n : ℕ) {left x : FlowBudget} → charged l b (replicate k 1) ≡ Ok left → k < n
    → charged l left (1 ∷ []) ≡ over x → charged l b (replicate n 1) ≡ over x
ones-crossed l b k n {left} {x} e h f = ones_on l b k n e (omega arith) ∙ ones_over l left 1 (n - k) f (omega arith)
