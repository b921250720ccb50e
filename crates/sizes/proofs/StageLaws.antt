-- 11 and 10 in their order. Assumes nothing.
use mathlib.Core.Path.{◌≡◌, refl, ap}
use mathlib.Core.Bool.{Bool, true, false}
use Prim.Native.Nat.{ℕ, ◌≤◌, ◌<◌}
use native.Mathlib.Omega.{arith}
use lib.Dec.{ltb}
use borrow.Author.Tests.{lt-ltb, le-ltb}
use Rattle.dataflow.specs.Lists.{pick}
use Rattle.budget.specs.declared.FlowBudget.{FlowBudget}
use Rattle.budget.specs.declared.Limits.{Limits}
use Rattle.budget.specs.Budget.{state_bytes}
use Rattle.format.specs.declared.refusal.Refusal.TheVariants.{NoRoom, StateLimit}
use Rattle.sizes.specs.declared.Layout.{Layout}
use Rattle.sizes.specs.declared.Lent.{Lent}
use Rattle.std.specs.Prelude.{Ok}
use Rattle.sizes.specs.Sizes.{short_of}
use Rattle.sizes.specs.Stages.{Staged, stopped, rooms_of}

module _ (l : Limits) (y : Layout) (n : ℕ) (lent : Lent) (b : FlowBudget) where
  -- 11 is due
  pub state_due : l.state < state_bytes y.blocks y.words → stopped StateLimit b ≡ rooms_of l y n lent b
  unfolding rooms_of
  state_due h = rw (lt-ltb l.state (state_bytes y.blocks y.words) h) refl

  module _ (h : state_bytes y.blocks y.words ≤ l.state) where
    -- 10 is due
    pub room_due : short_of y n lent ≡ true → stopped NoRoom b ≡ rooms_of l y n lent b
    unfolding rooms_of
    room_due e = rw (le-ltb l.state (state_bytes y.blocks y.words) h, e) refl

    -- neither is
    pub room_there : short_of y n lent ≡ false → Ok (y, b) ≡ rooms_of l y n lent b
    unfolding rooms_of
    room_there e = rw (le-ltb l.state (state_bytes y.blocks y.words) h, e) refl

  -- where neither is due, the layout is the one asked for and no buffer is short
  pub rooms_yes : (y' : Layout) (b' : FlowBudget) → rooms_of l y n lent b ≡ Ok (y', b') → (y ≡ y') × (short_of y n lent ≡ false)
  unfolding rooms_of
  rooms_yes y' b' e = go (ltb l.state (state_bytes y.blocks y.words)) (short_of y n lent) refl e
    where
      answer : Bool → Bool → Staged
      answer t u = pick t (stopped StateLimit b) (pick u (stopped NoRoom b) (Ok (y, b)))

      go : (t u : Bool) → short_of y n lent ≡ u → answer t u ≡ Ok (y', b') → (y ≡ y') × (short_of y n lent ≡ false)
      go true u q e = let z : ◌≡◌ {A = ℕ} 0 1 = cc in absurd (omega arith)
      go false true q e = let z : ◌≡◌ {A = ℕ} 0 1 = cc in absurd (omega arith)
      go false false q e =
          let same : ◌≡◌ {A = Layout × FlowBudget} (y, b) (y', b') = cc in
          (ap (λ (r : Layout × FlowBudget). r.0) same, q)
