-- Plain slot records one after the other: how far they go, and the loop over them. Assumes nothing.
use mathlib.Core.Path.{◌≡◌, refl, sym, ◌∙◌}
use mathlib.Core.Bool.{Bool, true, false}
use mathlib.Core.List.{List}
use Prim.Native.Nat.{ℕ, zero, suc, ◌+◌, ◌*◌, ◌-◌, ◌/◌, ◌≤◌, ◌<◌, min, max}
use native.Mathlib.Omega.{arith}
use borrow.Author.Tests.{ltb-true, ltb-false}
use lib.Dec.{ltb}
use lib.ListN.{length}
use Rattle.operands.specs.Choice.{pick}
use Rattle.records.specs.Records.{plain_slot, plain_run}
use Rattle.records.proofs.PlainLaws.{plain, plain_short}

-- a run of plain records
module _ (s : List ℕ) (top : ℕ) where
  pub plain_run_none : (at n : ℕ) → plain_slot s top at ≡ false → plain_run s top at n ≡ 0
  unfolding plain_run
  plain_run_none at zero e = refl
  plain_run_none at (suc n) e = rw e

  pub plain_run_one : (at n : ℕ) → plain_slot s top at ≡ true → plain_run s top at (suc n) ≡ suc (plain_run s top (at + 6) n)
  unfolding plain_run
  plain_run_one at n e = rw e

  -- it is no longer than asked for, and ends in the sheet
  pub plain_run_most : (n at : ℕ) → plain_run s top at n ≤ n
  unfolding plain_run
  plain_run_most zero at = omega arith
  plain_run_most (suc n) at = go (plain_slot s top at) (plain_run_most n (at + 6))
    where
      go : (b : Bool) → plain_run s top (at + 6) n ≤ n → pick b (suc (plain_run s top (at + 6) n)) 0 ≤ suc n
      go true h = omega arith
      go false h = omega arith

  pub plain_run_inside : (n at : ℕ) → at + 6 * plain_run s top at n ≤ max at (length s)
  unfolding plain_run
  plain_run_inside zero at = omega arith
  plain_run_inside (suc n) at = go (plain_slot s top at) refl (plain_run_inside n (at + 6))
    where
      go : (b : Bool) → plain_slot s top at ≡ b → at + 6 + 6 * plain_run s top (at + 6) n ≤ max (at + 6) (length s)
          → at + 6 * pick b (suc (plain_run s top (at + 6) n)) 0 ≤ max at (length s)
      go true b h = let i = (plain s top at b).inside in omega arith
      go false b h = omega arith

-- the loop over a run: after a record that is plain, and its three ends
module _ (s : List ℕ) (top at most : ℕ) where
  pub plain_run_far : length s < at → 0 ≡ plain_run s top at most
  plain_run_far h = sym (plain_run_none s top at most (plain_short s top at (omega arith)))

  module _ (k : ℕ) (e : plain_run s top at most ≡ k + plain_run s top (at + 6 * k) (most - k)) where
    pub plain_run_more : k < most → plain_slot s top (at + 6 * k) ≡ true → plain_run s top at most ≡ k + 1 + plain_run s top (at + 6 * (k + 1)) (most - (k + 1))
    plain_run_more h p =
        let q : most - k ≡ suc (most - (k + 1)) = omega arith in
        let x : at + 6 * k + 6 ≡ at + 6 * (k + 1) = omega arith in
        let y : plain_run s top (at + 6 * k) (most - k) ≡ suc (plain_run s top (at + 6 * (k + 1)) (most - (k + 1))) =
        rw q (plain_run_one s top (at + 6 * k) (most - (k + 1)) p ∙ rw x) in
        omega arith

    pub plain_run_stop : plain_slot s top (at + 6 * k) ≡ false → k ≡ plain_run s top at most
    plain_run_stop p = let z = plain_run_none s top (at + 6 * k) (most - k) p in omega arith

    pub plain_run_full : at ≤ length s → min most ((length s - at) / 6) ≤ k → k ≡ plain_run s top at most
    unfolding plain_run
    plain_run_full l h = go (ltb k most) refl
      where
        go : (b : Bool) → ltb k most ≡ b → k ≡ plain_run s top at most
        go true b = let m = ltb-true k most b in plain_run_stop (plain_short s top (at + 6 * k) (omega arith))
        go false b =
            let q : most - k ≡ 0 = omega (arith, ltb-false k most b) in
            let z : plain_run s top (at + 6 * k) (most - k) ≡ 0 = rw q in
            omega arith
