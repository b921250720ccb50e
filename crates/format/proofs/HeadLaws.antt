-- Where a record lies. Assumes nothing.
use mathlib.Core.Path.{◌≡◌}
use mathlib.Core.Bool.{false}
use mathlib.Core.List.{List}
use Prim.Native.Nat.{ℕ, ◌+◌, ◌≤◌}
use native.Mathlib.Omega.{arith}
use borrow.Author.Tests.{le-ltb, ltb-false}
use lib.Dec.{ltb}
use lib.ListN.{length}
use Rattle.format.specs.Heads.{u16_at, end_at, short}
use Rattle.std.proofs.lemmas.Bool.{or_parts}

pub not_short : (s : List ℕ) (at : ℕ) → at + 4 ≤ length s → 2 ≤ u16_at s at → end_at s at ≤ length s → short s at ≡ false
unfolding short
not_short s at h l m = rw (le-ltb (length s) (at + 4) h, le-ltb (u16_at s at) 2 l, le-ltb (length s) (end_at s at) m)

-- a record that is not short lies in the sheet
pub record Within (s : List ℕ) (at : ℕ) : Type 0 where
  pub ordered : at + 4 ≤ end_at s at
  pub within : end_at s at ≤ length s

pub lies : (s : List ℕ) (at : ℕ) → short s at ≡ false → Within s at
unfolding short
lies s at e =
    let a = or_parts (ltb (length s) (at + 4)) _ e in
    let b = or_parts (ltb (u16_at s at) 2) (ltb (length s) (end_at s at)) a.1 in
    record { ordered = omega (arith, ltb-false (u16_at s at) 2 b.0); within = ltb-false _ _ b.1 }
