-- The inputs of an instruction put into the row of uses, one by one. Assumes nothing.
use mathlib.Core.Path.{◌≡◌, refl, sym, ap, ◌∙◌}
use mathlib.Core.List.{List, [], ◌∷◌}
use Prim.Native.Nat.{ℕ, ◌<◌}
use native.Mathlib.Decide.{dec_lt}
use native.Mathlib.Omega.{arith}
use lib.ListN.{length}
use lib.Seq.{set-get_or, set_out}
use Rattle.bitset.specs.Sets.{member}
use Rattle.bitset.specs.Operations.{inserted}
use Rattle.dataflow.specs.Lists.{pick}
use Rattle.memory.specs.Cells.{Mem, cell, store_cell}
use Rattle.memory.specs.Names.{uses_row, defines_row}
use Rattle.memory.proofs.CellLaws.{cell-store_other, store_then}
use Rattle.blocks.specs.Rows.{used_in}

-- a cell stored as it is
pub stored-self : (m : Mem) (k : ℕ) → store_cell m k (cell m k) ≡ m
stored-self m k = set-get_or m k []

-- the row of uses of block b with these inputs used
abbrev pub used_at : ℕ → List ℕ → Mem → Mem
used_at b l m = store_cell m (uses_row b) (used_in (cell m (defines_row b)) l (cell m (uses_row b)))

-- one input more
pub used_more : (b x : ℕ) (l xs : List ℕ) (m m₁ : Mem) → l ≡ x ∷ xs
    → m₁ ≡ store_cell m (uses_row b) (pick (member (cell m (defines_row b)) x) (cell m (uses_row b)) (inserted (cell m (uses_row b)) x))
    → used_at b xs m₁ ≡ used_at b l m
unfolding used_in
used_more b x l xs m m₁ h e = go (dec_lt (uses_row b) (length m)) ∙ rw h refl
  where
    u : List ℕ
    u = pick (member (cell m (defines_row b)) x) (cell m (uses_row b)) (inserted (cell m (uses_row b)) x)

    go : Dec (uses_row b < length m) → used_at b xs m₁ ≡ store_cell m (uses_row b) (used_in (cell m (defines_row b)) xs u)
    go (yes a) =
        store_then m (uses_row b) u (λ w. used_in (cell w (defines_row b)) xs) a
        (ap (λ (d : List ℕ). used_in d xs u) (cell-store_other m (uses_row b) u (defines_row b) (λ q. omega arith))) e
    go (no a) =
        ap (used_at b xs) (e ∙ set_out m (uses_row b) u (omega arith)) ∙ set_out m (uses_row b) _ (omega arith)
        ∙ sym (set_out m (uses_row b) _ (omega arith))

-- all of them
pub used_all : (b : ℕ) (l : List ℕ) (m : Mem) → l ≡ [] → used_at b l m ≡ m
unfolding used_in
used_all b l m h = rw h (stored-self m (uses_row b))
