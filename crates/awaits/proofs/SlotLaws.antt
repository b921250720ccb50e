-- The operands of an instruction put into a row and taken out of it, one by one. Assumes nothing.
use mathlib.Core.Path.{◌≡◌, refl, sym, ap, ◌∙◌}
use mathlib.Core.List.{List, [], ◌∷◌}
use Prim.Native.Nat.{ℕ, ◌≤◌, ◌<◌}
use native.Mathlib.Decide.{dec_lt}
use native.Mathlib.Omega.{arith}
use lib.ListN.{length}
use lib.Seq.{set_out}
use Rattle.bitset.specs.Operations.{inserted}
use Rattle.memory.specs.Cells.{Mem, cell, store_cell}
use Rattle.memory.proofs.CellLaws.{store_then}
use Rattle.instructions.specs.Sets.{inserted_all}
use Rattle.blocks.proofs.OperandLaws.{output_there, output_missing}
use Rattle.blocks.proofs.UseLaws.{stored-self}

-- what the proof of `remove_output` may use: whether there is an output, and that a cell is stored as it is
pub ruleset taken = (output_there, output_missing, stored-self)

-- row k with these slots put in
abbrev pub put_all : ℕ → List ℕ → Mem → Mem
put_all k l m = store_cell m k (inserted_all l (cell m k))

-- one slot more
pub put-more : (r x : ℕ) (l xs : List ℕ) (m m₁ : Mem) → l ≡ x ∷ xs → m₁ ≡ store_cell m r (inserted (cell m r) x)
    → put_all r xs m₁ ≡ put_all r l m
unfolding inserted_all
put-more r x l xs m m₁ h e = go (dec_lt r (length m))
  where
    go : Dec (r < length m) → put_all r xs m₁ ≡ put_all r l m
    go (yes a) = store_then m r (inserted (cell m r) x) (λ w. inserted_all xs) a refl e ∙ rw h refl
    go (no a) =
        let out : length m ≤ r = omega arith in
        ap (put_all r xs) (e ∙ set_out m r _ out) ∙ set_out m r _ out ∙ sym (set_out m r _ out)

-- all of them
pub put-all : (r : ℕ) (l : List ℕ) (m : Mem) → l ≡ [] → put_all r l m ≡ m
unfolding inserted_all
put-all r l m h = rw h (stored-self m r)

-- what the proof of `insert_inputs` may use
pub ruleset put_slots = (put-more, put-all)
