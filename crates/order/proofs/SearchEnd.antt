-- The depth-first search, turn by turn, and that at most three turns a block are taken. Assumes nothing.
use mathlib.Core.Path.{◌≡◌, refl, sym, ap, subst, ◌∙◌}
use mathlib.Core.List.{List, [], ◌∷◌}
use Prim.Native.Nat.{ℕ, zero, suc, ◌+◌, ◌<◌}
use native.Mathlib.Omega.{arith}
use native.Mathlib.Nat.{add-zero}
use lib.ListN.{length, get_or}
use Rattle.dataflow.specs.Lists.{tabulate, sum}
use Rattle.dataflow.specs.Search.{Frame, Search, advance, on_top, search, turns, all_turns}
use Rattle.dataflow.proofs.Search.{turns_left, advance_left}
use Rattle.edges.specs.Edges.{edges_before}
use Rattle.order.specs.Turns.{turned}

module _ (next : ℕ → List ℕ) where
  module _ (d : Search) where
    -- ---- with a frame on top
    module _ (f : Frame) (fs : List Frame) (e : d.stack ≡ f ∷ fs) where
      pub search_step : (n : ℕ) → search next (suc n) d ≡ search next n (turned next d)
      unfolding search
      search_step n = rw e refl

      pub turns_step : (n : ℕ) → turns next (suc n) d ≡ suc (turns next n (turned next d))
      unfolding turns
      turns_step n = rw e refl

      -- each turn is one less, if the successors to look at are blocks
      pub turn_left : ((i : ℕ) → i < length f.rest → get_or f.rest i 0 < length d.visited) → turns_left next d ≡ suc (turns_left next (turned next d))
      turn_left below =
          sym (advance_left next f.block f.rest fs d e (below 0))
          ∙ ap (λ (st : List Frame). suc (turns_left next (on_top next (λ g gs. advance next g.block g.rest gs d) st d))) (sym e)

    -- ---- with an empty stack nothing more is done
    module _ (e : d.stack ≡ []) where
      pub search_stop : (n : ℕ) → search next n d ≡ d
      unfolding search
      search_stop zero = refl
      search_stop (suc n) = rw e refl

      pub turns_stop : (n : ℕ) → turns next n d ≡ 0
      unfolding turns
      turns_stop zero = refl
      turns_stop (suc n) = rw e refl

  -- a turn for each block and one for each of its edges
  turns-from : (k n : ℕ) → edges_before next k + sum (tabulate k n (λ b. suc (length (next b)))) ≡ edges_before next (k + n) + n
  turns-from k zero = rw (add-zero k) (omega arith)
  turns-from k (suc n) =
      let e : suc k + n ≡ k + suc n = omega arith in
      let r = subst (λ (i : ℕ). edges_before next (suc k) + sum (tabulate (suc k) n (λ b. suc (length (next b)))) ≡ edges_before next i + n) e (turns-from (suc k) n) in
      omega (arith, r)

  pub all_turns_lem : (n : ℕ) → all_turns next n ≡ edges_before next n + n
  all_turns_lem n = let e : 0 + n ≡ n = omega arith in omega (arith, rw e at (turns-from 0 n))
