-- The blocks whom a change concerns are the neighbors on that side, one after the other, and stay where the cells of edges stay. Assumes nothing.
use mathlib.Core.Path.{◌≡◌, refl, sym, ap, ap₂, ◌∙◌}
use mathlib.Core.List.{[], ◌∷◌, map}
use Prim.Native.Nat.{ℕ, ◌+◌, ◌≤◌, ◌<◌}
use native.Mathlib.Omega.{arith}
use Rattle.memory.specs.Cells.{Mem}
use Rattle.memory.specs.Edges.{source_of, count_of, neighbors, Connected}
use Rattle.sizes.specs.declared.Layout.{Layout}
use Rattle.memory.proofs.CellLaws.{same_word}
use Rattle.memory.proofs.EdgeLaws.{SameEdges, at_kept, next_kept, successors-all, successors_more, successors_over, successor_block}
use Rattle.memory.proofs.EdgeLaws.{chain_first, chain-all, chain_more, chain_over, chain_place, chain_end, chain_next, chain-stays}
use Rattle.transfer.specs.declared.direction.Direction.{Direction}
use Rattle.transfer.specs.declared.direction.Direction.TheVariants.{Initialization, Liveness}
use Rattle.transfer.specs.Directions.{dependents_of}
use Rattle.solver.specs.Dependents.{first_of, behind_of, dependent_at, dependents_from, Walks, Placed}

-- before the first they are all the neighbors
pub dependents-all : (d : Direction) (m : Mem) (b : ℕ) {n e : ℕ} → n ≡ count_of (dependents_of d) m b → e ≡ first_of d m b
    → dependents_from d m b n 0 e ≡ neighbors (dependents_of d) m b
dependents-all Initialization m b p q = rw p (successors-all m b)
dependents-all Liveness m b p q = rw (p, q) (chain-all m b)

pub walks_first : (d : Direction) {y : Layout} {m : Mem} {b n e : ℕ} → Connected y m → b < y.blocks → n ≡ count_of (dependents_of d) m b
    → e ≡ first_of d m b → Walks d y m b n 0 e
walks_first Initialization {b = b} c h p q =
    record { inside = h; counted = p; ends = λ k l. successor_block c b h k (omega arith) }
walks_first Liveness {b = b} c h p q = chain_first c b h p q

-- one more of them: k of n are passed
module _ {n k : ℕ} (h : k < n) where
  pub dependents_more : (d : Direction) (m : Mem) (b e : ℕ)
      → dependents_from d m b n k e ≡ dependent_at d m b k e ∷ dependents_from d m b n (k + 1) (behind_of d m e)
  dependents_more Initialization m b e = successors_more m b n k h
  dependents_more Liveness m b e = ap (map source_of) (chain_more m n k e h)

  module _ (y : Layout) (m : Mem) (b e : ℕ) where
    -- it is a block
    pub walks_block : (d : Direction) → Walks d y m b n k e → dependent_at d m b k e < y.blocks
    walks_block Initialization w = w.ends k h
    walks_block Liveness w = chain_end h w

    -- its edge has a word
    pub walks_placed : (d : Direction) → Walks d y m b n k e → Placed d y e
    walks_placed Initialization w = tt
    walks_placed Liveness w = chain_place h w

    pub walks_next : (d : Direction) → Walks d y m b n k e → {e' : ℕ} → e' ≡ behind_of d m e → Walks d y m b n (k + 1) e'
    walks_next Initialization w q = w
    walks_next Liveness w q = chain_next h w q

-- none is left
pub dependents-over : (d : Direction) (m : Mem) (b : ℕ) {n k : ℕ} (e : ℕ) → n ≤ k → dependents_from d m b n k e ≡ []
dependents-over Initialization m b {n} {k} e h = successors_over m b n k h
dependents-over Liveness m b {n} {k} e h = ap (map source_of) (chain_over m n k e h)

-- they stay
module _ {m m' : Mem} (s : SameEdges m m') where
  pub dependent_kept : (d : Direction) (b k e : ℕ) → dependent_at d m' b k e ≡ dependent_at d m b k e
  dependent_kept Initialization b k e = at_kept s b k
  dependent_kept Liveness b k e = refl

  pub behind_kept : (d : Direction) (e : ℕ) → behind_of d m' e ≡ behind_of d m e
  behind_kept Initialization e = refl
  behind_kept Liveness e = next_kept s e

  pub walks_stay : (d : Direction) (y : Layout) (b n k e : ℕ) → Walks d y m b n k e → Walks d y m' b n k e
  walks_stay Initialization y b n k e w = record {
    inside = w.inside;
    counted = w.counted ∙ sym (same_word b s.successor_counts);
    ends = λ j l. rw (at_kept s b j) (w.ends j l);
  }
  walks_stay Liveness y b n k e w = chain-stays s w

  -- the next of them, as it is read where they stayed
  pub dependents_next : {n k : ℕ} → k < n → (d : Direction) (b e : ℕ) {x f : ℕ} → x ≡ dependent_at d m' b k e → f ≡ behind_of d m' e
      → dependents_from d m b n k e ≡ x ∷ dependents_from d m b n (k + 1) f
  dependents_next {n} {k} h d b e ex ef =
      dependents_more h d m b e
      ∙ ap₂ (λ (j i : ℕ). j ∷ dependents_from d m b n (k + 1) i) (sym (ex ∙ dependent_kept d b k e)) (sym (ef ∙ behind_kept d e))
