-- What a visit computes, over words whose running row changes. Assumes nothing.
use mathlib.Core.Path.{◌≡◌, refl, sym, ap, ap₂, ◌∙◌, subst}
use mathlib.Core.List.{List, [], ◌∷◌, map}
use Prim.Native.Nat.{ℕ, ◌+◌, ◌-◌, ◌≤◌, ◌<◌}
use native.Mathlib.Omega.{arith}
use native.Mathlib.Decide.{dec_lt}
use lib.ListN.{length, replicate}
use lib.Seq.{set-get_or, set_out}
use borrow.Author.Tests.{eq-eqb, ne_eqb}
use Rattle.bitset.specs.Sets.{ones, Words}
use Rattle.bitset.specs.Operations.{meet, join, difference}
use Rattle.bitset.proofs.SetLaws.{join_zeros, meet_ones}
use Rattle.dataflow.specs.Lists.{tabulate}
use Rattle.memory.specs.Cells.{Mem, cell, word, store_cell}
use Rattle.memory.specs.Names.{reachable_cell, successor_count_cell, first_edge_cell, predecessor_count_cell}
use Rattle.memory.specs.Names.{uses_row, defines_row, state_row, live_state_row, parameters_row, initialized_row, live_row}
use Rattle.memory.specs.Named.{row_of, set_of, RowThere, SetThere}
use Rattle.sizes.specs.declared.Layout.{Layout}
use Rattle.memory.specs.declared.edges.Side.TheVariants.{Successors, Predecessors}
use Rattle.memory.specs.Edges.{successor_at, source_of, next_edge, chain_from, count_of, neighbors, Connected, Chain}
use Rattle.memory.proofs.CellLaws.{cell-store_other, word-cell_other, store_then}
use Rattle.memory.proofs.EdgeLaws.{SameEdges, same_row, count_kept, at_kept, next_kept, chain_kept, connected_kept}
use Rattle.memory.proofs.EdgeLaws.{neighbors-none, successors-kept}
use Rattle.memory.proofs.EdgeLaws.{successors_from, successors_more, successors_over, successor_block}
use Rattle.memory.proofs.EdgeLaws.{chain_first, chain_more, chain_over, chain_end, chain_next, chain-stays}
use Rattle.transfer.specs.declared.direction.Direction.{Direction}
use Rattle.transfer.specs.declared.direction.Direction.TheVariants.{Initialization, Liveness}
use Rattle.transfer.specs.Directions.{reads_of}
use Rattle.transfer.specs.Transfer.{running_of, kept_of, running_row, kept_row}
use Rattle.transfer.specs.Transfer.{entry_of, gather_one, gather_all, gathered, transferred, computed}

-- ---- where the rows are

-- the running row lies behind those of the blocks, and before that of the parameters
pub running-at : (d : Direction) (y : Layout) → (state_row y.blocks ≤ running_row d y) × (running_row d y < parameters_row y.blocks)
running-at Initialization y = (omega arith, omega arith)
running-at Liveness y = (omega arith, omega arith)

-- by its name it is the same
pub running-named : (d : Direction) (y : Layout) → row_of y (running_of d) ≡ running_row d y
running-named Initialization y = refl
running-named Liveness y = refl

-- so is what is kept for a block
pub kept_named : (d : Direction) (b : ℕ) → set_of (kept_of d b) ≡ kept_row d b
kept_named Initialization b = refl
kept_named Liveness b = refl

-- ---- a row becomes x, and then what f makes of the cells and of x, where f reads the cells as they were; also if there is no such row
stores-then : (m : Mem) (k : ℕ) (x : List ℕ) (f : Mem → List ℕ → List ℕ) → f (store_cell m k x) x ≡ f m x
    → {m₁ : Mem} → m₁ ≡ store_cell m k x → store_cell m₁ k (f m₁ (cell m₁ k)) ≡ store_cell m k (f m x)
stores-then m k x f same {m₁} e = go (dec_lt k (length m))
  where
    go : Dec (k < length m) → store_cell m₁ k (f m₁ (cell m₁ k)) ≡ store_cell m k (f m x)
    go (yes h) = store_then m k x f h same e
    go (no h) =
        ap (λ (w : Mem). store_cell w k (f w (cell w k))) (e ∙ set_out m k x (omega arith))
        ∙ set_out m k (f m (cell m k)) (omega arith) ∙ sym (set_out m k (f m x) (omega arith))

-- ---- the row of a predecessor, whose word in REACHABLE is g
module _ (m t : Mem) (p : ℕ) (x : List ℕ) {g : ℕ} (e : g ≡ word m reachable_cell p) where
  -- it is reachable
  pub gather_reachable : (g ≡ 0 → ⊥) → meet x (cell t (initialized_row p)) ≡ gather_one Initialization m t p x
  unfolding gather_one
  gather_reachable ne = rw (ne_eqb (word m reachable_cell p) 0 (λ q. ne (e ∙ q))) refl

  -- it is not
  pub gather_unreachable : g ≡ 0 → x ≡ gather_one Initialization m t p x
  unfolding gather_one
  gather_unreachable z = rw (eq-eqb (word m reachable_cell p) 0 (sym e ∙ z)) refl

-- ---- what block p keeps, as words of 64 bits: all slots met with it are it
module _ (y : Layout) (m t : Mem) (p : ℕ) {g : ℕ} (e : g ≡ word m reachable_cell p) (ne : g ≡ 0 → ⊥) where
  pub met_all : {ws : List ℕ} → ws ≡ cell t (initialized_row p) → Words y.words ws
      → ws ≡ gather_one Initialization m t p (replicate y.words ones)
  met_all q w =
      sym (meet_ones w) ∙ ap (meet (replicate y.words ones)) q ∙ gather_reachable m t p (replicate y.words ones) e ne

-- ---- the running row is none of the cells that are read
module _ (d : Direction) (y : Layout) (m : Mem) (x : List ℕ) where
  -- each cell before it stays
  pub row_other : (k : ℕ) → k < state_row y.blocks → cell (store_cell m (running_row d y) x) k ≡ cell m k
  row_other k h = cell-store_other m (running_row d y) x k (λ q. omega (arith, (running-at d y).0))

  -- so do the edges
  pub row_edges : SameEdges m (store_cell m (running_row d y) x)
  row_edges = same_row m (running_row d y) x (omega (arith, (running-at d y).0))

-- the edges after the running row is stored
pub stored-edges : (d : Direction) (y : Layout) {m m₁ : Mem} (x : List ℕ) → m₁ ≡ store_cell m (running_row d y) x → SameEdges m m₁
stored-edges d y {m} x e = subst (SameEdges m) (sym e) (row_edges d y m x)

-- a neighbor's row is gathered as before
gather-one_kept : (d : Direction) (y : Layout) (m t : Mem) (x : List ℕ) (p : ℕ) (z : List ℕ)
    → gather_one d (store_cell m (running_row d y) x) t p z ≡ gather_one d m t p z
unfolding gather_one
gather-one_kept Initialization y m t x p z =
    rw (word-cell_other m (running_row Initialization y) x reachable_cell p (λ q. omega arith)) refl
gather-one_kept Liveness y m t x p z = refl

-- so are all of them
gather_all-kept : (d : Direction) (y : Layout) (m t : Mem) (x : List ℕ) (ps z : List ℕ)
    → gather_all d (store_cell m (running_row d y) x) t ps z ≡ gather_all d m t ps z
unfolding gather_all
gather_all-kept d y m t x [] z = refl
gather_all-kept d y m t x (p ∷ ps) z =
    gather_all-kept d y m t x ps (gather_one d (store_cell m (running_row d y) x) t p z)
    ∙ ap (gather_all d m t ps) (gather-one_kept d y m t x p z)

-- and the block's transfer is the same where its two rows are
pub transferred-kept : (d : Direction) (m m' : Mem) (b : ℕ) (z : List ℕ) → cell m' (defines_row b) ≡ cell m (defines_row b)
    → cell m' (uses_row b) ≡ cell m (uses_row b) → transferred d m' b z ≡ transferred d m b z
unfolding transferred
transferred-kept Initialization m m' b z p q = ap (join z) p
transferred-kept Liveness m m' b z p q = ap₂ (λ (k u : List ℕ). join (difference z k) u) p q

-- the row begins as x, then a neighbor's is gathered
pub gathers_one : (d : Direction) (y : Layout) (m t : Mem) (p : ℕ) (x : List ℕ) {m₁ m₂ : Mem}
    → m₁ ≡ store_cell m (running_row d y) x → m₂ ≡ store_cell m₁ (running_row d y) (gather_one d m₁ t p (cell m₁ (running_row d y)))
    → m₂ ≡ store_cell m (running_row d y) (gather_one d m t p x)
gathers_one d y m t p x e₁ e₂ = e₂ ∙ stores-then m (running_row d y) x (λ w. gather_one d w t p) (gather-one_kept d y m t x p x) e₁

-- ---- the neighbors one by one: of `qs` those of `ps` are left, and the words are m₁
pub record Gathering (d : Direction) (y : Layout) (m t : Mem) (qs ps : List ℕ) (m₁ : Mem) : Type 0 where
  pub row : List ℕ
  pub same : m₁ ≡ store_cell m (running_row d y) row
  pub rest : gather_all d m t ps row ≡ gather_all d m t qs (cell m (running_row d y))

-- before the first of them
pub gathering-none : {d : Direction} {y : Layout} {m t : Mem} {qs : List ℕ} → Gathering d y m t qs qs m
gathering-none {d} {y} {m} = record { row = cell m (running_row d y); same = sym (set-get_or m (running_row d y) []); rest = refl }

module _ {d : Direction} {y : Layout} {m t : Mem} {qs ps : List ℕ} {m₁ : Mem} (g : Gathering d y m t qs ps m₁) where
  -- the edges are as they were
  pub gathering_edges : SameEdges m m₁
  gathering_edges = stored-edges d y g.row g.same

  -- the row of the first that is left is gathered
  pub gathering_more : {p : ℕ} {rs : List ℕ} {m₂ : Mem} → ps ≡ p ∷ rs
      → m₂ ≡ store_cell m₁ (running_row d y) (gather_one d m₁ t p (cell m₁ (running_row d y))) → Gathering d y m t qs rs m₂
  unfolding gather_all
  gathering_more {p} ep e₂ = record {
    row = gather_one d m t p g.row;
    same = gathers_one d y m t p g.row g.same e₂;
    rest = sym (ap (λ (l : List ℕ). gather_all d m t l g.row) ep) ∙ g.rest;
  }

  -- none is left
  pub gathering_all : ps ≡ [] → m₁ ≡ store_cell m (running_row d y) (gather_all d m t qs (cell m (running_row d y)))
  unfolding gather_all
  gathering_all ep =
      g.same ∙ ap (store_cell m (running_row d y)) (sym (ap (λ (l : List ℕ). gather_all d m t l g.row) ep) ∙ g.rest)

-- ---- the predecessors at the n edges behind edge e₀: k of them are gathered, and e is the edge last passed
pub record Meeting (y : Layout) (m t : Mem) (n e₀ k e : ℕ) (m₁ : Mem) : Type 0 where
  pub chain : Chain y m (n + 1) k e
  pub gathering : Gathering Initialization y m t (map source_of (chain_from m n (next_edge m e₀)))
      (map source_of (chain_from m (n - k) (next_edge m e))) m₁

-- before the first of them
pub meeting_none : {y : Layout} {m t : Mem} {n e₀ : ℕ} → Chain y m (n + 1) 0 e₀ → Meeting y m t n e₀ 0 e₀ m
meeting_none {n = n} w = let z : n - 0 ≡ n = omega arith in record { chain = w; gathering = rw z gathering-none }

module _ {y : Layout} {m t : Mem} {n e₀ k e : ℕ} {m₁ : Mem} (g : Meeting y m t n e₀ k e m₁) where
  module _ (h : k < n) {e' p : ℕ} (ee : e' ≡ next_edge m₁ e) (ep : p ≡ source_of e') where
    meeting_next : e' ≡ next_edge m e
    meeting_next = ee ∙ next_kept (gathering_edges g.gathering) e

    meeting_chain : Chain y m (n + 1) (k + 1) e'
    meeting_chain = chain_next (omega arith) g.chain meeting_next

    -- the next of them is a block
    pub meeting_from : p < y.blocks
    meeting_from = rw ep (chain_end (omega arith) meeting_chain)

    -- its row is gathered
    pub meeting_more : {m₂ : Mem}
        → m₂ ≡ store_cell m₁ (state_row y.blocks) (gather_one Initialization m₁ t p (cell m₁ (state_row y.blocks)))
        → Meeting y m t n e₀ (k + 1) e' m₂
    meeting_more e₂ = record { chain = meeting_chain; gathering = gathering_more g.gathering left e₂ }
      where
        left : map source_of (chain_from m (n - k) (next_edge m e)) ≡ p ∷ map source_of (chain_from m (n - (k + 1)) (next_edge m e'))
        left =
            ap (λ (f : ℕ). map source_of (chain_from m (n - k) f)) (sym meeting_next) ∙ ap (map source_of) (chain_more m n k e' h)
            ∙ ap (λ (q : ℕ). q ∷ map source_of (chain_from m (n - (k + 1)) (next_edge m e'))) (sym ep)

  -- none is left
  pub meeting_all : n ≤ k
      → m₁ ≡ store_cell m (state_row y.blocks)
      (gather_all Initialization m t (map source_of (chain_from m n (next_edge m e₀))) (cell m (state_row y.blocks)))
  meeting_all h = gathering_all g.gathering (ap (map source_of) (chain_over m n k (next_edge m e) h))

-- ---- the successors of block b, which has n of them, from the second on: those before the k-th are gathered
pub record Joining (y : Layout) (m t : Mem) (b n k : ℕ) (m₁ : Mem) : Type 0 where
  pub gathering : Gathering Liveness y m t (successors_from m b n 1) (successors_from m b n k) m₁
  pub counted : n ≡ word m₁ successor_count_cell b
  pub inside : k < n → successor_at m₁ b k < y.blocks

-- they are still counted so, and each is a block
joining : {y : Layout} {m t : Mem} {b n k : ℕ} {m₁ : Mem} → n ≡ word m successor_count_cell b → Connected y m → b < y.blocks
    → Gathering Liveness y m t (successors_from m b n 1) (successors_from m b n k) m₁ → Joining y m t b n k m₁
joining {b = b} {k = k} en c hb g = record {
  gathering = g;
  counted = en ∙ sym (count_kept (gathering_edges g) Successors b);
  inside = λ h. rw (at_kept (gathering_edges g) b k) (successor_block c b hb k (omega arith));
}

-- before the second
pub joining_none : {y : Layout} {m t : Mem} {b n : ℕ} → n ≡ word m successor_count_cell b → Connected y m → b < y.blocks
    → Joining y m t b n 1 m
joining_none en c hb = joining en c hb gathering-none

-- the row of the k-th is gathered
pub joining_more : {y : Layout} {m t : Mem} {b n k : ℕ} {m₁ : Mem} → Joining y m t b n k m₁ → k < n → n ≡ word m successor_count_cell b
    → Connected y m → b < y.blocks → {p : ℕ} {m₂ : Mem} → p ≡ successor_at m₁ b k
    → m₂ ≡ store_cell m₁ (live_state_row y.blocks) (join (cell m₁ (live_state_row y.blocks)) (cell t (live_row p)))
    → Joining y m t b n (k + 1) m₂
unfolding gather_one
joining_more {m = m} {b = b} {n = n} {k = k} g h en c hb ep e₂ =
    joining en c hb (gathering_more g.gathering
    (successors_more m b n k h ∙ ap (λ (q : ℕ). q ∷ successors_from m b n (k + 1)) (sym (ep ∙ at_kept (gathering_edges g.gathering) b k))) e₂)

-- none is left
pub joining_all : {y : Layout} {m t : Mem} {b n k : ℕ} {m₁ : Mem} → Joining y m t b n k m₁ → n ≤ k
    → m₁ ≡ store_cell m (live_state_row y.blocks)
    (gather_all Liveness m t (successors_from m b n 1) (cell m (live_state_row y.blocks)))
joining_all {m = m} {b = b} {n = n} {k = k} g h = gathering_all g.gathering (successors_over m b n k h)

-- ---- one function after the other, all on the running row
module _ (d : Direction) (y : Layout) (m t : Mem) (b : ℕ) where
  -- a block without neighbors: the row is as it begins
  pub gathers_none : {n : ℕ} {m₁ : Mem} → n ≡ count_of (reads_of d) m b → n ≡ 0 → m₁ ≡ store_cell m (running_row d y) (entry_of d y m b)
      → m₁ ≡ store_cell m (running_row d y) (gathered d y m t b)
  unfolding gathered gather_all
  gathers_none en z e₁ =
      e₁ ∙ ap (λ (l : List ℕ). store_cell m (running_row d y) (gather_all d m t l (entry_of d y m b)))
      (sym (neighbors-none (reads_of d) m b (sym en ∙ z)))

  -- it begins with the first neighbor, then the others are gathered
  pub gathers : {p : ℕ} {ps qs : List ℕ} {m₁ m₂ : Mem} → neighbors (reads_of d) m b ≡ p ∷ ps → qs ≡ ps
      → m₁ ≡ store_cell m (running_row d y) (gather_one d m t p (entry_of d y m b))
      → m₂ ≡ store_cell m₁ (running_row d y) (gather_all d m₁ t qs (cell m₁ (running_row d y)))
      → m₂ ≡ store_cell m (running_row d y) (gathered d y m t b)
  unfolding gathered gather_all
  gathers {p} {ps} {qs} en eq e₁ e₂ =
      let x : List ℕ = gather_one d m t p (entry_of d y m b) in
      e₂ ∙ stores-then m (running_row d y) x (λ w. gather_all d w t qs) (gather_all-kept d y m t x qs x) e₁
      ∙ ap (store_cell m (running_row d y))
      (ap (λ (l : List ℕ). gather_all d m t l x) eq ∙ sym (ap (λ (l : List ℕ). gather_all d m t l (entry_of d y m b)) en))

  -- it is gathered, then goes through the block
  pub computes : {m₁ m₂ : Mem} → b < y.blocks → m₁ ≡ store_cell m (running_row d y) (gathered d y m t b)
      → m₂ ≡ store_cell m₁ (running_row d y) (transferred d m₁ b (cell m₁ (running_row d y)))
      → m₂ ≡ store_cell m (running_row d y) (computed d y m t b)
  unfolding computed
  computes h e₁ e₂ =
      let x : List ℕ = gathered d y m t b in
      e₂ ∙ stores-then m (running_row d y) x (λ w. transferred d w b)
      (transferred-kept d m _ b x (row_other d y m x (defines_row b) (omega arith)) (row_other d y m x (uses_row b) (omega arith))) e₁

-- ---- a block that has n neighbors, at least one: the first of them, and those behind it
module _ (y : Layout) (m t : Mem) (b : ℕ) {n : ℕ} (ne : n ≡ 0 → ⊥) where
  behind : n - 0 ≡ n
  behind = omega arith

  module _ (en : n ≡ word m predecessor_count_cell b) {e : ℕ} (ee : e ≡ word m first_edge_cell b) where
    first-predecessor : neighbors Predecessors m b ≡ source_of e ∷ map source_of (chain_from m (n - 1) (next_edge m e))
    first-predecessor =
        ap₂ (λ (k f : ℕ). map source_of (chain_from m k f)) (sym en ∙ sym behind) (sym ee)
        ∙ ap (map source_of) (chain_more m n 0 e (omega arith))

    -- the first is a block
    pub first_source : Connected y m → b < y.blocks → source_of e < y.blocks
    first_source c h = let w : Chain y m n 0 e = chain_first c b h en ee in chain_end (omega arith) w

    module _ {m₁ : Mem}
        (e₁ : m₁ ≡ store_cell m (state_row y.blocks) (gather_one Initialization m t (source_of e) (entry_of Initialization y m b))) where
      begun : SameEdges m m₁
      begun = stored-edges Initialization y _ e₁

      -- those behind it are still there after the row has begun
      pub first_behind : Connected y m → b < y.blocks → Chain y m₁ (n - 1 + 1) 0 e
      first_behind c h =
          let q : n - 1 + 1 ≡ n = omega arith in
          rw q (chain-stays begun (chain_first c b h en ee))

      -- they are met
      pub meets : {m₂ : Mem}
          → m₂ ≡ store_cell m₁ (state_row y.blocks)
          (gather_all Initialization m₁ t (map source_of (chain_from m₁ (n - 1) (next_edge m₁ e))) (cell m₁ (state_row y.blocks)))
          → m₂ ≡ store_cell m (state_row y.blocks) (gathered Initialization y m t b)
      meets e₂ =
          gathers Initialization y m t b first-predecessor
          (ap (map source_of) (chain_kept begun (n - 1) _ ∙ ap (chain_from m (n - 1)) (next_kept begun e))) e₁ e₂

  module _ (en : n ≡ word m successor_count_cell b) where
    first-successor : neighbors Successors m b ≡ successor_at m b 0 ∷ successors_from m b n 1
    first-successor = ap (λ (k : ℕ). tabulate 0 k (successor_at m b)) (sym en ∙ sym behind) ∙ successors_more m b n 0 (omega arith)

    -- the first is a block
    pub first_to : Connected y m → b < y.blocks → successor_at m b 0 < y.blocks
    first_to c h = successor_block c b h 0 (omega arith)

    module _ {m₁ : Mem} (ws : List ℕ) (e₁ : m₁ ≡ store_cell m (live_state_row y.blocks) ws) where
      -- the others are still there after the row has begun
      pub first_counted : n ≡ word m₁ successor_count_cell b
      first_counted = en ∙ sym (count_kept (stored-edges Liveness y ws e₁) Successors b)

      pub first_connected : Connected y m → Connected y m₁
      first_connected c = connected_kept (stored-edges Liveness y ws e₁) y c

      -- they are joined: no slot joined with what the first keeps is that
      pub joins : ws ≡ cell t (live_row (successor_at m b 0)) → Words y.words ws → {m₂ : Mem}
          → m₂ ≡ store_cell m₁ (live_state_row y.blocks)
          (gather_all Liveness m₁ t (successors_from m₁ b n 1) (cell m₁ (live_state_row y.blocks)))
          → m₂ ≡ store_cell m (live_state_row y.blocks) (gathered Liveness y m t b)
      unfolding entry_of gather_one
      joins q w e₂ =
          gathers Liveness y m t b first-successor (successors-kept (stored-edges Liveness y ws e₁) b n 1)
          (e₁ ∙ ap (store_cell m (live_state_row y.blocks)) (sym (join_zeros w) ∙ ap (join (replicate y.words 0)) q)) e₂
