-- The ring is filled from the order, word by word. Assumes nothing.
use mathlib.Core.Path.{◌≡◌, refl, sym, ap, ap₂, ◌∙◌, subst}
use mathlib.Core.List.{List, [], ◌∷◌, ◌++◌, reverse_aux}
use Prim.Native.Nat.{ℕ, suc, ◌+◌, ◌-◌, ◌≤◌, ◌<◌}
use native.Mathlib.Omega.{arith}
use native.Mathlib.Decide.{dec_lt}
use native.Mathlib.Nat.{zero-add}
use native.Mathlib.Numerals.{add-one}
use lib.ListN.{length, get_or, set, take, drop, length-append, length-drop, length-reverse, get_or-append}
use lib.Seq.{get_or-take, length-take-le, take_at, set-get_or, paste, paste-suc}
use Rattle.memory.specs.Cells.{Mem, cell, word, store, store_cell}
use Rattle.memory.specs.Names.{order_cell, ring_cell}
use Rattle.memory.specs.Scratch.{Whole}
use Rattle.memory.proofs.CellLaws.{word-cell_other, store_then}
use Rattle.memory.proofs.ScratchLaws.{sized_among, sized_blocks}
use Rattle.sizes.specs.declared.Layout.{Layout}
use Rattle.transfer.specs.declared.direction.Direction.{Direction}
use Rattle.transfer.specs.declared.direction.Direction.TheVariants.{Initialization, Liveness}
use Rattle.solver.specs.Run.{queue_of, place_of, in_ring}

-- ---- a list read from its back

-- behind it comes what stood there
reversed_past : (l r : List ℕ) (i : ℕ) → get_or (reverse_aux l r) (length l + i) 0 ≡ get_or r i 0
reversed_past [] r i = let e : 0 + i ≡ i = omega arith in rw e refl
reversed_past (x ∷ l) r i =
    let e : suc (length l) + i ≡ length l + suc i = omega arith in
    ap (λ (k : ℕ). get_or (reverse_aux l (x ∷ r)) k 0) e ∙ reversed_past l (x ∷ r) (suc i)

-- the i-th is the i-th from its end
reversed_at : (l r : List ℕ) (i : ℕ) → i < length l → get_or (reverse_aux l r) i 0 ≡ get_or l (length l - 1 - i) 0
reversed_at [] r i h = absurd (omega arith)
reversed_at (x ∷ l) r i h = go (dec_lt i (length l)) (λ lt. reversed_at l (x ∷ r) i lt)
  where
    go : Dec (i < length l) → (i < length l → get_or (reverse_aux l (x ∷ r)) i 0 ≡ get_or l (length l - 1 - i) 0)
        → get_or (reverse_aux l (x ∷ r)) i 0 ≡ get_or (x ∷ l) (suc (length l) - 1 - i) 0
    go (yes lt) f =
        let e : suc (length l) - 1 - i ≡ suc (length l - 1 - i) = omega arith in
        f lt ∙ sym (ap (λ (k : ℕ). get_or (x ∷ l) k 0) e)
    go (no ge) f =
        let e : i ≡ length l + 0 = omega arith in
        let z : suc (length l) - 1 - i ≡ 0 = omega arith in
        ap (λ (k : ℕ). get_or (reverse_aux l (x ∷ r)) k 0) e ∙ reversed_past l (x ∷ r) 0 ∙ sym (ap (λ (k : ℕ). get_or (x ∷ l) k 0) z)

-- ---- the first n of the order, as they are to wait

-- each comes from one of the n places
pub place_below : (d : Direction) (n i : ℕ) → i < n → place_of d n i < n
place_below Initialization n i h = omega arith
place_below Liveness n i h = h

module _ (n : ℕ) (order : List ℕ) (h : n ≤ length order) where
  -- there are n
  pub queue_length : (d : Direction) → length (queue_of d (take n order)) ≡ n
  queue_length Initialization = length-reverse (take n order) ∙ length-take-le n order h
  queue_length Liveness = length-take-le n order h

  -- the i-th comes from its place
  queue-at : (d : Direction) (i : ℕ) → i < n → get_or (queue_of d (take n order)) i 0 ≡ get_or order (place_of d n i) 0
  queue-at Initialization i lt =
      reversed_at (take n order) [] i (omega (arith, length-take-le n order h))
      ∙ ap (λ (k : ℕ). get_or (take n order) (k - 1 - i) 0) (length-take-le n order h)
      ∙ get_or-take n order (n - 1 - i) 0 (omega arith)
  queue-at Liveness i lt = get_or-take n order i 0 lt

-- ---- the loop
module _ (y : Layout) (d : Direction) (n : ℕ) (m : Mem) where
  -- what the ring is to be
  abbrev pub target : List ℕ
  target = queue_of d (take n (cell m order_cell)) ++ drop n (cell m ring_cell)

  -- i words of the ring are filled, and the words are m₁; each cell is as wide as the layout says, which the first of them tells
  pub record Seeding (i : ℕ) (m₁ : Mem) : Type 0 where
    pub is : m₁ ≡ store_cell m ring_cell (paste (cell m ring_cell) 0 target i)
    pub whole : 0 < i → Whole y m

  whole-before : {i : ℕ} {m₁ : Mem} → Seeding i m₁ → Whole y m₁ → Whole y m
  whole-before {i} {m₁} g z = go (dec_lt 0 i)
    where
      go : Dec (0 < i) → Whole y m
      go (yes h) = g.whole h
      go (no h) =
          let e : i ≡ 0 = omega arith in
          subst (Whole y)
          (g.is ∙ ap (λ (k : ℕ). store_cell m ring_cell (paste (cell m ring_cell) 0 target k)) e ∙ set-get_or m ring_cell []) z

  module _ (few : n ≤ y.blocks) where
    module _ (z : Whole y m) where
      ordered : n ≤ length (cell m order_cell)
      ordered = omega (arith, sized_blocks y z order_cell (omega arith) (omega arith))

      ring-length : length (cell m ring_cell) ≡ y.blocks
      ring-length = sized_blocks y z ring_cell (omega arith) (omega arith)

      -- as long as the ring
      target-length : length target ≡ length (cell m ring_cell)
      target-length =
          length-append (queue_of d (take n (cell m order_cell))) (drop n (cell m ring_cell))
          ∙ omega (arith, queue_length n (cell m order_cell) ordered d, length-drop n (cell m ring_cell), ring-length)

      -- with the blocks of the order in their places
      target_at : (i : ℕ) → i < n → get_or target i 0 ≡ word m order_cell (place_of d n i)
      target_at i lt =
          get_or-append (queue_of d (take n (cell m order_cell))) (drop n (cell m ring_cell)) 0 i
          (omega (arith, queue_length n (cell m order_cell) ordered d))
          ∙ queue-at n (cell m order_cell) ordered d i lt

    -- one more word
    pub seeding_more : {i : ℕ} {m₁ m₂ : Mem} {p v : ℕ} → i < n → Seeding i m₁ → Whole y m₁ → p ≡ place_of d n i → v ≡ word m₁ order_cell p
        → m₂ ≡ store m₁ ring_cell i v → Seeding (i + 1) m₂
    seeding_more {i} {m₁} {m₂} {p} {v} lt g w ep ev e₂ = record {
      is =
          e₂ ∙ store_then m ring_cell here (λ u ws. set ws i v) (sized_among y z (omega arith)) refl g.is
          ∙ ap (store_cell m ring_cell)
          (ap₂ (set here) (sym (zero-add i)) value
          ∙ paste-suc (cell m ring_cell) 0 target i 0 (omega (arith, ring-length z)) (omega (arith, target-length z, ring-length z))
          ∙ ap (paste (cell m ring_cell) 0 target) (sym (add-one i)));
      whole = λ h. z;
    }
      where
        z : Whole y m
        z = whole-before g w

        here : List ℕ
        here = paste (cell m ring_cell) 0 target i

        value : v ≡ get_or target i 0
        value =
            ev ∙ ap₂ (λ (u : Mem) (k : ℕ). word u order_cell k) g.is ep
            ∙ word-cell_other m ring_cell here order_cell (place_of d n i) (λ q. omega arith)
            ∙ sym (target_at z i lt)

    -- all n
    pub seeding_all : {i : ℕ} {m₁ : Mem} → i ≡ n → Seeding i m₁ → m₁ ≡ in_ring d n m
    unfolding in_ring
    seeding_all {i} {m₁} e g =
        g.is ∙ ap (λ (k : ℕ). store_cell m ring_cell (paste (cell m ring_cell) 0 target k)) e
        ∙ ap₂ (λ (k : ℕ) (ws : List ℕ). store_cell m ring_cell (ws ++ drop k (cell m ring_cell))) (zero-add n)
        (take_at (queue_of d (take n (cell m order_cell))) (drop n (cell m ring_cell)) n
        (queue_length n (cell m order_cell) (go (dec_lt 0 n)) d))
      where
        go : Dec (0 < n) → n ≤ length (cell m order_cell)
        go (yes h) = ordered (g.whole (omega arith))
        go (no h) = omega arith
