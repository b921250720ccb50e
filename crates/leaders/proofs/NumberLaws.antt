-- Numbering, instruction by instruction. Assumes nothing.
use mathlib.Core.Logic.{◌≢◌}
use mathlib.Core.Path.{◌≡◌, refl, sym, ap, ◌∙◌}
use mathlib.Core.Bool.{Bool, true, not, true≢false}
use mathlib.Core.List.{List, [], ◌∷◌, ◌++◌, append-nil}
use Prim.Native.Nat.{ℕ, zero, suc, ◌+◌, ◌-◌, ◌≤◌, ◌<◌}
use native.Mathlib.Decide.{ℕ_discrete}
use native.Mathlib.Numerals.{add-one}
use native.Mathlib.Omega.{arith}
use lib.ListN.{length, get_or, take, set, length-append, length-set}
use lib.Seq.{ext_get_or, take-suc-set, get_or-set_same, get_or-set_other}
use borrow.Author.Tests.{eq-eqb, ne_eqb}
use Rattle.dataflow.specs.Lists.{pick, range, keep}
use Rattle.dataflow.proofs.Lists.{length_tabulate, get_d_tabulate, range_snoc, keep_append}
use Rattle.memory.specs.Cells.{Mem, cell, word, store}
use Rattle.memory.specs.Names.{block_of_cell, leader_cell}
use Rattle.memory.specs.Scratch.{scratch_widths, Whole}
use Rattle.memory.proofs.CellLaws.{same_word, cell-store_same, cell-store_other, sized-store}
use Rattle.memory.proofs.ScratchLaws.{sized_among, sized_inside, place_instructions, width_instructions}
use Rattle.sizes.specs.declared.Layout.{Layout}
use Rattle.leaders.specs.Numbers.{marked, starts_of, numbers_of, number_one, count_one, Numbered}

-- the starts up to and with one more instruction
pub starts_more : (ms : List ℕ) (i : ℕ) → starts_of ms (suc i) ≡ starts_of ms i ++ pick (marked ms i) (i ∷ []) []
starts_more ms i =
    ap (keep (marked ms)) (range_snoc 0 i) ∙ keep_append (marked ms) (range 0 i) ((0 + i) ∷ [])
    ∙ ap (λ (x : ℕ). starts_of ms i ++ pick (marked ms x) (x ∷ []) []) (omega arith)

starts-yes : (ms : List ℕ) (i : ℕ) → get_or ms i 0 ≢ 0 → starts_of ms (suc i) ≡ starts_of ms i ++ (i ∷ [])
starts-yes ms i h = starts_more ms i ∙ rw (ne_eqb (get_or ms i 0) 0 h) refl

-- one more if it is marked
pub starts-count : (ms : List ℕ) (i : ℕ) → marked ms i ≡ true → length (starts_of ms (suc i)) ≡ length (starts_of ms i) + 1
starts-count ms i e = ap length (starts_more ms i ∙ ap (λ (t : Bool). starts_of ms i ++ pick t (i ∷ []) []) e) ∙ length-append (starts_of ms i) (i ∷ [])

starts-no : (ms : List ℕ) (i : ℕ) → get_or ms i 0 ≡ 0 → starts_of ms (suc i) ≡ starts_of ms i
starts-no ms i h = starts_more ms i ∙ rw (eq-eqb (get_or ms i 0) 0 h) (append-nil (starts_of ms i))

pub starts-few : (ms : List ℕ) (i : ℕ) → length (starts_of ms i) ≤ i
starts-few ms zero = omega arith
starts-few ms (suc i) = go (ℕ_discrete (get_or ms i 0) 0) (starts-few ms i)
  where
    go : Dec (get_or ms i 0 ≡ 0) → length (starts_of ms i) ≤ i → length (starts_of ms (suc i)) ≤ suc i
    go (yes e) h = omega (arith, ap length (starts-no ms i e))
    go (no e) h = omega (arith, starts-count ms i (ap not (ne_eqb (get_or ms i 0) 0 e)))

-- after i instructions
pub record Going (y : Layout) (m m' : Mem) (i blocks : ℕ) : Type 0 where
  pub count : blocks ≡ length (starts_of (cell m block_of_cell) i)
  pub starts : take blocks (cell m' leader_cell) ≡ starts_of (cell m block_of_cell) i
  pub done : (j : ℕ) → j < i → word m' block_of_cell j ≡ length (starts_of (cell m block_of_cell) (suc j)) - 1
  pub left : (j : ℕ) → i ≤ j → word m' block_of_cell j ≡ get_or (cell m block_of_cell) j 0
  pub whole : Whole y m'
  pub others : (k : ℕ) → (k ≡ block_of_cell → ⊥) → (k ≡ leader_cell → ⊥) → cell m' k ≡ cell m k

pub going_none : {y : Layout} {m : Mem} → Whole y m → Going y m m 0 0
going_none z = record {
  count = refl;
  starts = refl;
  done = λ j h. absurd (omega arith);
  left = λ j h. refl;
  whole = z;
  others = λ k a b. refl;
}

module _ {y : Layout} {m m' : Mem} {i b : ℕ} (g : Going y m m' i b) where
  abbrev ms : List ℕ
  ms = cell m block_of_cell

  mark-is : word m' block_of_cell i ≡ get_or ms i 0
  mark-is = g.left i (omega arith)

  pub going_few : b ≤ i
  going_few = omega (arith, g.count, starts-few ms i)

  -- where the first instruction is marked, a block begins before any that is not
  pub going_some : marked ms 0 ≡ true → word m' block_of_cell i ≡ 0 → 0 < b
  going_some e z = go i refl
    where
      some : (k : ℕ) → 0 < length (starts_of ms (suc k))
      some k = rw e (omega arith)

      go : (j : ℕ) → i ≡ j → 0 < b
      go zero q =
          let f : get_or ms 0 0 ≡ 0 = ap (λ (x : ℕ). get_or ms x 0) (sym q) ∙ sym mark-is ∙ z in
          absurd (true≢false (sym e ∙ rw (eq-eqb (get_or ms 0 0) 0 f) refl))
      go (suc j) q = omega (arith, some j, g.count ∙ ap (λ (x : ℕ). length (starts_of ms x)) q)

  -- one instruction more
  module _ (h : i < y.instructions) where
    cells : 2 < length m'
    cells = sized_among y g.whole (omega arith)

    hi : i < length (cell m' block_of_cell)
    hi = sized_inside y g.whole (place_instructions y block_of_cell i (omega arith) h)

    hb : b < length (cell m' leader_cell)
    hb = sized_inside y g.whole (place_instructions y leader_cell b (omega arith) (omega (arith, going_few)))

    -- the words of a cell with word i set to v, which is what the instruction's number is
    module _ (m'' : Mem) (v : ℕ) (e : cell m'' block_of_cell ≡ set (cell m' block_of_cell) i v) (q : v ≡ length (starts_of ms (suc i)) - 1) where
      done_more : (j : ℕ) → j < i + 1 → word m'' block_of_cell j ≡ length (starts_of ms (suc j)) - 1
      done_more j h = go (ℕ_discrete j i)
        where
          go : Dec (j ≡ i) → word m'' block_of_cell j ≡ length (starts_of ms (suc j)) - 1
          go (yes p) = same_word j e ∙ rw p (get_or-set_same (cell m' block_of_cell) i v 0 hi ∙ q)
          go (no p) = same_word j e ∙ get_or-set_other (cell m' block_of_cell) i j v 0 p ∙ g.done j (omega arith)

      left-more : (j : ℕ) → i + 1 ≤ j → word m'' block_of_cell j ≡ get_or ms j 0
      left-more j h =
          same_word j e ∙ get_or-set_other (cell m' block_of_cell) i j v 0 (λ p. omega arith) ∙ g.left j (omega arith)

    same_block : word m' block_of_cell i ≡ 0 → Going y m (store m' block_of_cell i (b - 1)) (i + 1) b
    same_block z =
        let n : starts_of ms (suc i) ≡ starts_of ms i = starts-no ms i (sym mark-is ∙ z) in
        let e = cell-store_same m' block_of_cell (set (cell m' block_of_cell) i (b - 1)) (omega (arith, cells)) in
        let q : b - 1 ≡ length (starts_of ms (suc i)) - 1 = ap (λ (x : ℕ). x - 1) (g.count ∙ ap length (sym n)) in record {
          count = rw add-one (g.count ∙ ap length (sym n));
          starts = rw add-one (ap (take b) (cell-store_other m' block_of_cell _ leader_cell (λ p. omega arith)) ∙ g.starts ∙ sym n);
          done = done_more (store m' block_of_cell i (b - 1)) (b - 1) e q;
          left = left-more (store m' block_of_cell i (b - 1)) (b - 1) e q;
          whole = sized-store (scratch_widths y) m' block_of_cell i (b - 1) g.whole;
          others = λ k h h'. cell-store_other m' block_of_cell _ k h ∙ g.others k h h';
        }

    next-block : word m' block_of_cell i ≢ 0 → Going y m (store (store m' leader_cell b i) block_of_cell i b) (i + 1) (b + 1)
    next-block z =
        let w : Mem = store m' leader_cell b i in
        let n : starts_of ms (suc i) ≡ starts_of ms i ++ (i ∷ []) = starts-yes ms i (λ p. z (mark-is ∙ p)) in
        let c : length (starts_of ms (suc i)) ≡ length (starts_of ms i) + 1 = ap length n ∙ length-append (starts_of ms i) (i ∷ []) in
        let o : cell w block_of_cell ≡ cell m' block_of_cell = cell-store_other m' leader_cell _ block_of_cell (λ p. omega arith) in
        let l : length w ≡ length m' = length-set m' leader_cell (set (cell m' leader_cell) b i) in
        let e : cell (store w block_of_cell i b) block_of_cell ≡ set (cell m' block_of_cell) i b =
        cell-store_same w block_of_cell (set (cell w block_of_cell) i b) (omega (arith, cells)) ∙ ap (λ (x : List ℕ). set x i b) o in
        let q : b ≡ length (starts_of ms (suc i)) - 1 = omega (arith, g.count) in record {
          count = rw (add-one i) (ap (λ (x : ℕ). x + 1) g.count ∙ sym c);
          starts = rw (add-one i) (
              ap (take (b + 1)) (cell-store_other w block_of_cell _ leader_cell (λ p. omega arith) ∙ cell-store_same m' leader_cell (set (cell m' leader_cell) b i) cells)
              ∙ rw (add-one b) (take-suc-set (cell m' leader_cell) b i hb ∙ ap (λ (x : List ℕ). x ++ (i ∷ [])) g.starts ∙ sym n)
              );
          done = done_more (store w block_of_cell i b) b e q;
          left = left-more (store w block_of_cell i b) b e q;
          whole = sized-store (scratch_widths y) w block_of_cell i b (sized-store (scratch_widths y) m' leader_cell b i g.whole);
          others = λ k h h'. cell-store_other w block_of_cell _ k h ∙ cell-store_other m' leader_cell _ k h' ∙ g.others k h h';
        }

    pub going_more : {m'' : Mem} {c : ℕ} → m'' ≡ number_one m' i b → c ≡ count_one m' i b → Going y m m'' (i + 1) c
    unfolding number_one count_one
    going_more {m''} {c} e q = go (ℕ_discrete (word m' block_of_cell i) 0)
      where
        go : Dec (word m' block_of_cell i ≡ 0) → Going y m m'' (i + 1) c
        go (yes z) = rw (e, q, eq-eqb (word m' block_of_cell i) 0 z) (same_block z)
        go (no z) = rw (e, q, ne_eqb (word m' block_of_cell i) 0 z) (next-block z)

  -- all instructions
  pub numbered : i ≡ y.instructions → Numbered y.instructions m m' b
  numbered e =
      let n = y.instructions in
      let long : length (cell m' block_of_cell) ≡ n = g.whole.wide block_of_cell ∙ width_instructions y block_of_cell (omega arith) in record {
        count = g.count ∙ ap (λ (x : ℕ). length (starts_of ms x)) e;
        starts = g.starts ∙ ap (starts_of ms) e;
        numbers = ext_get_or 0 (cell m' block_of_cell) (numbers_of ms n)
            (long ∙ sym (length_tabulate 0 n (λ j. length (starts_of ms (suc j)) - 1)))
            (λ j h. let k : j < n = omega (arith, long) in
            let z : 0 + j ≡ j = omega arith in
            g.done j (omega arith) ∙ sym (get_d_tabulate 0 n j (λ x. length (starts_of ms (suc x)) - 1) 0 k
            ∙ ap (λ (x : ℕ). length (starts_of ms (suc x)) - 1) z));
        others = g.others;
      }

-- what `number` cites
pub ruleset going = (going_none, going_few, going_some, numbered)
