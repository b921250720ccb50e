-- The first words of the sets buffer of a script that is accepted are those of the answer. Assumes nothing.
use mathlib.Core.Path.{◌≡◌, refl, sym, ap, ap₂, subst, ◌∙◌}
use mathlib.Core.Bool.{Bool}
use mathlib.Core.List.{List, [], ◌∷◌, ◌++◌, append_assoc}
use Prim.Native.Nat.{ℕ, zero, suc, ◌+◌, ◌-◌, ◌*◌, ◌^◌, ◌≤◌, ◌<◌}
use native.Mathlib.Nat.{add-zero}
use native.Mathlib.Omega.{arith}
use lib.ListN.{length, get_or, take, drop, replicate}
use lib.Seq.{drop-cons, take-add}
use Rattle.bitset.specs.Sets.{Words}
use Rattle.dataflow.specs.Lists.{range}
use Rattle.dataflow.specs.Analyses.{liveness}
use Rattle.dataflow.specs.Code.{Instruction}
use Rattle.dataflow.specs.Results.{init_exit, live_entry, flow_graph, seed}
use Rattle.dataflow.proofs.FlowGraph.{live_entry_row}
use Rattle.memory.specs.Cells.{Mem, cells, total, cell}
use Rattle.memory.specs.Names.{initialized_row, live_row, await_entry}
use Rattle.sizes.specs.declared.Layout.{Layout}
use Rattle.memory.specs.Sets.{sets_widths, sets, SetsRoom, SetsRow}
use Rattle.memory.proofs.CellLaws.{start, start_past, start-equal}
use Rattle.memory.proofs.SetsLaws.{sets-length, sets_row_words, await_words_lem}
use Rattle.fixed_points.specs.FixedPoints.{Sets}
use Rattle.awaits.specs.Awaits.{Entry, Entries}
use Rattle.verdict.specs.Points.{Point}
use Rattle.answer.specs.Words.{words_of}
use Rattle.answer.proofs.WordLaws.{means-words}
use Rattle.outcome.specs.Buffers.{joined, block_sets, await_words}
use Rattle.outcome.proofs.JoinedLaws.{joined-append}
use Rattle.sizes.specs.Sizes.{answer_words}

-- ---- cells, one after the other

-- the words of cells as they are
abbrev flat : Mem → List ℕ
flat = joined (λ (ws : List ℕ). ws)

-- all cells are the first words
flat-all : (ns l : List ℕ) → flat (cells ns l) ≡ take (total ns) l
unfolding cells total
flat-all [] l = refl
flat-all (n ∷ ns) l = ap (λ (r : List ℕ). take n l ++ r) (flat-all ns (drop n l)) ∙ sym (take-add n (total ns) l)

-- the first cells are those of the first widths
first-cells : (k : ℕ) (ns l : List ℕ) → take k (cells ns l) ≡ cells (take k ns) l
unfolding cells
first-cells zero ns l = refl
first-cells (suc k) [] l = refl
first-cells (suc k) (n ∷ ns) l = ap (λ (r : Mem). take n l ∷ r) (first-cells k ns (drop n l))

-- so the words up to where cell k begins are the cells before it
pub words-before : (ns l : List ℕ) (k : ℕ) → take (start ns k) l ≡ flat (take k (cells ns l))
words-before ns l k = sym (ap flat (first-cells k ns l) ∙ flat-all (take k ns) l)

-- cell k, then those behind it
flat-next : (t : Mem) (k n : ℕ) → k < length t → flat (take (suc n) (drop k t)) ≡ cell t k ++ flat (take n (drop (suc k) t))
flat-next t k n lt = ap (λ (r : Mem). flat (take (suc n) r)) (drop-cons t k [] lt)

-- ---- the rows of the blocks, in pairs: those of the blocks before block n are the cells before `initialized_row n`

module _ (t : Mem) (blocks : ℕ) (long : initialized_row blocks ≤ length t) (f g : ℕ → List ℕ)
    (first : (c : ℕ) → c < blocks → cell t (initialized_row c) ≡ f c) (second : (c : ℕ) → c < blocks → cell t (live_row c) ≡ g c) where
  pairs : (n c : ℕ) → c + n ≤ blocks → flat (take (initialized_row n) (drop (initialized_row c) t)) ≡ joined (λ (d : ℕ). f d ++ g d) (range c n)
  pairs zero c le = refl
  pairs (suc n) c le =
      ap (λ (k : ℕ). flat (take k (drop (initialized_row c) t))) (let e : initialized_row (suc n) ≡ suc (suc (initialized_row n)) = omega arith in e)
      ∙ flat-next t (initialized_row c) (suc (initialized_row n)) (omega arith)
      ∙ ap (λ (r : List ℕ). cell t (initialized_row c) ++ r) (flat-next t (suc (initialized_row c)) (initialized_row n) (omega arith))
      ∙ sym (append_assoc (cell t (initialized_row c)) (cell t (suc (initialized_row c))) (flat (take (initialized_row n) (drop (suc (suc (initialized_row c))) t))))
      ∙ ap₂ (λ (p r : List ℕ). p ++ r)
      (ap₂ (λ (p q : List ℕ). p ++ q) (first c (omega arith))
      (ap (cell t) (let e : suc (initialized_row c) ≡ live_row c = omega arith in e) ∙ second c (omega arith)))
      (ap (λ (k : ℕ). flat (take (initialized_row n) (drop k t))) (let e : suc (suc (initialized_row c)) ≡ initialized_row (suc c) = omega arith in e)
      ∙ pairs n (suc c) (omega arith))

  pub pairs_all : flat (take (initialized_row blocks) t) ≡ joined (λ (d : ℕ). f d ++ g d) (range 0 blocks)
  pairs_all = pairs blocks 0 (omega arith)

-- ---- the cells of the sets buffer

module _ (code : List Instruction) (parameter : ℕ → Bool) (y : Layout) (v : List ℕ) (room : SetsRoom y (length v))
    (fit : (i : ℕ) → get_or v i 0 < 2 ^ 64) where
  -- the rows of a block
  module _ (both : Sets code parameter y (sets y v)) (c : ℕ) (lt : c < y.blocks) where
    first-row : cell (sets y v) (initialized_row c) ≡ words_of y.words (init_exit code parameter y.words c)
    first-row = means-words (sets_row_words v room (let h : SetsRow y (initialized_row c) = omega arith in h) fit) (λ i li. both.initialized c i lt li)

    second_row : cell (sets y v) (live_row c) ≡ words_of y.words (live_entry code parameter y.words c)
    second_row =
        means-words (sets_row_words v room (let h : SetsRow y (live_row c) = omega arith in h) fit)
        (λ i li. both.live c i lt li ∙ sym (live_entry_row (flow_graph code parameter y.words liveness) (seed code liveness) c i li))

  -- the words of a row behind a number
  tail-words : (w n : ℕ) (row : List ℕ) → Words (1 + w) (n ∷ row) → Words w row
  tail-words w n row h = record { long = omega (arith, h.long); fits = λ k. h.fits (suc k) }

  -- the entry of an await
  entry-is : (k : ℕ) (p : Point) → k < y.awaits → Entry y.words (cell (sets y v) (await_entry y.blocks k)) p
      → cell (sets y v) (await_entry y.blocks k) ≡ await_words code parameter y.words p
  entry-is k p lt (row, e, h) =
      e
      ∙ ap (λ (ws : List ℕ). p.instruction ∷ ws)
      (means-words (tail-words y.words p.instruction row
      (subst (Words (1 + y.words)) e (await_words_lem v room (record { low = omega arith; high = omega arith }) fit))) h)

  -- entries of awaits, one after the other
  entries-are : (ps : List Point) (k : ℕ) → k + length ps ≤ y.awaits → Entries y (sets y v) k ps
      → flat (take (length ps) (drop (await_entry y.blocks k) (sets y v))) ≡ joined (await_words code parameter y.words) ps
  entries-are [] k le h = refl
  entries-are (p ∷ ps) k le (h, hs) =
      flat-next (sets y v) (await_entry y.blocks k) (length ps) (omega (arith, sets-length y v))
      ∙ ap₂ (λ (a b : List ℕ). a ++ b) (entry-is k p (omega arith) h)
      (ap (λ (j : ℕ). flat (take (length ps) (drop j (sets y v)))) (let e : suc (await_entry y.blocks k) ≡ await_entry y.blocks (k + 1) = omega arith in e)
      ∙ entries-are ps (k + 1) (omega arith) hs)

  -- the words of the blocks and of the awaits
  answer-start : (n : ℕ) → n ≤ y.awaits → start (sets_widths y) (await_entry y.blocks n) ≡ answer_words y n
  unfolding sets_widths
  answer-start n le =
      start_past (initialized_row y.blocks) y.words (replicate y.awaits (1 + y.words)) (await_entry y.blocks n) (omega arith)
      ∙ ap (λ (k : ℕ). initialized_row y.blocks * y.words + start (replicate y.awaits (1 + y.words)) k)
      (let e : await_entry y.blocks n - initialized_row y.blocks ≡ n = omega arith in e)
      ∙ omega (arith, start-equal y.awaits (1 + y.words) n le)

  pub content : (ps : List Point) → Sets code parameter y (sets y v) → Entries y (sets y v) 0 ps → length ps ≤ y.awaits
      → take (answer_words y (length ps)) v
      ≡ joined (block_sets code parameter y.words) (range 0 y.blocks) ++ joined (await_words code parameter y.words) ps
  unfolding sets
  content ps both facts few =
      ap (λ (n : ℕ). take n v) (sym (answer-start (length ps) few))
      ∙ words-before (sets_widths y) v (await_entry y.blocks (length ps))
      ∙ ap flat (take-add (initialized_row y.blocks) (length ps) (sets y v))
      ∙ joined-append (λ (ws : List ℕ). ws) (take (initialized_row y.blocks) (sets y v)) (take (length ps) (drop (initialized_row y.blocks) (sets y v)))
      ∙ ap₂ (λ (a b : List ℕ). a ++ b)
      (pairs_all (sets y v) y.blocks (omega (arith, sets-length y v)) (λ c. words_of y.words (init_exit code parameter y.words c))
      (λ c. words_of y.words (live_entry code parameter y.words c)) (first-row both) (second_row both))
      (ap (λ (k : ℕ). flat (take (length ps) (drop k (sets y v)))) (sym (add-zero (initialized_row y.blocks))) ∙ entries-are ps 0 (omega arith) facts)
