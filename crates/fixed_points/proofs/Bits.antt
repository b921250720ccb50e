-- Rows of words seen as lists of bits: what a visit computes of the rows is, seen so, what it computes of the bits. Assumes nothing.
use mathlib.Core.Path.{◌≡◌, refl, sym, ap, ap₂, ◌∙◌}
use mathlib.Core.Bool.{Bool, true, false, not, ◌&&◌, ◌||◌, true≢false, and_assoc, or_assoc, and_comm, or_comm, and-true, or-false}
use mathlib.Core.List.{List, [], ◌∷◌, map}
use Prim.Native.Nat.{ℕ, ◌*◌, ◌/◌, ◌<◌}
use native.Mathlib.Omega.{arith}
use native.Mathlib.Decide.{ℕ_discrete}
use native.Mathlib.Nat.{zero-add}
use lib.Dec.{eqb, lit<}
use lib.ListN.{length, get_or, set, replicate, length-set}
use lib.Seq.{get_or-set_same, get_or-set_other}
use Rattle.bitset.specs.Sets.{ones, member, Words}
use Rattle.bitset.specs.Operations.{meet, difference, same}
use Rattle.bitset.proofs.SetLaws.{member-meet, member-join, member-difference, member-zero, member-ones, same_members, words_meet, words_join}
use Rattle.bitset.proofs.SetLaws.{words_difference, words-replicate}
use Rattle.dataflow.specs.Analyses as analyses
use Rattle.dataflow.specs.Code.{Instruction, program, body}
use Rattle.dataflow.specs.Lists.{pick, tabulate, every, some, flag}
use Rattle.dataflow.specs.Framework.{Framework, bit_at, same_bits, solver_of}
use Rattle.dataflow.specs.FlowGraph.{framework}
use Rattle.dataflow.specs.Results.{reachable, flow_graph}
use Rattle.dataflow.proofs.Bits.{same_bits_lem, bits-same}
use Rattle.dataflow.proofs.Blocks.{init_gen_kill, init_by_defines, uses_exposed, defines_written}
use Rattle.dataflow.proofs.Lists.{get_d_tabulate, tabulate_among, map_at}
use Rattle.dataflow.proofs.Simulation.{Agrees, Each}
use Rattle.memory.specs.Cells.{Mem, cell, word}
use Rattle.memory.specs.Names.{reachable_cell, uses_row, defines_row, parameters_row}
use Rattle.memory.specs.Scratch.{scratch_widths, Row}
use Rattle.sizes.specs.declared.Layout.{Layout}
use Rattle.memory.specs.Cells.{Sized}
use Rattle.edges.specs.Edges.{marked}
use Rattle.bitset.specs.Below.{AllBelow}
use Rattle.bitset.proofs.Below.{below-mem}
use Rattle.transfer.specs.declared.direction.Direction.{Direction}
use Rattle.transfer.specs.declared.direction.Direction.TheVariants.{Initialization, Liveness}
use Rattle.memory.specs.Edges.{neighbors}
use Rattle.transfer.specs.Directions.{reads_of, dependents_of}
use Rattle.transfer.specs.Transfer.{entry_of, transferred}
use Rattle.propagate.specs.Rounds.{gather_row, gather_rows, row_solver}
use Rattle.edges.specs.Flow.{Flows}
use Rattle.dataflow.specs.Checked.{Scripted}
use Rattle.fixed_points.proofs.CodeGraph.{direction_of, neighbors_are, reachable_are, connected}

-- ---- bits of words

-- the first n bits of a row
abbrev pub bits_of : ℕ → List ℕ → List Bool
bits_of n ws = tabulate 0 n (member ws)

-- one of them
pub bits_at : (n : ℕ) (ws : List ℕ) (i : ℕ) (v : Bool) → i < n → get_or (bits_of n ws) i v ≡ member ws i
bits_at n ws i v lt = get_d_tabulate 0 n i (member ws) v lt ∙ ap (member ws) (zero-add i)

-- one of a row of a table
pub bit-at : (n : ℕ) (rows : List (List ℕ)) (v : Bool) (p i : ℕ) → p < length rows → i < n → bit_at v (map (bits_of n) rows) p i ≡ member (get_or rows p []) i
bit-at n rows v p i lp li = ap (λ (l : List Bool). get_or l i v) (map_at (bits_of n) rows p [] [] lp) ∙ bits_at n (get_or rows p []) i v li

-- a table of the members is the bits
pub bits_are : (n : ℕ) (ws : List ℕ) (f : ℕ → Bool) → ((i : ℕ) → i < n → f i ≡ member ws i) → tabulate 0 n f ≡ bits_of n ws
bits_are n ws f h = tabulate_among 0 n f (member ws) (λ i lo hi. h i (omega arith))

-- rows are the same exactly if their bits are
pub same-is : {w : ℕ} {xs ys : List ℕ} → Words w xs → Words w ys → same_bits (bits_of (64 * w) xs) (bits_of (64 * w) ys) ≡ same xs ys
same-is {w} {xs} {ys} hx hy = go (same xs ys) refl (same_bits (bits_of (64 * w) xs) (bits_of (64 * w) ys)) refl
  where
    go : (t : Bool) → same xs ys ≡ t → (u : Bool) → same_bits (bits_of (64 * w) xs) (bits_of (64 * w) ys) ≡ u → u ≡ t
    go true e true f = refl
    go false e false f = refl
    go true e false f = absurd (true≢false (sym equal ∙ f))
      where
        equal : same_bits (bits_of (64 * w) xs) (bits_of (64 * w) ys) ≡ true
        equal =
            ap (λ (l : List Bool). same_bits l (bits_of (64 * w) ys)) (bits_are (64 * w) ys (member xs) ((same_members hx hy).0 e))
            ∙ bits-same (bits_of (64 * w) ys)
    go false e true f = absurd (true≢false (sym equal ∙ e))
      where
        equal : same xs ys ≡ true
        equal = (same_members hx hy).1 (λ i lt. sym (bits_at (64 * w) xs i true lt)
            ∙ ap (λ (l : List Bool). get_or l i true) (same_bits_lem (bits_of (64 * w) xs) (bits_of (64 * w) ys) f) ∙ bits_at (64 * w) ys i true lt)

-- each of a list of blocks is one
pub below_each : (n : ℕ) (l : List ℕ) → AllBelow n l → Each (λ b. b < n) l
below_each n l h c q = below-mem n c l h q

-- the transfer of liveness, as the code joins it
live-turned : (x : Bool) {k k' u u' : Bool} → k ≡ k' → u ≡ u' → ((x && not k) || u) ≡ (u' || (not k' && x))
live-turned x {k} {k'} {u} {u'} e q =
    ap₂ (λ (a b : Bool). (x && not a) || b) e q ∙ or_comm (x && not k') u' ∙ ap (λ (a : Bool). u' || a) (and_comm x (not k'))

-- ---- tables of rows

-- a row of w words for each of n blocks
pub record Table (y : Layout) (rows : List (List ℕ)) : Type 0 where
  pub count : length rows ≡ y.blocks
  pub each : (b : ℕ) → b < y.blocks → Words y.words (get_or rows b [])

-- a row put into a table
table-set : {y : Layout} {rows : List (List ℕ)} → Table y rows → (b : ℕ) (x : List ℕ) → b < y.blocks → Words y.words x → Table y (set rows b x)
table-set {y} {rows} t b x lt h = record { count = length-set rows b x ∙ t.count; each = λ c lc. go c lc (ℕ_discrete c b) }
  where
    go : (c : ℕ) → c < y.blocks → Dec (c ≡ b) → Words y.words (get_or (set rows b x) c [])
    go c lc (yes e) = rw (e, get_or-set_same rows b x [] (omega (arith, t.count))) h
    go c lc (no ne) = rw (get_or-set_other rows b c x [] ne) (t.each c lc)

-- every row of scratch is of words
abbrev pub RowsOfWords : Layout → Mem → Type 0
RowsOfWords y m = (k : ℕ) → Row y k → Words y.words (cell m k)

-- ---- what a visit computes

-- the framework of the code in a direction of the solver
abbrev pub frame_of : List Instruction → (ℕ → Bool) → ℕ → Direction → Framework
frame_of code parameter words d = framework (flow_graph code parameter words (direction_of d)) (direction_of d)

module _ {code : List Instruction} {parameter : ℕ → Bool} {y : Layout} {m : Mem} (s : Scripted code parameter y.words)
    (f : Flows code parameter y m) (w : RowsOfWords y m) where
  abbrev bits : ℕ
  bits = 64 * y.words

  -- a bit lies in a word of the row
  in_row : {x : List ℕ} → Words y.words x → (i : ℕ) → i < bits → i / 64 < length x
  in_row h i lt = omega (arith, h.long)

  -- ---- rows of scratch
  module _ (b : ℕ) (lt : b < y.blocks) where
    -- what a block defines is a row of words
    defines-words : Words y.words (cell m (defines_row b))
    defines-words = w (defines_row b) (record { low = omega arith; high = omega arith })

    -- so is what it uses
    uses-words : Words y.words (cell m (uses_row b))
    uses-words = w (uses_row b) (record { low = omega arith; high = omega arith })

  -- and so are the parameters
  parameters-words : Words y.words (cell m (parameters_row y.blocks))
  parameters-words = w (parameters_row y.blocks) (record { low = omega arith; high = omega arith })

  -- ---- what a block begins with
  -- it is a row of words
  pub entry_words : (d : Direction) (b : ℕ) → Words y.words (entry_of d y m b)
  unfolding entry_of
  entry_words Initialization b = go (eqb b 0)
    where
      go : (t : Bool) → Words y.words (pick t (cell m (parameters_row y.blocks)) (replicate y.words ones))
      go true = parameters-words
      go false = words-replicate y.words ones (lit< tt)
  entry_words Liveness b = words-replicate y.words 0 (lit< tt)

  -- its bits forwards: at block 0 the parameters, at another all
  pub entry_init : (b i : ℕ) → i < bits → member (entry_of Initialization y m b) i ≡ (not (eqb b 0) || parameter i)
  unfolding entry_of
  entry_init b i li = go (eqb b 0)
    where
      go : (t : Bool) → member (pick t (cell m (parameters_row y.blocks)) (replicate y.words ones)) i ≡ (not t || parameter i)
      go true = f.parameters_are i
      go false = member-ones y.words i (omega arith)

  -- its bits backwards: none
  pub entry_live : (b i : ℕ) → member (entry_of Liveness y m b) i ≡ false
  unfolding entry_of
  entry_live b i = member-zero y.words i

  -- ---- the transfer of a block
  -- it keeps rows of words
  transfer-words : (d : Direction) (b : ℕ) → b < y.blocks → (x : List ℕ) → Words y.words x → Words y.words (transferred d m b x)
  unfolding transferred
  transfer-words Initialization b lt x h = words_join h (cell m (defines_row b)) (defines-words b lt).fits
  transfer-words Liveness b lt x h =
      words_join (words_difference h (cell m (defines_row b))) (cell m (uses_row b)) (uses-words b lt).fits

  -- its bits forwards
  transfer-init : (b : ℕ) → b < y.blocks → (x : List ℕ) → Words y.words x → (i : ℕ) → i < bits
      → member (transferred Initialization m b x) i
      ≡ analyses.init_transfer (flow_graph code parameter y.words analyses.initialization).program b i (member x i)
  unfolding transferred
  transfer-init b lt x h i li =
      member-join x (cell m (defines_row b)) i (in_row h i li)
      ∙ ap (λ (t : Bool). member x i || t) (f.defines_are b lt i)
      ∙ sym (init_by_defines (program code parameter) s.empties i (member x i) (body code b))
      ∙ init_gen_kill (program code parameter) i (member x i) (body code b)

  -- its bits backwards
  transfer-live : (b : ℕ) → b < y.blocks → (x : List ℕ) → Words y.words x → (i : ℕ) → i < bits
      → member (transferred Liveness m b x) i
      ≡ analyses.live_transfer (flow_graph code parameter y.words analyses.liveness).program b i (member x i)
  unfolding transferred
  transfer-live b lt x h i li =
      member-join (difference x (cell m (defines_row b))) (cell m (uses_row b)) i (in_row (words_difference h (cell m (defines_row b))) i li)
      ∙ ap (λ (t : Bool). t || member (cell m (uses_row b)) i) (member-difference x (cell m (defines_row b)) i ((defines-words b lt).fits (i / 64)))
      ∙ live-turned (member x i) (f.defines_are b lt i ∙ defines_written (program code parameter) i (body code b))
      (f.uses_are b lt i ∙ uses_exposed (program code parameter) i (body code b))

  -- ---- what the neighbors give
  module _ (rows : List (List ℕ)) (t : Table y rows) where
    -- one neighbor: it keeps rows of words
    gather-words : (d : Direction) (p : ℕ) (x : List ℕ) → p < y.blocks → Words y.words x → Words y.words (gather_row d m rows p x)
    unfolding gather_row
    gather-words Initialization p x lp h = go (eqb (word m reachable_cell p) 0)
      where
        go : (c : Bool) → Words y.words (pick c x (meet x (get_or rows p [])))
        go true = h
        go false = words_meet h (get_or rows p [])
    gather-words Liveness p x lp h = words_join h (get_or rows p []) (t.each p lp).fits

    -- its bits forwards: met if the neighbor is reachable
    gather-init : (p : ℕ) (x : List ℕ) → p < y.blocks → (i : ℕ) → i < bits → member (gather_row Initialization m rows p x) i
        ≡ (member x i && (not (reachable code p) || bit_at true (map (bits_of bits) rows) p i))
    unfolding gather_row
    gather-init p x lp i li =
        ap (λ (v : ℕ). member (pick (eqb v 0) x (meet x (get_or rows p []))) i) (f.reached p lp) ∙ go (reachable code p)
      where
        go : (c : Bool) → member (pick (eqb (flag c) 0) x (meet x (get_or rows p []))) i
            ≡ (member x i && (not c || bit_at true (map (bits_of bits) rows) p i))
        go true = member-meet x (get_or rows p []) i ∙ ap (λ (a : Bool). member x i && a) (sym (bit-at bits rows true p i (omega (arith, t.count)) li))
        go false = sym (and-true (member x i))

    -- its bits backwards: joined
    gather-live : (p : ℕ) (x : List ℕ) → p < y.blocks → Words y.words x → (i : ℕ) → i < bits → member (gather_row Liveness m rows p x) i
        ≡ (member x i || bit_at false (map (bits_of bits) rows) p i)
    unfolding gather_row
    gather-live p x lp h i li =
        member-join x (get_or rows p []) i (in_row h i li) ∙ ap (λ (a : Bool). member x i || a) (sym (bit-at bits rows false p i (omega (arith, t.count)) li))

    -- all neighbors: they keep rows of words
    pub gathers_words : (d : Direction) (ps : List ℕ) (x : List ℕ) → AllBelow y.blocks ps → Words y.words x
        → Words y.words (gather_rows d m rows ps x)
    unfolding gather_rows
    gathers_words d [] x l h = h
    gathers_words d (p ∷ ps) x l h = gathers_words d ps (gather_row d m rows p x) l.1 (gather-words d p x l.0 h)

    -- their bits forwards
    pub gathers_init : (ps : List ℕ) (x : List ℕ) → AllBelow y.blocks ps → (i : ℕ) → i < bits
        → member (gather_rows Initialization m rows ps x) i
        ≡ (member x i && every (λ c. not (reachable code c) || bit_at true (map (bits_of bits) rows) c i) ps)
    unfolding gather_rows
    gathers_init [] x l i li = sym (and-true (member x i))
    gathers_init (p ∷ ps) x l i li =
        gathers_init ps (gather_row Initialization m rows p x) l.1 i li
        ∙ ap (λ (a : Bool). a && every (λ c. not (reachable code c) || bit_at true (map (bits_of bits) rows) c i) ps) (gather-init p x l.0 i li)
        ∙ and_assoc (member x i) (not (reachable code p) || bit_at true (map (bits_of bits) rows) p i)
        (every (λ c. not (reachable code c) || bit_at true (map (bits_of bits) rows) c i) ps)

    -- their bits backwards
    pub gathers_live : (ps : List ℕ) (x : List ℕ) → AllBelow y.blocks ps → Words y.words x → (i : ℕ) → i < bits
        → member (gather_rows Liveness m rows ps x) i ≡ (member x i || some (λ c. bit_at false (map (bits_of bits) rows) c i) ps)
    unfolding gather_rows
    gathers_live [] x l h i li = sym (or-false (member x i))
    gathers_live (p ∷ ps) x l h i li =
        gathers_live ps (gather_row Liveness m rows p x) l.1 (gather-words Liveness p x l.0 h) i li
        ∙ ap (λ (a : Bool). a || some (λ c. bit_at false (map (bits_of bits) rows) c i) ps) (gather-live p x l.0 h i li)
        ∙ or_assoc (member x i) (bit_at false (map (bits_of bits) rows) p i) (some (λ c. bit_at false (map (bits_of bits) rows) c i) ps)

  -- ---- the new row of a block
  module _ (z : Sized (scratch_widths y) m) where
    module _ (d : Direction) (b : ℕ) (lt : b < y.blocks) (rows : List (List ℕ)) (t : Table y rows) where
      -- what comes in
      abbrev incoming_row : List ℕ
      incoming_row = gather_rows d m rows (neighbors (reads_of d) m b) (entry_of d y m b)

      -- is of words
      incoming-words : Words y.words incoming_row
      incoming-words =
          gathers_words rows t d (neighbors (reads_of d) m b) (entry_of d y m b) ((connected s f).ends (reads_of d) b lt) (entry_words d b)

      -- and so is what goes out
      pub computed_words : Words y.words ((row_solver d y m).compute b rows)
      computed_words = transfer-words d b lt incoming_row incoming-words

    -- a bit of what goes out
    computed-bit : (d : Direction) (b : ℕ) → b < y.blocks → (rows : List (List ℕ)) → Table y rows → (i : ℕ) → i < bits
        → (frame_of code parameter y.words d).transfer b (bit_at (frame_of code parameter y.words d).initial (map (bits_of bits) rows)) i
        ≡ member ((row_solver d y m).compute b rows) i
    computed-bit Initialization b lt rows t i li =
        sym (transfer-init b lt (incoming_row Initialization b lt rows t) (incoming-words Initialization b lt rows t) i li
        ∙ ap (analyses.init_transfer (flow_graph code parameter y.words analyses.initialization).program b i)
        (gathers_init rows t (neighbors (reads_of Initialization) m b) (entry_of Initialization y m b)
        ((connected s f).ends (reads_of Initialization) b lt) i li
        ∙ ap₂ (λ (a : Bool) (ps : List ℕ). a && every (λ c. not (reachable code c) || bit_at true (map (bits_of bits) rows) c i) ps)
        (entry_init b i li) (neighbors_are s f z (reads_of Initialization) b)))
    computed-bit Liveness b lt rows t i li =
        sym (transfer-live b lt (incoming_row Liveness b lt rows t) (incoming-words Liveness b lt rows t) i li
        ∙ ap (analyses.live_transfer (flow_graph code parameter y.words analyses.liveness).program b i)
        (gathers_live rows t (neighbors (reads_of Liveness) m b) (entry_of Liveness y m b) ((connected s f).ends (reads_of Liveness) b lt)
        (entry_words Liveness b) i li
        ∙ ap₂ (λ (a : Bool) (ps : List ℕ). a || some (λ c. bit_at false (map (bits_of bits) rows) c i) ps)
        (entry_live b i) (neighbors_are s f z (reads_of Liveness) b)))

    module _ (d : Direction) where
      -- the row seen as bits is what the framework computes of the rows seen as bits
      pub computed_bits : (b : ℕ) (rows : List (List ℕ)) → b < y.blocks → Table y rows
          → (solver_of (frame_of code parameter y.words d)).compute b (map (bits_of bits) rows) ≡ bits_of bits ((row_solver d y m).compute b rows)
      computed_bits b rows lt t = go d
        where
          go : (e : Direction) → (solver_of (frame_of code parameter y.words e)).compute b (map (bits_of bits) rows)
              ≡ bits_of bits ((row_solver e y m).compute b rows)
          go Initialization = bits_are bits ((row_solver Initialization y m).compute b rows) _ (computed-bit Initialization b lt rows t)
          go Liveness = bits_are bits ((row_solver Liveness y m).compute b rows) _ (computed-bit Liveness b lt rows t)

      -- so the run over rows agrees with the run over bits
      pub agrees : Agrees (bits_of bits) (row_solver d y m) (solver_of (frame_of code parameter y.words d)) (Table y) (λ b. b < y.blocks)
      agrees = record {
        tests = λ b rows lt t. ap₂ same_bits (map_at (bits_of bits) rows b [] [] (omega (arith, t.count))) (computed_bits b rows lt t)
            ∙ same-is (t.each b lt) (computed_words d b lt rows t);
        computes = computed_bits;
        dependents = λ b. go d b;
        reachable = λ b. reaches d b;
        keeps = λ b rows lt t. table-set t b ((row_solver d y m).compute b rows) lt (computed_words d b lt rows t);
        nexts = λ b lt. below_each y.blocks (neighbors (dependents_of d) m b) ((connected s f).ends (dependents_of d) b lt);
      }
        where
          go : (e : Direction) (b : ℕ) → (frame_of code parameter y.words e).dependents b ≡ neighbors (dependents_of e) m b
          go Initialization b = sym (neighbors_are s f z (dependents_of Initialization) b)
          go Liveness b = sym (neighbors_are s f z (dependents_of Liveness) b)

          reaches : (e : Direction) (b : ℕ) → (frame_of code parameter y.words e).reachable b ≡ marked (word m reachable_cell b)
          reaches Initialization b = sym (reachable_are s f z b)
          reaches Liveness b = sym (reachable_are s f z b)
