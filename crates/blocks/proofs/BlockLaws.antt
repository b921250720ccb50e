-- One block: what its words and rows are when its instructions have been gone through, and that those of earlier blocks stay. Assumes nothing.
use mathlib.Core.Logic.{◌≢◌}
use mathlib.Core.Path.{◌≡◌, refl, sym, ap, subst, ◌∙◌}
use mathlib.Core.Bool.{Bool, false}
use mathlib.Core.List.{List, [], ◌∷◌, map, Memᴰ}
use Prim.Native.Nat.{ℕ, suc, ◌+◌, ◌-◌, ◌≤◌, ◌<◌}
use native.Mathlib.Decide.{dec_lt}
use native.Mathlib.Numerals.{add-one}
use native.Mathlib.Omega.{arith}
use lib.Dec.{ltb}
use lib.ListN.{length, get_or, replicate, length-map, length-set, get_or-eq_default}
use borrow.Author.Tests.{lt-ltb, le-ltb}
use Rattle.dataflow.specs.Lists.{pick}
use Rattle.dataflow.specs.Code.{Instruction, successors, index_of, leaders, block_successors}
use Rattle.dataflow.specs.Results.{block_count}
use Rattle.dataflow.specs.Charges.{cost_at}
use Rattle.dataflow.proofs.Leaders.{leaders_count}
use Rattle.dataflow.proofs.Lists.{map_at, mem-get_or}
use Rattle.memory.specs.Cells.{Mem, cell, word, store, store_cell}
use Rattle.memory.specs.Names.{offset_cell, block_of_cell, leader_cell, cost_cell, start_cell, end_cell, successor_cell, successor_count_cell}
use Rattle.memory.specs.Names.{uses_row, defines_row}
use Rattle.memory.specs.Edges.{edge_place, edge_word}
use Rattle.memory.specs.Frame.{Only, ThisRow, RowsOf}
use Rattle.memory.specs.Scratch.{scratch_cells, Whole}
use Rattle.sizes.specs.declared.Layout.{Layout}
use Rattle.memory.proofs.CellLaws.{same_word, cell-store_same, cell-store_other, word-store_same, word-store_other}
use Rattle.memory.proofs.FrameLaws.{only_then, only-more, only-cell, only_row}
use Rattle.memory.proofs.ScratchLaws.{scratch_count, sized_blocks}
use Rattle.budget.specs.declared.FlowBudget.{FlowBudget}
use Rattle.budget.specs.declared.Limits.{Limits}
use Rattle.std.specs.Prelude.{Ok}
use Rattle.budget.specs.Budget.{Charged, charged}
use Rattle.operands.specs.Kinds.{kind_number, ends_block}
use Rattle.operands.specs.Instructions.{targets_in}
use Rattle.operands.specs.declared.instruction.Instruction as operands
use Rattle.sheet.specs.declared.script.Script.{Script}
use Rattle.sheet.specs.Decode.{parts_of}
use Rattle.instructions.specs.declared.placed.Placed.{Placed}
use Rattle.instructions.specs.Placed.{IsPlaced}
use Rattle.bitset.specs.Below.{AllBelow}
use Rattle.instructions.specs.Sound.{Sound}
use Rattle.script.specs.Script.{flow_code, parameter_in}
use Rattle.script.proofs.ScriptLaws.{code_length, checked}
use Rattle.leaders.proofs.LeaderLaws.{targets_at}
use Rattle.blocks.specs.Words.{end_of, spanned, next_of, put_edges}
use Rattle.blocks.specs.Rows.{transfer_all, rows_at, Transferred}
use Rattle.blocks.specs.Blocks.{Ready, BlockWords, BlockRows, block_cells, BuiltOne}
use Rattle.blocks.proofs.ReadLaws.{Read, inputs_everywhere, outputs_everywhere, targets_everywhere}
use Rattle.blocks.proofs.TransferLaws.{offset_is, noted_read}
use Rattle.blocks.proofs.CodeLaws.{starts_up, Spans, spans_at, few_successors, behind_inside, next_leads}
use Rattle.blocks.proofs.EdgeLaws.{edge_cells, Edged, edged}
use Rattle.blocks.proofs.KeptLaws.{ready_kept, SameWords, block-kept}
use Rattle.blocks.proofs.MemberLaws.{rows_from_none}

-- ---- after `span` and `empty`

abbrev code : List ℕ → List Instruction
code s = flow_code (parts_of s)

-- the cells of where a block begins and ends
abbrev span_cells : List ℕ
span_cells = start_cell ∷ end_cell ∷ []

-- what is then known of block b, which begins at `start` and ends at `end`
pub record Emptied (s : List ℕ) (x : Script) (y : Layout) (b start end : ℕ) (m m₂ : Mem) : Type 0 where
  pub ready : Ready s x y m
  pub there : b < y.blocks
  pub whole : Whole y m₂
  pub starts : start ≡ word m₂ start_cell b
  pub ends : end ≡ word m₂ end_cell b
  pub start_is : word m₂ start_cell b ≡ get_or (leaders (code s)) b (length (code s))
  pub end_is : word m₂ end_cell b ≡ get_or (leaders (code s)) (suc b) (length (code s))
  pub other_starts : (d : ℕ) → d ≢ b → word m₂ start_cell d ≡ word m start_cell d
  pub other_ends : (d : ℕ) → d ≢ b → word m₂ end_cell d ≡ word m end_cell d
  pub uses_none : cell m₂ (uses_row b) ≡ replicate y.words 0
  pub defines_none : cell m₂ (defines_row b) ≡ replicate y.words 0
  pub only : Only span_cells (RowsOf b) m m₂

module _ {s : List ℕ} {x : Script} {y : Layout} {m : Mem} (ok : Ready s x y m) {b : ℕ} (hb : b < y.blocks) where
  some_block : b < block_count (code s)
  some_block = omega (arith, ok.fits.blocks)

  -- a block ends where the next one begins
  next_start : end_of y m b ≡ get_or (leaders (code s)) (suc b) (length (code s))
  unfolding end_of
  next_start = go (dec_lt (b + 1) y.blocks)
    where
      go : Dec (b + 1 < y.blocks)
          → pick (ltb (b + 1) y.blocks) (word m leader_cell (b + 1)) y.instructions ≡ get_or (leaders (code s)) (suc b) (length (code s))
      go (yes l) =
          rw (lt-ltb (b + 1) y.blocks l)
          (ok.index.starts (b + 1) (omega (arith, ok.fits.blocks)) ∙ ap (λ (c : ℕ). get_or (leaders (code s)) c (length (code s))) (add-one b))
      go (no l) =
          rw (le-ltb (b + 1) y.blocks (omega arith))
          (ok.fits.instructions ∙ sym (code_length s x ok.sound)
          ∙ sym (get_or-eq_default (leaders (code s)) (length (code s)) {n = suc b} (omega (arith, leaders_count (code s), ok.fits.blocks))))

  module _ {m₁ m₂ : Mem} (e₁ : m₁ ≡ spanned y b m)
      (e₂ : m₂ ≡ store_cell (store_cell m₁ (uses_row b) (replicate y.words 0)) (defines_row b) (replicate y.words 0))
      (z : Whole y m₂) {start end : ℕ} (p : start ≡ word m₂ start_cell b) (q : end ≡ word m₂ end_cell b) where
    abbrev begun : Mem
    begun = store m start_cell b (word m leader_cell b)

    noted : m₁ ≡ store begun end_cell b (end_of y m b)
    unfolding spanned
    noted = e₁

    abbrev first : Mem
    first = store_cell m₁ (uses_row b) (replicate y.words 0)

    -- as many cells all the way
    many₁ : length m₁ ≡ scratch_cells y
    many₁ = sym (ap length e₂ ∙ length-set first (defines_row b) _ ∙ length-set m₁ (uses_row b) _) ∙ z.count ∙ scratch_count y

    many-begun : length begun ≡ scratch_cells y
    many-begun = sym (ap length noted ∙ length-set begun end_cell _) ∙ many₁

    many : length m ≡ scratch_cells y
    many = sym (length-set m start_cell _) ∙ many-begun

    -- the start noted, then the end, then the two rows
    start-only : Only (start_cell ∷ []) (RowsOf b) m begun
    start-only = only-cell start_cell _ (omega arith) refl

    end-only : Only (end_cell ∷ []) (RowsOf b) begun m₁
    end-only = only-cell end_cell _ (omega arith) noted

    rows-only : Only [] (RowsOf b) m₁ m₂
    rows-only =
        let uses-only : Only [] (ThisRow (uses_row b)) m₁ first = only_row (uses_row b) _ (omega arith) refl in
        let defines-only : Only [] (ThisRow (defines_row b)) first m₂ = only_row (defines_row b) _ (omega arith) e₂ in
        only_then (only-more [] (RowsOf b) refl (λ k h w. (omega arith, omega arith)) uses-only)
        (only-more [] (RowsOf b) refl (λ k h w. (omega arith, omega arith)) defines-only)

    -- both cells have a word a block
    start_there : b < length (cell m start_cell)
    start_there =
        let e = rows-only.named start_cell refl ∙ end-only.named start_cell refl ∙ cell-store_same m start_cell _ (omega (arith, many)) in
        omega (arith, ap length e, length-set (cell m start_cell) b (word m leader_cell b), sized_blocks y z start_cell (omega arith) (omega arith))

    end_there : b < length (cell begun end_cell)
    end_there =
        let e = rows-only.named end_cell refl ∙ ap (λ (w : Mem). cell w end_cell) noted
        ∙ cell-store_same begun end_cell _ (omega (arith, many-begun)) in
        omega (arith, ap length e, length-set (cell begun end_cell) b (end_of y m b), sized_blocks y z end_cell (omega arith) (omega arith))

    pub emptied : Emptied s x y b start end m m₂
    emptied = record {
      ready = ok;
      there = hb;
      whole = z;
      starts = p;
      ends = q;
      start_is = same_word b (rows-only.named start_cell refl ∙ end-only.named start_cell refl)
          ∙ word-store_same m start_cell b (word m leader_cell b) (omega (arith, many)) start_there
          ∙ ok.index.starts b some_block;
      end_is = same_word b (rows-only.named end_cell refl) ∙ ap (λ (w : Mem). word w end_cell b) noted
          ∙ word-store_same begun end_cell b (end_of y m b) (omega (arith, many-begun)) end_there
          ∙ next_start;
      other_starts = λ d f. same_word d (rows-only.named start_cell refl ∙ end-only.named start_cell refl)
          ∙ word-store_other m start_cell b (word m leader_cell b) start_cell d (λ _. f);
      other_ends = λ d f. same_word d (rows-only.named end_cell refl) ∙ ap (λ (w : Mem). word w end_cell d) noted
          ∙ word-store_other begun end_cell b (end_of y m b) end_cell d (λ _. f) ∙ same_word d (start-only.named end_cell refl);
      uses_none = ap (λ (w : Mem). cell w (uses_row b)) e₂
          ∙ cell-store_other first (defines_row b) _ (uses_row b) (λ w. omega arith)
          ∙ cell-store_same m₁ (uses_row b) _ (omega (arith, many₁));
      defines_none = ap (λ (w : Mem). cell w (defines_row b)) e₂
          ∙ cell-store_same first (defines_row b) _ (omega (arith, many₁, length-set m₁ (uses_row b) (replicate y.words 0)));
      only = only_then (only-more span_cells (RowsOf b) refl (λ k h r. r) start-only)
          (only_then (only-more span_cells (RowsOf b) refl (λ k h r. r) end-only) (only-more span_cells (RowsOf b) refl (λ k h r. r) rows-only));
    }

-- ---- its instructions

-- the last of them, as it is read: its targets, what follows it, and that control goes where the edges are put
pub record Last (s : List ℕ) (y : Layout) (end : ℕ) (v : operands.Instruction) : Type 0 where
  pub targets : AllBelow y.instructions (targets_in v)
  pub behind : ends_block (kind_number v.kind) ≡ false → end < y.instructions
  pub next : next_of (ends_block (kind_number v.kind)) (targets_in v) end ≡ successors (code s) (end - 1)

module _ {s : List ℕ} {x : Script} {y : Layout} {m m₂ : Mem} {b start end : ℕ} (em : Emptied s x y b start end m m₂) where
  abbrev sound : Sound s x
  sound = em.ready.sound

  some : b < block_count (code s)
  some = omega (arith, em.there, em.ready.fits.blocks)

  pub spans : Spans (code s) b start end
  spans = spans_at (code s) (parameter_in (parts_of s)) x.slots (checked s x sound) b start end some (em.starts ∙ em.start_is)
      (em.ends ∙ em.end_is)

  pub end_inside : end ≤ y.instructions
  end_inside = omega (arith, spans.inside, em.ready.fits.instructions, code_length s x sound)

  -- the index is still there
  pub emptied_ready : Ready s x y m₂
  emptied_ready = ready_kept em.ready (em.only.named offset_cell refl) (em.only.named block_of_cell refl) (em.only.named leader_cell refl)

  pub last_inside : end - 1 < y.instructions
  last_inside = omega (arith, spans.some, end_inside)

  module _ {at : ℕ} (ea : at ≡ word m₂ offset_cell (end - 1)) {z : Placed} (ei : IsPlaced s at z) (v : operands.Instruction)
      (ek : v.kind ≡ z.kind) (ef : v.fields.now ≡ z.fields.now) where
    read : Read s y.words (end - 1) v
    read = noted_read emptied_ready last_inside ea ei v ek ef

    pub last : Last s y end v
    last = record {
      targets = subst (λ (n : ℕ). AllBelow n (targets_in v)) (sym em.ready.fits.instructions)
          (targets_at sound (end - 1) ei (offset_is emptied_ready last_inside ea) v ek ef (omega (arith, last_inside, em.ready.fits.instructions)));
      behind = λ f.
          let l = behind_inside (code s) (parameter_in (parts_of s)) x.slots (checked s x sound) b start end some spans (read.ends_are ∙ f) in
          omega (arith, l, em.ready.fits.instructions, code_length s x sound);
      next = let e : end ≡ suc (end - 1) = omega (arith, spans.some) in rw (read.ends_are, read.targets_are, ← e) refl;
    }

  -- ---- the edges put, and the instructions gone through

  module _ {nexts : List ℕ} (en : nexts ≡ successors (code s) (end - 1)) {m₃ : Mem}
      (e₃ : m₃ ≡ put_edges b nexts m₂) where
    successors_are : block_successors (code s) b ≡ map (λ (t : ℕ). index_of t (leaders (code s))) nexts
    successors_are = ap (λ (i : ℕ). map (λ (t : ℕ). index_of t (leaders (code s))) (successors (code s) i)) spans.last
        ∙ ap (map (λ (t : ℕ). index_of t (leaders (code s)))) (sym en)

    count-is : length (block_successors (code s) b) ≡ length nexts
    count-is = ap length successors_are ∙ length-map nexts (λ (t : ℕ). index_of t (leaders (code s)))

    few-edges : (d : ℕ) → length (block_successors (code s) d) ≤ 2
    few-edges = few_successors (code s) (targets_everywhere s x sound)

    put : Edged b nexts m₂ m₃
    put = edged y b nexts em.whole em.there (omega (arith, count-is, few-edges b)) e₃

    -- the index is still there
    pub still_ready : Ready s x y m₃
    still_ready = ready_kept emptied_ready (put.only.named offset_cell refl) (put.only.named block_of_cell refl)
        (put.only.named leader_cell refl)

    -- each edge leads to the number of its block
    edge-is : (k : ℕ) → k < length nexts → word m₂ block_of_cell (get_or nexts k 0) ≡ get_or (block_successors (code s) b) k 0
    edge-is k l =
        let g = next_leads (code s) (parameter_in (parts_of s)) x.slots (checked s x sound) b start end some spans (get_or nexts k 0)
        (subst (λ (r : List ℕ). Memᴰ (get_or nexts k 0) r) en (mem-get_or nexts k 0 l)) in
        same_word (get_or nexts k 0) (em.only.named block_of_cell refl)
        ∙ em.ready.index.numbers (get_or nexts k 0) (omega (arith, g.1, code_length s x sound)) g.0
        ∙ sym (same_word k successors_are ∙ map_at (λ (t : ℕ). index_of t (leaders (code s))) nexts k 0 0 l)

    module _ {l : Limits} {budget : FlowBudget} {m₄ : Mem} {r : Charged} (t : Transferred (code s) l budget b start end m₃ m₄ r) where
      -- behind `empty`, and all of it
      late : Only (cost_cell ∷ edge_cells) (RowsOf b) m₂ m₄
      late = only_then (only-more (cost_cell ∷ edge_cells) (RowsOf b) refl (λ k h r. absurd r) put.only)
          (only-more (cost_cell ∷ edge_cells) (RowsOf b) refl (λ k h r. r) t.only)

      whole : Only block_cells (RowsOf b) m m₄
      whole = only_then (only-more block_cells (RowsOf b) refl (λ k h r. r) em.only) (only-more block_cells (RowsOf b) refl (λ k h r. r) late)

      -- the words that `transfer` leaves
      start₄ : (d : ℕ) → word m₄ start_cell d ≡ word m₂ start_cell d
      start₄ d = same_word d (late.named start_cell refl)

      end₄ : (d : ℕ) → word m₄ end_cell d ≡ word m₂ end_cell d
      end₄ d = same_word d (late.named end_cell refl)

      count₄ : (d : ℕ) → word m₄ successor_count_cell d ≡ word m₃ successor_count_cell d
      count₄ d = same_word d (t.only.named successor_count_cell refl)

      edge₄ : (d k : ℕ) → edge_word m₄ d k ≡ edge_word m₃ d k
      edge₄ d k = same_word (edge_place d k) (t.only.named successor_cell refl)

      -- this block
      module _ {left : FlowBudget} (e : r ≡ Ok left) where
        this-words : BlockWords (code s) m₄ b
        this-words = record {
          start = start₄ b ∙ em.start_is;
          end = end₄ b ∙ em.end_is;
          counted = count₄ b ∙ put.counted ∙ sym count-is;
          edges = λ k h. edge₄ b k ∙ put.edges k (omega (arith, count-is)) ∙ edge-is k (omega (arith, count-is));
          unused = λ k h g. edge₄ b k ∙ put.unused k h (omega (arith, count-is));
          costs = λ i lo hi. t.costs left e i (omega (arith, start₄ b)) (omega (arith, end₄ b));
        }

        this-rows : (parameter : ℕ → Bool) → BlockRows (code s) parameter m₄ b
        this-rows parameter = rows_from_none (code s) parameter y.words (inputs_everywhere s x sound y.words em.ready.fits.slots)
            (outputs_everywhere s x sound y.words em.ready.fits.slots) m₃
            (put.only.others (uses_row b) (omega arith) (λ w. w) ∙ em.uses_none)
            (put.only.others (defines_row b) (omega arith) (λ w. w) ∙ em.defines_none)
            (t.rows left e ∙ ap (λ (ns : List ℕ). transfer_all (code s) ns (rows_at m₃ b)) (sym spans.is))

      -- an earlier one: its instructions end where this block begins, or before
      module _ (d : ℕ) (h : d < b) where
        ends-before : get_or (leaders (code s)) (suc d) (length (code s)) ≤ get_or (leaders (code s)) b (length (code s))
        ends-before =
            let e : suc d + (b - suc d) ≡ b = omega arith in
            rw e at (starts_up (code s) (suc d) (b - suc d) (omega (arith, some)))

        edge_same : (k : ℕ) → k < 2 → edge_word m₄ d k ≡ edge_word m d k
        edge_same k l = edge₄ d k ∙ put.other_edges d k (λ w. omega arith) l ∙ same_word (edge_place d k) (em.only.named successor_cell refl)

        earlier-words : BlockWords (code s) m d → SameWords m m₄ d
        earlier-words g = record {
          start = start₄ d ∙ em.other_starts d (λ w. omega arith);
          end = end₄ d ∙ em.other_ends d (λ w. omega arith);
          counted = count₄ d ∙ put.other_counts d (λ w. omega arith) ∙ same_word d (em.only.named successor_count_cell refl);
          edges = λ k l. edge_same k (omega (arith, few-edges d));
          unused = λ k l n. edge_same k l;
          costs = λ i lo hi. t.other_costs i (omega (arith, ends-before, spans.begins))
              ∙ same_word i (put.only.named cost_cell refl ∙ em.only.named cost_cell refl);
        }

      pub built_one : BuiltOne (code s) l budget b m m₄ r
      built_one = record {
        charges = t.charges ∙ ap (λ (ns : List ℕ). charged l budget (map (cost_at (code s)) ns)) (sym spans.is);
        block = λ left e parameter. record { words = this-words e; rows = this-rows e parameter };
        earlier = λ parameter d h g. block-kept (earlier-words d h g.words) (λ k p. whole.others k (omega arith) (λ w. omega arith)) g;
        only = whole;
      }
