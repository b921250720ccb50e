-- The rows that the two rounds end with are the sets by paths: demand 2 on rows. Assumes nothing.
use mathlib.Core.Path.{◌≡◌, refl, sym, ap, ◌∙◌}
use mathlib.Core.Logic.{◌↔◌}
use mathlib.Core.Bool.{Bool, true, false, ◌||◌, false≢true}
use mathlib.Core.List.{List, [], ◌∷◌, ◌++◌}
use Prim.Native.Nat.{ℕ, ◌*◌, ◌≤◌, ◌<◌}
use native.Mathlib.Decide.{dec_lt}
use native.Mathlib.Omega.{arith}
use lib.ListN.{get_or, get_or-replicate}
use Rattle.bitset.specs.Sets.{member, ones, Words}
use Rattle.bitset.proofs.SetLaws.{member-past, member-zero, member-ones, same_exact, words-replicate}
use Rattle.dataflow.specs.Analyses.{initialization, liveness, filled, written}
use Rattle.dataflow.specs.Blocks.{block_program}
use Rattle.dataflow.specs.Code.{Instruction, program, body, last_or, block_graph}
use Rattle.dataflow.specs.Paths.{Reached}
use Rattle.dataflow.specs.Results.{block_count, reachable, live_entry, flow_graph, seed}
use Rattle.dataflow.proofs.Analyses.{filled_plain}
use Rattle.dataflow.proofs.Bools.{not-true}
use Rattle.dataflow.proofs.CodeBlocks.{basic_blocks, reached_iff}
use Rattle.dataflow.proofs.FlowGraph.{live_entry_row}
use Rattle.dataflow.proofs.Results.{reachable_block, init_exit_at, live_entry_at, live_below, filled_below, unreached_init, unreached_live}
use Rattle.memory.specs.Cells.{Mem, cell}
use Rattle.memory.specs.Names.{initialized_row, live_row}
use Rattle.memory.specs.Sets.{SetsRow}
use Rattle.sizes.specs.declared.Layout.{Layout}
use Rattle.fixed_points.specs.FixedPoints.{Sets}
use Rattle.dataflow.specs.Checked.{Scripted}
use Rattle.fixed_points.specs.PathSets.{PathSets}
use Rattle.dataflow.specs.BlockPaths.{first_of, last_of, ReachedBlock, FilledThrough, LiveFrom}

-- a list that is not empty, with its last element apart
split-last : (x : ℕ) (t : List ℕ) → (u : List ℕ) × (x ∷ t ≡ u ++ (last_or x t ∷ []))
split-last x [] = ([], refl)
split-last x (z ∷ t) = let r = split-last z t in (x ∷ r.0, ap (λ (l : List ℕ). x ∷ l) r.1)

module _ (code : List Instruction) (parameter : ℕ → Bool) (y : Layout) (h : Scripted code parameter y.words) (blocks : y.blocks ≡ block_count code) where
  -- where a block's first and last instruction stand in it
  body-first : (c : ℕ) → (t : List ℕ) × (body code c ≡ first_of code parameter c ∷ t)
  body-first c = (basic_blocks code parameter h.slots h.checked).starts c

  body-last : (c : ℕ) → (u : List ℕ) × (body code c ≡ u ++ (last_of code parameter c ∷ []))
  body-last c =
      let f = body-first c in
      let r = split-last (first_of code parameter c) f.0 in
      let e : last_or (first_of code parameter c) f.0 ≡ last_of code parameter c = sym (ap (last_or 0) f.1) in
      (r.0, f.1 ∙ r.1 ∙ ap (λ (i : ℕ). r.0 ++ (i ∷ [])) e)

  -- a path reaches the block's first instruction exactly if a path of blocks reaches the block
  block-reached : (c : ℕ) → c < y.blocks
      → ReachedBlock code parameter c ↔ Reached (block_program initialization (program code parameter) (block_graph code)) c
  block-reached c lt = reached_iff code parameter h.slots h.checked c (omega (arith, blocks)) [] (first_of code parameter c) (body-first c).0
      (body-first c).1

  last-reached : (c : ℕ) → c < y.blocks → ReachedBlock code parameter c → Reached (program code parameter) (last_of code parameter c)
  last-reached c lt r = (reached_iff code parameter h.slots h.checked c (omega (arith, blocks)) (body-last c).0 (last_of code parameter c) []
      (body-last c).1).1 ((block-reached c lt).0 r)

  plain : (l : List ℕ) (s : ℕ) → filled (program code parameter) l s ≡ (parameter s || written (program code parameter) l s)
  plain l s = filled_plain (program code parameter) h.empties l s

  -- what is filled on every path through a reached block is a slot
  through-below : (c : ℕ) → c < y.blocks → ReachedBlock code parameter c → (s : ℕ) → FilledThrough code parameter c s → s < h.slots
  through-below c lt r s f =
      let p = last-reached c lt r in
      filled_below code parameter h.slots y.words h.checked h.wide (p.0 ++ (last_of code parameter c ∷ [])) s
      (plain (p.0 ++ (last_of code parameter c ∷ [])) s ∙ f p.0 p.1)

  unreached : (c : ℕ) → c < y.blocks → (ReachedBlock code parameter c → ⊥) → reachable code c ≡ false
  unreached c lt never =
      not-true (reachable code c)
      (λ e. never ((reachable_block code parameter h.slots y.words h.checked h.wide c (omega (arith, blocks))).0 e))

  module _ (t : Mem) (long : (k : ℕ) → SetsRow y k → Words y.words (cell t k)) (g : Sets code parameter y t) where
    past : (k s : ℕ) → SetsRow y k → 64 * y.words ≤ s → member (cell t k) s ≡ false
    past k s lt le = member-past (cell t k) s (omega (arith, (long k lt).long))

    initialized-iff : (c : ℕ) → c < y.blocks → ReachedBlock code parameter c → (s : ℕ)
        → (member (cell t (initialized_row c)) s ≡ true) ↔ FilledThrough code parameter c s
    initialized-iff c lt r s = go (dec_lt s (64 * y.words))
      where
        go : Dec (s < 64 * y.words) → (member (cell t (initialized_row c)) s ≡ true) ↔ FilledThrough code parameter c s
        go (yes q) =
            let i = init_exit_at code parameter h.slots y.words h.checked h.wide c ((block-reached c lt).0 r) (body-last c).0
            (last_of code parameter c) (body-last c).1 s q in (
              (λ e l p. sym (plain (l ++ (last_of code parameter c ∷ [])) s) ∙ i.0 (sym (g.initialized c s lt q) ∙ e) l p),
              λ f. g.initialized c s lt q ∙ i.1 (λ l p. plain (l ++ (last_of code parameter c ∷ [])) s ∙ f l p),
            )
        go (no q) = (
          (λ e. absurd (false≢true (sym (past (initialized_row c) s (omega arith) (omega arith)) ∙ e))),
          λ f. absurd (omega (arith, through-below c lt r s f, h.wide)),
        )

    live-iff : (c : ℕ) → c < y.blocks → ReachedBlock code parameter c → (s : ℕ)
        → (member (cell t (live_row c)) s ≡ true) ↔ LiveFrom code parameter c s
    live-iff c lt r s = go (dec_lt s (64 * y.words))
      where
        go : Dec (s < 64 * y.words) → (member (cell t (live_row c)) s ≡ true) ↔ LiveFrom code parameter c s
        go (yes q) =
            let i = live_entry_at code parameter h.slots y.words h.checked h.wide c ((block-reached c lt).0 r) s in
            let e : member (cell t (live_row c)) s ≡ live_entry code parameter y.words c s =
            g.live c s lt q ∙ sym (live_entry_row (flow_graph code parameter y.words liveness) (seed code liveness) c s q) in
            ((λ f. i.0 (sym e ∙ f)), λ v. e ∙ i.1 v)
        go (no q) = (
          (λ e. absurd (false≢true (sym (past (live_row c) s (omega arith) (omega arith)) ∙ e))),
          λ v. absurd (omega (arith, live_below code parameter h.slots y.words h.checked h.wide (first_of code parameter c) s v, h.wide)),
        )

    -- demand 2 on rows
    pub path_sets : PathSets code parameter h.slots y t
    path_sets = record {
      initialized = initialized-iff;
      live = live-iff;
      initialized_below = λ c lt r s e. through-below c lt r s ((initialized-iff c lt r s).0 e);
      live_below = λ c lt r s e. live_below code parameter h.slots y.words h.checked h.wide (first_of code parameter c) s ((live-iff c lt r s).0 e);
      unreached_initialized = λ c lt never. (same_exact (long (initialized_row c) (omega arith)) (words-replicate y.words ones (omega arith))).1
          (λ i q. g.initialized c i lt q
          ∙ ap (λ (l : List Bool). get_or l i true) (unreached_init code parameter h.slots y.words h.checked h.wide c (omega (arith, blocks)) (unreached c lt never))
          ∙ get_or-replicate (64 * y.words) i true true q ∙ sym (member-ones y.words i (omega arith)));
      unreached_live = λ c lt never. (same_exact (long (live_row c) (omega arith)) (words-replicate y.words 0 (omega arith))).1
          (λ i q. g.live c i lt q
          ∙ ap (λ (l : List Bool). get_or l i false) (unreached_live code parameter h.slots y.words h.checked h.wide c (omega (arith, blocks)) (unreached c lt never))
          ∙ get_or-replicate (64 * y.words) i false false q ∙ sym (member-zero y.words i));
    }
