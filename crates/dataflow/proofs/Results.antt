-- On checked code: the sets at blocks and instructions are the path definitions, and no block is visited more often than its edges allow.
use mathlib.Core.Path.{◌≡◌, refl, sym, ◌∙◌, ap, subst}
use mathlib.Core.Bool.{Bool, true, false, not, ◌&&◌, ◌||◌, false≢true, and-false, and-true}
use mathlib.Core.List.Memᴰ
use mathlib.Core.List.{List, [], ◌∷◌, ◌++◌, map, Memᴰ}
use mathlib.Core.Logic.{◌⊎◌, inl, inr, ◌↔◌}
use Prim.Native.Nat.{ℕ, suc, ◌+◌, ◌*◌, ◌≤◌, ◌<◌}
use native.Mathlib.Omega.{arith}
use native.Mathlib.Decide.{dec_lt}
use native.Mathlib.Nat.{zero-add, mul_comm}
use lib.Dec.{ltb, ltb→lt, lt→ltb}
use lib.ListN.{length, get_or, replicate}
use Rattle.dataflow.specs.Program.{Program}
use Rattle.dataflow.specs.Paths.{Reached}
use Rattle.dataflow.specs.Analyses.{Direction, initialization, liveness, written, init_transfer, init_along, filled, live_along, Init}
use Rattle.dataflow.specs.Analyses.{InitAfter, Live}
use Rattle.dataflow.specs.Demand.{Unfilled, Saves, Least}
use Rattle.dataflow.specs.Equations.{InitExact, LiveExact}
use Rattle.dataflow.specs.Lists.{tabulate, sum, NoDup}
use Rattle.dataflow.specs.Blocks.{exposed, block_program}
use Rattle.dataflow.specs.BasicBlocks.{BasicBlocks, Place}
use Rattle.dataflow.specs.Code.{Instruction, program, head_or, body, block_successors, block_graph}
use Rattle.dataflow.specs.BlockPaths.{first_of, ReachedBlock}
use Rattle.dataflow.specs.Checked.{Checked}
use Rattle.dataflow.specs.Worklist.{SoundRing, run}
use Rattle.dataflow.specs.Framework.{solver_of, begin, visits, solution, enough}
use Rattle.dataflow.specs.FlowGraph.{FlowGraph, framework}
use Rattle.dataflow.specs.Search.{turns, search_from, all_turns}
use Rattle.dataflow.specs.Results.{block_count, predecessors, swept, reachable, searched, postorder, seed, flow_graph, result, init_exit}
use Rattle.dataflow.specs.Results.{init_entry, Ended}
use Rattle.dataflow.specs.Results.{live_entry, live_exit}
use Rattle.dataflow.specs.Verdict.{UnfilledInBlock}
use Rattle.dataflow.proofs.Bools.{and_right, or_yes, test-true, true-test, live-cases}
use Rattle.dataflow.proofs.Lists.{length_tabulate, get_d_tabulate, some_at, some_to, reverse-mem, mem-reverse, nodup_reverse}
use Rattle.dataflow.proofs.Analyses.{init_append}
use Rattle.dataflow.proofs.Forward.{lost_not_init, init_after_iff}
use Rattle.dataflow.proofs.Backward.{live_least}
use Rattle.dataflow.proofs.Blocks.{init_gen_kill}
use Rattle.dataflow.proofs.BlockPaths.{entry_place, reached_point}
use Rattle.dataflow.proofs.InitBlocks.{point_lost, place_filled, unfilled_in_block}
use Rattle.dataflow.proofs.LiveBlocks.{point_live, live_point, live_first_iff}
use Rattle.dataflow.proofs.Leaders.{block_place_unique}
use Rattle.dataflow.proofs.CodeBlocks.{successors_below, successors_past, blocks_some, basic_blocks, reached_below, reached_iff}
use Rattle.dataflow.proofs.Predecessors.{predecessors-of, predecessors-to}
use Rattle.dataflow.proofs.Search.{postorder_ends, postorder_lists, postorder_turns}
use Rattle.dataflow.proofs.Reachability.{sweep_done, sweep_length, sweep_visits, sweep_takes}
use Rattle.dataflow.proofs.Solution.{solution_ends, unreached_kept}
use Rattle.dataflow.proofs.Worklist.{run_fuel}
use Rattle.dataflow.proofs.Visits.{visit_bound}
use Rattle.dataflow.proofs.FlowGraph.{SoundGraph, LostAfter, init_monotone, live_monotone, exit_of_entry, run_init, run_live}

module _ (code : List Instruction) (parameter : ℕ → Bool) where
  abbrev p : Program ℕ ℕ
  p = program code parameter

  -- the blocks as programs
  abbrev forward_program : Program ℕ ℕ
  forward_program = block_program initialization p (block_graph code)

  abbrev backward_program : Program ℕ ℕ
  backward_program = block_program liveness p (block_graph code)

  module _ (slots words : ℕ) (ch : Checked code parameter slots) (fits : slots ≤ 64 * words) where
    -- ── Slots at or above the slot count occur nowhere ──

    exposed-below : (l : List ℕ) (s : ℕ) → exposed p l s ≡ true → s < slots
    exposed-below [] s e = absurd (false≢true e)
    exposed-below (i ∷ l) s e = go (live-cases _ _ _ e) (λ e'. exposed-below l s e')
      where
        go : (p.reads i s ≡ true) ⊎ ((p.writes i s ≡ false) × (exposed p l s ≡ true)) → (exposed p l s ≡ true → s < slots) → s < slots
        go (inl z) below = ch.reads_below i s z
        go (inr z) below = below z.1

    pub written_below : (l : List ℕ) (s : ℕ) → written p l s ≡ true → s < slots
    written_below [] s e = absurd (false≢true e)
    written_below (i ∷ l) s e = go (or_yes _ _ e) (λ e'. written_below l s e')
      where
        go : (p.writes i s ≡ true) ⊎ (written p l s ≡ true) → (written p l s ≡ true → s < slots) → s < slots
        go (inl z) below = ch.writes_below i s z
        go (inr z) below = below z

    along-below : (l : List ℕ) (s : ℕ) → init_along p s false l ≡ true → s < slots
    along-below [] s e = absurd (false≢true e)
    along-below (i ∷ l) s e = go (p.writes i s) refl (λ e'. along-below l s e') e
      where
        go : (w : Bool) → p.writes i s ≡ w → (init_along p s false l ≡ true → s < slots)
            → init_along p s (w || (not (p.empties i s) && false)) l ≡ true → s < slots
        go true z below h = ch.writes_below i s z
        go false z below h = below (rw (and-false (not (p.empties i s))) at h)

    -- what is filled on a path is a slot
    pub filled_below : (l : List ℕ) (s : ℕ) → filled p l s ≡ true → s < slots
    filled_below l s e = go (parameter s) refl e
      where
        go : (t : Bool) → parameter s ≡ t → init_along p s t l ≡ true → s < slots
        go true ep e = ch.parameters_below s ep
        go false ep e = along-below l s e

    -- what is live anywhere is a slot: "A set is of slots below the slot count"
    pub live_below : (i s : ℕ) → Live p i s → s < slots
    live_below i s v = ch.reads_below v.1 s v.3

    -- and so is what a least set holds: whether sets may hold more than slots makes no difference to which is least
    pub least_below : (i : ℕ) (x : ℕ → Bool) → Least p i x → (s : ℕ) → x s ≡ true → s < slots
    least_below i x h s e = ltb→lt s slots (true-test _ (and_right (x s) _ (h.least (λ t. x t && ltb t slots) saves s e)))
      where
        put : (t : ℕ) → t < slots → (w : Bool) → (x t || w) ≡ true → ((x t && ltb t slots) || w) ≡ true
        put t lt w q = rw (test-true (ltb t slots) (lt→ltb t slots lt), and-true (x t)) q

        saves : Saves p i (λ t. x t && ltb t slots)
        saves l j t w r = put t (ch.reads_below j t r) (written p l t) (h.saves l j t w r)

    -- ── The flow graph ──

    some_block : 0 < block_count code
    some_block = blocks_some code parameter slots ch

    next-below : (b c : ℕ) → Memᴰ c (block_successors code b) → c < block_count code
    next-below = successors_below code parameter slots ch

    -- Block b is marked reachable exactly if some path of blocks reaches it.
    pub reachable_iff : (b : ℕ) → (reachable code b ≡ true) ↔ Reached forward_program b
    reachable_iff b = sweep_visits (block_successors code) (block_count code) 0 some_block next-below b

    pub reached_count : (b : ℕ) → Reached forward_program b → b < block_count code
    reached_count b r = reached_below code parameter slots ch r.1 some_block

    -- any program over these blocks and edges
    module _ (R W E : ℕ → ℕ → Bool) (rb : (b s : ℕ) → R b s ≡ true → s < slots) (wb : (b s : ℕ) → W b s ≡ true → s < slots) where
      abbrev graph_over : FlowGraph
      graph_over = record {
        program = record { entry = 0; successors = block_successors code; reads = R; writes = W; empties = E; parameter = parameter };
        predecessors = predecessors code;
        reachable = reachable code;
        blocks = block_count code;
        bits = 64 * words;
      }

      sound-over : SoundGraph graph_over
      sound-over = record {
        successors_below = next-below;
        predecessors_below = λ b c m. from_in b c m;
        predecessor_of = λ b c m. from-of b c (predecessors-of b 0 (tabulate 0 (block_count code) (block_successors code)) c m);
        predecessor_to = λ b c m. from-to b c m (dec_lt c (block_count code));
        reachable_reached = λ b. (reachable_iff b).0;
        reached_reachable = λ b. (reachable_iff b).1;
        reached_below = reached_count;
        reads_below = λ b s e. omega (arith, rb b s e, fits);
        writes_below = λ b s e. omega (arith, wb b s e, fits);
        parameters_below = λ s e. omega (arith, ch.parameters_below s e, fits);
      }
        where
          len : length (tabulate 0 (block_count code) (block_successors code)) ≡ block_count code
          len = length_tabulate 0 (block_count code) (block_successors code)

          listed : (k : ℕ) → k < block_count code → get_or (tabulate 0 (block_count code) (block_successors code)) k [] ≡ block_successors code k
          listed k lt = get_d_tabulate 0 (block_count code) k (block_successors code) [] lt ∙ ap (block_successors code) (zero-add k)

          from-of : (b c : ℕ) → (k : ℕ) × (c ≡ 0 + k) × (k < length (tabulate 0 (block_count code) (block_successors code)))
              × Memᴰ b (get_or (tabulate 0 (block_count code) (block_successors code)) k [])
              → Memᴰ b (block_successors code c)
          from-of b c z = subst (λ (k : ℕ). Memᴰ b (block_successors code k)) (sym (z.1 ∙ zero-add z.0))
              (rw (listed z.0 (rw len at z.2)) at z.3)

          from_in : (b c : ℕ) → Memᴰ c (predecessors code b) → c < block_count code
          from_in b c m = let z = predecessors-of b 0 (tabulate 0 (block_count code) (block_successors code)) c m in omega (arith, len, z.1, z.2)

          from-to : (b c : ℕ) → Memᴰ b (block_successors code c) → Dec (c < block_count code) → Memᴰ c (predecessors code b)
          from-to b c m (yes lt) = rw (zero-add c) at
              (predecessors-to b 0 (tabulate 0 (block_count code) (block_successors code)) c (rw (listed c lt) m))
          from-to b c m (no nl) = absurd (Memᴰ.not-nil (rw (successors_past code parameter slots ch c (omega arith)) at m))

    pub init_sound_graph : SoundGraph (flow_graph code parameter words initialization)
    init_sound_graph = sound-over _ _ _ (λ b s e. exposed-below (body code b) s e) (λ b s e. along-below (body code b) s e)

    pub live_sound_graph : SoundGraph (flow_graph code parameter words liveness)
    live_sound_graph = sound-over _ _ _ (λ b s e. exposed-below (body code b) s e) (λ b s e. written_below (body code b) s e)

    -- ── The runs begin with every reachable block, once ──

    listed : NoDup (searched code).finished × ((b : ℕ) → Memᴰ b (searched code).finished ↔ Reached forward_program b)
    listed = postorder_lists (block_successors code) (block_count code) 0 some_block next-below

    reachable-count : (b : ℕ) → reachable code b ≡ true → b < block_count code
    reachable-count b e = reached_count b ((reachable_iff b).0 e)

    pub seed_sound : (d : Direction) → SoundRing (reachable code) (block_count code) (seed code d)
    seed_sound initialization = record {
      len = sweep_length (block_successors code) (block_count code) 0 some_block next-below;
      marked = λ c e. (listed.1 c).1 ((reachable_iff c).0 e);
      queued = λ c m. let e : reachable code c ≡ true = (reachable_iff c).1 ((listed.1 c).0 m) in (e, e, reachable-count c e);
      once = listed.0;
    }
    seed_sound liveness = record {
      len = sweep_length (block_successors code) (block_count code) 0 some_block next-below;
      marked = λ c e. mem-reverse (searched code).finished [] c (inl ((listed.1 c).1 ((reachable_iff c).0 e)));
      queued = λ c m. let e : reachable code c
          ≡ true = (reachable_iff c).1 ((listed.1 c).0 (side c (reverse-mem (searched code).finished [] c m))) in (e, e, reachable-count c e);
      once = nodup_reverse (searched code).finished [] listed.0 tt (λ x m m'. Memᴰ.not-nil m');
    }
      where
        side : (c : ℕ) → Memᴰ c (searched code).finished ⊎ Memᴰ c [] → Memᴰ c (searched code).finished
        side c (inl m) = m
        side c (inr m) = absurd (Memᴰ.not-nil m)

    -- `postorder` lists each reached block once,
    pub postorder_exact : NoDup (postorder code) × ((b : ℕ) → Memᴰ b (postorder code) ↔ Reached forward_program b)
    postorder_exact = (
      (seed_sound liveness).once,
      λ b.
          ((λ m. (reachable_iff b).0 ((seed_sound liveness).queued b m).1), λ r. (seed_sound liveness).marked b ((reachable_iff b).1 r)),
    )

    -- in one turn for each of them and one for each of their edges;
    pub postorder_takes : turns (block_successors code) (all_turns (block_successors code) (block_count code))
        (search_from (block_successors code) (block_count code) 0)
        ≡ sum (map (λ b. suc (length (block_successors code b))) (searched code).finished)
    postorder_takes = postorder_turns (block_successors code) (block_count code) 0 some_block next-below

    -- `reachability` takes each of them from its stack once.
    pub reachability_takes : NoDup (swept code).taken × ((b : ℕ) → Memᴰ b (swept code).taken ↔ Reached forward_program b)
    reachability_takes = sweep_takes (block_successors code) (block_count code) 0 some_block next-below

    -- ── At the blocks ──

    -- At the end of the runs the sets at the blocks' entries are the path definitions.
    pub init_exact : InitExact forward_program (init_entry code parameter words)
    init_exact = run_init (flow_graph code parameter words initialization) init_sound_graph (seed code initialization) (seed_sound initialization)
        (λ b lt e. e)

    pub live_exact : LiveExact backward_program (live_entry code parameter words)
    live_exact = run_live (flow_graph code parameter words liveness) live_sound_graph (seed code liveness) (seed_sound liveness) (λ b lt e. e)

    -- Each run ends, and any other run from the same seed that has ended has the same result: the fuel does not matter.
    pub result_ends : (d : Direction) → (result code parameter words d).ring.queue ≡ []
    result_ends initialization = solution_ends (framework (flow_graph code parameter words initialization) initialization)
        (LostAfter (flow_graph code parameter words initialization) init_sound_graph)
        (init_monotone (flow_graph code parameter words initialization) init_sound_graph)
        (seed code initialization) (seed_sound initialization) (λ b lt e. e)
    result_ends liveness = solution_ends (framework (flow_graph code parameter words liveness) liveness) (Live backward_program)
        (live_monotone (flow_graph code parameter words liveness) live_sound_graph) (seed code liveness) (seed_sound liveness) (λ b lt e. e)

    -- so does each search: every defined run has ended
    pub runs_ended : Ended code parameter words
    runs_ended = record {
      reachability = sweep_done (block_successors code) (block_count code) 0 some_block next-below;
      postorder = postorder_ends (block_successors code) (block_count code) 0 some_block next-below;
      rounds = result_ends;
    }

    pub result_fuel : (d : Direction) (k : ℕ)
        → (run (solver_of (framework (flow_graph code parameter words d) d)) k
        (begin (framework (flow_graph code parameter words d) d) (seed code d))).ring.queue ≡ []
        → run (solver_of (framework (flow_graph code parameter words d) d)) k (begin (framework (flow_graph code parameter words d) d) (seed code d))
        ≡ result code parameter words d
    unfolding solution
    result_fuel d k e = run_fuel (solver_of (framework (flow_graph code parameter words d) d)) k
        (enough (framework (flow_graph code parameter words d) d) (seed code d))
        (begin (framework (flow_graph code parameter words d) d) (seed code d)) e (result_ends d)

    -- A block that no path reaches keeps all ones for initialization, and zero for liveness.
    pub unreached_init : (b : ℕ) → b < block_count code → reachable code b ≡ false
        → get_or (result code parameter words initialization).sets b [] ≡ replicate (64 * words) true
    unreached_init = unreached_kept (framework (flow_graph code parameter words initialization) initialization)
        (LostAfter (flow_graph code parameter words initialization) init_sound_graph)
        (init_monotone (flow_graph code parameter words initialization) init_sound_graph)
        (seed code initialization) (seed_sound initialization) (λ b lt e. e)

    pub unreached_live : (b : ℕ) → b < block_count code → reachable code b ≡ false
        → get_or (result code parameter words liveness).sets b [] ≡ replicate (64 * words) false
    unreached_live = unreached_kept (framework (flow_graph code parameter words liveness) liveness) (Live backward_program)
        (live_monotone (flow_graph code parameter words liveness) live_sound_graph) (seed code liveness) (seed_sound liveness) (λ b lt e. e)

    bs : BasicBlocks p (block_graph code)
    bs = basic_blocks code parameter slots ch

    -- A block is marked reachable exactly if a path of instructions reaches it.
    pub reachable_block : (b : ℕ) → b < block_count code → (reachable code b ≡ true) ↔ ReachedBlock code parameter b
    reachable_block b lt =
        let f = bs.starts b in
        let i = reached_iff code parameter slots ch b lt [] (first_of code parameter b) f.0 f.1 in
        ((λ e. i.1 ((reachable_iff b).0 e)), λ r. (reachable_iff b).1 (i.0 r))

    -- ── At the instructions: demand 2 ──

    -- The set of a reached block, carried to an instruction of it, holds s exactly if every path to that instruction has s filled.
    point-init : (b : ℕ) → Reached forward_program b → (u : List ℕ) (i : ℕ) (v : List ℕ) → body code b ≡ u ++ (i ∷ v) → (s : ℕ)
        → init_along p s (init_entry code parameter words b s) u ≡ true → Init p i s
    point-init b r u i v e s h l w =
        let y : Place (block_graph code) 0 l i = entry_place p (block_graph code) bs w in
        let q = block_place_unique code b y.block u y.front i v y.rest (reached_count b r)
        (reached_count y.block (y.passed, y.way)) e y.is in
        place_filled p (block_graph code) bs (init_entry code parameter words) init_exact y s
        (subst (λ (c : ℕ). init_along p s (init_entry code parameter words c s) y.front ≡ true) q.0
        (subst (λ (f : List ℕ). init_along p s (init_entry code parameter words b s) f ≡ true) q.1 h))

    pub init_at : (b : ℕ) → Reached forward_program b → (u : List ℕ) (i : ℕ) (v : List ℕ) → body code b ≡ u ++ (i ∷ v) → (s : ℕ)
        → (init_along p s (init_entry code parameter words b s) u ≡ true) ↔ Init p i s
    init_at b r u i v e s = (point-init b r u i v e s, λ h. back h (init_along p s (init_entry code parameter words b s) u) refl)
      where
        back : Init p i s → (t : Bool) → init_along p s (init_entry code parameter words b s) u ≡ t
            → init_along p s (init_entry code parameter words b s) u ≡ true
        back h true q = q
        back h false q = absurd (lost_not_init p i s
            (point_lost p (block_graph code) bs (init_entry code parameter words) init_exact b r u i v e s q) h)

    -- The initialized set at a reached block's exit holds s exactly if every path through the block's last instruction has s filled behind it.
    pub init_exit_at : (b : ℕ) → Reached forward_program b → (u : List ℕ) (i : ℕ) → body code b ≡ u ++ (i ∷ []) → (s : ℕ) → s < 64 * words
        → (init_exit code parameter words b s ≡ true) ↔ InitAfter p i s
    init_exit_at b r u i e s ls = subst (λ (t : Bool). (t ≡ true) ↔ InitAfter p i s) (sym through)
        (init_after_iff p i (reached_point p (block_graph code) bs b r.1 u i [] e) s (init_along p s (init_entry code parameter words b s) u)
        (point-init b r u i [] e s) (point_lost p (block_graph code) bs (init_entry code parameter words) init_exact b r u i [] e s))
      where
        -- the block's transfer function is its instructions', composed
        through : init_exit code parameter words b s ≡ init_transfer p i s (init_along p s (init_entry code parameter words b s) u)
        through = exit_of_entry (flow_graph code parameter words initialization) init_sound_graph (seed code initialization)
            (seed_sound initialization) (λ b lt e. e) b s r ls
            ∙ (sym (init_gen_kill p s (init_entry code parameter words b s) (body code b))
            ∙ (ap (init_along p s (init_entry code parameter words b s)) e ∙ init_append p s (init_entry code parameter words b s) u (i ∷ [])))

    -- The live set at a reached block's entry holds s exactly if some path that begins at its first instruction reads s before it writes it.
    pub live_entry_at : (b : ℕ) → Reached forward_program b → (s : ℕ) → (live_entry code parameter words b s ≡ true) ↔ Live p (head_or 0 (body code b)) s
    live_entry_at b r s = (
      (λ e. (live_first_iff p (block_graph code) bs b s).0 (live_exact.is_live b r s e)),
      λ v. live_exact.has_live b r s
          ((live_first_iff p (block_graph code) bs b s).1 v),
    )

    -- ── At the instructions: demand 3 ──

    -- Some path has an unfilled read exactly if the check of the blocks finds one.
    pub unfilled_found : Unfilled p ↔ UnfilledInBlock p (block_graph code) (init_entry code parameter words)
    unfilled_found = unfilled_in_block p (block_graph code) bs (init_entry code parameter words) init_exact

    module _ (b : ℕ) (r : Reached forward_program b) (u : List ℕ) (i : ℕ) (v : List ℕ) (e : body code b ≡ u ++ (i ∷ v)) where
      -- The set carried back to an instruction of a reached block holds s exactly if s is live there,
      pub live_at : (s : ℕ) → (live_along p s (live_exit code parameter words b s) (i ∷ v) ≡ true) ↔ Live p i s
      live_at s = (
        point_live p (block_graph code) bs (live_entry code parameter words) live_exact (live_exit code parameter words) out_of out-to b r u i v e s,
        λ h. live_point p (block_graph code) bs (live_entry code parameter words) live_exact (live_exit code parameter words) out_of out-to
            h.2 b r u v e s h.3 h.4,
      )
        where
          out_of : (b s : ℕ) → live_exit code parameter words b s ≡ true → (c : ℕ) × Memᴰ c (block_successors code b)
              × (live_entry code parameter words c s ≡ true)
          out_of b s h = some_at _ (block_successors code b) h

          out-to : (b s c : ℕ) → Memᴰ c (block_successors code b) → live_entry code parameter words c s ≡ true
              → live_exit code parameter words b s ≡ true
          out-to b s c m h = some_to _ (block_successors code b) c m h

      -- so it is the least saved set there.
      pub saved_least : Least p i (λ s. live_along p s (live_exit code parameter words b s) (i ∷ v))
      saved_least = live_least p i (λ s. live_along p s (live_exit code parameter words b s) (i ∷ v)) live_at

    -- ── The visit bound ──

    -- A block is visited at most 1 + 64 × w × (its incoming edges) times in the initialization rounds,
    pub init_visits : (b : ℕ) → visits b (result code parameter words initialization).trace ≤ 1 + 64 * words * length (predecessors code b)
    unfolding solution
    init_visits b = omega (
      arith,
      mul_comm (length (predecessors code b)) (64 * words),
      visit_bound (framework (flow_graph code parameter words initialization) initialization)
          (LostAfter (flow_graph code parameter words initialization) init_sound_graph)
          (init_monotone (flow_graph code parameter words initialization) init_sound_graph)
          (predecessors code) (λ b c m. init_sound_graph.predecessor_to b c m) (seed code initialization) (seed_sound initialization) (λ b lt e. e)
          (enough (framework (flow_graph code parameter words initialization) initialization) (seed code initialization)) b,
    )

    -- and so with outgoing edges in the liveness rounds.
    pub live_visits : (b : ℕ) → visits b (result code parameter words liveness).trace ≤ 1 + 64 * words * length (block_successors code b)
    unfolding solution
    live_visits b = omega (
      arith,
      mul_comm (length (block_successors code b)) (64 * words),
      visit_bound (framework (flow_graph code parameter words liveness) liveness)
          (Live backward_program) (live_monotone (flow_graph code parameter words liveness) live_sound_graph)
          (block_successors code) (λ b c m. live_sound_graph.predecessor_of c b m) (seed code liveness) (seed_sound liveness) (λ b lt e. e)
          (enough (framework (flow_graph code parameter words liveness) liveness) (seed code liveness)) b,
    )
