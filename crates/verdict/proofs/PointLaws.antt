-- The await facts of checked code: exactly its reached awaits, in order, each with its least set.
use mathlib.Core.Path.{◌≡◌, refl, sym, ap, subst}
use mathlib.Core.Bool.{Bool, true, false}
use mathlib.Core.List.Memᴰ
use mathlib.Core.List.{List, [], ◌∷◌, ◌++◌, map-append, Memᴰ}
use mathlib.Core.List.Sublistᴰ
use mathlib.Core.List.{Sublistᴰ}
use mathlib.Core.Logic.{◌⊎◌, inl, inr}
use Prim.Native.Nat.{ℕ, ◌*◌, ◌≤◌, ◌<◌}
use native.Mathlib.Omega.{arith}
use native.Mathlib.Nat.{zero-add}
use lib.ListN.{length, length-map}
use Rattle.dataflow.specs.Lists.{pick, range, keep}
use Rattle.dataflow.specs.Program.{Program}
use Rattle.dataflow.specs.Paths.{Reached}
use Rattle.dataflow.specs.Analyses.{initialization, live_along}
use Rattle.dataflow.specs.Blocks.{block_program, points_of}
use Rattle.dataflow.specs.BasicBlocks.{Place}
use Rattle.dataflow.specs.Demand.{Least}
use Rattle.dataflow.specs.Code.{Instruction, program, body, block_graph, await_at}
use Rattle.dataflow.specs.Checked.{Checked}
use Rattle.dataflow.specs.Results.{block_count, reachable, live_exit}
use Rattle.dataflow.specs.Verdict.{accepts}
use Rattle.dataflow.proofs.Lists.{mem-range, range-bounds, keep_append, keep-mem}
use Rattle.dataflow.proofs.BlockPaths.{entry_place, reached_point}
use Rattle.dataflow.proofs.Leaders.{blocks_cover}
use Rattle.dataflow.proofs.CodeBlocks.{basic_blocks}
use Rattle.dataflow.proofs.Results.{reachable_iff, reached_count, saved_least}
use Rattle.dataflow.proofs.Faults.{no_host}
use Rattle.dataflow.proofs.Verdict.{accepts_iff}
use Rattle.verdict.specs.Points.{Point, await_points, block_points, points}
use Rattle.verdict.specs.Ascending.{Ascending, instructions_of}
use Rattle.verdict.proofs.Sublists.{sublist_length, sublist_mem, sublist_ascending, keep-sublist, range-ascending}

module _ (code : List Instruction) (parameter : ℕ → Bool) where
  abbrev p : Program ℕ ℕ
  p = program code parameter

  -- the blocks as a program
  abbrev forward_program : Program ℕ ℕ
  forward_program = block_program initialization p (block_graph code)

  -- instruction i with v behind it, and g behind v
  abbrev point_of : (ℕ → Bool) → ℕ → List ℕ → Point
  point_of g i v = record { instruction = i; live = λ s. live_along p s (g s) (i ∷ v) }

  -- the points of one block
  abbrev points_in : ℕ → ℕ → List Point
  points_in words c = pick (reachable code c) (await_points code parameter (live_exit code parameter words c) (body code c)) []

  -- ── Their instructions ──

  -- the instructions of a list's points are its awaits
  pub await_instructions : (g : ℕ → Bool) (is : List ℕ) → instructions_of (await_points code parameter g is) ≡ keep (await_at code) is
  unfolding await_points
  await_instructions g [] = refl
  await_instructions g (i ∷ is) = go (await_at code i) (await_instructions g is)
    where
      go : (t : Bool) → instructions_of (await_points code parameter g is) ≡ keep (await_at code) is
          → instructions_of (pick t (point_of g i is ∷ await_points code parameter g is) (await_points code parameter g is))
          ≡ pick t (i ∷ keep (await_at code) is) (keep (await_at code) is)
      go true e = ap (λ (z : List ℕ). i ∷ z) e
      go false e = e

  -- those of the blocks' points are awaits of the blocks, in order
  block-instructions : (words : ℕ) (cs : List ℕ)
      → Sublistᴰ (instructions_of (block_points code parameter words cs)) (keep (await_at code) (points_of (block_graph code) cs))
  unfolding block_points
  block-instructions words [] = Sublistᴰ.slnil
  block-instructions words (c ∷ cs) =
      rw (keep_append (await_at code) (body code c) (points_of (block_graph code) cs))
      (subst (λ (z : List ℕ). Sublistᴰ z (keep (await_at code) (body code c) ++ keep (await_at code) (points_of (block_graph code) cs)))
      (sym (map-append (λ (pt : Point). pt.instruction) (points_in words c) (block_points code parameter words cs)))
      (Sublistᴰ.append (go (reachable code c)) (block-instructions words cs)))
    where
      go : (t : Bool) → Sublistᴰ (instructions_of (pick t (await_points code parameter (live_exit code parameter words c) (body code c)) []))
          (keep (await_at code) (body code c))
      go true = rw (await_instructions (live_exit code parameter words c) (body code c)) (Sublistᴰ.refl (keep (await_at code) (body code c)))
      go false = Sublistᴰ.nil-sublist (keep (await_at code) (body code c))

  module _ (words : ℕ) where
    -- the points' instructions are awaits of the code, in its order
    pub points_instructions : Sublistᴰ (instructions_of (points code parameter words)) (keep (await_at code) (range 0 (length code)))
    unfolding points
    points_instructions = subst (λ (z : List ℕ). Sublistᴰ (instructions_of (points code parameter words)) (keep (await_at code) z)) (blocks_cover code)
        (block-instructions words (range 0 (block_count code)))

    -- The instructions of the points ascend strictly.
    pub points_ascend : Ascending (instructions_of (points code parameter words))
    points_ascend = sublist_ascending points_instructions
        (sublist_ascending (keep-sublist (await_at code) (range 0 (length code))) (range-ascending 0 (length code)))

    -- There are no more points than awaits of the code.
    pub points_few : length (points code parameter words) ≤ length (keep (await_at code) (range 0 (length code)))
    points_few = omega (arith, length-map (points code parameter words) (λ (pt : Point). pt.instruction), sublist_length points_instructions)

    -- the instruction of a point is one of the code's awaits
    listed : (pt : Point) → Memᴰ pt (points code parameter words) → Memᴰ pt.instruction (keep (await_at code) (range 0 (length code)))
    listed pt m = sublist_mem points_instructions pt.instruction (Memᴰ.map _ m)

    -- a point is an await,
    pub point_await : (pt : Point) → Memᴰ pt (points code parameter words) → await_at code pt.instruction ≡ true
    point_await pt m = (keep-mem (await_at code) (range 0 (length code)) pt.instruction (listed pt m)).1

    -- of the code
    pub point_below : (pt : Point) → Memᴰ pt (points code parameter words) → pt.instruction < length code
    point_below pt m = omega (
      arith,
      (range-bounds 0 (length code) pt.instruction
          (keep-mem (await_at code) (range 0 (length code)) pt.instruction (listed pt m)).0).1,
    )

  -- ── Their places ──

  -- where in a list a point stands
  abbrev PlaceIn : (ℕ → Bool) → List ℕ → Point → Type 0
  PlaceIn g is pt = (u : List ℕ) × (i : ℕ) × (v : List ℕ) × (is ≡ u ++ (i ∷ v)) × (pt ≡ point_of g i v)

  -- a point of a list stands somewhere in it
  await-place : (g : ℕ → Bool) (is : List ℕ) (pt : Point) → Memᴰ pt (await_points code parameter g is) → PlaceIn g is pt
  unfolding await_points
  await-place g [] pt m = absurd (Memᴰ.not-nil m)
  await-place g (i ∷ is) pt m = go (await_at code i) m (λ m'. await-place g is pt m')
    where
      far : PlaceIn g is pt → PlaceIn g (i ∷ is) pt
      far z = (i ∷ z.0, z.1, z.2, ap (λ (w : List ℕ). i ∷ w) z.3, z.4)

      here : (pt ≡ point_of g i is) ⊎ Memᴰ pt (await_points code parameter g is)
          → (Memᴰ pt (await_points code parameter g is) → PlaceIn g is pt) → PlaceIn g (i ∷ is) pt
      here (inl e) below = ([], i, is, refl, e)
      here (inr m') below = far (below m')

      go : (t : Bool) → Memᴰ pt (pick t (point_of g i is ∷ await_points code parameter g is) (await_points code parameter g is))
          → (Memᴰ pt (await_points code parameter g is) → PlaceIn g is pt) → PlaceIn g (i ∷ is) pt
      go true m below = here (Memᴰ.cases_cons m) below
      go false m below = far (below m)

  -- an await of a list has its point there
  place-await : (g : ℕ → Bool) (u : List ℕ) (i : ℕ) (v : List ℕ) → await_at code i ≡ true
      → Memᴰ (point_of g i v) (await_points code parameter g (u ++ (i ∷ v)))
  unfolding await_points
  place-await g [] i v e = rw e (Memᴰ.head refl)
  place-await g (a ∷ u) i v e = go (await_at code a) (place-await g u i v e)
    where
      go : (t : Bool) → Memᴰ (point_of g i v) (await_points code parameter g (u ++ (i ∷ v)))
          → Memᴰ (point_of g i v) (pick t (point_of g a (u ++ (i ∷ v)) ∷ await_points code parameter g (u ++ (i ∷ v)))
          (await_points code parameter g (u ++ (i ∷ v))))
      go true m = Memᴰ.tail m
      go false m = m

  module _ (words : ℕ) where
    -- the block that a point stands in
    abbrev BlockOf : Point → Type 0
    BlockOf pt = (c : ℕ) × (reachable code c ≡ true) × PlaceIn (live_exit code parameter words c) (body code c) pt

    -- a point of these blocks stands in a reachable block
    block_of : (cs : List ℕ) (pt : Point) → Memᴰ pt (block_points code parameter words cs) → BlockOf pt
    unfolding block_points
    block_of [] pt m = absurd (Memᴰ.not-nil m)
    block_of (c ∷ cs) pt m = either (Memᴰ.append_cases
        (points_in words c) m) (λ m'. block_of cs pt m')
      where
        here : (t : Bool) → reachable code c ≡ t
            → Memᴰ pt (pick t (await_points code parameter (live_exit code parameter words c) (body code c)) []) → BlockOf pt
        here true e m = (c, e, await-place (live_exit code parameter words c) (body code c) pt m)
        here false e m = absurd (Memᴰ.not-nil m)

        either : Memᴰ pt (points_in words c)
            ⊎ Memᴰ pt (block_points code parameter words cs)
            → (Memᴰ pt (block_points code parameter words cs) → BlockOf pt) → BlockOf pt
        either (inl m) below = here (reachable code c) refl m
        either (inr m) below = below m

    -- a point of a reachable block among these is a point of them
    of_block : (cs : List ℕ) (c : ℕ) → Memᴰ c cs → reachable code c ≡ true → (pt : Point)
        → Memᴰ pt (await_points code parameter (live_exit code parameter words c) (body code c))
        → Memᴰ pt (block_points code parameter words cs)
    unfolding block_points
    of_block [] c mc e pt m = absurd (Memᴰ.not-nil mc)
    of_block (d ∷ cs) c mc e pt m = go (Memᴰ.cases_cons mc) (λ mc'. of_block cs c mc' e pt m)
      where
        here : (d : ℕ) → c ≡ d → Memᴰ pt (points_in words d)
        here d q = subst (λ (d : ℕ). Memᴰ pt
            (points_in words d)) q (rw e m)

        go : (c ≡ d) ⊎ Memᴰ c cs → (Memᴰ c cs → Memᴰ pt (block_points code parameter words cs))
            → Memᴰ pt (points_in words d ++ block_points code parameter words cs)
        go (inl q) below = Memᴰ.append_left (block_points code parameter words cs) (here d q)
        go (inr mc') below = Memᴰ.append_right (points_in words d) (below mc')

    -- and so does a point of the code
    point-block : (pt : Point) → Memᴰ pt (points code parameter words) → BlockOf pt
    unfolding points
    point-block pt m = block_of (range 0 (block_count code)) pt m

    -- ── On checked code ──

    module _ (slots : ℕ) (ch : Checked code parameter slots) (fits : slots ≤ 64 * words) where
      -- a point's block is reached
      reached-of : (pt : Point) (m : Memᴰ pt (points code parameter words)) → Reached forward_program (point-block pt m).0
      reached-of pt m = let z = point-block pt m in (reachable_iff code parameter slots words ch fits z.0).0 z.1

      -- some path reaches it
      pub point_reached : (pt : Point) → Memᴰ pt (points code parameter words) → Reached p pt.instruction
      point_reached pt m = let z = point-block pt m in
          subst (λ (q : Point). Reached p q.instruction) (sym z.2.4)
          (reached_point p (block_graph code) (basic_blocks code parameter slots ch) z.0 (reached-of pt m).1
          z.2.0 z.2.1 z.2.2 z.2.3)

      -- Each point is an await of the code that some path reaches.
      pub point_awaits : (pt : Point) → Memᴰ pt (points code parameter words)
          → (await_at code pt.instruction ≡ true) × Reached p pt.instruction × (pt.instruction < length code)
      point_awaits pt m = (point_await words pt m, point_reached pt m, point_below words pt m)

      -- Its set is the least saved set there.
      pub point_least : (pt : Point) → Memᴰ pt (points code parameter words) → Least p pt.instruction pt.live
      point_least pt m = let z = point-block pt m in
          subst (λ (q : Point). Least p q.instruction q.live) (sym z.2.4)
          (saved_least code parameter slots words ch fits z.0 (reached-of pt m) z.2.0 z.2.1 z.2.2 z.2.3)

      -- In an accepted script it holds no host slot.
      pub point_clean : (host : ℕ → Bool) → accepts code parameter words slots host ≡ true → (pt : Point) → Memᴰ pt (points code parameter words)
          → (s : ℕ) → pt.live s ≡ true → host s ≡ false
      point_clean host a pt m = no_host p (await_at code) host ((accepts_iff code parameter slots words ch fits host).0 a) pt.instruction
          (point_await words pt m) (point_reached pt m) pt.live (point_least pt m)

      -- Each await that some path reaches has its point.
      pub awaits_listed : (i : ℕ) → await_at code i ≡ true → Reached p i
          → (pt : Point) × Memᴰ pt (points code parameter words) × (pt.instruction ≡ i)
      unfolding points
      awaits_listed i e r = go (entry_place p (block_graph code) (basic_blocks code parameter slots ch) r.1)
        where
          go : Place (block_graph code) 0 r.0 i → (pt : Point) × Memᴰ pt (block_points code parameter words (range 0 (block_count code)))
              × (pt.instruction ≡ i)
          go y = (
            point_of (live_exit code parameter words y.block) i y.rest,
            of_block (range 0 (block_count code)) y.block
                (rw (zero-add y.block) at (mem-range 0 (block_count code) y.block
                (reached_count code parameter slots words ch fits y.block (y.passed, y.way))))
                ((reachable_iff code parameter slots words ch fits y.block).1 (y.passed, y.way))
                (point_of (live_exit code parameter words y.block) i y.rest)
                (subst (λ (is : List ℕ). Memᴰ (point_of (live_exit code parameter words y.block) i y.rest)
                (await_points code parameter (live_exit code parameter words y.block) is)) (sym y.is)
                (place-await (live_exit code parameter words y.block) y.front i y.rest e)),
            refl,
          )
