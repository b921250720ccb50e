-- The verdict on checked code: accepted exactly if not faulty.
use mathlib.Core.Path.{◌≡◌, refl, ap}
use mathlib.Core.Bool.{Bool, true, false, not, ◌&&◌, ◌||◌, false≢true, or-true}
use mathlib.Core.List.{List, [], ◌∷◌, ◌++◌, Memᴰ}
use mathlib.Core.Logic.{◌⊎◌, inl, inr, ◌↔◌}
use Prim.Native.Nat.{ℕ, ◌*◌, ◌≤◌}
use native.Mathlib.Nat.{zero-add}
use Rattle.dataflow.specs.Program.{Program}
use Rattle.dataflow.specs.Paths.{Path, Reached}
use Rattle.dataflow.specs.Analyses.{initialization, init_transfer, init_along, filled, live_along}
use Rattle.dataflow.specs.Demand.{Unfilled, Least, Held, Faulty}
use Rattle.dataflow.specs.Lists.{range, every, some}
use Rattle.dataflow.specs.Blocks.{block_program}
use Rattle.dataflow.specs.BasicBlocks.{BasicBlocks, Place}
use Rattle.dataflow.specs.Code.{Instruction, instruction_at, successors, program, body, block_graph, await_at}
use Rattle.dataflow.specs.Checked.{Checked}
use Rattle.dataflow.specs.Results.{block_count, reachable, init_entry, live_exit}
use Rattle.dataflow.specs.Verdict.{UnfilledInBlock, unfilled_read, host_saved, block_unfilled, block_holds, accepts}
use Rattle.dataflow.proofs.Bools.{and_left, and_right, and_no, or_yes, or_no_left, or_no_right, not_yes, not-no}
use Rattle.dataflow.proofs.Lists.{every_at, every_no, every_to, some_at, some_to, elem_mem, mem-elem, mem-range}
use Rattle.dataflow.proofs.BlockPaths.{entry_place, reached_point}
use Rattle.dataflow.proofs.Faults.{no_host}
use Rattle.dataflow.proofs.CodeBlocks.{basic_blocks}
use Rattle.dataflow.proofs.Results.{reachable_iff, reached_count, live_below, live_at, saved_least, unfilled_found}

module _ (code : List Instruction) (parameter : ℕ → Bool) where
  abbrev p : Program ℕ ℕ
  p = program code parameter

  abbrev forward_program : Program ℕ ℕ
  forward_program = block_program initialization p (block_graph code)

  -- ── The tests of a block find what they look for ──

  -- an instruction of the list reads a slot that is not in the set, carried to it from f
  abbrev ReadOf : (ℕ → Bool) → List ℕ → Type 0
  ReadOf f l = (u : List ℕ) × (i : ℕ) × (v : List ℕ) × (s : ℕ) × (l ≡ u ++ (i ∷ v)) × (p.reads i s ≡ true) × (init_along p s (f s) u ≡ false)

  read_found : (f : ℕ → Bool) (l : List ℕ) → unfilled_read code parameter f l ≡ true → ReadOf f l
  read_found f [] e = absurd (false≢true e)
  read_found f (i ∷ l) e = go (or_yes _ _ e) (λ e'. read_found (λ s. init_transfer p i s (f s)) l e')
    where
      here : (s : ℕ) × Memᴰ s (instruction_at code i).inputs × (not (f s) ≡ true) → ReadOf f (i ∷ l)
      here z = ([], i, l, z.0, refl, mem-elem z.0 (instruction_at code i).inputs z.1, not_yes (f z.0) z.2)

      far : ReadOf (λ s. init_transfer p i s (f s)) l → ReadOf f (i ∷ l)
      far z = (i ∷ z.0, z.1, z.2, z.3, ap (λ (m : List ℕ). i ∷ m) z.4, z.5, z.6)

      go : (some (λ s. not (f s)) (instruction_at code i).inputs ≡ true) ⊎ (unfilled_read code parameter (λ s. init_transfer p i s (f s)) l ≡ true)
          → (unfilled_read code parameter (λ s. init_transfer p i s (f s)) l ≡ true → ReadOf (λ s. init_transfer p i s (f s)) l) → ReadOf f (i ∷ l)
      go (inl z) below = here (some_at _ (instruction_at code i).inputs z)
      go (inr z) below = far (below z)

  find-read : (f : ℕ → Bool) (u : List ℕ) (i : ℕ) (v : List ℕ) (s : ℕ) → p.reads i s ≡ true → init_along p s (f s) u ≡ false
      → unfilled_read code parameter f (u ++ (i ∷ v)) ≡ true
  find-read f [] i v s er ec = rw (some_to (λ s. not (f s)) (instruction_at code i).inputs s (elem_mem s (instruction_at code i).inputs er)
      (rw ec refl)) refl
  find-read f (a ∷ u) i v s er ec = rw (find-read (λ s. init_transfer p a s (f s)) u i v s er ec) (simp or-true)

  module _ (host : ℕ → Bool) (slots : List ℕ) (g : ℕ → Bool) where
    -- at an await of the list a host slot is in the set, carried back to it from g
    abbrev HostOf : List ℕ → Type 0
    HostOf l = (u : List ℕ) × (i : ℕ) × (v : List ℕ) × (s : ℕ) × (l ≡ u ++ (i ∷ v)) × (await_at code i ≡ true) × (host s ≡ true)
        × (live_along p s (g s) (i ∷ v) ≡ true)

    host-found : (l : List ℕ) → host_saved code parameter host slots g l ≡ true → HostOf l
    host-found [] e = absurd (false≢true e)
    host-found (i ∷ l) e = go (or_yes _ _ e) (λ e'. host-found l e')
      where
        here : await_at code i ≡ true → (s : ℕ) × Memᴰ s slots × ((host s && live_along p s (g s) (i ∷ l)) ≡ true) → HostOf (i ∷ l)
        here ea z = ([], i, l, z.0, refl, ea, and_left (host z.0) _ z.2, and_right (host z.0) _ z.2)

        far : HostOf l → HostOf (i ∷ l)
        far w = (i ∷ w.0, w.1, w.2, w.3, ap (λ (m : List ℕ). i ∷ m) w.4, w.5, w.6, w.7)

        go : ((await_at code i && some (λ s. host s && live_along p s (g s) (i ∷ l)) slots) ≡ true) ⊎ (host_saved code parameter host slots g l ≡ true)
            → (host_saved code parameter host slots g l ≡ true → HostOf l) → HostOf (i ∷ l)
        go (inl z) below = here (and_left (await_at code i) _ z) (some_at _ slots (and_right (await_at code i) _ z))
        go (inr z) below = far (below z)

    find-host : (u : List ℕ) (i : ℕ) (v : List ℕ) (s : ℕ) → await_at code i ≡ true → Memᴰ s slots → host s ≡ true
        → live_along p s (g s) (i ∷ v) ≡ true
        → host_saved code parameter host slots g (u ++ (i ∷ v)) ≡ true
    find-host [] i v s ea ms eh eb = rw (ea, some_to (λ s. host s && live_along p s (g s) (i ∷ v)) slots s ms (rw (eh, eb) refl)) refl
    find-host (a ∷ u) i v s ea ms eh eb = rw (find-host u i v s ea ms eh eb) (simp or-true)

  module _ (slots words : ℕ) (ch : Checked code parameter slots) (fits : slots ≤ 64 * words) where
    -- ── 13 ──

    -- Some path has an unfilled read exactly if the check of some reached block finds one.
    pub block_unfilled_iff : Unfilled p ↔ ((b : ℕ) × Reached forward_program b × (block_unfilled code parameter words b ≡ true))
    block_unfilled_iff = ((λ h. there ((unfilled_found code parameter slots words ch fits).0 h)), back)
      where
        there : UnfilledInBlock p (block_graph code) (init_entry code parameter words) → (b : ℕ) × Reached forward_program b
            × (block_unfilled code parameter words b ≡ true)
        there f = (
          f.block,
          f.reached,
          rw f.is
              (find-read (init_entry code parameter words f.block) f.front f.point f.rest f.slot f.read f.missing),
        )

        back : (b : ℕ) × Reached forward_program b × (block_unfilled code parameter words b ≡ true) → Unfilled p
        back h = let z = read_found (init_entry code parameter words h.0) (body code h.0) h.2 in
            (unfilled_found code parameter slots words ch fits).1
            (record { block = h.0; reached = h.1; front = z.0; point = z.1; rest = z.2; is = z.4; slot = z.3; read = z.5; missing = z.6 })

    -- ── 14 ──

    module _ (host : ℕ → Bool) where
      -- Some reached await's least set holds a host slot exactly if the check of some reached block finds one.
      pub block_holds_iff : Held p (await_at code) host ↔ ((b : ℕ) × Reached forward_program b × (block_holds code parameter words slots host b ≡ true))
      block_holds_iff = (there, back)
        where
          bs : BasicBlocks p (block_graph code)
          bs = basic_blocks code parameter slots ch

          there : Held p (await_at code) host → (b : ℕ) × Reached forward_program b × (block_holds code parameter words slots host b ≡ true)
          there h = go (entry_place p (block_graph code) bs h.reached.1)
            where
              go : Place (block_graph code) 0 h.reached.0 h.point → (b : ℕ) × Reached forward_program b
                  × (block_holds code parameter words slots host b ≡ true)
              go y = (
                y.block,
                (y.passed, y.way),
                rw y.is
                    (find-host host (range 0 slots) (live_exit code parameter words y.block) y.front h.point y.rest h.slot
                    h.is_await in_range h.is_host in_set),
              )
                where
                  least : Least p h.point (λ s. live_along p s (live_exit code parameter words y.block s) (h.point ∷ y.rest))
                  least = saved_least code parameter slots words ch fits y.block (y.passed, y.way) y.front h.point y.rest y.is

                  in_set : live_along p h.slot (live_exit code parameter words y.block h.slot) (h.point ∷ y.rest) ≡ true
                  in_set = h.is_least.least (λ s. live_along p s (live_exit code parameter words y.block s) (h.point ∷ y.rest)) least.saves
                      h.slot h.in_saved

                  in_range : Memᴰ h.slot (range 0 slots)
                  in_range = rw (zero-add h.slot) at (mem-range 0 slots h.slot
                      (live_below code parameter slots words ch fits h.point h.slot
                      ((live_at code parameter slots words ch fits y.block (y.passed, y.way) y.front h.point y.rest y.is
                      h.slot).0 in_set)))

          back : (b : ℕ) × Reached forward_program b × (block_holds code parameter words slots host b ≡ true) → Held p (await_at code) host
          back h = let z = host-found host (range 0 slots) (live_exit code parameter words h.0) (body code h.0) h.2 in
              record {
                point = z.1;
                is_await = z.5;
                reached = reached_point p (block_graph code) bs h.0 h.1.1 z.0 z.1 z.2 z.4;
                saved = λ s. live_along p s (live_exit code parameter words h.0 s) (z.1 ∷ z.2);
                is_least = saved_least code parameter slots words ch fits h.0 h.1 z.0 z.1 z.2 z.4;
                slot = z.3;
                in_saved = z.7;
                is_host = z.6;
              }

      -- ── Demand 3's last sentence ──

      -- "One that passes the sheet checks, has its buffers and meets no limit is accepted exactly when it isn't faulty."
      pub accepts_iff : (accepts code parameter words slots host ≡ true) ↔ (¬ (Faulty p (await_at code) host))
      unfolding accepts
      accepts_iff = (there, back)
        where
          test : ℕ → Bool
          test b = not (reachable code b) || (not (block_unfilled code parameter words b) && not (block_holds code parameter words slots host b))

          clash : every test (range 0 (block_count code)) ≡ true → (b : ℕ) → Reached forward_program b
              → (block_unfilled code parameter words b ≡ true) ⊎ (block_holds code parameter words slots host b ≡ true) → ⊥
          clash e b r h = go h (rw ((reachable_iff code parameter slots words ch fits b).1 r) at
              (every_at test (range 0 (block_count code)) e b
              (rw (zero-add b) at (mem-range 0 (block_count code) b (reached_count code parameter slots words ch fits b r)))))
            where
              go : (block_unfilled code parameter words b ≡ true) ⊎ (block_holds code parameter words slots host b ≡ true)
                  → (not (block_unfilled code parameter words b) && not (block_holds code parameter words slots host b)) ≡ true → ⊥
              go (inl z) q = false≢true (rw z at (and_left (not (block_unfilled code parameter words b)) _ q))
              go (inr z) q = false≢true (rw z at (and_right (not (block_unfilled code parameter words b)) _ q))

          there : every test (range 0 (block_count code)) ≡ true → Faulty p (await_at code) host → ⊥
          there e (inl u) = let z = block_unfilled_iff.0 u in clash e z.0 z.1 (inl z.2)
          there e (inr u) = let z = block_holds_iff.0 u in clash e z.0 z.1 (inr z.2)

          back : ¬ (Faulty p (await_at code) host) → every test (range 0 (block_count code)) ≡ true
          back ok = every_to test (range 0 (block_count code))
              (λ b m. one b (reachable code b) refl (block_unfilled code parameter words b) refl (block_holds code parameter words slots host b) refl)
            where
              one : (b : ℕ) (o : Bool) → reachable code b ≡ o → (x : Bool) → block_unfilled code parameter words b ≡ x → (y : Bool)
                  → block_holds code parameter words slots host b ≡ y
                  → (not o || (not x && not y)) ≡ true
              one b false eo x ex y ey = refl
              one b true eo true ex y ey = absurd (ok (inl (block_unfilled_iff.1 (b, (reachable_iff code parameter slots words ch fits b).0 eo, ex))))
              one b true eo false ex true ey = absurd (ok
                  (inr (block_holds_iff.1 (b, (reachable_iff code parameter slots words ch fits b).0 eo, ey))))
              one b true eo false ex false ey = refl

      -- A refused script is faulty: a path with the unfilled read, or an await with its least set, is given.
      pub refuses_faulty : accepts code parameter words slots host ≡ false → Faulty p (await_at code) host
      unfolding accepts
      refuses_faulty e = go (every_no _ (range 0 (block_count code)) e)
        where
          two : (b : ℕ) → Reached forward_program b
              → (not (block_unfilled code parameter words b) ≡ false) ⊎ (not (block_holds code parameter words slots host b) ≡ false)
              → Faulty p (await_at code) host
          two b r (inl z) = inl (block_unfilled_iff.1 (b, r, not-no (block_unfilled code parameter words b) z))
          two b r (inr z) = inr (block_holds_iff.1 (b, r, not-no (block_holds code parameter words slots host b) z))

          go : (b : ℕ) × Memᴰ b (range 0 (block_count code))
              × ((not (reachable code b) || (not (block_unfilled code parameter words b) && not (block_holds code parameter words slots host b)))
              ≡ false)
              → Faulty p (await_at code) host
          go z = two z.0 ((reachable_iff code parameter slots words ch fits z.0).0
              (not-no (reachable code z.0) (or_no_left (not (reachable code z.0)) _ z.2)))
              (and_no _ _ (or_no_right (not (reachable code z.0)) _ z.2))

      -- ── Demand 3's first two sentences, of an accepted script ──

      -- It "reads, along every path from its first instruction, only slots that are" filled there.
      pub accepted_reads : accepts code parameter words slots host ≡ true → (l : List ℕ) (i s : ℕ) → Path (successors code) 0 l i
          → p.reads i s ≡ true → filled p l s ≡ true
      accepted_reads e l i s w r = go (filled p l s) refl
        where
          go : (t : Bool) → filled p l s ≡ t → filled p l s ≡ true
          go true q = q
          go false q = absurd (accepts_iff.0 e (inl (record { before = l; point = i; slot = s; path = w; read = r; unfilled = q })))

      -- Each await that some such path reaches has as its set, carried back through its block, "the least .."; "it holds no host handle".
      pub accepted_awaits : accepts code parameter words slots host ≡ true → (b : ℕ) → Reached forward_program b → (u : List ℕ) (i : ℕ) (v : List ℕ)
          → body code b ≡ u ++ (i ∷ v) → await_at code i ≡ true
          → Least p i (λ s. live_along p s (live_exit code parameter words b s) (i ∷ v))
          × ((s : ℕ) → live_along p s (live_exit code parameter words b s) (i ∷ v) ≡ true → host s ≡ false)
      accepted_awaits e b r u i v q ea =
          let least : Least p i (λ s. live_along p s (live_exit code parameter words b s) (i ∷ v)) = saved_least code parameter slots words ch fits b
          r u i v q in (
            least,
            no_host p (await_at code) host (accepts_iff.0 e) i ea
                (reached_point p (block_graph code) (basic_blocks code parameter slots ch) b r.1 u i v q)
                (λ s. live_along p s (live_exit code parameter words b s) (i ∷ v)) least,
          )
