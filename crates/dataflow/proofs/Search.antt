-- `postorder`: the depth-first search visits exactly the reached blocks, lists each once, and takes a known number of turns.
use mathlib.Core.Path.{◌≡◌, refl, ap, subst}
use mathlib.Core.Bool.{Bool, true, false, true≢false}
use mathlib.Core.List.Memᴰ
use mathlib.Core.List.{List, [], ◌∷◌, map, Memᴰ}
use mathlib.Core.Logic.{◌⊎◌, inl, inr, ◌↔◌}
use Prim.Native.Nat.{ℕ, zero, suc, ◌+◌, ◌≤◌, ◌<◌}
use native.Mathlib.Omega.{arith}
use native.Mathlib.Nat.{add-zero, add-suc, suc-add, zero-add}
use lib.ListN.{length, get_or, set, replicate, length-replicate}
use Rattle.dataflow.specs.Lists.{tabulate, sum, NoDup}
use Rattle.dataflow.specs.Search.{Frame, Search, look, advance, on_top, search, turns, search_from, all_turns}
use Rattle.dataflow.proofs.Lists.{mem-get_or, get_or-same}
use Rattle.dataflow.proofs.Visited.{
  Visited,
  From,
  visited_it,
  visited_still,
  Visits,
  visits_start,
  visits_more,
  visits_done,
  visits_exact,
  done_exact,
}

module _ (next : ℕ → List ℕ) where
  -- ── How many turns ──

  -- one for each frame and for each successor that it has still to look at
  abbrev pub frames : List Frame → ℕ
  frames [] = 0
  frames (f ∷ fs) = suc (length f.rest) + frames fs

  -- one for each block that is not visited, from block k on, and for each of its successors
  abbrev pub ahead : ℕ → List Bool → ℕ
  ahead k [] = 0
  ahead k (true ∷ m) = ahead (suc k) m
  ahead k (false ∷ m) = suc (length (next k)) + ahead (suc k) m

  -- the turns that are left
  abbrev pub turns_left : Search → ℕ
  turns_left d = frames d.stack + ahead 0 d.visited

  ahead-set : (k : ℕ) (m : List Bool) (i : ℕ) → i < length m → get_or m i false ≡ false
      → ahead k (set m i true) + suc (length (next (k + i))) ≡ ahead k m
  ahead-set k [] i lt e = absurd (omega arith)
  ahead-set k (true ∷ m) zero lt e = absurd (true≢false e)
  ahead-set k (false ∷ m) zero lt e = rw (add-zero k) (omega arith)
  ahead-set k (true ∷ m) (suc i) lt e = rw (add-suc k i, ← suc-add k i) (ahead-set (suc k) m i (omega arith) e)
  ahead-set k (false ∷ m) (suc i) lt e = rw (add-suc k i, ← suc-add k i) (omega (arith, ahead-set (suc k) m i (omega arith) e))

  ahead-all : (k m : ℕ) → ahead k (replicate m false) ≡ sum (tabulate k m (λ b. suc (length (next b))))
  ahead-all k zero = refl
  ahead-all k (suc m) = ap (λ (z : ℕ). suc (length (next k)) + z) (ahead-all (suc k) m)

  -- at the start all are left,
  pub start_left : (n root : ℕ) → root < n → turns_left (search_from next n root) ≡ all_turns next n
  start_left n root lt = omega (
    arith,
    rw (zero-add root) at (ahead-set 0 (replicate n false) root (rw (length-replicate n false) lt) (get_or-same n root false)),
    ahead-all 0 n,
  )

  -- each turn is one less, if the successor that it looks at is a block,
  pub advance_left : (b : ℕ) (l : List ℕ) (fs : List Frame) (d : Search) → d.stack ≡ record { block = b; rest = l } ∷ fs
      → (0 < length l → get_or l 0 0 < length d.visited) → suc (turns_left (advance next b l fs d)) ≡ turns_left d
  advance_left b [] fs d e below = rw e (omega arith)
  advance_left b (c ∷ l) fs d e below = go (get_or d.visited c false) refl
    where
      go : (t : Bool) → get_or d.visited c false ≡ t → suc (turns_left (look next t c (record { block = b; rest = l } ∷ fs) d)) ≡ turns_left d
      go true s = rw e (omega arith)
      go false s = rw e (omega (arith, rw (zero-add c) at (ahead-set 0 d.visited c (below (omega arith)) s)))

  -- and at the end the stack is empty
  pub none_left : (d : Search) → turns_left d ≡ 0 → d.stack ≡ []
  none_left d h = go d.stack (omega arith)
    where
      go : (fs : List Frame) → frames fs ≤ 0 → fs ≡ []
      go [] q = refl
      go (f ∷ fs) q = absurd (omega arith)

  -- ── What the search keeps ──

  abbrev blocks : List Frame → List ℕ
  blocks [] = []
  blocks (f ∷ fs) = f.block ∷ blocks fs

  module _ (n root : ℕ) (root_below : root < n) (below : (b c : ℕ) → Memᴰ c (next b) → c < n) where
    -- each successor of a block on the stack has been visited, or is still to be looked at
    abbrev Open : List Bool → List Frame → Type 0
    Open m [] = Unit {0}
    Open m (f ∷ fs) = ((c : ℕ) → Memᴰ c (next f.block) → Visited m c ⊎ Memᴰ c f.rest)
        × ((c : ℕ) → Memᴰ c f.rest → Memᴰ c (next f.block)) × Open m fs

    record SearchInvariant (d : Search) : Type 0 where
      visits : Visits next n root d.visited (blocks d.stack) d.finished
      closed : (b : ℕ) → Memᴰ b d.finished → (c : ℕ) → Memᴰ c (next b) → Visited d.visited c
      opened : Open d.visited d.stack

    open_mono : (m m' : List Bool) (fs : List Frame) → ((c : ℕ) → Visited m c → Visited m' c) → Open m fs → Open m' fs
    open_mono m m' [] h o = tt
    open_mono m m' (f ∷ fs) h o = ((λ c e. go c (o.0 c e)), o.1, open_mono m m' fs h o.2)
      where
        go : (c : ℕ) → Visited m c ⊎ Memᴰ c f.rest → Visited m' c ⊎ Memᴰ c f.rest
        go c (inl x) = inl (h c x)
        go c (inr x) = inr x

    -- the frame on top has nothing left to look at
    pop_keeps : (b : ℕ) (fs : List Frame) (d : Search) → d.stack ≡ record { block = b; rest = [] } ∷ fs → SearchInvariant d
        → SearchInvariant (advance next b [] fs d)
    pop_keeps b fs d e k = record {
      visits = visits_done next n root d.visited (blocks fs) d.finished b (rw e at k.visits);
      closed = λ c m. closed' c (Memᴰ.cases_cons m);
      opened = opened'.2;
    }
      where
        opened' : Open d.visited (record { block = b; rest = [] } ∷ fs)
        opened' = rw e at k.opened

        closed' : (c : ℕ) → (c ≡ b) ⊎ Memᴰ c d.finished → (c' : ℕ) → Memᴰ c' (next c) → Visited d.visited c'
        closed' c (inr q) c' m = k.closed c q c' m
        closed' c (inl q) c' m = go (opened'.0 c' (subst (λ (z : ℕ). Memᴰ c' (next z)) q m))
          where
            go : Visited d.visited c' ⊎ Memᴰ c' [] → Visited d.visited c'
            go (inl x) = x
            go (inr x) = absurd (Memᴰ.not-nil x)

    -- the next successor of the frame on top
    look-keeps : (b c : ℕ) (l : List ℕ) (fs : List Frame) (d : Search) → d.stack ≡ record { block = b; rest = c ∷ l } ∷ fs → SearchInvariant d
        → SearchInvariant (advance next b (c ∷ l) fs d)
    look-keeps b c l fs d e k = go (get_or d.visited c false) refl
      where
        visits' : Visits next n root d.visited (b ∷ blocks fs) d.finished
        visits' = rw e at k.visits

        opened' : Open d.visited (record { block = b; rest = c ∷ l } ∷ fs)
        opened' = rw e at k.opened

        mc : Memᴰ c (next b)
        mc = opened'.1 c (Memᴰ.head refl)

        c_in : c < length d.visited
        c_in = rw k.visits.len (below b c mc)

        -- what the frame says of b's successors, once c is visited
        drop-c : (m : List Bool) → ((x : ℕ) → Visited d.visited x → Visited m x) → Visited m c → Open m (record { block = b; rest = l } ∷ fs)
        drop-c m up fc = ((λ x mx. pass x (opened'.0 x mx)), (λ x mx. opened'.1 x (Memᴰ.tail mx)), open_mono d.visited m fs up opened'.2)
          where
            pass : (x : ℕ) → Visited d.visited x ⊎ Memᴰ x (c ∷ l) → Visited m x ⊎ Memᴰ x l
            pass x (inl q) = inl (up x q)
            pass x (inr q) = split (Memᴰ.cases_cons q)
              where
                split : (x ≡ c) ⊎ Memᴰ x l → Visited m x ⊎ Memᴰ x l
                split (inl z) = inl (rw z fc)
                split (inr z) = inr z

        go : (t : Bool) → get_or d.visited c false ≡ t → SearchInvariant (look next t c (record { block = b; rest = l } ∷ fs) d)
        go true s = record { visits = visits'; closed = k.closed; opened = drop-c d.visited (λ x q. q) s }
        go false s = record {
          visits = visits_more next n root d.visited (b ∷ blocks fs) d.finished b c c_in mc (visits'.known b (inl (Memᴰ.head refl))) s visits';
          closed = λ x m y my. visited_still d.visited c c_in y (k.closed x m y my);
          opened = (
            (λ x mx. inr mx),
            (λ x mx. mx),
            drop-c (set d.visited c true) (visited_still d.visited c c_in) (visited_it d.visited c c_in),
          );
        }

    -- each turn is one less
    advance-less : (b : ℕ) (l : List ℕ) (fs : List Frame) (d : Search) → d.stack ≡ record { block = b; rest = l } ∷ fs → SearchInvariant d
        → suc (turns_left (advance next b l fs d)) ≡ turns_left d
    advance-less b l fs d e k =
        advance_left b l fs d e (λ h. rw k.visits.len (below b (get_or l 0 0) (opened'.1 (get_or l 0 0) (mem-get_or l 0 0 h))))
      where
        opened' : Open d.visited (record { block = b; rest = l } ∷ fs)
        opened' = rw e at k.opened

    advance-keeps : (b : ℕ) (l : List ℕ) (fs : List Frame) (d : Search) → d.stack ≡ record { block = b; rest = l } ∷ fs → SearchInvariant d
        → SearchInvariant (advance next b l fs d)
    advance-keeps b [] fs d e k = pop_keeps b fs d e k
    advance-keeps b (c ∷ l) fs d e k = look-keeps b c l fs d e k

    -- with as many turns as are left the search keeps all this and ends
    search-ends : (m : ℕ) (d : Search) → turns_left d ≡ m → SearchInvariant d → SearchInvariant (search next m d) × ((search next m d).stack ≡ [])
    unfolding search
    search-ends zero d e k = (k, none_left d e)
    search-ends (suc m) d e k = go d.stack refl
        (λ f fs q. search-ends m (advance next f.block f.rest fs d) (omega (arith, advance-less f.block f.rest fs d q k))
        (advance-keeps f.block f.rest fs d q k))
      where
        go : (st : List Frame) → d.stack ≡ st
            → ((f : Frame) (fs : List Frame) → d.stack ≡ f ∷ fs → SearchInvariant (search next m (advance next f.block f.rest fs d))
            × ((search next m (advance next f.block f.rest fs d)).stack ≡ []))
            → SearchInvariant (on_top next (λ f fs. search next m (advance next f.block f.rest fs d)) st d)
            × ((on_top next (λ f fs. search next m (advance next f.block f.rest fs d)) st d).stack ≡ [])
        go [] q rec = (k, q)
        go (f ∷ fs) q rec = rec f fs q

    start-keeps : SearchInvariant (search_from next n root)
    start-keeps = record {
      visits = visits_start next n root root_below;
      closed = λ b m. absurd (Memᴰ.not-nil m);
      opened = ((λ c m. inr m), (λ c m. m), tt);
    }

    -- ── The search from the root ──

    abbrev whole : Search
    whole = search next (all_turns next n) (search_from next n root)

    ended : SearchInvariant whole × (whole.stack ≡ [])
    ended = search-ends (all_turns next n) (search_from next n root) (start_left n root root_below) start-keeps

    -- It ends,
    pub postorder_ends : whole.stack ≡ []
    postorder_ends = ended.1

    pub postorder_length : length whole.visited ≡ n
    postorder_length = ended.0.visits.len

    none-waiting : Visits next n root whole.visited [] whole.finished
    none-waiting = rw ended.1 at ended.0.visits

    -- visits exactly what paths reach,
    pub postorder_visits : (b : ℕ) → Visited whole.visited b ↔ From next root b
    postorder_visits = visits_exact next n root whole.visited whole.finished none-waiting ended.0.closed

    -- lists exactly that, each block once,
    pub postorder_lists : NoDup whole.finished × ((b : ℕ) → Memᴰ b whole.finished ↔ From next root b)
    postorder_lists = done_exact next n root whole.visited whole.finished none-waiting ended.0.closed

    -- ── and takes one turn for each of these blocks and one for each of their edges ──

    abbrev stack_edges : List Frame → ℕ
    stack_edges [] = 0
    stack_edges (f ∷ fs) = length (next f.block) + stack_edges fs

    abbrev stack_rest : List Frame → ℕ
    stack_rest [] = 0
    stack_rest (f ∷ fs) = length f.rest + stack_rest fs

    abbrev cost : List ℕ → ℕ
    cost l = sum (map (λ b. suc (length (next b))) l)

    -- k turns have been taken
    abbrev Taken : ℕ → Search → Type 0
    Taken k d = cost d.finished + stack_edges d.stack ≡ k + stack_rest d.stack

    taken-advance : (k b : ℕ) (l : List ℕ) (fs : List Frame) (d : Search) → d.stack ≡ record { block = b; rest = l } ∷ fs → Taken k d
        → Taken (suc k) (advance next b l fs d)
    taken-advance k b [] fs d e t = omega (arith, rw e at t)
    taken-advance k b (c ∷ l) fs d e t = go (get_or d.visited c false)
      where
        go : (v : Bool) → Taken (suc k) (look next v c (record { block = b; rest = l } ∷ fs) d)
        go true = omega (arith, rw e at t)
        go false = omega (arith, rw e at t)

    taken-search : (m k : ℕ) (d : Search) → Taken k d → Taken (k + turns next m d) (search next m d)
    unfolding search turns
    taken-search zero k d t = rw (add-zero k) t
    taken-search (suc m) k d t = go d.stack refl
        (λ f fs e. taken-search m (suc k) (advance next f.block f.rest fs d) (taken-advance k f.block f.rest fs d e t))
      where
        go : (st : List Frame) → d.stack ≡ st
            → ((f : Frame) (fs : List Frame) → d.stack ≡ f ∷ fs
            → Taken (suc k + turns next m (advance next f.block f.rest fs d)) (search next m (advance next f.block f.rest fs d)))
            → Taken (k + on_top next (λ f fs. suc (turns next m (advance next f.block f.rest fs d))) st 0)
            (on_top next (λ f fs. search next m (advance next f.block f.rest fs d)) st d)
        go [] e below = rw (add-zero k) t
        go (f ∷ fs) e below = let z = below f fs e in omega (arith, z)

    pub postorder_turns : turns next (all_turns next n) (search_from next n root) ≡ cost whole.finished
    postorder_turns = omega (arith, rw ended.1 at (taken-search (all_turns next n) 0 (search_from next n root) (omega arith)))
