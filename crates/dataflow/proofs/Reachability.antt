-- `reachability`: the stack search marks exactly the reached blocks, and takes each of them from the stack once.
use mathlib.Core.Path.{◌≡◌, refl, ◌∙◌, ap, subst}
use mathlib.Core.Bool.{Bool, true, false, true≢false}
use mathlib.Core.List.{List, [], ◌∷◌, Memᴰ}
use mathlib.Core.Logic.{◌⊎◌, inl, inr, ◌↔◌}
use Prim.Native.Nat.{ℕ, zero, suc, ◌+◌, ◌≤◌, ◌<◌}
use native.Mathlib.Omega.{arith}
use lib.ListN.{length, get_or, set, replicate, length-replicate}
use Rattle.dataflow.specs.Lists.{NoDup}
use Rattle.dataflow.specs.Search.{Sweep, unvisited, add, add_all, on_next, take_top, sweep, sweep_from}
use Rattle.dataflow.proofs.Lists.{get_or-same, no_place}
use Rattle.dataflow.proofs.Visited.{
  Visited,
  From,
  visited_it,
  visited_still,
  Visits,
  visits_start,
  visits_more,
  visits_done,
  visits_exact,
  done_exact,
}

-- a block that is visited is one less
pub unvisited-set : (m : List Bool) (i : ℕ) → i < length m → get_or m i false ≡ false → suc (unvisited (set m i true)) ≡ unvisited m
unvisited-set [] i lt e = absurd (omega arith)
unvisited-set (true ∷ m) zero lt e = absurd (true≢false e)
unvisited-set (false ∷ m) zero lt e = refl
unvisited-set (true ∷ m) (suc i) lt e = unvisited-set m i (omega arith) e
unvisited-set (false ∷ m) (suc i) lt e = ap suc (unvisited-set m i (omega arith) e)

-- before the first all are left
pub unvisited-all : (n : ℕ) → unvisited (replicate n false) ≡ n
unvisited-all zero = refl
unvisited-all (suc n) = ap suc (unvisited-all n)

-- a block that joins the stack is not taken from it
pub add-taken : (next : ℕ → List ℕ) (t : Bool) (c : ℕ) (r : Sweep) → (add next t c r).taken ≡ r.taken
add-taken next true c r = refl
add-taken next false c r = refl

module _ (next : ℕ → List ℕ) (n root : ℕ) (root_below : root < n) (below : (b c : ℕ) → Memᴰ c (next b) → c < n) where
  -- what the search keeps, while the successors `due` of b, which was taken last, are still to be added
  record Sweeping (b : ℕ) (due : List ℕ) (r : Sweep) : Type 0 where
    visits : Visits next n root r.visited r.pending r.taken
    closed : (c : ℕ) → Memᴰ c r.taken → (d : ℕ) → Memᴰ d (next c) → Visited r.visited d ⊎ ((c ≡ b) × Memᴰ d due)

  abbrev left : Sweep → ℕ
  left r = length r.pending + unvisited r.visited

  -- the next successor of b
  add-keeps : (b c : ℕ) (cs : List ℕ) (r : Sweep) → Memᴰ c (next b) → Memᴰ b r.taken → Sweeping b (c ∷ cs) r
      → Sweeping b cs (add next (get_or r.visited c false) c r)
  add-keeps b c cs r mc mb k = go (get_or r.visited c false) refl
    where
      c_in : c < length r.visited
      c_in = rw k.visits.len (below b c mc)

      -- once c is visited, among others, it is not to be added
      past : (m : List Bool) → ((x : ℕ) → Visited r.visited x → Visited m x) → Visited m c → (x : ℕ) → Memᴰ x r.taken
          → (d : ℕ) → Memᴰ d (next x) → Visited m d ⊎ ((x ≡ b) × Memᴰ d cs)
      past m up vc x mx d md = pass (k.closed x mx d md)
        where
          pass : Visited r.visited d ⊎ ((x ≡ b) × Memᴰ d (c ∷ cs)) → Visited m d ⊎ ((x ≡ b) × Memᴰ d cs)
          pass (inl q) = inl (up d q)
          pass (inr q) = split (mathlib.Core.List.Memᴰ.cases_cons q.1)
            where
              split : (d ≡ c) ⊎ Memᴰ d cs → Visited m d ⊎ ((x ≡ b) × Memᴰ d cs)
              split (inl z) = inl (rw z vc)
              split (inr z) = inr (q.0, z)

      go : (t : Bool) → get_or r.visited c false ≡ t → Sweeping b cs (add next t c r)
      go true e = record { visits = k.visits; closed = past r.visited (λ x q. q) e }
      go false e = record {
        visits = visits_more next n root r.visited r.pending r.taken b c c_in mc (k.visits.known b (inr mb)) e k.visits;
        closed = past (set r.visited c true) (visited_still r.visited c c_in) (visited_it r.visited c c_in);
      }

  -- what joins the stack was not visited
  add_left : (b c : ℕ) (cs : List ℕ) (r : Sweep) → Memᴰ c (next b) → Sweeping b (c ∷ cs) r
      → left (add next (get_or r.visited c false) c r) ≡ left r
  add_left b c cs r mc k = go (get_or r.visited c false) refl
    where
      go : (t : Bool) → get_or r.visited c false ≡ t → left (add next t c r) ≡ left r
      go true e = refl
      go false e = omega (arith, unvisited-set r.visited c (rw k.visits.len (below b c mc)) e)

  all-keeps : (b : ℕ) (cs : List ℕ) (r : Sweep) → ((c : ℕ) → Memᴰ c cs → Memᴰ c (next b)) → Memᴰ b r.taken → Sweeping b cs r
      → Sweeping b [] (add_all next cs r) × (left (add_all next cs r) ≡ left r)
  all-keeps b [] r sub mb k = (k, refl)
  all-keeps b (c ∷ cs) r sub mb k =
      let mc : Memᴰ c (next b) = sub c (mathlib.Core.List.Memᴰ.head refl) in
      let r' : Sweep = add next (get_or r.visited c false) c r in
      let z = all-keeps b cs r' (λ x m. sub x (mathlib.Core.List.Memᴰ.tail m)) (rw (add-taken next (get_or r.visited c false) c r) mb) (add-keeps b c cs r mc mb k) in
      (z.0, z.1 ∙ add_left b c cs r mc k)

  -- b is taken from the stack
  take-keeps : (a b : ℕ) (q : List ℕ) (r : Sweep) → r.pending ≡ b ∷ q → Sweeping a [] r
      → Sweeping b [] (take_top next b q r) × (suc (left (take_top next b q r)) ≡ left r)
  take-keeps a b q r e k = let z = all-keeps b (next b) r₁ (λ c m. m) (mathlib.Core.List.Memᴰ.head refl) begun in (z.0, omega (arith, z.1, ap length e))
    where
      r₁ : Sweep
      r₁ = record { pending = q; visited = r.visited; taken = b ∷ r.taken }

      begun : Sweeping b (next b) r₁
      begun = record {
        visits = visits_done next n root r.visited q r.taken b (rw e at k.visits);
        closed = λ c m d md. closed' c d md (mathlib.Core.List.Memᴰ.cases_cons m);
      }
        where
          closed' : (c d : ℕ) → Memᴰ d (next c) → (c ≡ b) ⊎ Memᴰ c r.taken → Visited r.visited d ⊎ ((c ≡ b) × Memᴰ d (next b))
          closed' c d md (inl z) = inr (z, subst (λ (x : ℕ). Memᴰ d (next x)) z md)
          closed' c d md (inr z) = go (k.closed c z d md)
            where
              go : Visited r.visited d ⊎ ((c ≡ a) × Memᴰ d []) → Visited r.visited d ⊎ ((c ≡ b) × Memᴰ d (next b))
              go (inl v) = inl v
              go (inr v) = absurd (mathlib.Core.List.Memᴰ.not-nil v.1)

  sweep-ends : (m a : ℕ) (r : Sweep) → left r ≤ m → Sweeping a [] r → ((b : ℕ) × Sweeping b [] (sweep next m r)) × ((sweep next m r).pending ≡ [])
  unfolding sweep
  sweep-ends zero a r le k = ((a, k), no_place r.pending (omega arith))
  sweep-ends (suc m) a r le k = go r.pending refl
      (λ b q e. let z = take-keeps a b q r e k in sweep-ends m b (take_top next b q r) (omega (arith, z.1)) z.0)
    where
      go : (l : List ℕ) → r.pending ≡ l
          → ((b : ℕ) (q : List ℕ) → r.pending ≡ b ∷ q
          → ((c : ℕ) × Sweeping c [] (sweep next m (take_top next b q r))) × ((sweep next m (take_top next b q r)).pending ≡ []))
          → ((c : ℕ) × Sweeping c [] (on_next next (λ b q. sweep next m (take_top next b q r)) l r))
          × ((on_next next (λ b q. sweep next m (take_top next b q r)) l r).pending ≡ [])
      go [] e below = ((a, k), e)
      go (b ∷ q) e below = below b q e

  start-keeps : Sweeping root [] (sweep_from next n root)
  start-keeps = record { visits = visits_start next n root root_below; closed = λ b m. absurd (mathlib.Core.List.Memᴰ.not-nil m) }

  -- ── The search from the root ──

  abbrev whole : Sweep
  whole = sweep next n (sweep_from next n root)

  ended : ((b : ℕ) × Sweeping b [] whole) × (whole.pending ≡ [])
  ended = sweep-ends n root (sweep_from next n root)
      (omega (arith, unvisited-set (replicate n false) root (rw (length-replicate n false) root_below) (get_or-same n root false), unvisited-all n))
      start-keeps

  none-pending : Visits next n root whole.visited [] whole.taken
  none-pending = rw ended.1 at ended.0.1.visits

  closed : (b : ℕ) → Memᴰ b whole.taken → (c : ℕ) → Memᴰ c (next b) → Visited whole.visited c
  closed b m c mc = go (ended.0.1.closed b m c mc)
    where
      go : Visited whole.visited c ⊎ ((b ≡ ended.0.0) × Memᴰ c []) → Visited whole.visited c
      go (inl v) = v
      go (inr v) = absurd (mathlib.Core.List.Memᴰ.not-nil v.1)

  -- It ends,
  pub sweep_done : whole.pending ≡ []
  sweep_done = ended.1

  pub sweep_length : length whole.visited ≡ n
  sweep_length = ended.0.1.visits.len

  -- marks exactly what paths reach,
  pub sweep_visits : (b : ℕ) → Visited whole.visited b ↔ From next root b
  sweep_visits = visits_exact next n root whole.visited whole.taken none-pending closed

  -- and takes each of these once.
  pub sweep_takes : NoDup whole.taken × ((b : ℕ) → Memᴰ b whole.taken ↔ From next root b)
  sweep_takes = done_exact next n root whole.visited whole.taken none-pending closed
