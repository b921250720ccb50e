-- The ring's invariant is kept: by taking its first block, and by queueing the dependents of a block.
use mathlib.Core.Path.{◌≡◌, refl, sym, ◌∙◌}
use mathlib.Core.Bool.{Bool, true, false, not, ◌&&◌, true≢false, false≢true}
use mathlib.Core.List.Memᴰ
use mathlib.Core.List.{List, [], ◌∷◌, ◌++◌, Memᴰ}
use mathlib.Core.Logic.{◌⊎◌, inl, inr, ◌≢◌}
use Prim.Native.Nat.{ℕ, ◌+◌, ◌≤◌, ◌<◌}
use native.Mathlib.Omega.{arith}
use native.Mathlib.Decide.{ℕ_discrete}
use lib.ListN.{length, get_or, set, length-set, length-append}
use lib.Seq.{get_or-set_same, get_or-set_other}
use Rattle.dataflow.specs.Lists.{NoDup}
use Rattle.dataflow.specs.Worklist.{Ring, mark, offer, enqueue, popped, SoundRing}
use Rattle.dataflow.proofs.Lists.{nodup_snoc}

-- the blocks of the list are among n
abbrev pub Below : ℕ → List ℕ → Type 0
Below n ds = (d : ℕ) → Memᴰ d ds → d < n

module _ (reachable : ℕ → Bool) (n : ℕ) where
  abbrev offered : ℕ → Ring → Ring
  offered d r = offer (reachable d && not (mark r d)) d r

  offer-elim : (C : Ring → Type 0) (d : ℕ) (r : Ring)
      → (reachable d ≡ true → mark r d ≡ false → C (offer true d r)) → ((reachable d ≡ true → mark r d ≡ true) → C r)
      → C (offered d r)
  offer-elim C d r f g = go (reachable d) (mark r d) refl refl
    where
      go : (a b : Bool) → reachable d ≡ a → mark r d ≡ b → C (offer (a && not b) d r)
      go false b ea eb = g (λ e. absurd (true≢false (sym e ∙ ea)))
      go true true ea eb = g (λ e. eb)
      go true false ea eb = f ea eb

  offer-sound : (d : ℕ) (r : Ring) → d < n → SoundRing reachable n r → SoundRing reachable n (offered d r)
  offer-sound d r lt h = offer-elim (SoundRing reachable n) d r put (λ _. h)
    where
      put : reachable d ≡ true → mark r d ≡ false → SoundRing reachable n (offer true d r)
      put eo em = record {
        len = length-set r.marks d true ∙ h.len;
        marked = λ c e. marked' c (ℕ_discrete c d) e;
        queued = λ c m. queued' c (Memᴰ.append_cases r.queue m);
        once = nodup_snoc r.queue d h.once (λ m. true≢false (sym (h.queued d m).0 ∙ em));
      }
        where
          d_in : d < length r.marks
          d_in = rw h.len lt

          marked' : (c : ℕ) → Dec (c ≡ d) → get_or (set r.marks d true) c false ≡ true → Memᴰ c (r.queue ++ (d ∷ []))
          marked' c (yes e) x = Memᴰ.append_right r.queue (Memᴰ.head e)
          marked' c (no ne) x = Memᴰ.append_left (d ∷ []) (h.marked c (rw (get_or-set_other r.marks d c true false ne) at x))

          at_d : (c : ℕ) → c ≡ d → (get_or (set r.marks d true) c false ≡ true) × (reachable c ≡ true) × (c < n)
          at_d c e = rw e (get_or-set_same r.marks d true false d_in, eo, lt)

          kept : (c : ℕ) → Dec (c ≡ d) → (mark r c ≡ true) × (reachable c ≡ true) × (c < n) → (get_or (set r.marks d true) c false ≡ true)
              × (reachable c ≡ true) × (c < n)
          kept c (yes e) x = at_d c e
          kept c (no ne) x = rw (get_or-set_other r.marks d c true false ne) x

          queued' : (c : ℕ) → Memᴰ c r.queue ⊎ Memᴰ c (d ∷ []) → (get_or (set r.marks d true) c false ≡ true) × (reachable c ≡ true)
              × (c < n)
          queued' c (inl m) = kept c (ℕ_discrete c d) (h.queued c m)
          queued' c (inr m) = at_d c (Memᴰ.eq_of_singleton m)

  -- a mark stays
  offer-mark : (d : ℕ) (r : Ring) → SoundRing reachable n r → d < n → (c : ℕ) → mark r c ≡ true → mark (offered d r) c ≡ true
  offer-mark d r h lt c e = offer-elim (λ (r' : Ring). mark r' c ≡ true) d r (λ eo em. go (ℕ_discrete c d)) (λ _. e)
    where
      go : Dec (c ≡ d) → get_or (set r.marks d true) c false ≡ true
      go (yes e') = rw e' (get_or-set_same r.marks d true false (rw h.len lt))
      go (no ne) = rw (get_or-set_other r.marks d c true false ne) e

  -- what is offered and reachable is marked
  offer-hit : (d : ℕ) (r : Ring) → SoundRing reachable n r → d < n → reachable d ≡ true → mark (offered d r) d ≡ true
  offer-hit d r h lt eo = offer-elim (λ (r' : Ring). mark r' d ≡ true) d r (λ _ em. get_or-set_same r.marks d true false (rw h.len lt))
      (λ f. f eo)

  offer-length : (d : ℕ) (r : Ring) → length (offered d r).queue ≤ length r.queue + 1
  offer-length d r = offer-elim (λ (r' : Ring). length r'.queue ≤ length r.queue + 1) d r
      (λ _ _. simp length-append (omega arith)) (λ _. omega arith)

  -- ── Queueing the dependents ──

  pub enqueue_sound : (ds : List ℕ) (r : Ring) → Below n ds → SoundRing reachable n r → SoundRing reachable n (enqueue reachable ds r)
  enqueue_sound [] r lt h = h
  enqueue_sound (d ∷ ds) r lt h = enqueue_sound ds _ (λ c m. lt c (Memᴰ.tail m)) (offer-sound d r (lt d (Memᴰ.head refl)) h)

  -- what was queued stays queued
  pub enqueue_mark : (ds : List ℕ) (r : Ring) → Below n ds → SoundRing reachable n r → (c : ℕ) → mark r c ≡ true
      → mark (enqueue reachable ds r) c ≡ true
  enqueue_mark [] r lt h c e = e
  enqueue_mark (d ∷ ds) r lt h c e =
      enqueue_mark ds _ (λ c m. lt c (Memᴰ.tail m)) (offer-sound d r (lt d (Memᴰ.head refl)) h) c
      (offer-mark d r h (lt d (Memᴰ.head refl)) c e)

  -- every reachable dependent is queued
  pub enqueue_hit : (ds : List ℕ) (r : Ring) → Below n ds → SoundRing reachable n r → (c : ℕ) → Memᴰ c ds → reachable c ≡ true
      → mark (enqueue reachable ds r) c ≡ true
  enqueue_hit [] r lt h c m e = absurd (Memᴰ.not-nil m)
  enqueue_hit (d ∷ ds) r lt h c m e = go (Memᴰ.cases_cons m) (λ m'. enqueue_hit ds _ lt' h' c m' e)
    where
      lt' : Below n ds
      lt' c m = lt c (Memᴰ.tail m)

      r' : Ring
      r' = offered d r

      h' : SoundRing reachable n r'
      h' = offer-sound d r (lt d (Memᴰ.head refl)) h

      go : (c ≡ d) ⊎ Memᴰ c ds → (Memᴰ c ds → mark (enqueue reachable ds r') c ≡ true) → mark (enqueue reachable ds r') c ≡ true
      go (inl e') below = enqueue_mark ds r' lt' h' c (rw e' (offer-hit d r h (lt d (Memᴰ.head refl)) (rw e' at e)))
      go (inr m') below = below m'

  -- a block that is queued was queued before, or is a dependent
  pub enqueue_only : (ds : List ℕ) (r : Ring) (c : ℕ) → mark (enqueue reachable ds r) c ≡ true → (mark r c ≡ true) ⊎ Memᴰ c ds
  enqueue_only [] r c e = inl e
  enqueue_only (d ∷ ds) r c e = go (enqueue_only ds (offered d r) c e)
    where
      two : Dec (c ≡ d) → (mark r c ≡ true → (mark r c ≡ true) ⊎ Memᴰ c (d ∷ ds)) → mark (offer true d r) c ≡ true
          → (mark r c ≡ true) ⊎ Memᴰ c (d ∷ ds)
      two (yes q) f h = inr (Memᴰ.head q)
      two (no ne) f h = f (sym (get_or-set_other r.marks d c true false ne) ∙ h)

      one : mark (offered d r) c ≡ true → (mark r c ≡ true) ⊎ Memᴰ c (d ∷ ds)
      one = offer-elim (λ (r' : Ring). mark r' c ≡ true → (mark r c ≡ true) ⊎ Memᴰ c (d ∷ ds)) d r
          (λ _ _ h. two (ℕ_discrete c d) (λ z. inl z) h) (λ _ h. inl h)

      go : (mark (offered d r) c ≡ true) ⊎ Memᴰ c ds → (mark r c ≡ true) ⊎ Memᴰ c (d ∷ ds)
      go (inl z) = one z
      go (inr z) = inr (Memᴰ.tail z)

  pub enqueue_length : (ds : List ℕ) (r : Ring) → length (enqueue reachable ds r).queue ≤ length r.queue + length ds
  enqueue_length [] r = omega arith
  enqueue_length (d ∷ ds) r = omega (arith, enqueue_length ds (offered d r), offer-length d r)

  -- ── Taking the first ──

  pub pop_sound : (b : ℕ) (q : List ℕ) (r : Ring) → r.queue ≡ b ∷ q → SoundRing reachable n r → SoundRing reachable n (popped b q r)
  pop_sound b q r eq h = record {
    len = length-set r.marks b false ∙ h.len;
    marked = λ c e. marked' c (ℕ_discrete c b) e;
    queued = λ c m. queued' c m (ℕ_discrete c b);
    once = once'.1;
  }
    where
      once' : NoDup (b ∷ q)
      once' = rw eq at h.once

      other : (c : ℕ) → c ≢ b → get_or (set r.marks b false) c false ≡ mark r c
      other c ne = get_or-set_other r.marks b c false false ne

      b_in : b < length r.marks
      b_in = rw h.len (h.queued b (rw eq (Memᴰ.head refl))).2

      same_at : get_or (set r.marks b false) b false ≡ false
      same_at = get_or-set_same r.marks b false false b_in

      drop_head : (c : ℕ) → c ≢ b → (c ≡ b) ⊎ Memᴰ c q → Memᴰ c q
      drop_head c ne (inl e) = absurd (ne e)
      drop_head c ne (inr m) = m

      marked' : (c : ℕ) → Dec (c ≡ b) → get_or (set r.marks b false) c false ≡ true → Memᴰ c q
      marked' c (yes e) x = absurd (false≢true (sym same_at ∙ (rw e at x)))
      marked' c (no ne) x = drop_head c ne (Memᴰ.cases_cons (rw eq at (h.marked c (sym (other c ne) ∙ x))))

      queued' : (c : ℕ) → Memᴰ c q → Dec (c ≡ b) → (get_or (set r.marks b false) c false ≡ true) × (reachable c ≡ true) × (c < n)
      queued' c m (yes e) = absurd (once'.0 (rw e at m))
      queued' c m (no ne) = rw (other c ne) (h.queued c (rw eq (Memᴰ.tail m)))
