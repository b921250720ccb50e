-- What a search from a root keeps of the blocks that it has visited: each is waiting or done. `postorder` and `reachability` both keep it.
use mathlib.Core.Path.{◌≡◌, refl, sym, ◌∙◌}
use mathlib.Core.Bool.{Bool, true, false, true≢false}
use mathlib.Core.List.Memᴰ
use mathlib.Core.List.{List, [], ◌∷◌, ◌++◌, Memᴰ}
use mathlib.Core.Logic.{◌⊎◌, inl, inr, ◌↔◌, ◌≢◌}
use Prim.Native.Nat.{ℕ, ◌<◌}
use native.Mathlib.Decide.{ℕ_discrete}
use lib.ListN.{length, get_or, set, replicate, length-set, length-replicate}
use lib.Seq.{get_or-set_same, get_or-set_other}
use Rattle.dataflow.specs.Paths.{Path, stop, step}
use Rattle.dataflow.specs.Lists.{NoDup}
use Rattle.dataflow.proofs.Lists.{get_or-same}
use Rattle.dataflow.proofs.Paths.{path_snoc}

abbrev pub Visited : List Bool → ℕ → Type 0
Visited m b = get_or m b false ≡ true

-- some path leads from the root to b
abbrev pub From : (ℕ → List ℕ) → ℕ → ℕ → Type 0
From next root b = (l : List ℕ) × Path next root l b

-- once c is visited: c is, what was stays so, and no other becomes so
module _ (m : List Bool) (c : ℕ) (c_in : c < length m) where
  pub visited_it : Visited (set m c true) c
  visited_it = get_or-set_same m c true false c_in

  pub visited_still : (x : ℕ) → Visited m x → Visited (set m c true) x
  visited_still x q = go (ℕ_discrete x c)
    where
      go : Dec (x ≡ c) → Visited (set m c true) x
      go (yes z) = rw z visited_it
      go (no ne) = get_or-set_other m c x true false ne ∙ q

  visited-other : (x : ℕ) → x ≢ c → Visited (set m c true) x → Visited m x
  visited-other x ne q = sym (get_or-set_other m c x true false ne) ∙ q

module _ (next : ℕ → List ℕ) (n root : ℕ) where
  pub record Visits (m : List Bool) (waiting done : List ℕ) : Type 0 where
    pub len : length m ≡ n
    pub reach : (b : ℕ) → Visited m b → From next root b
    pub held : (b : ℕ) → Visited m b → Memᴰ b waiting ⊎ Memᴰ b done
    pub known : (b : ℕ) → Memᴰ b waiting ⊎ Memᴰ b done → Visited m b
    pub once_waiting : NoDup waiting
    pub once_done : NoDup done
    pub apart : (b : ℕ) → Memᴰ b waiting → ¬ (Memᴰ b done)
    pub rooted : Visited m root

  -- at the start the root is waiting
  pub visits_start : root < n → Visits (set (replicate n false) root true) (root ∷ []) []
  visits_start below = record {
    len = length-set (replicate n false) root true ∙ length-replicate n false;
    reach = λ b v. at_root b (ℕ_discrete b root) v;
    held = λ b v. opened b (ℕ_discrete b root) v;
    known = λ b m. is_root b m;
    once_waiting = ((λ m. Memᴰ.not-nil m), tt);
    once_done = tt;
    apart = λ b m m'. Memᴰ.not-nil m';
    rooted = visited-root;
  }
    where
      visited-root : Visited (set (replicate n false) root true) root
      visited-root = visited_it (replicate n false) root (rw (length-replicate n false) below)

      other : (b : ℕ) → b ≢ root → Visited (set (replicate n false) root true) b → ⊥
      other b ne v = true≢false (sym v ∙ (get_or-set_other (replicate n false) root b true false ne ∙ get_or-same n b false))

      at_root : (b : ℕ) → Dec (b ≡ root) → Visited (set (replicate n false) root true) b → From next root b
      at_root b (yes z) v = rw z ([], stop)
      at_root b (no ne) v = absurd (other b ne v)

      opened : (b : ℕ) → Dec (b ≡ root) → Visited (set (replicate n false) root true) b → Memᴰ b (root ∷ []) ⊎ Memᴰ b []
      opened b (yes z) v = inl (Memᴰ.head z)
      opened b (no ne) v = absurd (other b ne v)

      is_root : (b : ℕ) → Memᴰ b (root ∷ []) ⊎ Memᴰ b [] → Visited (set (replicate n false) root true) b
      is_root b (inl m) = rw (Memᴰ.eq_of_singleton m) visited-root
      is_root b (inr m) = absurd (Memᴰ.not-nil m)

  module _ (m : List Bool) (waiting done : List ℕ) where
    -- a successor c of a visited block b, itself not visited, is waiting
    pub visits_more : (b c : ℕ) → c < length m → Memᴰ c (next b) → Visited m b → get_or m c false ≡ false → Visits m waiting done
        → Visits (set m c true) (c ∷ waiting) done
    visits_more b c c_in mc vb e k = record {
      len = length-set m c true ∙ k.len;
      reach = λ x q. reach' x (ℕ_discrete x c) q;
      held = λ x q. held' x (ℕ_discrete x c) q;
      known = λ x q. known' x q;
      once_waiting = ((λ q. new (inl q)), k.once_waiting);
      once_done = k.once_done;
      apart = λ x q q'. apart' x (Memᴰ.cases_cons q) q';
      rooted = visited_still m c c_in root k.rooted;
    }
      where
        new : Memᴰ c waiting ⊎ Memᴰ c done → ⊥
        new q = true≢false (sym (k.known c q) ∙ e)

        to_c : From next root b → From next root c
        to_c w = (w.0 ++ (b ∷ []), path_snoc w.1 mc)

        reach' : (x : ℕ) → Dec (x ≡ c) → Visited (set m c true) x → From next root x
        reach' x (yes z) q = rw z (to_c (k.reach b vb))
        reach' x (no ne) q = k.reach x (visited-other m c c_in x ne q)

        held' : (x : ℕ) → Dec (x ≡ c) → Visited (set m c true) x → Memᴰ x (c ∷ waiting) ⊎ Memᴰ x done
        held' x (yes z) q = inl (Memᴰ.head z)
        held' x (no ne) q = shift (k.held x (visited-other m c c_in x ne q))
          where
            shift : Memᴰ x waiting ⊎ Memᴰ x done → Memᴰ x (c ∷ waiting) ⊎ Memᴰ x done
            shift (inl z) = inl (Memᴰ.tail z)
            shift (inr z) = inr z

        known' : (x : ℕ) → Memᴰ x (c ∷ waiting) ⊎ Memᴰ x done → Visited (set m c true) x
        known' x (inr z) = visited_still m c c_in x (k.known x (inr z))
        known' x (inl z) = split (Memᴰ.cases_cons z)
          where
            split : (x ≡ c) ⊎ Memᴰ x waiting → Visited (set m c true) x
            split (inl q) = rw q (visited_it m c c_in)
            split (inr q) = visited_still m c c_in x (k.known x (inl q))

        apart' : (x : ℕ) → (x ≡ c) ⊎ Memᴰ x waiting → Memᴰ x done → ⊥
        apart' x (inl z) q = new (inr (rw z at q))
        apart' x (inr z) q = k.apart x z q

    -- the first that is waiting is done
    pub visits_done : (b : ℕ) → Visits m (b ∷ waiting) done → Visits m waiting (b ∷ done)
    visits_done b k = record {
      len = k.len;
      reach = k.reach;
      held = λ c v. held' c (k.held c v);
      known = λ c q. k.known c (known' c q);
      once_waiting = k.once_waiting.1;
      once_done = (k.apart b (Memᴰ.head refl), k.once_done);
      apart = λ c q q'. apart' c q (Memᴰ.cases_cons q');
      rooted = k.rooted;
    }
      where
        held' : (c : ℕ) → Memᴰ c (b ∷ waiting) ⊎ Memᴰ c done → Memᴰ c waiting ⊎ Memᴰ c (b ∷ done)
        held' c (inr q) = inr (Memᴰ.tail q)
        held' c (inl q) = go (Memᴰ.cases_cons q)
          where
            go : (c ≡ b) ⊎ Memᴰ c waiting → Memᴰ c waiting ⊎ Memᴰ c (b ∷ done)
            go (inl z) = inr (Memᴰ.head z)
            go (inr z) = inl z

        known' : (c : ℕ) → Memᴰ c waiting ⊎ Memᴰ c (b ∷ done) → Memᴰ c (b ∷ waiting) ⊎ Memᴰ c done
        known' c (inl q) = inl (Memᴰ.tail q)
        known' c (inr q) = go (Memᴰ.cases_cons q)
          where
            go : (c ≡ b) ⊎ Memᴰ c done → Memᴰ c (b ∷ waiting) ⊎ Memᴰ c done
            go (inl z) = inl (Memᴰ.head z)
            go (inr z) = inr z

        apart' : (c : ℕ) → Memᴰ c waiting → (c ≡ b) ⊎ Memᴰ c done → ⊥
        apart' c q (inl z) = k.once_waiting.0 (rw z at q)
        apart' c q (inr z) = k.apart c (Memᴰ.tail q) z

  -- With none waiting, and the successors of all that is done visited, what is visited is what paths reach,
  module _ (m : List Bool) (done : List ℕ) (k : Visits m [] done) (closed : (b : ℕ) → Memᴰ b done → (c : ℕ) → Memᴰ c (next b) → Visited m c) where
    in_done : (b : ℕ) → Memᴰ b [] ⊎ Memᴰ b done → Memᴰ b done
    in_done b (inl q) = absurd (Memᴰ.not-nil q)
    in_done b (inr q) = q

    pub visits_exact : (b : ℕ) → Visited m b ↔ From next root b
    visits_exact b = (k.reach b, λ r. along r.1 k.rooted)
      where
        along : {a z : ℕ} {l : List ℕ} → Path next a l z → Visited m a → Visited m z
        along stop v = v
        along (step {i = a} {j = c} q w) v = along w (closed a (in_done a (k.held a v)) c q)

    -- and it is done, each once
    pub done_exact : NoDup done × ((b : ℕ) → Memᴰ b done ↔ From next root b)
    done_exact = (
      k.once_done,
      λ b. ((λ q. (visits_exact b).0 (k.known b (inr q))), λ r. in_done b (k.held b ((visits_exact b).1 r))),
    )
