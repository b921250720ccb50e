-- Laws of lists.
use mathlib.Core.Path.{◌≡◌, refl, sym, ◌∙◌, ap, ap₂, subst}
use mathlib.Core.Bool.{Bool, true, false, true≢false, false≢true, or-true}
use mathlib.Core.List.Memᴰ
use mathlib.Core.List.{List, [], ◌∷◌, ◌++◌, map, reverse_aux, Memᴰ}
use mathlib.Core.Logic.{◌⊎◌, inl, inr}
use Prim.Native.Nat.{ℕ, zero, suc, ◌+◌, ◌≤◌, ◌<◌}
use native.Mathlib.Omega.{arith}
use native.Mathlib.Nat.{add-zero, zero-add}
use native.Mathlib.Numerals.{add-one}
use lib.ListN.{length, get_or, set, replicate, length-append}
use lib.Dec.{eqb}
use Rattle.dataflow.specs.Lists.{pick, tabulate, range, sum, every, some, keep, elem, NoDup}
use Rattle.dataflow.proofs.Bools.{and_left, and_right, and_no, or_yes, eqb_is, eqb-self}

-- ── Tables ──

module _ {A : Type 0} where
  pub length_tabulate : (k n : ℕ) (f : ℕ → A) → length (tabulate k n f) ≡ n
  length_tabulate k zero f = refl
  length_tabulate k (suc n) f = ap suc (length_tabulate (suc k) n f)

  pub get_d_tabulate : (k n i : ℕ) (f : ℕ → A) (d : A) → i < n → get_or (tabulate k n f) i d ≡ f (k + i)
  get_d_tabulate k zero i f d lt = absurd (omega arith)
  get_d_tabulate k (suc n) zero f d lt = rw add-zero refl
  get_d_tabulate k (suc n) (suc i) f d lt = get_d_tabulate (suc k) n i f d (omega arith) ∙ ap f (omega arith)

  -- two tables agree if their entries do
  pub tabulate_among : (k n : ℕ) (f g : ℕ → A) → ((i : ℕ) → k ≤ i → i < k + n → f i ≡ g i) → tabulate k n f ≡ tabulate k n g
  tabulate_among k zero f g h = refl
  tabulate_among k (suc n) f g h =
      ap₂ (λ (a : A) (l : List A). a ∷ l) (h k (omega arith) (omega arith))
      (tabulate_among (suc k) n f g (λ i lo hi. h i (omega arith) (omega arith)))

  pub tabulate_ext : (k n : ℕ) (f g : ℕ → A) → ((i : ℕ) → f i ≡ g i) → tabulate k n f ≡ tabulate k n g
  tabulate_ext k n f g h = tabulate_among k n f g (λ i lo hi. h i)

  -- one entry again and again
  pub tabulate_same : (k n : ℕ) (d : A) → tabulate k n (λ i. d) ≡ replicate n d
  tabulate_same k zero d = refl
  tabulate_same k (suc n) d = ap (λ (l : List A). d ∷ l) (tabulate_same (suc k) n d)

  -- a table in two parts
  pub tabulate_append : (k m n : ℕ) (f : ℕ → A) → tabulate k (m + n) f ≡ tabulate k m f ++ tabulate (k + m) n f
  tabulate_append k zero n f = ap₂ (λ (i j : ℕ). tabulate i j f) (sym (add-zero k)) (zero-add n)
  tabulate_append k (suc m) n f =
      let e : k + suc m ≡ suc k + m = omega arith in
      let g : suc m + n ≡ suc (m + n) = omega arith in
      rw (e, g) (ap (λ (l : List A). f k ∷ l) (tabulate_append (suc k) m n f))

-- a number of a table is no more than their sum
pub sum-tabulate : (k n i : ℕ) (f : ℕ → ℕ) → i < n → f (k + i) ≤ sum (tabulate k n f)
sum-tabulate k zero i f lt = absurd (omega arith)
sum-tabulate k (suc n) zero f lt = rw (add-zero k) (omega arith)
sum-tabulate k (suc n) (suc i) f lt = let e : k + suc i ≡ suc k + i = omega arith in rw e (omega (arith, sum-tabulate (suc k) n i f (omega arith)))

pub mem-range : (k n i : ℕ) → i < n → Memᴰ (k + i) (range k n)
mem-range k zero i lt = absurd (omega arith)
mem-range k (suc n) zero lt = Memᴰ.head (add-zero k)
mem-range k (suc n) (suc i) lt =
    Memᴰ.tail (subst (λ (j : ℕ). Memᴰ j (range (suc k) n)) (omega arith) (mem-range (suc k) n i (omega arith)))

-- the number at place i, and how many there are
pub range_at : (n i : ℕ) → i < n → get_or (range 0 n) i 0 ≡ i
range_at n i lt = get_d_tabulate 0 n i (λ j. j) 0 lt ∙ zero-add i

pub range_length : (k n : ℕ) → length (range k n) ≡ n
range_length k n = length_tabulate k n (λ j. j)

pub range-append : (k m n : ℕ) → range k (m + n) ≡ range k m ++ range (k + m) n
range-append k m n = tabulate_append k m n (λ i. i)

-- with one more
pub range_snoc : (k n : ℕ) → range k (suc n) ≡ range k n ++ ((k + n) ∷ [])
range_snoc k n = ap (range k) (sym (add-one n)) ∙ range-append k n 1

-- the numbers of a range lie in it
pub range-bounds : (k n y : ℕ) → Memᴰ y (range k n) → (k ≤ y) × (y < k + n)
range-bounds k zero y m = absurd (Memᴰ.not-nil m)
range-bounds k (suc n) y m = go (Memᴰ.cases_cons m) (λ m'. range-bounds (suc k) n y m')
  where
    go : (y ≡ k) ⊎ Memᴰ y (range (suc k) n) → (Memᴰ y (range (suc k) n) → (suc k ≤ y) × (y < suc k + n)) → (k ≤ y) × (y < k + suc n)
    go (inl e) below = (omega (arith, e), omega (arith, e))
    go (inr m') below = let z = below m' in (omega (arith, z.0), omega (arith, z.1))

-- ── Lists seen through a function ──

module _ {A B : Type 0} (f : A → B) where
  pub map_at : (l : List A) (i : ℕ) (a : A) (b : B) → i < length l → get_or (map f l) i b ≡ f (get_or l i a)
  map_at [] i a b lt = absurd (omega arith)
  map_at (x ∷ l) zero a b lt = refl
  map_at (x ∷ l) (suc i) a b lt = map_at l i a b (omega arith)

  pub map_set : (l : List A) (i : ℕ) (a : A) → map f (set l i a) ≡ set (map f l) i (f a)
  map_set [] i a = refl
  map_set (x ∷ l) zero a = refl
  map_set (x ∷ l) (suc i) a = ap (λ (z : List B). f x ∷ z) (map_set l i a)

-- a list without a place is empty
pub no_place : {A : Type 0} (l : List A) → length l ≤ 0 → l ≡ []
no_place [] h = refl
no_place (x ∷ l) h = absurd (omega arith)

-- ── What is kept of a list ──

pub keep_append : (f : ℕ → Bool) (l m : List ℕ) → keep f (l ++ m) ≡ keep f l ++ keep f m
keep_append f [] m = refl
keep_append f (x ∷ l) m = go (f x) (keep_append f l m)
  where
    go : (t : Bool) → keep f (l ++ m) ≡ keep f l ++ keep f m
        → pick t (x ∷ keep f (l ++ m)) (keep f (l ++ m)) ≡ pick t (x ∷ keep f l) (keep f l) ++ keep f m
    go true e = ap (λ (z : List ℕ). x ∷ z) e
    go false e = e

-- so many are kept of two lists
pub keep-both : (f : ℕ → Bool) (l m : List ℕ) → length (keep f (l ++ m)) ≡ length (keep f l) + length (keep f m)
keep-both f l m = ap length (keep_append f l m) ∙ length-append (keep f l) (keep f m)

-- what is kept stands in the list and passes the test
pub keep-mem : (f : ℕ → Bool) (l : List ℕ) (y : ℕ) → Memᴰ y (keep f l) → Memᴰ y l × (f y ≡ true)
keep-mem f [] y m = absurd (Memᴰ.not-nil m)
keep-mem f (x ∷ l) y m = go (f x) refl m (λ m'. let z = keep-mem f l y m' in (Memᴰ.tail z.0, z.1))
  where
    here : f x ≡ true → (y ≡ x) ⊎ Memᴰ y (keep f l) → (Memᴰ y (keep f l) → Memᴰ y (x ∷ l) × (f y ≡ true))
        → Memᴰ y (x ∷ l) × (f y ≡ true)
    here e (inl q) below = (Memᴰ.head q, ap f q ∙ e)
    here e (inr m') below = below m'

    go : (t : Bool) → f x ≡ t → Memᴰ y (pick t (x ∷ keep f l) (keep f l)) → (Memᴰ y (keep f l) → Memᴰ y (x ∷ l) × (f y ≡ true))
        → Memᴰ y (x ∷ l) × (f y ≡ true)
    go true e m below = here e (Memᴰ.cases_cons m) below
    go false e m below = below m

-- no more are kept than there are
pub keep-few : (f : ℕ → Bool) (l : List ℕ) → length (keep f l) ≤ length l
keep-few f [] = omega arith
keep-few f (x ∷ l) = go (f x) (keep-few f l)
  where
    go : (t : Bool) → length (keep f l) ≤ length l → length (pick t (x ∷ keep f l) (keep f l)) ≤ suc (length l)
    go true h = omega arith
    go false h = omega arith

-- ── Tests over lists ──

module _ {A : Type 0} where
  pub every_ext : (f g : A → Bool) (l : List A) → ((a : A) → Memᴰ a l → f a ≡ g a) → every f l ≡ every g l
  every_ext f g [] h = refl
  every_ext f g (a ∷ l) h = rw (h a (Memᴰ.head refl), every_ext f g l (λ b m. h b (Memᴰ.tail m))) refl

  pub some_ext : (f g : A → Bool) (l : List A) → ((a : A) → Memᴰ a l → f a ≡ g a) → some f l ≡ some g l
  some_ext f g [] h = refl
  some_ext f g (a ∷ l) h = rw (h a (Memᴰ.head refl), some_ext f g l (λ b m. h b (Memᴰ.tail m))) refl

  pub every_at : (f : A → Bool) (l : List A) → every f l ≡ true → (a : A) → Memᴰ a l → f a ≡ true
  every_at f [] e a m = absurd (Memᴰ.not-nil m)
  every_at f (b ∷ l) e a m = go (Memᴰ.cases_cons m) (λ m'. every_at f l (and_right (f b) _ e) a m')
    where
      go : (a ≡ b) ⊎ Memᴰ a l → (Memᴰ a l → f a ≡ true) → f a ≡ true
      go (inl q) below = rw q (and_left (f b) (every f l) e)
      go (inr m') below = below m'

  pub every_no : (f : A → Bool) (l : List A) → every f l ≡ false → (a : A) × Memᴰ a l × (f a ≡ false)
  every_no f [] e = absurd (true≢false e)
  every_no f (b ∷ l) e = go (and_no (f b) _ e) (λ e'. every_no f l e')
    where
      go : (f b ≡ false) ⊎ (every f l ≡ false) → (every f l ≡ false → (a : A) × Memᴰ a l × (f a ≡ false)) → (a : A) × Memᴰ a (b ∷ l)
          × (f a ≡ false)
      go (inl q) below = (b, Memᴰ.head refl, q)
      go (inr q) below = let z = below q in (z.0, Memᴰ.tail z.1, z.2)

  pub every_to : (f : A → Bool) (l : List A) → ((a : A) → Memᴰ a l → f a ≡ true) → every f l ≡ true
  every_to f [] h = refl
  every_to f (b ∷ l) h = rw (h b (Memᴰ.head refl)) (every_to f l (λ a m. h a (Memᴰ.tail m)))

  pub some_at : (f : A → Bool) (l : List A) → some f l ≡ true → (a : A) × Memᴰ a l × (f a ≡ true)
  some_at f [] e = absurd (false≢true e)
  some_at f (b ∷ l) e = go (or_yes (f b) _ e) (λ e'. some_at f l e')
    where
      go : (f b ≡ true) ⊎ (some f l ≡ true) → (some f l ≡ true → (a : A) × Memᴰ a l × (f a ≡ true)) → (a : A) × Memᴰ a (b ∷ l)
          × (f a ≡ true)
      go (inl q) below = (b, Memᴰ.head refl, q)
      go (inr q) below = let z = below q in (z.0, Memᴰ.tail z.1, z.2)

  pub some_to : (f : A → Bool) (l : List A) (a : A) → Memᴰ a l → f a ≡ true → some f l ≡ true
  some_to f [] a m e = absurd (Memᴰ.not-nil m)
  some_to f (b ∷ l) a m e = go (Memᴰ.cases_cons m) (λ m'. some_to f l a m' e)
    where
      go : (a ≡ b) ⊎ Memᴰ a l → (Memᴰ a l → some f l ≡ true) → some f (b ∷ l) ≡ true
      go (inl q) below = rw (← q, e) refl
      go (inr m') below = rw (below m') (or-true (f b))

pub elem_mem : (s : ℕ) (l : List ℕ) → elem s l ≡ true → Memᴰ s l
elem_mem s l e = let z = some_at (λ t. eqb s t) l e in subst (λ (k : ℕ). Memᴰ k l) (sym (eqb_is s z.0 z.2)) z.1

pub mem-elem : (s : ℕ) (l : List ℕ) → Memᴰ s l → elem s l ≡ true
mem-elem s l m = some_to (λ t. eqb s t) l s m (eqb-self s)

-- ── Places ──

module _ {A : Type 0} (Q : A → Type 0) where
  -- Q holds of each
  abbrev pub All : List A → Type 0
  All [] = Unit {0}
  All (x ∷ l) = Q x × All l

  pub all_get_d : (l : List A) (b : ℕ) (d : A) → All l → Q (get_or l b d) ⊎ (get_or l b d ≡ d)
  all_get_d [] b d h = inr refl
  all_get_d (x ∷ l) zero d h = inl h.0
  all_get_d (x ∷ l) (suc b) d h = all_get_d l b d h.1

pub mem-get_or : {A : Type 0} (l : List A) (i : ℕ) (d : A) → i < length l → Memᴰ (get_or l i d) l
mem-get_or [] i d lt = absurd (omega arith)
mem-get_or (x ∷ l) zero d lt = Memᴰ.head refl
mem-get_or (x ∷ l) (suc i) d lt = Memᴰ.tail (mem-get_or l i d (omega arith))

-- what stands in a list has a place there
pub mem-place : {A : Type 0} (l : List A) (a d : A) → Memᴰ a l → (i : ℕ) × (i < length l) × (get_or l i d ≡ a)
mem-place [] a d m = absurd (Memᴰ.not-nil m)
mem-place (x ∷ l) a d m = go (Memᴰ.cases_cons m) (λ m'. mem-place l a d m')
  where
    go : (a ≡ x) ⊎ Memᴰ a l → (Memᴰ a l → (i : ℕ) × (i < length l) × (get_or l i d ≡ a)) → (i : ℕ) × (i < suc (length l)) × (get_or (x ∷ l) i d ≡ a)
    go (inl e) below = (0, omega arith, sym e)
    go (inr m') below = let z = below m' in (suc z.0, omega (arith, z.1), z.2)

pub get_or-same : {A : Type 0} (n i : ℕ) (d : A) → get_or (replicate n d) i d ≡ d
get_or-same zero i d = refl
get_or-same (suc n) zero d = refl
get_or-same (suc n) (suc i) d = get_or-same n i d

-- ── Lists in which nothing stands twice ──

pub nodup_snoc : (l : List ℕ) (d : ℕ) → NoDup l → ¬ (Memᴰ d l) → NoDup (l ++ (d ∷ []))
nodup_snoc [] d h n = ((λ m. Memᴰ.not-nil m), tt)
nodup_snoc (x ∷ l) d h n = (fresh, nodup_snoc l d h.1 (λ m. n (Memᴰ.tail m)))
  where
    single : Memᴰ x l ⊎ Memᴰ x (d ∷ []) → ⊥
    single (inl m) = h.0 m
    single (inr m) = n (Memᴰ.head (sym (Memᴰ.eq_of_singleton m)))

    fresh : Memᴰ x (l ++ (d ∷ [])) → ⊥
    fresh m = single (Memᴰ.append_cases l m)

pub nodup_reverse : (l r : List ℕ) → NoDup l → NoDup r → ((x : ℕ) → Memᴰ x l → ¬ (Memᴰ x r)) → NoDup (reverse_aux l r)
nodup_reverse [] r a b d = b
nodup_reverse (y ∷ l) r a b d = nodup_reverse l (y ∷ r) a.1 (d y (Memᴰ.head refl), b) (λ x m m'. go x m (Memᴰ.cases_cons m'))
  where
    go : (x : ℕ) → Memᴰ x l → (x ≡ y) ⊎ Memᴰ x r → ⊥
    go x m (inl e) = a.0 (rw e at m)
    go x m (inr q) = d x (Memᴰ.tail m) q

pub reverse-mem : (l r : List ℕ) (x : ℕ) → Memᴰ x (reverse_aux l r) → Memᴰ x l ⊎ Memᴰ x r
reverse-mem [] r x m = inr m
reverse-mem (y ∷ l) r x m = go (reverse-mem l (y ∷ r) x m)
  where
    side : (x ≡ y) ⊎ Memᴰ x r → Memᴰ x (y ∷ l) ⊎ Memᴰ x r
    side (inl e) = inl (Memᴰ.head e)
    side (inr m) = inr m

    go : Memᴰ x l ⊎ Memᴰ x (y ∷ r) → Memᴰ x (y ∷ l) ⊎ Memᴰ x r
    go (inl m) = inl (Memᴰ.tail m)
    go (inr m) = side (Memᴰ.cases_cons m)

pub mem-reverse : (l r : List ℕ) (x : ℕ) → Memᴰ x l ⊎ Memᴰ x r → Memᴰ x (reverse_aux l r)
mem-reverse [] r x (inl m) = absurd (Memᴰ.not-nil m)
mem-reverse [] r x (inr m) = m
mem-reverse (y ∷ l) r x (inr m) = mem-reverse l (y ∷ r) x (inr (Memᴰ.tail m))
mem-reverse (y ∷ l) r x (inl m) = mem-reverse l (y ∷ r) x (go (Memᴰ.cases_cons m))
  where
    go : (x ≡ y) ⊎ Memᴰ x l → Memᴰ x l ⊎ Memᴰ x (y ∷ r)
    go (inl e) = inr (Memᴰ.head e)
    go (inr m) = inl m
