-- Gathering the values at places: the single operands field by field. Assumes nothing.
use mathlib.Core.Path.{◌≡◌, refl, ap, sym, ◌∙◌}
use mathlib.Core.Bool.{Bool, true, false}
use mathlib.Core.List.{List, [], ◌∷◌, ◌++◌, append_assoc}
use Prim.Native.Nat.{ℕ, zero, suc, ◌+◌, ◌-◌, ◌≤◌, ◌<◌}
use native.Mathlib.Omega.{arith}
use lib.Dec.{eqb}
use lib.ListN.{length, get_or, drop, length-append}
use borrow.Author.Tests.{ne_eqb}
use Rattle.std.specs.Prelude.{Option, Some, None, MatchOption, is_some}
use Rattle.operands.specs.Choice.{pick}
use Rattle.operands.specs.Places.{Place, one, optional, rest, absent, present, gathered}
use Rattle.operands.specs.Patterns.{role_at, single_of, fixed_at}
use Rattle.operands.specs.ByPattern.{single_place, places_from}
use Rattle.operands.specs.Instructions.{nth, single_values, singles_from}
use Rattle.operands.proofs.PatternLaws.{single-early, one_at}

-- gathering at places one after the other
pub gathered-append : (ps qs : List Place) (v : List ℕ) → gathered (ps ++ qs) v ≡ gathered ps v ++ gathered qs v
unfolding gathered
gathered-append [] qs v = refl
gathered-append (one j ∷ ps) qs v = ap (λ (l : List ℕ). get_or v j absent ∷ l) (gathered-append ps qs v)
gathered-append (optional j ∷ ps) qs v =
    ap (λ (l : List ℕ). present (get_or v j absent) l) (gathered-append ps qs v)
    ∙ go (eqb (get_or v j absent) absent)
  where
    go : (b : Bool) → pick b (gathered ps v ++ gathered qs v) (get_or v j absent ∷ (gathered ps v ++ gathered qs v))
        ≡ pick b (gathered ps v) (get_or v j absent ∷ gathered ps v) ++ gathered qs v
    go true = refl
    go false = refl
gathered-append (rest j ∷ ps) qs v =
    ap (λ (l : List ℕ). drop j v ++ l) (gathered-append ps qs v) ∙ sym (append_assoc (drop j v) (gathered ps v) (gathered qs v))

-- the values at a single place
pub single-gathered : (a b role j : ℕ) (v : List ℕ) → gathered (single_place a b role j) v ≡ single_values a b role (get_or v j absent)
unfolding gathered
single-gathered a b role j v = go (eqb role a) (eqb role b)
  where
    go : (p q : Bool) → gathered (pick p (one j ∷ []) (pick q (optional j ∷ []) [])) v ≡ pick p (get_or v j absent ∷ []) (pick q (present (get_or v j absent) []) [])
    go true q = refl
    go false true = refl
    go false false = refl

-- one field more
pub singles-more : (a b k j left : ℕ) (v : List ℕ) → 0 < left
    → gathered (places_from a b k j left) v ≡ single_values a b (role_at k j) (get_or v j absent) ++ gathered (places_from a b k (j + 1) (left - 1)) v
unfolding places_from
singles-more a b k j zero v h = absurd (omega arith)
singles-more a b k j (suc left) v h =
    let q : suc left - 1 ≡ left = omega arith in
    rw (q, gathered-append (single_place a b (role_at k j) j) (places_from a b k (j + 1) left) v, single-gathered a b (role_at k j) j v)

-- there is at most one value in a single place
pub single-few : (a b role x : ℕ) → length (single_values a b role x) ≤ 1
single-few a b role x = go (eqb role a) (eqb role b) (eqb x absent)
  where
    go : (p q r : Bool) → length (pick p (x ∷ []) (pick q (pick r [] (x ∷ [])) [])) ≤ 1
    go true q r = omega arith
    go false true true = omega arith
    go false true false = omega arith
    go false false r = omega arith

-- so its first tells it
none_alone : (l : List ℕ) → None ≡ nth l 0 → l ≡ []
none_alone [] e = refl
none_alone (x ∷ l) e = cc

some_alone : (l : List ℕ) (x : ℕ) → length l ≤ 1 → Some x ≡ nth l 0 → l ≡ x ∷ []
some_alone [] x h e = cc
some_alone (y ∷ []) x h e = cc
some_alone (y ∷ z ∷ l) x h e = absurd (omega arith)

-- and how many there are
pub single-counted : (a b role x : ℕ)
    → MatchOption (nth (single_values a b role x) 0) (length (single_values a b role x) ≡ 0) (λ y. length (single_values a b role x) ≡ 1)
single-counted a b role x = go (single_values a b role x) (single-few a b role x)
  where
    go : (l : List ℕ) → length l ≤ 1 → MatchOption (nth l 0) (length l ≡ 0) (λ y. length l ≡ 1)
    go [] h = refl
    go (y ∷ []) h = refl
    go (y ∷ z ∷ l) h = absurd (omega arith)

-- and it is the i-th where one is left
pub nth-single : (a b role x : ℕ) (m : List ℕ) (i : ℕ) → i < length (single_values a b role x)
    → nth (single_values a b role x) 0 ≡ nth (single_values a b role x ++ m) i
nth-single a b role x m i h = go (single_values a b role x) (single-few a b role x) h
  where
    go : (l : List ℕ) → length l ≤ 1 → i < length l → nth l 0 ≡ nth (l ++ m) i
    go [] f h = absurd (omega arith)
    go (y ∷ []) f h = let z : i ≡ 0 = omega arith in rw z
    go (y ∷ z ∷ l) f h = absurd (omega arith)

-- the i-th of two lists
pub nth-second : (l m : List ℕ) (i : ℕ) → length l ≤ i → nth (l ++ m) i ≡ nth m (i - length l)
nth-second [] m i h = ap (nth m) (omega arith)
nth-second (x ∷ l) m zero h = absurd (omega arith)
nth-second (x ∷ l) m (suc i) h = nth-second l m i (omega arith) ∙ ap (nth m) (omega arith)

-- and at places that are there in any case
pub nth-one : (ps : List Place) (v : List ℕ) (n j : ℕ) → one_at ps n ≡ j → j < 9 → nth (gathered ps v) n ≡ Some (get_or v j absent)
unfolding one_at gathered
nth-one [] v n j e h = absurd (omega arith)
nth-one (one i ∷ ps) v zero j e h = rw e
nth-one (one i ∷ ps) v (suc n) j e h = nth-one ps v n j e h
nth-one (optional i ∷ ps) v n j e h = absurd (omega arith)
nth-one (rest i ∷ ps) v n j e h = absurd (omega arith)

-- at most one in each field
pub singles_few : (a b k j n : ℕ) (v : List ℕ) → length (gathered (places_from a b k j n) v) ≤ n
unfolding places_from gathered
singles_few a b k j zero v = omega arith
singles_few a b k j (suc n) v =
    let few = single-few a b (role_at k j) (get_or v j absent) in
    let rest = singles_few a b k (j + 1) n v in
    rw (gathered-append (single_place a b (role_at k j) j) (places_from a b k (j + 1) n) v, single-gathered a b (role_at k j) j v, length-append)
    (omega arith)

-- the step of an iterator over the single operands of a class, by what stands in field j
singles-step : (a b k : ℕ) (v : List ℕ) (j : ℕ) → j < 4
    → singles_from a b k v j ≡ single_values a b (role_at k j) (get_or v j absent) ++ singles_from a b k v (j + 1)
singles-step a b k v j h =
    singles-more a b k j (4 - j) v (omega arith)
    ∙ ap (λ (m : ℕ). single_values a b (role_at k j) (get_or v j absent) ++ gathered (places_from a b k (j + 1) m) v) (omega arith)

pub singles_skip : (a b k : ℕ) (v : List ℕ) (j : ℕ) → j < 4 → None ≡ nth (single_values a b (role_at k j) (get_or v j absent)) 0
    → singles_from a b k v j ≡ singles_from a b k v (j + 1)
singles_skip a b k v j h e =
    singles-step a b k v j h ∙ ap (λ (l : List ℕ). l ++ singles_from a b k v (j + 1)) (none_alone _ e)

pub singles_take : (a b k : ℕ) (v : List ℕ) (j x : ℕ) → j < 4 → Some x ≡ nth (single_values a b (role_at k j) (get_or v j absent)) 0
    → singles_from a b k v j ≡ x ∷ singles_from a b k v (j + 1)
singles_take a b k v j x h e =
    singles-step a b k v j h
    ∙ ap (λ (l : List ℕ). l ++ singles_from a b k v (j + 1)) (some_alone _ x (single-few a b (role_at k j) (get_or v j absent)) e)

-- how many are left then
pub singles_one-more : (a b k : ℕ) (v : List ℕ) (j : ℕ) (o : Option ℕ) → j < 4 → o ≡ nth (single_values a b (role_at k j) (get_or v j absent)) 0
    → is_some o ≡ true → length (singles_from a b k v j) ≡ suc (length (singles_from a b k v (j + 1)))
singles_one-more a b k v j (Some x) h e s = ap length (singles_take a b k v j x h e)
singles_one-more a b k v j None h e s = cc

pub singles_no-more : (a b k : ℕ) (v : List ℕ) (j : ℕ) (o : Option ℕ) → j < 4 → o ≡ nth (single_values a b (role_at k j) (get_or v j absent)) 0
    → is_some o ≡ false → length (singles_from a b k v j) ≡ length (singles_from a b k v (j + 1))
singles_no-more a b k v j (Some x) h e s = cc
singles_no-more a b k v j None h e s = ap length (singles_skip a b k v j h e)

-- no single operand stands after the single fields
late-places : (a b k j n : ℕ) → single_of a ≡ 1 → single_of b ≡ 1 → 1 ≤ k → k ≤ 41 → fixed_at k ≤ j → (0 < n → j + n ≤ 4) → places_from a b k j n ≡ []
unfolding places_from
late-places a b k j zero p q l h f m = refl
late-places a b k j (suc n) p q l h f m =
    let i : j + suc n ≤ 4 = m (omega arith) in
    let early = single-early k j l h (omega arith) in
    let x = ne_eqb (role_at k j) a (λ e. absurd (let t = early (ap single_of e ∙ p) in omega arith)) in
    let y = ne_eqb (role_at k j) b (λ e. absurd (let t = early (ap single_of e ∙ q) in omega arith)) in
    rw (x, y) (late-places a b k (j + 1) n p q l h (omega arith) (λ z. omega arith))

pub singles_end : (a b k : ℕ) (v : List ℕ) (j : ℕ) → single_of a ≡ 1 → single_of b ≡ 1 → 1 ≤ k → k ≤ 41 → fixed_at k ≤ j
    → singles_from a b k v j ≡ []
unfolding gathered
singles_end a b k v j p q l h f = ap (λ (ps : List Place). gathered ps v) (late-places a b k j (4 - j) p q l h f (λ z. omega arith))
