-- The code's table holds the patterns, and what the patterns are like, by tests that are computed at each field of each kind. Assumes nothing.
use mathlib.Core.Path.{◌≡◌, refl, ap, sym, ◌∙◌}
use mathlib.Core.Bool.{Bool, true, false}
use mathlib.Core.List.{List, [], ◌∷◌, map}
use Prim.Native.Nat.{ℕ, zero, suc, ◌+◌, ◌-◌, ◌*◌, ◌≤◌, ◌<◌}
use native.Mathlib.Omega.{arith}
use lib.Dec.{T, eqb, ltb, leb, eqb→eq, ltb→lt}
use borrow.Author.Tests.{eq-eqb, le-leb, ltb-true, ltb-false, eqb-true, leb-true}
use lib.ListN.{get_or}
use Rattle.operands.specs.Choice.{pick}
use Rattle.operands.specs.Places.{Place, one, optional, rest}
use Rattle.operands.specs.Patterns.{D, S, Sopt, Dopt, groups, pattern_in, pattern_of, role_in, role_at, single_of, fixed_at, list_at, fits}
use Rattle.operands.specs.ByPattern.{places_from}
use Rattle.operands.specs.Roles.{role_number}
use Rattle.operands.specs.declared.pattern.Row.{Row}
use Rattle.operands.specs.declared.pattern.TheConstants.{PATTERNS}
use Rattle.operands.proofs.Table.{at_kind, at_field}

-- a pattern as five octal digits, how many single fields there are and then the roles, field 0 first: a row of the code's table, and the pattern
-- of kind k
abbrev row_word : Row → ℕ
row_word r = 4096 * r.0 + 512 * role_number r.1 + 64 * role_number r.2 + 8 * role_number r.3 + role_number r.4

unfoldable pub word_of : ℕ → ℕ
word_of k = 4096 * fixed_at k + 512 * role_at k 0 + 64 * role_at k 1 + 8 * role_at k 2 + role_at k 3

-- the numbers of `PATTERNS`
abbrev pub words : List ℕ
words = map row_word PATTERNS

unfoldable own : ℕ → Bool
own k = eqb (get_or words (k - 1) 0) (word_of k)

all_own : (k : ℕ) → 1 ≤ k → k ≤ 41 → T (own k)
unfolding own word_of pattern_of pattern_in groups role_in role_at fixed_at
all_own = at_kind own tt

-- the row that `Pattern::of` reads
pub word_at : (k : ℕ) → 1 ≤ k → k ≤ 41 → get_or words (k - 1) 0 ≡ word_of k
unfolding own
word_at k l h = eqb→eq (get_or words (k - 1) 0) (word_of k) (all_own k l h)

-- whether there is no place
abbrev pub has_no_place : List Place → Bool
has_no_place [] = true
has_no_place (p ∷ ps) = false

-- then the list is empty
pub no_place : (ps : List Place) → T (has_no_place ps) → ps ≡ []
no_place [] t = refl
no_place (p ∷ ps) t = absurd t

-- no field after field 0 is an output
unfoldable inner : ℕ → Bool
inner k = has_no_place (places_from D Dopt k 1 3)

all-inner : (k : ℕ) → 1 ≤ k → k ≤ 41 → T (inner k)
unfolding inner pattern_of pattern_in groups role_in role_at places_from
all-inner = at_kind inner tt

pub outputs-first : (k : ℕ) → 1 ≤ k → k ≤ 41 → places_from D Dopt k 1 3 ≡ []
unfolding inner
outputs-first k l h = no_place (places_from D Dopt k 1 3) (all-inner k l h)

role_last : (k j : ℕ) → 3 ≤ j → role_at k 3 ≡ role_at k j
unfolding role_at
role_last k j m = ap (λ (x : ℕ). role_in (pattern_of k) x) (omega arith)

-- at most four fields are single
pub fixed-few : (k : ℕ) → fixed_at k ≤ 4
unfolding fixed_at
fixed-few k =
    let a = one_at_most (role_at k 0) in
    let b = one_at_most (role_at k 1) in
    let c = one_at_most (role_at k 2) in
    let d = one_at_most (role_at k 3) in
    omega arith
  where
    one_at_most : (r : ℕ) → single_of r ≤ 1
    one_at_most r = go (eqb r 0) (eqb r 7)
      where
        go : (p q : Bool) → pick p 0 (pick q 0 1) ≤ 1
        go true q = omega arith
        go false true = omega arith
        go false false = omega arith

-- a single field stands before the first of L
unfoldable early : ℕ → ℕ → Bool
early k j = pick (eqb (single_of (role_at k j)) 1) (ltb j (fixed_at k)) true

all-early : (k j : ℕ) → 1 ≤ k → k ≤ 41 → j < 4 → T (early k j)
unfolding early pattern_of pattern_in groups role_in role_at fixed_at
all-early = at_field early tt

pub single-early : (k j : ℕ) → 1 ≤ k → k ≤ 41 → j < 4 → single_of (role_at k j) ≡ 1 → j < fixed_at k
unfolding early
single-early k j l h m e = ltb→lt j (fixed_at k) (rw (eq-eqb _ _ e) at (all-early k j l h m))

-- the n-th place if it and those before it are there in any case, else 9
unfoldable pub one_at : List Place → ℕ → ℕ
one_at [] n = 9
one_at (one j ∷ ps) zero = j
one_at (one j ∷ ps) (suc n) = one_at ps n
one_at (optional j ∷ ps) n = 9
one_at (rest j ∷ ps) n = 9

-- inputs S stand together from field 0 or 1 on, before any S?
unfoldable direct : ℕ → ℕ → Bool
direct k n =
    let f : ℕ = pick (eqb (role_at k 0) S) 0 1 in
    pick (eqb (role_at k (f + n)) S) (eqb (one_at (places_from S Sopt k 0 4) n) (f + n)) true

all_direct : (k n : ℕ) → 1 ≤ k → k ≤ 41 → n < 4 → T (direct k n)
unfolding direct pattern_of pattern_in groups role_in role_at places_from one_at
all_direct = at_field direct tt

pub inputs-direct : (k n : ℕ) → 1 ≤ k → k ≤ 41 → n < 4 → role_at k (pick (eqb (role_at k 0) S) 0 1 + n) ≡ S
    → one_at (places_from S Sopt k 0 4) n ≡ pick (eqb (role_at k 0) S) 0 1 + n
unfolding direct
inputs-direct k n l h m e = eqb→eq _ _ (rw (eq-eqb _ _ e) at (all_direct k n l h m))

-- after the single fields each field of a kind with L is L
unfoldable late : ℕ → ℕ → Bool
late k j = pick (list_at k) (pick (leb (fixed_at k) j) (eqb (role_at k j) 7) true) true

all-late : (k j : ℕ) → 1 ≤ k → k ≤ 41 → j < 4 → T (late k j)
unfolding late pattern_of pattern_in groups role_in role_at fixed_at list_at
all-late = at_field late tt

late-four : (k j : ℕ) → 1 ≤ k → k ≤ 41 → j < 4 → list_at k ≡ true → fixed_at k ≤ j → role_at k j ≡ 7
unfolding late
late-four k j l h m e f = eqb→eq (role_at k j) 7 (rw (e, le-leb (fixed_at k) j f) at (all-late k j l h m))

pub role_late : (k j : ℕ) → 1 ≤ k → k ≤ 41 → list_at k ≡ true → fixed_at k ≤ j → role_at k j ≡ 7
unfolding list_at
role_late k j l h e f = go (ltb j 3) refl
  where
    go : (b : Bool) → ltb j 3 ≡ b → role_at k j ≡ 7
    go true b = late-four k j l h (omega (arith, ltb-true j 3 b)) e f
    go false b = sym (role_last k j (ltb-false j 3 b)) ∙ eqb-true (role_at k 3) 7 e

-- a record that fits has all single fields
pub fixed-there : (k n : ℕ) → fits k n ≡ true → fixed_at k ≤ n
unfolding fits
fixed-there k n e = go (list_at k) e
  where
    go : (q : Bool) → pick q (leb (fixed_at k) n) (eqb n (fixed_at k)) ≡ true → fixed_at k ≤ n
    go true e = leb-true (fixed_at k) n e
    go false e = let q = eqb-true n (fixed_at k) e in omega arith

-- a single field that the pattern names is there
pub field_there : (k n j : ℕ) → 1 ≤ k → k ≤ 41 → fits k n ≡ true → j < 4 → single_of (role_at k j) ≡ 1 → j < n
field_there k n j l h f m s =
    let most = fixed-there k n f in
    let here = single-early k j l h m s in
    omega arith
