-- Fields that fit: one by one, the listed ones, and all of an instruction. Assumes nothing.
use mathlib.Core.Path.{◌≡◌, refl, sym}
use mathlib.Core.Bool.{Bool, true, false, ◌||◌, ◌&&◌, not, and-false}
use mathlib.Core.List.{List, [], ◌∷◌, map}
use Prim.Native.Nat.{ℕ, zero, suc, ◌+◌, ◌-◌, ◌≤◌, ◌<◌}
use native.Mathlib.Omega.{arith}
use borrow.Author.Tests.{eqb-true, leb-false, ltb-true, ltb-false, lt-leb, le-leb}
use lib.Dec.{eqb, leb, ltb}
use lib.ListN.{length, get_or, take, drop}
use Rattle.std.specs.List.{AllWithin, enumerate_from}
use Rattle.std.proofs.lemmas.List.FromFn.{length-enumerate_from, get_or-enumerate_from}
use Rattle.operands.specs.Bytes.{number_in}
use Rattle.std.proofs.lemmas.List.{get_or-drop, get_or-take, length-take-le, length-drop, length-map, get_or-map, drop-map}
use Rattle.operands.specs.Choice.{pick}
use Rattle.operands.specs.Places.{absent}
use Rattle.operands.specs.Patterns.{Sopt, Dopt, T, M, L, role_at, fixed_at, list_at, fits}
use Rattle.operands.proofs.PatternLaws.{role_late, fixed-there}
use Rattle.std.proofs.lemmas.Bool.{or_parts}
use Rattle.format.specs.Fields.{optional, names_slot, bad_module, no_slot, no_target, any_field, any_above}
use Rattle.format.specs.Answers.{bound_of, Faultless, no_faults, FaultsIn}

-- one field, of any role
module _ (slots n role x : ℕ) where
  pub below_bound : x < bound_of slots n role → Faultless slots n role x
  unfolding bound_of bad_module no_slot no_target
  below_bound h = go (eqb role T) refl (eqb role M) refl
    where
      go : (a : Bool) → eqb role T ≡ a → (b : Bool) → eqb role M ≡ b → Faultless slots n role x
      go true a b e =
          let q = eqb-true role T a in
          let l : x < n = rw q at h in
          rw q (record { module-fits = refl; slot_there = refl; target_there = lt-leb n x l })
      go false a true b =
          let q = eqb-true role M b in
          let l : x < 65536 = rw q at h in
          rw q (record { module-fits = rw (le-leb x 65535 (omega arith)); slot_there = refl; target_there = refl })
      go false a false b =
          let l : x < slots = rw (a, b) at h in
          record { module-fits = rw b; slot_there = rw (lt-leb slots x l) (and-false (names_slot role)); target_there = rw a }

  pub absent_fits : optional role ≡ true → x ≡ absent → Faultless slots n role x
  unfolding bad_module no_slot no_target
  absent_fits h e = go (eqb role Sopt) refl (eqb role Dopt) refl h
    where
      away : (leb slots x && not (eqb x absent)) ≡ false
      away = rw e (and-false (leb slots absent))

      go : (a : Bool) → eqb role Sopt ≡ a → (b : Bool) → eqb role Dopt ≡ b → (a || b) ≡ true → Faultless slots n role x
      go true a b _ _ = rw (eqb-true role Sopt a) (record { module-fits = refl; slot_there = away; target_there = refl })
      go false a true b _ = rw (eqb-true role Dopt b) (record { module-fits = refl; slot_there = away; target_there = refl })
      go false a false b e = cc

-- a field of L
of_list : (slots n x : ℕ) → x < slots → Faultless slots n L x
unfolding bound_of
of_list slots n x h = below_bound slots n L x h

-- numbers with none at or above a bound
all-below : (bound : ℕ) (v : List ℕ) → any_above bound v ≡ false → (i : ℕ) → i < length v → get_or v i 0 < bound
unfolding any_above
all-below bound [] e i h = absurd (omega arith)
all-below bound (x ∷ v) e zero h = leb-false bound x (or_parts (leb bound x) (any_above bound v) e).0
all-below bound (x ∷ v) e (suc i) h = all-below bound v (or_parts (leb bound x) (any_above bound v) e).1 i (omega arith)

-- a test that holds at none of the fields
none_of : (f : ℕ → ℕ → Bool) (k j : ℕ) (v : List ℕ) → ((i : ℕ) → i < length v → f (role_at k (j + i)) (get_or v i 0) ≡ false)
    → any_field f k j v ≡ false
unfolding any_field
none_of f k j [] a = refl
none_of f k j (x ∷ v) a =
    let p : j + 0 ≡ j = omega arith in
    let here : f (role_at k j) x ≡ false = rw p at (a 0 (omega arith)) in
    rw here (none_of f k (j + 1) v rest)
  where
    rest : (i : ℕ) → i < length v → f (role_at k (j + 1 + i)) (get_or v i 0) ≡ false
    rest i h = let p : j + suc i ≡ j + 1 + i = omega arith in rw p at (a (suc i) (omega arith))

-- more fields than the single ones only where L follows
list-follows : (k n : ℕ) → fits k n ≡ true → fixed_at k < n → list_at k ≡ true
unfolding fits
list-follows k n e h = go (list_at k) e
  where
    go : (b : Bool) → pick b (leb (fixed_at k) n) (eqb n (fixed_at k)) ≡ true → b ≡ true
    go true e = refl
    go false e = absurd (omega (arith, eqb-true n (fixed_at k) e))

-- the fields of an instruction: the single ones fit, and none of those of L is at or above the slot count
module _ (v : List ℕ) (k slots n fixed : ℕ) (l : 1 ≤ k) (h : k ≤ 41) (e : fits k (length v) ≡ true) (singles-are : fixed ≡ fixed_at k)
    (singles : (j : ℕ) → j < fixed → Faultless slots n (role_at k j) (get_or v j 0))
    (listed : any_above slots (drop fixed v) ≡ false) where
  each_fits : (j : ℕ) → j < length v → Faultless slots n (role_at k j) (get_or v j 0)
  each_fits j m = go (ltb j fixed) refl
    where
      go : (b : Bool) → ltb j fixed ≡ b → Faultless slots n (role_at k j) (get_or v j 0)
      go true b = singles j (ltb-true j fixed b)
      go false b =
          let late : fixed ≤ j = ltb-false j fixed b in
          let q : fixed + (j - fixed) ≡ j = omega arith in
          let x : get_or v j 0 < slots =
          rw (get_or-drop fixed v (j - fixed) 0, q) at (all-below slots (drop fixed v) listed (j - fixed) (omega (arith, length-drop fixed v))) in
          rw (role_late k j l h (list-follows k (length v) e (omega arith)) (omega arith)) (of_list slots n (get_or v j 0) x)

  pub all_faultless : FaultsIn k v slots n no_faults
  all_faultless = record {
    modules_are = sym (none_of bad_module k 0 v (λ i m. (from_first i m).module-fits));
    slots_are = sym (none_of (no_slot slots) k 0 v (λ i m. (from_first i m).slot_there));
    targets_are = sym (none_of (no_target n) k 0 v (λ i m. (from_first i m).target_there));
  }
    where
      from_first : (i : ℕ) → i < length v → Faultless slots n (role_at k (0 + i)) (get_or v i 0)
      from_first i m = let q : 0 + i ≡ i = omega arith in rw q (each_fits i m)

-- the same of the fields as the code has them
module _ (fields : List (List ℕ)) (k slots n fixed : ℕ) (e : fits k (length fields) ≡ true) (singles-are : fixed ≡ fixed_at k)
    (singles : AllWithin (λ (p : ℕ × List ℕ). Faultless slots n (role_at k p.0) (number_in p.1)) (enumerate_from 0 (take fixed fields)) 0
    (length (enumerate_from 0 (take fixed fields)))) where
  enough : fixed ≤ length fields
  enough = omega (arith, fixed-there k (length fields) e)

  single : (j : ℕ) → j < fixed → Faultless slots n (role_at k j) (get_or (map number_in fields) j 0)
  single j h =
      let l : j < length fields = omega (arith, enough) in
      let t : length (take fixed fields) ≡ fixed = length-take-le fixed fields enough in
      let m : j < length (take fixed fields) = omega (arith, t) in
      let i : j < length (enumerate_from 0 (take fixed fields)) = rw (length-enumerate_from 0 (take fixed fields)) m in
      let q : 0 + j ≡ j = omega arith in
      rw (get_or-map number_in fields j [] 0 l)
      (rw (get_or-enumerate_from 0 (take fixed fields) j (0, []) m, q, get_or-take fixed fields j [] h) at (singles j (0, []) (omega arith) i))

  pub all-fit : 1 ≤ k → k ≤ 41 → any_above slots (map number_in (drop fixed fields)) ≡ false → FaultsIn k (map number_in fields) slots n no_faults
  all-fit l h a =
      all_faultless (map number_in fields) k slots n fixed l h (rw (length-map fields number_in) e) singles-are single
      (rw (drop-map number_in fixed fields) a)
