-- The refusal table, rows 1 to 9 and 17: `decode` gives each number exactly if its row says so, and parts exactly if none of them is due.
-- Assumes nothing.
use mathlib.Core.Logic.{◌↔◌}
use mathlib.Core.Path.{◌≡◌, refl, ap, sym, ◌∙◌}
use mathlib.Core.Bool.{Bool, true, false, ◌&&◌, not}
use mathlib.Core.List.{List, [], ◌∷◌, ◌++◌}
use mathlib.Core.Option.{Option, none, some}
use Prim.Native.Nat.{ℕ, zero, suc, ◌-◌, ◌<◌}
use native.Mathlib.Omega.{arith}
use borrow.Author.Tests.{eq-eqb, ne_eqb, eqb-true, eqb-false}
use lib.Dec.{eqb}
use lib.ListN.{length, get_or, take, drop}
use Rattle.operands.specs.Kinds.{ends_block}
use Rattle.format.specs.declared.refusal.Refusal.{Refusal}
use Rattle.format.specs.declared.refusal.Refusal.TheVariants.{
  ShortSheet,
  WrongKind,
  BadBody,
  LeftOver,
  TooMany,
  NoCode,
  NoSuchSlot,
  NoSuchTarget,
  OpenEnd,
  NoRoom,
  StateLimit,
  WorkLimit,
  UnfilledSlot,
  HostOverAwait,
  FactsLimit,
  ParameterTwice,
}
use Rattle.format.specs.Refusals.{number_of, due, or_else}
use Rattle.format.specs.Heads.{kind_at, end_at}
use Rattle.records.specs.Records.{function_fault, parameter_slots_fault, repeat_fault, parameters_fault, slot_fault, instruction_fault}
use Rattle.sheet.specs.Decode.{
  count_in,
  Due,
  function,
  parameters,
  slot,
  instruction,
  dues,
  sizes_fault,
  fault_at,
  first_bad,
  offset_of,
  instruction_at,
  end_fault,
  refusal,
  id_of,
  parts_of,
  refused,
  parts,
  decoded,
  decode,
}
use Rattle.sheet.specs.Rows.{
  Test,
  short_sheet,
  wrong_kind,
  bad_body,
  too_many,
  no_code,
  no_such_slot,
  no_such_target,
  parameter_twice,
  due_at,
  record_at,
  None,
  FirstBad,
  LeftOverGiven,
  OpenEndGiven,
  PassedGiven,
}
use Rattle.records.proofs.Passed.{neither}
use Rattle.sheet.proofs.Checked.{ends-well}

-- a refusal is told by its number; 16 is none yet, and any stands in its place
refusals : List Refusal
refusals =
    ShortSheet ∷ WrongKind ∷ BadBody ∷ LeftOver ∷ TooMany ∷ NoCode ∷ NoSuchSlot ∷ NoSuchTarget ∷
    OpenEnd ∷ NoRoom ∷ StateLimit ∷ WorkLimit ∷ UnfilledSlot ∷ HostOverAwait ∷ FactsLimit ∷
    ShortSheet ∷ ParameterTwice ∷ []

told : (r : Refusal) → get_or refusals (number_of r - 1) ShortSheet ≡ r
unfolding refusals
told ShortSheet = refl
told WrongKind = refl
told BadBody = refl
told LeftOver = refl
told TooMany = refl
told NoCode = refl
told NoSuchSlot = refl
told NoSuchTarget = refl
told OpenEnd = refl
told NoRoom = refl
told StateLimit = refl
told WorkLimit = refl
told UnfilledSlot = refl
told HostOverAwait = refl
told FactsLimit = refl
told ParameterTwice = refl

same_number : (q r : Refusal) → number_of q ≡ number_of r → q ≡ r
same_number q r e = sym (told q) ∙ ap (λ (n : ℕ). get_or refusals (n - 1) ShortSheet) e ∙ told r

-- a row of the table: a refusal and its test
record Row : Type 0 where
  pub refusal : Refusal
  pub test : Test

abbrev row : Refusal → Test → Row
row r t = record { refusal = r; test = t }

-- the rows of one record, the least number first
abbrev rows : List Row
rows =
    row ShortSheet short_sheet ∷ row WrongKind wrong_kind ∷ row BadBody bad_body ∷ row TooMany too_many ∷ row NoCode no_code ∷ row NoSuchSlot no_such_slot ∷
    row NoSuchTarget no_such_target ∷ row ParameterTwice parameter_twice ∷ []

abbrev tests : List Row → List Test
tests [] = []
tests (x ∷ xs) = x.test ∷ tests xs

unfoldable due_in : List Row → List ℕ → Due → ℕ → Option Refusal
due_in [] s d at = none
due_in (x ∷ xs) s d at = due (x.test s d at) x.refusal (due_in xs s d at)

-- what is due for a record is the first of the rows
or_due : (b : Bool) (r : Refusal) (rest z : Option Refusal) → or_else (due b r rest) z ≡ due b r (or_else rest z)
or_due true r rest z = refl
or_due false r rest z = refl

by_rows : (s : List ℕ) (d : Due) (at : ℕ) → fault_at s d at ≡ due_in rows s d at
unfolding fault_at function_fault parameters_fault parameter_slots_fault repeat_fault slot_fault instruction_fault sizes_fault due_in
by_rows s function at =
    or_due (short_sheet s function at) ShortSheet _ _
    ∙ ap (due (short_sheet s function at) ShortSheet)
    (or_due (wrong_kind s function at) WrongKind _ _ ∙ ap (due (wrong_kind s function at) WrongKind) (or_due (bad_body s function at) BadBody none _))
by_rows s parameters at =
    or_due (short_sheet s parameters at) ShortSheet _ _
    ∙ ap (due (short_sheet s parameters at) ShortSheet)
    (or_due (wrong_kind s parameters at) WrongKind _ _
    ∙ ap (due (wrong_kind s parameters at) WrongKind)
    (or_due (bad_body s parameters at) BadBody _ _ ∙ ap (due (bad_body s parameters at) BadBody) (or_due (no_such_slot s parameters at) NoSuchSlot none _)))
by_rows s slot at = refl
by_rows s instruction at = refl

-- a refusal that none of these rows gives
abbrev away : Refusal → List Row → Bool
away r [] = true
away r (x ∷ xs) = not (eqb (number_of x.refusal) (number_of r)) && away r xs

differ : (q r : Refusal) (b : Bool) → (not (eqb (number_of q) (number_of r)) && b) ≡ true → (q ≡ r → ⊥) × (b ≡ true)
differ q r b e = go (eqb (number_of q) (number_of r)) refl e
  where
    go : (c : Bool) → eqb (number_of q) (number_of r) ≡ c → (not c && b) ≡ true → (q ≡ r → ⊥) × (b ≡ true)
    go true c e = let z : ◌≡◌ {A = ℕ} 0 1 = cc in absurd (omega arith)
    go false c e = ((λ p. eqb-false (number_of q) (number_of r) c (ap number_of p)), e)

module _ (r : Refusal) (s : List ℕ) (d : Due) (at : ℕ) where
  never-in : (xs : List Row) → away r xs ≡ true → due_in xs s d at ≡ some r → ⊥
  unfolding due_in
  never-in [] a e = let z : ◌≡◌ {A = ℕ} 0 1 = cc in omega arith
  never-in (x ∷ xs) a e = go (x.test s d at) e (never-in xs (differ x.refusal r (away r xs) a).1)
    where
      go : (b : Bool) → due b x.refusal (due_in xs s d at) ≡ some r → (due_in xs s d at ≡ some r → ⊥) → ⊥
      go true e n = (differ x.refusal r (away r xs) a).0 (cc)
      go false e n = n e

  -- the row whose test is the first that holds
  module _ (t : Test) (hs : List Row) (after : away r hs ≡ true) where
    found : (ls : List Row) → away r ls ≡ true → due_in (ls ++ (row r t ∷ hs)) s d at ≡ some r → None (tests ls) s d at × (t s d at ≡ true)
    unfolding due_in
    found [] a e = (tt, go (t s d at) e)
      where
        go : (b : Bool) → due b r (due_in hs s d at) ≡ some r → b ≡ true
        go true e = refl
        go false e = absurd (never-in hs after e)
    found (x ∷ ls) a e = go (x.test s d at) refl e (found ls (differ x.refusal r (away r ls) a).1)
      where
        go : (b : Bool) → x.test s d at ≡ b → due b x.refusal (due_in (ls ++ (row r t ∷ hs)) s d at) ≡ some r
            → (due_in (ls ++ (row r t ∷ hs)) s d at ≡ some r → None (tests ls) s d at × (t s d at ≡ true))
            → ((x.test s d at ≡ false) × None (tests ls) s d at) × (t s d at ≡ true)
        go true b e f = absurd ((differ x.refusal r (away r ls) a).0 (cc))
        go false b e f = let g = f e in ((b, g.0), g.1)

    shown : (ls : List Row) → None (tests ls) s d at → t s d at ≡ true → due_in (ls ++ (row r t ∷ hs)) s d at ≡ some r
    unfolding due_in
    shown [] n e = rw e
    shown (x ∷ ls) n e = rw n.0 (shown ls n.1 e)

-- the first bad record of a list
record Bad (s : List ℕ) (ds : List Due) (at : ℕ) (r : Refusal) : Type 0 where
  pub index : ℕ
  pub is_due : index < length ds
  pub before : (j : ℕ) → j < index → fault_at s (get_or ds j function) (offset_of s at j) ≡ none
  pub fault : fault_at s (get_or ds index function) (offset_of s at index) ≡ some r

first-bad : (s : List ℕ) (ds : List Due) (at : ℕ) (r : Refusal) → first_bad s ds at ≡ some r → Bad s ds at r
unfolding first_bad offset_of
first-bad s [] at r e = let z : ◌≡◌ {A = ℕ} 0 1 = cc in absurd (omega arith)
first-bad s (d ∷ ds) at r e = go (fault_at s d at) refl e (first-bad s ds (end_at s at) r)
  where
    later : (b : Bad s ds (end_at s at) r) → fault_at s d at ≡ none → (j : ℕ) → j < suc b.index
        → fault_at s (get_or (d ∷ ds) j function) (offset_of s at j) ≡ none
    later b n zero h = n
    later b n (suc j) h = b.before j (omega arith)

    go : (f : Option Refusal) → fault_at s d at ≡ f → or_else f (first_bad s ds (end_at s at)) ≡ some r
        → (first_bad s ds (end_at s at) ≡ some r → Bad s ds (end_at s at) r) → Bad s (d ∷ ds) at r
    go (some q) f e g = record { index = 0; is_due = omega arith; before = λ j h. absurd (omega arith); fault = f ∙ e }
    go none f e g =
        let b = g e in
        record { index = suc b.index; is_due = omega (arith, b.is_due); before = later b f; fault = b.fault }

bad-first : (s : List ℕ) (ds : List Due) (at : ℕ) (r : Refusal) (k : ℕ) → k < length ds
    → ((j : ℕ) → j < k → fault_at s (get_or ds j function) (offset_of s at j) ≡ none)
    → fault_at s (get_or ds k function) (offset_of s at k) ≡ some r → first_bad s ds at ≡ some r
unfolding first_bad offset_of
bad-first s [] at r k h b e = absurd (omega arith)
bad-first s (d ∷ ds) at r zero h b e = rw e
bad-first s (d ∷ ds) at r (suc k) h b e =
    let n : fault_at s d at ≡ none = b 0 (omega arith) in
    rw n (bad-first s ds (end_at s at) r k (omega arith) (λ j l. b (suc j) (omega arith)) e)

-- or there is none
all_pass : (s : List ℕ) (ds : List Due) (at : ℕ) → first_bad s ds at ≡ none
    → (j : ℕ) → j < length ds → fault_at s (get_or ds j function) (offset_of s at j) ≡ none
unfolding first_bad offset_of
all_pass s [] at e j h = absurd (omega arith)
all_pass s (d ∷ ds) at e zero h = (neither (fault_at s d at) (first_bad s ds (end_at s at)) e).0
all_pass s (d ∷ ds) at e (suc j) h = all_pass s ds (end_at s at) (neither (fault_at s d at) (first_bad s ds (end_at s at)) e).1 j (omega arith)

pass_all : (s : List ℕ) (ds : List Due) (at : ℕ) → ((j : ℕ) → j < length ds → fault_at s (get_or ds j function) (offset_of s at j) ≡ none)
    → first_bad s ds at ≡ none
unfolding first_bad offset_of
pass_all s [] at f = refl
pass_all s (d ∷ ds) at f =
    let n : fault_at s d at ≡ none = f 0 (omega arith) in
    rw n (pass_all s ds (end_at s at) (λ j h. f (suc j) (omega arith)))

-- a number is given exactly if its refusal is due
number_given : (s : List ℕ) (r : Refusal) (id : ℕ) → decode s ≡ refused (number_of r) id → (refusal s ≡ some r) × (id ≡ id_of s)
unfolding decode
number_given s r id e = go (refusal s) e
  where
    go : (f : Option Refusal) → decoded f (id_of s) (parts_of s) ≡ refused (number_of r) id → (f ≡ some r) × (id ≡ id_of s)
    go none e = let z : ◌≡◌ {A = ℕ} 0 1 = cc in absurd (omega arith)
    go (some q) e =
        let n : number_of q ≡ number_of r = cc in
        let i : id ≡ id_of s = cc in
        (ap some (same_number q r n), i)

given-number : (s : List ℕ) (r : Refusal) (id : ℕ) → refusal s ≡ some r → id ≡ id_of s → decode s ≡ refused (number_of r) id
unfolding decode
given-number s r id e i = rw (e, i)

-- the end of a sheet gives 4 and 9 alone
end-never : (s : List ℕ) (r : Refusal) → away r (row LeftOver short_sheet ∷ row OpenEnd short_sheet ∷ []) ≡ true → end_fault s ≡ some r → ⊥
unfolding end_fault
end-never s r a e = go (eqb (instruction_at s (count_in s)) (length s)) (ends_block (kind_at s (instruction_at s (count_in s - 1)))) e
  where
    not_left : LeftOver ≡ r → ⊥
    not_left = (differ LeftOver r (away r (row OpenEnd short_sheet ∷ [])) a).0

    not-open : OpenEnd ≡ r → ⊥
    not-open = (differ OpenEnd r (away r []) (differ LeftOver r (away r (row OpenEnd short_sheet ∷ [])) a).1).0

    go : (b c : Bool) → due (not b) LeftOver (due (not c) OpenEnd none) ≡ some r → ⊥
    go true true e = let z : ◌≡◌ {A = ℕ} 0 1 = cc in omega arith
    go true false e = not-open (cc)
    go false c e = not_left (cc)

-- a row of a record
module _ (r : Refusal) (t : Test) (ls hs : List Row) (split : rows ≡ ls ++ (row r t ∷ hs)) (below : away r ls ≡ true) (above : away r hs ≡ true)
    (inner : away r (row LeftOver short_sheet ∷ row OpenEnd short_sheet ∷ []) ≡ true) (s : List ℕ) (id : ℕ) where
  row-given : decode s ≡ refused (number_of r) id → FirstBad t (tests ls) s id
  unfolding refusal
  row-given e =
      let g = number_given s r id e in
      go (first_bad s (dues s) 0) refl g.0 g.1
    where
      made : Bad s (dues s) 0 r → id ≡ id_of s → FirstBad t (tests ls) s id
      made b i =
          let d = get_or (dues s) b.index function in
          let at = offset_of s 0 b.index in
          let f = found r s d at t hs above ls below (ap (λ (x : List Row). due_in x s d at) (sym split) ∙ sym (by_rows s d at) ∙ b.fault) in
          record { index = b.index; is_due = b.is_due; before = b.before; holds = f.1; least = f.0; carries = i }

      go : (f : Option Refusal) → first_bad s (dues s) 0 ≡ f → or_else f (end_fault s) ≡ some r → id ≡ id_of s → FirstBad t (tests ls) s id
      go (some q) f e i = made (first-bad s (dues s) 0 r (f ∙ e)) i
      go none f e i = absurd (end-never s r inner e)

  given-row : FirstBad t (tests ls) s id → decode s ≡ refused (number_of r) id
  unfolding refusal
  given-row b =
      let d = due_at s b.index in
      let at = record_at s b.index in
      let f : fault_at s d at ≡ some r =
      by_rows s d at ∙ ap (λ (x : List Row). due_in x s d at) split ∙ shown r s d at t hs above ls b.least b.holds in
      let g = bad-first s (dues s) 0 r b.index b.is_due b.before f in
      given-number s r id (rw g) b.carries

  row-exact : (decode s ≡ refused (number_of r) id) ↔ FirstBad t (tests ls) s id
  row-exact = (row-given, given-row)

-- The table. Each number is given exactly if its row says so.
module _ (s : List ℕ) (id : ℕ) where
  pub row_1 : (decode s ≡ refused 1 id) ↔ FirstBad short_sheet [] s id
  row_1 = row-exact ShortSheet short_sheet (take 0 rows) (drop 1 rows) refl refl refl refl s id

  pub row_2 : (decode s ≡ refused 2 id) ↔ FirstBad wrong_kind (short_sheet ∷ []) s id
  row_2 = row-exact WrongKind wrong_kind (take 1 rows) (drop 2 rows) refl refl refl refl s id

  pub row_3 : (decode s ≡ refused 3 id) ↔ FirstBad bad_body (short_sheet ∷ wrong_kind ∷ []) s id
  row_3 = row-exact BadBody bad_body (take 2 rows) (drop 3 rows) refl refl refl refl s id

  pub row_5 : (decode s ≡ refused 5 id) ↔ FirstBad too_many (short_sheet ∷ wrong_kind ∷ bad_body ∷ []) s id
  row_5 = row-exact TooMany too_many (take 3 rows) (drop 4 rows) refl refl refl refl s id

  pub row_6 : (decode s ≡ refused 6 id) ↔ FirstBad no_code (short_sheet ∷ wrong_kind ∷ bad_body ∷ too_many ∷ []) s id
  row_6 = row-exact NoCode no_code (take 4 rows) (drop 5 rows) refl refl refl refl s id

  pub row_7 : (decode s ≡ refused 7 id) ↔ FirstBad no_such_slot (short_sheet ∷ wrong_kind ∷ bad_body ∷ too_many ∷ no_code ∷ []) s id
  row_7 = row-exact NoSuchSlot no_such_slot (take 5 rows) (drop 6 rows) refl refl refl refl s id

  pub row_8 : (decode s ≡ refused 8 id) ↔ FirstBad no_such_target (short_sheet ∷ wrong_kind ∷ bad_body ∷ too_many ∷ no_code ∷ no_such_slot ∷ []) s id
  row_8 = row-exact NoSuchTarget no_such_target (take 6 rows) (drop 7 rows) refl refl refl refl s id

  pub row_17 : (decode s ≡ refused 17 id)
      ↔ FirstBad parameter_twice (short_sheet ∷ wrong_kind ∷ bad_body ∷ too_many ∷ no_code ∷ no_such_slot ∷ no_such_target ∷ []) s id
  row_17 = row-exact ParameterTwice parameter_twice (take 7 rows) (drop 8 rows) refl refl refl refl s id

  -- 4 and 9 are given by no record
  record-never : (r : Refusal) → away r rows ≡ true → first_bad s (dues s) 0 ≡ some r → ⊥
  record-never r a e =
      let b = first-bad s (dues s) 0 r e in
      let d = get_or (dues s) b.index function in
      let at = offset_of s 0 b.index in
      never-in r s d at rows a (sym (by_rows s d at) ∙ b.fault)

  -- so all records passed
  at_end_lem : (r : Refusal) → away r rows ≡ true → refusal s ≡ some r → (first_bad s (dues s) 0 ≡ none) × (end_fault s ≡ some r)
  unfolding refusal
  at_end_lem r a e = go (first_bad s (dues s) 0) refl e
    where
      go : (f : Option Refusal) → first_bad s (dues s) 0 ≡ f → or_else f (end_fault s) ≡ some r → (f ≡ none) × (end_fault s ≡ some r)
      go none f e = (refl, e)
      go (some q) f e = absurd (record-never r a (f ∙ e))

  pub row_4 : (decode s ≡ refused 4 id) ↔ LeftOverGiven s id
  unfolding refusal end_fault
  row_4 = (λ e. forth (number_given s LeftOver id e), back)
    where
      more : (b : Bool) (rest : Bool) → eqb (instruction_at s (count_in s)) (length s) ≡ b → due (not b) LeftOver (due (not rest) OpenEnd none)
          ≡ some LeftOver
          → instruction_at s (count_in s) ≡ length s → ⊥
      more false rest b e = eqb-false _ _ b
      more true true b e = let z : ◌≡◌ {A = ℕ} 0 1 = cc in absurd (omega arith)
      more true false b e = let z : ◌≡◌ {A = ℕ} 0 1 = cc in absurd (omega arith)

      forth : (refusal s ≡ some LeftOver) × (id ≡ id_of s) → LeftOverGiven s id
      forth g =
          let a = at_end_lem LeftOver refl g.0 in
          record {
            passed = all_pass s (dues s) 0 a.0;
            more = more (eqb (instruction_at s (count_in s)) (length s)) (ends_block (kind_at s (instruction_at s (count_in s - 1)))) refl a.1;
            carries = g.1;
          }

      back : LeftOverGiven s id → decode s ≡ refused 4 id
      back g =
          let p = pass_all s (dues s) 0 g.passed in
          given-number s LeftOver id (rw (p, ne_eqb _ _ g.more)) g.carries

  pub row_9 : (decode s ≡ refused 9 id) ↔ OpenEndGiven s id
  unfolding refusal end_fault
  row_9 = (λ e. forth (number_given s OpenEnd id e), back)
    where
      tested : (b c : Bool) → eqb (instruction_at s (count_in s)) (length s) ≡ b → due (not b) LeftOver (due (not c) OpenEnd none) ≡ some OpenEnd
          → (instruction_at s (count_in s) ≡ length s) × (c ≡ false)
      tested true false b e = (eqb-true _ _ b, refl)
      tested true true b e = let z : ◌≡◌ {A = ℕ} 0 1 = cc in absurd (omega arith)
      tested false c b e = let z : ◌≡◌ {A = ℕ} 0 1 = cc in absurd (omega arith)

      forth : (refusal s ≡ some OpenEnd) × (id ≡ id_of s) → OpenEndGiven s id
      forth g =
          let a = at_end_lem OpenEnd refl g.0 in
          let t = tested (eqb (instruction_at s (count_in s)) (length s)) (ends_block (kind_at s (instruction_at s (count_in s - 1)))) refl a.1 in
          record { passed = all_pass s (dues s) 0 a.0; no_more = t.0; open_end = t.1; carries = g.1 }

      back : OpenEndGiven s id → decode s ≡ refused 9 id
      back g =
          let p = pass_all s (dues s) 0 g.passed in
          given-number s OpenEnd id (rw (p, eq-eqb _ _ g.no_more, g.open_end)) g.carries

-- A sheet has parts exactly if all records pass, no bytes follow and the last instruction ends a block.
pub parts-given : (s : List ℕ) → (decode s ≡ parts (parts_of s)) ↔ PassedGiven s
unfolding decode refusal end_fault
parts-given s = (λ e. forth (given (refusal s) e), back)
  where
    given : (f : Option Refusal) → decoded f (id_of s) (parts_of s) ≡ parts (parts_of s) → f ≡ none
    given none e = refl
    given (some r) e = let z : ◌≡◌ {A = ℕ} 0 1 = cc in absurd (omega arith)

    forth : refusal s ≡ none → PassedGiven s
    forth e =
        let a = neither (first_bad s (dues s) 0) (end_fault s) e in
        let b = ends-well s a.1 in
        record { passed = all_pass s (dues s) 0 a.0; no_more = b.0; closed_end = b.1 }

    back : PassedGiven s → decode s ≡ parts (parts_of s)
    back g =
        let p = pass_all s (dues s) 0 g.passed in
        rw (p, eq-eqb _ _ g.no_more, g.closed_end)
