-- `operands::pattern::Pattern::of` meets its contract: each row of the table is computed. Assumes nothing.
use Rattle.std.proofs.Common.{arith, ◌≡◌, ℕ, ◌-◌, List, [], ◌∷◌, get_or}
use lib.Dec.{eqb, eqb→eq}
use Rattle.operands.specs.Kinds.{kind_number, kinds}
use Rattle.operands.specs.Roles.{role_number}
use Rattle.operands.specs.Patterns.{groups, pattern_in, pattern_of, role_in, role_at, fixed_at}
use Rattle.operands.specs.declared.kind.Kind.{Kind}
use Rattle.operands.specs.declared.pattern.Row.{Row}
use Rattle.operands.specs.declared.pattern.TheConstants.{PATTERNS}
use Rattle.operands.proofs.KindLaws.{at_each}
use Rattle.operands.proofs.PatternLaws.{fixed-few}
use Rattle.operands.proofs.pattern.Pattern.of.Goals as goal

-- a row of the table, by tests that are computed at each kind
module _ (d : Row) (k : Kind) where
  counted : (get_or PATTERNS (kind_number k - 1) d).0 ≡ fixed_at (kind_number k)
  unfolding kinds pattern_of pattern_in groups role_in role_at fixed_at
  counted = eqb→eq _ _ (at_each (λ k. eqb (get_or PATTERNS (kind_number k - 1) d).0 (fixed_at (kind_number k))) tt k)

  first : role_number (get_or PATTERNS (kind_number k - 1) d).1 ≡ role_at (kind_number k) 0
  unfolding kinds pattern_of pattern_in groups role_in role_at
  first = eqb→eq _ _ (at_each (λ k. eqb (role_number (get_or PATTERNS (kind_number k - 1) d).1) (role_at (kind_number k) 0)) tt k)

  second : role_number (get_or PATTERNS (kind_number k - 1) d).2 ≡ role_at (kind_number k) 1
  unfolding kinds pattern_of pattern_in groups role_in role_at
  second = eqb→eq _ _ (at_each (λ k. eqb (role_number (get_or PATTERNS (kind_number k - 1) d).2) (role_at (kind_number k) 1)) tt k)

  third : role_number (get_or PATTERNS (kind_number k - 1) d).3 ≡ role_at (kind_number k) 2
  unfolding kinds pattern_of pattern_in groups role_in role_at
  third = eqb→eq _ _ (at_each (λ k. eqb (role_number (get_or PATTERNS (kind_number k - 1) d).3) (role_at (kind_number k) 2)) tt k)

  later : role_number (get_or PATTERNS (kind_number k - 1) d).4 ≡ role_at (kind_number k) 3
  unfolding kinds pattern_of pattern_in groups role_in role_at
  later = eqb→eq _ _ (at_each (λ k. eqb (role_number (get_or PATTERNS (kind_number k - 1) d).4) (role_at (kind_number k) 3)) tt k)

pub invariant_of-result-clause-counted : goal.invariant_of-result-clause-counted
invariant_of-result-clause-counted c = rw c.number.ensures (counted _ c.args.kind)

pub invariant_of-result-clause-few : goal.invariant_of-result-clause-few
invariant_of-result-clause-few c =
    let most = fixed-few (kind_number c.args.kind) in
    let single = invariant_of-result-clause-counted c in
    omega arith

pub invariant_of-result-clause-shown : goal.invariant_of-result-clause-shown
invariant_of-result-clause-shown c =
    let k = c.args.kind in
    let numbers : (a b c d e f g h : ℕ) → a ≡ e → b ≡ f → c ≡ g → d ≡ h → ◌≡◌ {A = List ℕ} (a ∷ b ∷ c ∷ d ∷ []) (e ∷ f ∷ g ∷ h ∷ []) =
    λ a b c d e f g h p q r s. cc in
    rw c.number.ensures (numbers _ _ _ _ _ _ _ _ (first _ k) (second _ k) (third _ k) (later _ k))
