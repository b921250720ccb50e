-- A lent buffer.
use Rattle.std.specs.Prelude.{◌≡◌, List, ℕ, length}
use Rattle.std.specs.Borrow.{MutBor}
use Rattle.run.specs.Terms.{Loan}

-- which buffer a borrow of words is
abbrev pub loan_of : MutBor (List ℕ) → Loan
loan_of w = record { name = w.ghost_name; length = length w.now }

-- the words are those of a loan
pub record Lends (loan : Loan) (w : MutBor (List ℕ)) : Type 0 where
  pub named : w.ghost_name ≡ loan.name
  pub long : length w.now ≡ loan.length
