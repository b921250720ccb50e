-- The sizes of a script that passed the checks.
use Rattle.std.specs.Prelude.{ℕ, ◌≤◌}
use Rattle.std.proofs.Common.{arith}
use Rattle.sizes.specs.declared.Layout.{Layout}

-- document 01: at most 65,536 slots and instructions, so at most as many blocks and awaits, and at most 1,024 words a set; edges past two a
-- block only as many as lane jumps could have
pub record Bounded (y : Layout) : Type 0 where
  pub instructions : y.instructions ≤ 65536
  pub blocks : y.blocks ≤ 65536
  pub words : y.words ≤ 1024
  pub awaits : y.awaits ≤ 65536
  pub extra : y.extra ≤ 16777216

-- what scratch needs of it
pub record ScratchBounded (y : Layout) : Type 0 where
  pub instructions : y.instructions ≤ 65536
  pub blocks : y.blocks ≤ 65536
  pub words : y.words ≤ 1024
  pub extra : y.extra ≤ 16777216

-- what the sets buffer needs of it
pub record SetsBounded (y : Layout) : Type 0 where
  pub blocks : y.blocks ≤ 65536
  pub words : y.words ≤ 1024
  pub awaits : y.awaits ≤ 65536

pub bounded_scratch : {y : Layout} → Bounded y → ScratchBounded y
bounded_scratch a = record { instructions = a.instructions; blocks = a.blocks; words = a.words; extra = a.extra }

pub bounded_sets : {y : Layout} → Bounded y → SetsBounded y
bounded_sets a = record { blocks = a.blocks; words = a.words; awaits = a.awaits }

-- a lent buffer: the name that the logic has for the borrow, and how many words it has
pub record Loan : Type 0 where
  pub name : ℕ
  pub length : ℕ

abbrev pub no_loan : Loan
no_loan = record { name = 0; length = 0 }

-- a layout of nothing
abbrev pub nothing : Layout
nothing = record { instructions = 0; blocks = 0; words = 0; awaits = 0; extra = 0 }

pub nothing-bounded : Bounded nothing
nothing-bounded = record { instructions = omega arith; blocks = omega arith; words = omega arith; awaits = omega arith; extra = omega arith }
