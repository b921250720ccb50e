-- A program, as far as the flow of slots goes.
use Rattle.std.specs.Prelude.{◌≡◌, Bool, false, List}

-- P are the points of a program (instructions, or whole blocks), S its slots. A point reads, then empties, then writes.
pub record Program (P S : Type 0) : Type 0 where
  -- where a path begins if nothing else is said
  pub entry : P
  -- where control may go next, an edge each, so with repeats
  pub successors : P → List P
  pub reads : P → S → Bool
  pub writes : P → S → Bool
  -- the slots that a point leaves unfilled, unless it writes them
  pub empties : P → S → Bool
  pub parameter : S → Bool

-- The programs of document 01 (edition 1) empty nothing.
abbrev pub EmptiesNothing : {P S : Type 0} → Program P S → Type 0
EmptiesNothing {P} {S} p = (i : P) (s : S) → p.empties i s ≡ false
