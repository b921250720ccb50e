-- Demand 3 of document 00, a sentence at a time, over any program.
use Rattle.std.specs.Prelude.{◌≡◌, Bool, true, false, ◌||◌, List, ◌⊎◌}
use Rattle.dataflow.specs.Program.{Program}
use Rattle.dataflow.specs.Paths.{Path, Reached}
use Rattle.dataflow.specs.Analyses.{written, filled}

module _ {P S : Type 0} (p : Program P S) where
  -- "a path from its first instruction reads a slot that is neither a parameter nor written earlier on that path"
  pub record Unfilled : Type 0 where
    pub before : List P
    pub point : P
    pub slot : S
    pub path : Path p.successors p.entry before point
    pub read : p.reads point slot ≡ true
    pub unfilled : filled p before slot ≡ false

  -- A saved set x of the await a: one "with which every path beginning at that await reads only slots saved or written since".
  -- The path may end at a itself: "So an await's reads count for its own set."
  abbrev pub Saves : P → (S → Bool) → Type 0
  Saves a x = (l : List P) (j : P) (s : S) → Path p.successors a l j → p.reads j s ≡ true → (x s || written p l s) ≡ true

  -- "the least with which every path beginning at that await reads only slots saved or written since,
  -- so that every other such set contains it"
  pub record Least (a : P) (x : S → Bool) : Type 0 where
    pub saves : Saves a x
    pub least : (y : S → Bool) → Saves a y → (s : S) → x s ≡ true → y s ≡ true

  module _ (await : P → Bool) (host : S → Bool) where
    -- "an await that some path from there reaches has a least set that holds a handle"
    pub record Held : Type 0 where
      pub point : P
      pub is_await : await point ≡ true
      pub reached : Reached p point
      pub saved : S → Bool
      pub is_least : Least point saved
      pub slot : S
      pub in_saved : saved slot ≡ true
      pub is_host : host slot ≡ true

    -- "A script is faulty exactly when a path from its first instruction reads a slot that is neither a parameter nor written earlier
    -- on that path, or when an await that some path from there reaches has a least set that holds a handle."
    abbrev pub Faulty : Type 0
    Faulty = Unfilled ⊎ Held
