-- Paths. Document 01: "A path is a list of one or more instructions, repeats allowed, that may end anywhere."
use mathlib.Core.List.{List, [], ◌∷◌, Memᴰ}
use Rattle.dataflow.specs.Program.{Program}

-- `Path next i l j`: the points l, and then j, are a path that begins at i. So l is what comes before j on that path.
pub data Path {P : Type 0} (next : P → List P) : P → List P → P → Type 0 where
  stop : {i : P} → Path next i [] i
  step : {i j k : P} {l : List P} → Memᴰ j (next i) → Path next j l k → Path next i (i ∷ l) k

-- some path from the entry reaches the point
abbrev pub Reached : {P S : Type 0} → Program P S → P → Type 0
Reached {P} p i = (l : List P) × Path p.successors p.entry l i
