-- Blocks over any program, and the blocks as a program of their own.
use Rattle.std.specs.Prelude.{Bool, true, false, not, List, [], ◌∷◌, ◌++◌}
use Rattle.dataflow.specs.Program.{Program}
use Rattle.dataflow.specs.Analyses.{Direction, initialization, liveness, written, init_along, live_transfer}

-- The blocks B of a program over P, as data: each block's points, its first one, its successors, and where paths begin.
pub record BlockGraph (P B : Type 0) : Type 0 where
  pub body : B → List P
  pub first : B → P
  pub successors : B → List B
  pub entry : B

module _ {P S : Type 0} (p : Program P S) where
  -- Read in the list before it is written there (Aho et al., use_B: "upwards exposed").
  abbrev pub exposed : List P → S → Bool
  exposed [] s = false
  exposed (i ∷ l) s = live_transfer p i s (exposed l s)

-- The blocks as a program: a block's transfer function is the composition of its points' (gen and kill).
-- For initialization a block writes what it fills whatever comes in, and empties what it leaves unfilled whatever comes in.
-- For liveness it reads what is exposed in it and writes what is written in it.
abbrev pub block_program : {P S B : Type 0} → Direction → Program P S → BlockGraph P B → Program B S
block_program initialization p g = record {
  entry = g.entry;
  successors = g.successors;
  reads = λ b s. exposed p (g.body b) s;
  writes = λ b s. init_along p s false (g.body b);
  empties = λ b s. not (init_along p s true (g.body b));
  parameter = p.parameter;
}
block_program liveness p g = record {
  entry = g.entry;
  successors = g.successors;
  reads = λ b s. exposed p (g.body b) s;
  writes = λ b s. written p (g.body b) s;
  empties = λ b s. false;
  parameter = p.parameter;
}

-- the points of a list of blocks, in order
abbrev pub points_of : {P B : Type 0} → BlockGraph P B → List B → List P
points_of g [] = []
points_of g (b ∷ l) = g.body b ++ points_of g l
