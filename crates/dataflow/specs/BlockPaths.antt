-- Demand 2's words for a block of code, by paths: reached, filled through its last instruction, live from its first.
use Rattle.std.specs.Prelude.{◌≡◌, Bool, true, ◌||◌, List, [], ◌∷◌, ◌++◌, ℕ}
use Rattle.dataflow.specs.Analyses.{written, Live}
use Rattle.dataflow.specs.Code.{Instruction, program, successors, body, head_or, last_or}
use Rattle.dataflow.specs.Paths.{Path, Reached}

module _ (code : List Instruction) (parameter : ℕ → Bool) where
  -- the first and the last instruction of block c
  abbrev pub first_of : ℕ → ℕ
  first_of c = head_or 0 (body code c)

  abbrev pub last_of : ℕ → ℕ
  last_of c = last_or 0 (body code c)

  -- some path from instruction 0 reaches block c
  abbrev pub ReachedBlock : ℕ → Type 0
  ReachedBlock c = Reached (program code parameter) (first_of c)

  -- on every path from 0 through the block's last instruction s is a parameter or written
  abbrev pub FilledThrough : ℕ → ℕ → Type 0
  FilledThrough c s = (l : List ℕ) → Path (successors code) 0 l (last_of c) → (parameter s || written (program code parameter) (l ++ (last_of c ∷ [])) s) ≡ true

  -- some path that begins at the block's start reads s before writing it
  abbrev pub LiveFrom : ℕ → ℕ → Type 0
  LiveFrom c s = Live (program code parameter) (first_of c) s
