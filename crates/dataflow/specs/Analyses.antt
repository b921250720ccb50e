-- The two analyses by paths: what is initialized (forward, met over all paths), what is live (backward, joined over all paths).
use Rattle.std.specs.Prelude.{◌≡◌, Bool, true, false, not, ◌&&◌, ◌||◌, List, [], ◌∷◌, ◌++◌}
use Rattle.dataflow.specs.Program.{Program}
use Rattle.dataflow.specs.Paths.{Path}

-- solver.rs `Direction`
pub data Direction : Type 0 where
  initialization liveness : Direction

module _ {P S : Type 0} (p : Program P S) where
  -- Document 01: "written earlier, or since, is by an instruction before the reading one on that path". The list is what comes before.
  abbrev pub written : List P → S → Bool
  written [] s = false
  written (i ∷ l) s = p.writes i s || written l s

  -- The transfer function of initialization: whether the slot is filled after i, if f says whether it is before i.
  abbrev pub init_transfer : P → S → Bool → Bool
  init_transfer i s f = p.writes i s || (not (p.empties i s) && f)

  -- The transfer functions of a list, composed from its front.
  abbrev pub init_along : S → Bool → List P → Bool
  init_along s f [] = f
  init_along s f (i ∷ l) = init_along s (init_transfer i s f) l

  -- Filled behind the points of a path from the entry: the last event on the slot is a write, or there is none and it is a parameter.
  -- With nothing emptied this is "a parameter or written earlier on that path": law `filled_plain`.
  abbrev pub filled : List P → S → Bool
  filled l s = init_along s (p.parameter s) l

  -- Initialized before i: the meet over all paths from the entry to i (Aho et al., "meet over all paths").
  abbrev pub Init : P → S → Type 0
  Init i s = (l : List P) → Path p.successors p.entry l i → filled l s ≡ true

  -- Initialized after i: the meet over all paths from the entry through i.
  abbrev pub InitAfter : P → S → Type 0
  InitAfter i s = (l : List P) → Path p.successors p.entry l i → filled (l ++ (i ∷ [])) s ≡ true

  -- Some path from the entry to i leaves the slot unfilled: what denies `Init`, with its witness.
  abbrev pub Lost : P → S → Type 0
  Lost i s = (l : List P) × Path p.successors p.entry l i × (filled l s ≡ false)

  -- The transfer function of liveness: whether the slot is live before i, if g says whether it is after i.
  abbrev pub live_transfer : P → S → Bool → Bool
  live_transfer i s g = p.reads i s || (not (p.writes i s) && g)

  -- The transfer functions of a list, composed from its back.
  abbrev pub live_along : S → Bool → List P → Bool
  live_along s g [] = g
  live_along s g (i ∷ l) = live_transfer i s (live_along s g l)

  -- Live before i: some path that begins at i reads the slot, not written before that read (Aho et al., "live-variable analysis").
  abbrev pub Live : P → S → Type 0
  Live i s = (l : List P) × (j : P) × Path p.successors i l j × (p.reads j s ≡ true) × (written l s ≡ false)
