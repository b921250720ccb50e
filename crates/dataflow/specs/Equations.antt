-- The flow equations (Aho et al.), and when an assignment of sets to points is exactly what the paths say.
use Rattle.std.specs.Prelude.{◌≡◌, Bool, true, false, ◌⊎◌}
use mathlib.Core.List.{Memᴰ}
use Rattle.dataflow.specs.Program.{Program}
use Rattle.dataflow.specs.Paths.{Reached}
use Rattle.dataflow.specs.Analyses.{init_transfer, Init, Lost, Live}

-- x gives each point the slots that are said to be initialized (or live) before it
module _ {P S : Type 0} (p : Program P S) (x : P → S → Bool) where
  -- s may be initialized before j: it is a parameter if j is the entry, and filled after each reached predecessor.
  -- The entry is met with its predecessors too.
  abbrev pub InitEquation : P → S → Type 0
  InitEquation j s =
      (j ≡ p.entry → p.parameter s ≡ true) × ((i : P) → Reached p i → Memᴰ j (p.successors i) → init_transfer p i s (x i s) ≡ true)

  -- s must be live before i: i reads it, or does not write it and it is live before a successor.
  abbrev pub LiveEquation : P → S → Type 0
  LiveEquation i s = (p.reads i s ≡ true) ⊎ ((p.writes i s ≡ false) × ((j : P) × Memᴰ j (p.successors i) × (x j s ≡ true)))

  -- At each reached point x says exactly what is initialized.
  pub record InitExact : Type 0 where
    pub is_init : (j : P) → Reached p j → (s : S) → x j s ≡ true → Init p j s
    pub is_lost : (j : P) → Reached p j → (s : S) → x j s ≡ false → Lost p j s

  -- At each reached point x says exactly what is live.
  pub record LiveExact : Type 0 where
    pub is_live : (i : P) → Reached p i → (s : S) → x i s ≡ true → Live p i s
    pub has_live : (i : P) → Reached p i → (s : S) → Live p i s → x i s ≡ true
