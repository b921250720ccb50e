-- What is basic about the blocks of a program, and where a path of points stands among them: for laws and for the code that builds blocks.
use Rattle.std.specs.Prelude.{◌≡◌, Bool, not, ◌&&◌, ◌||◌}
use mathlib.Core.List.{List, [], ◌∷◌, ◌++◌, Memᴰ}
use Rattle.dataflow.specs.Program.{Program}
use Rattle.dataflow.specs.Paths.{Path}
use Rattle.dataflow.specs.Blocks.{BlockGraph, points_of}

-- The blocks are basic blocks of p (Aho et al.): control enters at the first point and leaves from the last.
pub record BasicBlocks {P S B : Type 0} (p : Program P S) (g : BlockGraph P B) : Type 0 where
  pub starts : (b : B) → (t : List P) × (g.body b ≡ g.first b ∷ t)
  pub entry_first : g.first g.entry ≡ p.entry
  -- inside a block control goes to the next point, and nowhere else
  pub inside_to : (b : B) (u : List P) (i j : P) (v : List P) → g.body b ≡ u ++ (i ∷ j ∷ v) → Memᴰ j (p.successors i)
  pub inside_of : (b : B) (u : List P) (i j : P) (v : List P) → g.body b ≡ u ++ (i ∷ j ∷ v) → (k : P) → Memᴰ k (p.successors i) → k ≡ j
  -- from its end control goes to the first points of its successors, and nowhere else
  pub leaves_to : (b : B) (u : List P) (i : P) → g.body b ≡ u ++ (i ∷ []) → (c : B) → Memᴰ c (g.successors b)
      → Memᴰ (g.first c) (p.successors i)
  pub leaves_of : (b : B) (u : List P) (i : P) → g.body b ≡ u ++ (i ∷ []) → (k : P) → Memᴰ k (p.successors i) → (c : B)
      × Memᴰ c (g.successors b) × (k ≡ g.first c)

module _ {P S : Type 0} (p : Program P S) where
  -- flow.rs `graph`, a block's `defines`: from the front, each output is inserted. d says whether the slot is in it already.
  abbrev pub defines : S → Bool → List P → Bool
  defines s d [] = d
  defines s d (i ∷ l) = defines s (d || p.writes i s) l

  -- flow.rs `graph`, a block's `uses`: from the front, an input is inserted unless it is in `defines`. u says whether the slot is in it already.
  abbrev pub uses : S → Bool → Bool → List P → Bool
  uses s d u [] = u
  uses s d u (i ∷ l) = uses s (d || p.writes i s) (u || (not d && p.reads i s)) l

-- Where a path of points stands that began at the first point of block b₀: it has passed whole blocks, along a path of blocks, and then
-- the front of the block that it is in. l is what comes before its last point i.
pub record Place {P B : Type 0} (g : BlockGraph P B) (b₀ : B) (l : List P) (i : P) : Type 0 where
  pub passed : List B
  pub block : B
  pub way : Path g.successors b₀ passed block
  pub front : List P
  pub rest : List P
  pub is : g.body block ≡ front ++ (i ∷ rest)
  pub all : l ≡ points_of g passed ++ front
