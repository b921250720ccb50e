-- Scratch holds the block records of a script that is accepted. Assumes nothing.
use mathlib.Core.Path.{◌≡◌, refl, sym, ◌∙◌}
use mathlib.Core.Bool.{Bool}
use mathlib.Core.List.{List}
use Prim.Native.Nat.{ℕ, ◌<◌}
use native.Mathlib.Decide.{dec_lt}
use native.Mathlib.Omega.{arith}
use lib.ListN.{length, get_or, get_or-eq_default}
use Rattle.dataflow.specs.Code.{Instruction, block_successors}
use Rattle.dataflow.specs.Results.{reachable}
use Rattle.memory.specs.Cells.{Mem, word}
use Rattle.memory.specs.Names.{reachable_cell}
use Rattle.dataflow.specs.Lists.{flag}
use Rattle.memory.specs.Edges.{edge_word}
use Rattle.sizes.specs.declared.Layout.{Layout}
use Rattle.sheet.specs.declared.script.Script.{Script}
use Rattle.sizes.specs.declared.Lent.{Lent}
use Rattle.blocks.specs.Blocks.{BlockWords}
use Rattle.judge.specs.Judge.{AcceptedWords}
use Rattle.outcome.specs.Buffers.{block_record}
use Rattle.blocklist.specs.List.{record_in}
use Rattle.examine.specs.Examine.{Listing}

-- the words of a block are its record
module _ {code : List Instruction} {m : Mem} {c : ℕ} (h : BlockWords code m c) where
  -- an edge, or 0 where there is none
  edge-is : (k : ℕ) → k < 2 → edge_word m c k ≡ get_or (block_successors code c) k 0
  edge-is k lt = go (dec_lt k (length (block_successors code c)))
    where
      go : Dec (k < length (block_successors code c)) → edge_word m c k ≡ get_or (block_successors code c) k 0
      go (yes l) = h.edges k l
      go (no l) = h.unused k lt (omega arith) ∙ sym (get_or-eq_default (block_successors code c) 0 {n = k} (omega arith))

  record-there : word m reachable_cell c ≡ flag (reachable code c) → record_in m c ≡ block_record code c
  record-there reached =
      rw (h.start, h.end, reached, h.counted, edge-is 0 (omega arith), edge-is 1 (omega arith)) refl

pub listing : (s : List ℕ) (parameter : ℕ → Bool) (x : Script) (lent : Lent) (w v : List ℕ) (y : Layout) → AcceptedWords s parameter x lent w v y → Listing s lent.records w y
listing s parameter x lent w v y a = record {
  bounded = record {
    instructions = a.room.instructions;
    blocks = a.room.blocks;
    words = a.room.words;
    awaits = omega (arith, a.sets_room.awaits);
    extra = a.room.extra;
  };
  fits = a.room.fits;
  lent = a.records;
  record_is = λ c lt. record-there (a.finished.block c lt).words (a.finished.flows.reached c lt);
}
