-- The line of an await.
use Rattle.std.specs.Prelude.{List, ℕ, ◌*◌, length}
use Rattle.bitset.specs.Sets.{member}
use Rattle.dataflow.specs.Lists.{range, keep}
use Rattle.listing.specs.declared.awaits.Await.{Await}
use Rattle.listing.specs.Lines.{await_line}

-- the slots of a set, ascending
abbrev pub slots_of : List ℕ → List ℕ
slots_of words = keep (member words) (range 0 (64 * length words))

abbrev pub await_text : Await → List ℕ
await_text a = await_line a.instruction (slots_of a.slots.now)
