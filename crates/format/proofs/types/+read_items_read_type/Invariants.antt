use Rattle.std.proofs.Common.{◌+◌, ◌*◌, ◌-◌, ◌≡◌, length}
use Rattle.format.specs.Types.{items_at, type_at}
use Rattle.format.specs.Answers.{items_of}
use Rattle.format.proofs.TypeLaws.{items_after}
use Rattle.format.proofs.types.+read_items_read_type.Given as goal

abbrev pub decreases-read_items : goal.decreases-read_items
decreases-read_items l = l.depth * 2 + 1

abbrev pub decreases-read_type : goal.decreases-read_type
decreases-read_type l = l.depth * 2

abbrev pub invariant-read_items-loop : goal.invariant-read_items-loop
invariant-read_items-loop l =
    items_after l.host (items_at (λ a. type_at l.depth l.s (length l.s) a) (l.count - l.counter) l.end)
    ≡ items_of (items_at (λ a. type_at l.depth l.s (length l.s) a) l.count l.at)
