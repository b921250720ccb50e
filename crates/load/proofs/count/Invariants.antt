use Rattle.std.proofs.Common.{◌+◌, ◌/◌, length}
use Rattle.load.proofs.CountLaws.{Counted}
use Rattle.load.proofs.count.Given as goal

abbrev pub invariant-loop-j : goal.invariant-loop-j
invariant-loop-j l = Counted l.s l.at l.slots l.entries l.w (length l.entries / (1 + l.w)) l.j l.next l.left l.total
