use Rattle.std.proofs.Common.{◌≡◌, ◌+◌, ◌*◌, ◌-◌}
use Rattle.records.specs.Records.{plain_run}
use Rattle.records.proofs.record.plain_slots.Given as goal

abbrev pub invariant-loop-k : goal.invariant-loop-k
invariant-loop-k l =
    plain_run l.s l.top l.at l.most ≡ l.k + plain_run l.s l.top (l.at + 6 * l.k) (l.most - l.k)
