use Rattle.std.proofs.Common.{◌≡◌, map}
use Rattle.operands.specs.Bytes.{number_in}
use Rattle.operands.specs.Kinds.{kind_number}
use Rattle.operands.specs.Roles.{role_number}
use Rattle.operands.specs.Instructions.{nth, singles_from, singles_left}
use Rattle.operands.proofs.iter.Singles.get.Given as goal

abbrev pub invariant-loop-j : goal.invariant-loop-j
invariant-loop-j l =
    let s = l.initial.self in
    record {
      left : nth (singles_left s) l.initial.k
          ≡ nth (singles_from (role_number s.always) (role_number s.maybe) (kind_number s.pattern.kind) (map number_in s.fields.now) l.j) l.before;
    }
