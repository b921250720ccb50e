use Rattle.std.proofs.Common.{◌≡◌, ◌+◌, length, map}
use Rattle.operands.specs.Bytes.{number_in}
use Rattle.operands.specs.Kinds.{kind_number}
use Rattle.operands.specs.Roles.{role_number}
use Rattle.operands.specs.Instructions.{singles_from, singles_left}
use Rattle.operands.proofs.iter.Singles.len.Given as goal

abbrev pub invariant-loop-j : goal.invariant-loop-j
invariant-loop-j l =
    let s = l.initial.self in
    record {
      left : length (singles_left s)
          ≡ l.len + length (singles_from (role_number s.always) (role_number s.maybe) (kind_number s.pattern.kind) (map number_in s.fields.now) l.j);
    }
