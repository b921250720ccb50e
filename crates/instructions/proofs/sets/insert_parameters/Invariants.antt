use Rattle.std.proofs.Common.{◌≡◌, drop, map}
use Rattle.operands.specs.Bytes.{number_in}
use Rattle.instructions.specs.Sets.{inserted_all}
use Rattle.instructions.proofs.sets.insert_parameters.Given as goal

abbrev pub invariant-loop-field : goal.invariant-loop-field
invariant-loop-field l = inserted_all (drop l.field-index (map number_in l.field-items)) l.row ≡ inserted_all (map number_in l.field-items) l.initial.row
