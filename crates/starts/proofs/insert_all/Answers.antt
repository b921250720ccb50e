use Rattle.std.proofs.Common.{arith}
use Rattle.instructions.proofs.Sound.{passed_sound}
use Rattle.starts.proofs.StartLaws.{starts}
use Rattle.starts.proofs.insert_all.Goals as goal

pub join_added-requires : goal.join_added-requires
join_added-requires c =
    let ok = passed_sound c.args.sheet.now in
    (ok.few_slots, omega (arith, c.requires, c.insert_parameters.auto.row))

pub returns : goal.returns
returns c =
    let x = c.args.sheet.now in
    starts x.bytes.now x.script c.args.added.now _ _ _ (passed_sound x) c.requires c.insert_parameters.ensures c.join_added.ensures
