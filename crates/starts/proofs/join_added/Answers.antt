use Rattle.std.proofs.Common.{arith}
use Rattle.starts.proofs.StartLaws.{joins}
use Rattle.starts.proofs.join_added.Goals as goal

pub returns : goal.returns
returns c = joins c.args.slots c.args.added.now c.args.row.now _ _ _ c.requires.1 (omega arith) c.join.ensures c.cut.ensures
