-- `operands::iter::Targets::new` meets its contract. Assumes nothing.
use Rattle.std.proofs.Common.{◌∙◌, sym}
use Rattle.operands.proofs.KindLaws.{kind_low, kind_high}
use Rattle.operands.proofs.OperandLaws.{targets_single}
use Rattle.operands.proofs.iter.Targets.new.Goals as goal

pub returns : goal.returns
returns c =
    let k = c.args.pattern.kind in
    c.new.ensures.left ∙ sym (targets_single _ _ (kind_low k) (kind_high k))
