-- `operands::instruction::Instruction::output` meets its contract. Assumes nothing.
use Rattle.std.proofs.Common.{◌≡◌, ◌∙◌, sym, rules, map}
use Rattle.operands.specs.Bytes.{number_in}
use Rattle.operands.specs.Kinds.{kind_number}
use Rattle.operands.specs.Instructions.{slot_in, value_of, output_in}
use Rattle.operands.proofs.KindLaws.{kind_low, kind_high}
use Rattle.operands.proofs.OperandLaws.{output_field}
use Rattle.operands.proofs.instruction.Instruction.output.Goals as goal

pub returns : goal.returns
returns c =
    let k = c.args.self.kind in
    let out = output_field (kind_number k) (map number_in c.args.self.fields.now) (kind_low k) (kind_high k) in
    let value : c.at.result ≡ value_of (output_in c.args.self) =
    rw (c.new.ensures.holds.0, c.new.ensures.holds.1, c.new.ensures.holds.2, c.new.ensures.holds.3, c.of-pattern.ensures.kind) at c.at.ensures ∙ sym out in
    let same : slot_in c.map.result ≡ c.at.result = search rules in
    same ∙ value
