-- `operands_c::parse` meets its contract. Assumes nothing.
use Rattle.std.proofs.Common.{◌≡◌, ◌%◌, rules, length}
use Rattle.operands.specs.Kinds.{kind_number}
use Rattle.operands_c.proofs.ParseLaws.{parsed}
use Rattle.operands_c.proofs.parse.Goals as goal

pub returns : goal.returns
returns c =
    let same : kind_number c.in_ok-kind.kind ≡ c.args.kind = search rules in
    let whole : length c.args.body.now % 4 ≡ 0 = search rules in
    rw same at (parsed c.in_ok-kind.kind c.args.body.now c.as_chunks.result.0.now c.new.result whole c.as_chunks.ensures.front c.as_chunks.ensures.front_len c.new.ensures.made c.new.ensures.none)
