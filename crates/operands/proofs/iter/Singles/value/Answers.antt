-- `operands::iter::Singles::value` meets its contract. Assumes nothing.
use Rattle.std.proofs.Common.{[], ◌∙◌, sym}
use Rattle.std.proofs.lemmas.List.{get_or-map}
use Rattle.operands.specs.Bytes.{number_in}
use Rattle.operands.specs.Places.{absent}
use Rattle.operands.proofs.KindLaws.{kind_low, kind_high}
use Rattle.operands.proofs.PatternLaws.{field_there}
use Rattle.operands.proofs.iter.Singles.value.Goals as goal

pub bounds-self-j : goal.bounds-self-j
bounds-self-j c =
    let s = c.args.self in
    field_there _ _ _ (kind_low s.pattern.kind) (kind_high s.pattern.kind) s.fitting c.requires.0 c.requires.1

pub returns : goal.returns
returns c =
    let s = c.args.self in
    let here = field_there _ _ _ (kind_low s.pattern.kind) (kind_high s.pattern.kind) s.fitting c.requires.0 c.requires.1 in
    c.number.ensures ∙ sym (get_or-map number_in s.fields.now c.args.j [] absent here)
