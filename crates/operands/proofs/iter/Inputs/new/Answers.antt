-- `operands::iter::Inputs::new` meets its contract. Assumes nothing.
use Rattle.std.proofs.Common.{◌≡◌, ◌++◌, true, ◌∙◌, sym, ap, ap₂, arith, List, ℕ, length, map, drop}
use Rattle.std.proofs.lemmas.List.{length-map, drop-map}
use Rattle.operands.specs.Bytes.{number_in}
use Rattle.operands.specs.Kinds.{kind_number}
use Rattle.operands.specs.Patterns.{fits, fixed_at}
use Rattle.operands.proofs.KindLaws.{kind_low, kind_high}
use Rattle.operands.proofs.PatternLaws.{fixed-there}
use Rattle.operands.proofs.OperandLaws.{inputs_two}
use Rattle.operands.proofs.iter.Inputs.new.Goals as goal

pub split_at-requires : goal.split_at-requires
split_at-requires c =
    let h = fixed-there _ _ c.requires in
    let counted = c.args.pattern.counted in
    omega arith

pub returns : goal.returns
returns c =
    let k = c.args.pattern.kind in
    let v = map number_in c.args.fields.now in
    let n = c.args.pattern.single in
    let fit : fits (kind_number k) (length v) ≡ true = ap (fits (kind_number k)) (length-map c.args.fields.now number_in) ∙ c.requires in
    let two = inputs_two (kind_number k) v (kind_low k) (kind_high k) fit in
    let counted : n ≡ fixed_at (kind_number k) = c.args.pattern.counted in
    let listed : map number_in c.split_at.result.1.now ≡ drop (fixed_at (kind_number k)) v =
    ap (map number_in) c.split_at.ensures.back ∙ sym (drop-map number_in n c.args.fields.now) ∙ ap (λ (m : ℕ). drop m v) counted in
    ap₂ (λ (x y : List ℕ). x ++ y) listed c.new.ensures.left ∙ sym two
