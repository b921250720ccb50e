use Rattle.std.proofs.Common.{ap, ◌∙◌, ℕ, ◌+◌, map}
use Rattle.operands.specs.Bytes.{number_in}
use Rattle.instructions.proofs.PlacedLaws.{made_fields}
use Rattle.instructions.proofs.placed.instruction_at.Goals as goal

pub returns : goal.returns
returns c =
    let s = c.args.s.now in
    let at = c.args.at in
    record {
      kind_is = c.in-Ok.ensures ∙ c.u16_at-2.ensures;
      values_are = ap (map number_in) c.as_chunks.ensures.front ∙ made_fields s at c.u16_at.result c.u16_at.ensures c.requires.whole;
      next_is = ap (λ (n : ℕ). at + 2 + n) c.u16_at.ensures;
    }
