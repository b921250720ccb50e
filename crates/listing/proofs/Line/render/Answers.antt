use Rattle.std.proofs.Common.{List, ℕ, rules, subst}
use Rattle.listing.specs.Text.{Rendered}
use Rattle.listing.specs.LineText.{text_of}
use Rattle.listing.proofs.TextLaws.{rendered}
use Rattle.listing.proofs.Line.render.Goals as goal

-- what the text ends as is what was left behind `out`
pub returns : goal.returns
returns c =
    subst (λ (l : List ℕ). Rendered c.args.text.now l (text_of c.args.self.now) c.write.new.out.at) (search rules) (rendered c.write.ensures.puts)
