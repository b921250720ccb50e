use Rattle.std.proofs.Common.{arith, refl}
use Rattle.listing.proofs.TextLaws.{puts_there, puts_past}
use Rattle.listing.proofs.text.LentText.byte.Goals as goal
use Rattle.listing.proofs.text.LentText.byte.Goals.{then-self, else-self}

pub returns : goal.returns
returns c =
    let text = c.args.self.now in
    elim c.if-self.branch [
      | then-self w ↦ rw w.self-is (record { lent = refl; puts = puts_there text.bytes.now text.at c.args.byte })
      | else-self w ↦ rw w.self-is (record { lent = refl; puts = puts_past text.bytes.now text.at c.args.byte (omega (arith, w.if-self.false)) })
    ]
