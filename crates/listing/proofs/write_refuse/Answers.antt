use Rattle.std.proofs.Common.{[], ◌∷◌}
use Rattle.listing.proofs.TextLaws.{writes_then}
use Rattle.listing.proofs.LineLaws.{writes_more}
use Rattle.listing.proofs.write_refuse.Goals as goal

pub returns : goal.returns
returns c =
    writes_then c.word.ensures.writes
    (writes_then (writes_more (c.args.number ∷ []) (c.args.id ∷ []) c.number.ensures.writes c.number-2.ensures.writes) c.word-2.ensures.writes)
