use Rattle.listing.proofs.LineLaws.{writes_number}
use Rattle.listing.proofs.text.LentText.number.Goals as goal

pub returns-clause-writes : goal.returns-clause-writes
returns-clause-writes c =
    writes_number c.args.n c.ranges.n.fits c.format.ensures.text c.word.ensures.writes c.word-2.ensures.writes
