use Rattle.listing.proofs.TextLaws.{writes_then}
use Rattle.listing.proofs.write_accept.Goals as goal

pub returns : goal.returns
returns c =
    writes_then c.word.ensures.writes
    (writes_then c.number.ensures.writes
    (writes_then c.word-2.ensures.writes
    (writes_then c.number-2.ensures.writes
    (writes_then c.word-3.ensures.writes
    (writes_then c.number-3.ensures.writes
    (writes_then c.word-4.ensures.writes (writes_then c.number-4.ensures.writes c.word-5.ensures.writes)))))))
