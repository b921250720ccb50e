use Rattle.std.proofs.Common.{[], ◌∷◌}
use Rattle.listing.proofs.TextLaws.{writes_then}
use Rattle.listing.proofs.LineLaws.{writes_more}
use Rattle.listing.proofs.write_block.Goals as goal

pub returns : goal.returns
returns c =
    let a = c.args in
    let numbers =
    writes_more (a.index ∷ []) (a.start ∷ a.end ∷ a.reachable ∷ []) c.number.ensures.writes
    (writes_more (a.start ∷ []) (a.end ∷ a.reachable ∷ []) c.number-2.ensures.writes
    (writes_more (a.end ∷ []) (a.reachable ∷ []) c.number-3.ensures.writes c.number-4.ensures.writes)) in
    writes_then c.word.ensures.writes (writes_then numbers c.word-2.ensures.writes)
