use Rattle.std.proofs.Common.{[], ◌∷◌}
use Rattle.listing.specs.Awaits.{slots_of}
use Rattle.listing.proofs.TextLaws.{writes_then}
use Rattle.listing.proofs.LineLaws.{writes_more}
use Rattle.listing.proofs.awaits.Await.write.Goals as goal

pub returns : goal.returns
returns c =
    let a = c.args.self.now in
    writes_then c.word.ensures.writes
    (writes_then (writes_more (a.instruction ∷ []) (slots_of a.slots.now) c.number.ensures.writes c.write_slots.ensures.writes) c.word-2.ensures.writes)
