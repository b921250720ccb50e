use Rattle.std.proofs.Common.{take}
use Rattle.listing.specs.Text.{Writes}
use Rattle.listing.proofs.text.LentText.word.Given as goal

abbrev pub invariant-loop-byte : goal.invariant-loop-byte
invariant-loop-byte l = Writes l.initial.self l.self (take l.byte-index l.word)
