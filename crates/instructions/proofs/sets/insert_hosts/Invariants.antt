use Rattle.std.proofs.Common.{length}
use Rattle.instructions.proofs.HostWords.{Hosting}
use Rattle.instructions.proofs.sets.insert_hosts.Given as goal

abbrev pub invariant-loop-word : goal.invariant-loop-word
invariant-loop-word l = Hosting l.sheet.bytes.now l.initial.at l.initial.left (length l.initial.row) l.word-index l.at l.left l.row
