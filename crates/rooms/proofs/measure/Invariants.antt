use Rattle.memory.specs.Buffer.{loan_of}
use Rattle.run.specs.Terms.{no_loan}
use Rattle.rooms.proofs.measure.Given as goal

abbrev pub ghosts-count : goal.ghosts-count
ghosts-count a = record {
  layout = a.marks.layout;
  limits = a.limits;
  scratch = loan_of a.scratch.now.words;
  sets = no_loan;
  bounded = a.marks.bounded;
}
