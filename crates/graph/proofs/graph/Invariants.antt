-- The run that `graph` picks: the layout that was measured, and the words that were lent.
use Rattle.memory.specs.Buffer.{loan_of}
use Rattle.graph.proofs.graph.Given as goal

abbrev pub ghosts-build : goal.ghosts-build
ghosts-build a = record {
  layout = a.terms.layout;
  limits = a.limits;
  scratch = loan_of a.s.now.words;
  sets = loan_of a.t.now.words;
  bounded = a.terms.bounded;
}
