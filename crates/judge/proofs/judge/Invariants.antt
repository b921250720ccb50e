use Rattle.memory.specs.Buffer.{loan_of}
use Rattle.judge.proofs.judge.Given as goal

abbrev pub ghosts-solve : goal.ghosts-solve
ghosts-solve a = record {
  layout = a.terms.layout;
  limits = a.limits;
  scratch = loan_of a.s.now.words;
  sets = loan_of a.t.now.words;
  bounded = a.terms.bounded;
}
