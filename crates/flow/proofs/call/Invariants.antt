-- The run of `list`: it has the layout, and no words are lent for writing.
use Rattle.budget.specs.Budget.{todays}
use Rattle.run.specs.Terms.{no_loan}
use Rattle.flow.proofs.call.Given as goal

abbrev pub ghosts-list : goal.ghosts-list
ghosts-list g a = record { layout = a.terms.layout; limits = todays; scratch = no_loan; sets = no_loan; bounded = a.terms.bounded }
