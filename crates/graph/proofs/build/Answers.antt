-- `graph::build` meets its contract. Assumes nothing.
use Rattle.graph.proofs.GraphLaws.{built_words}
use Rattle.graph.proofs.build.Goals as goal

pub returns-clause-built : goal.returns-clause-built
returns-clause-built g c =
    built_words c.args.s.now.words.now _ _ c.requires.0 c.requires.1 c.new.ensures (rw (← c.take.ensures.value) c.new-cells.ensures)
    c.into_words-s.ensures.2 c.into_words-t.ensures.2 c.budget.ensures c.in_ok-built.ensures
