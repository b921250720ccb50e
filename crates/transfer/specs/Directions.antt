-- Along which edges a round goes.
use Rattle.memory.specs.declared.edges.Side.{Side}
use Rattle.memory.specs.declared.edges.Side.TheVariants.{Successors, Predecessors}
use Rattle.transfer.specs.declared.direction.Direction.{Direction}
use Rattle.transfer.specs.declared.direction.Direction.TheVariants.{Initialization, Liveness}

-- solver.rs: a visit reads the sets of its predecessors, or of its successors; a change is told to those on the other side
abbrev pub reads_of : Direction → Side
reads_of Initialization = Predecessors
reads_of Liveness = Successors

abbrev pub dependents_of : Direction → Side
dependents_of Initialization = Successors
dependents_of Liveness = Predecessors
