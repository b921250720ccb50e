-- `edges::reachability::push` meets its contract. Assumes nothing.
use Rattle.std.proofs.Common.{arith}
use Rattle.edges.proofs.StackLaws.{search-stored, enter_room, enter_new}
use Rattle.edges.proofs.reachability.push.Goals as goal

pub put-requires-2 : goal.put-requires-2
put-requires-2 g c = enter_room c.requires.1.1 c.requires.0 c.get.ensures.is (omega arith)

pub returns : goal.returns
returns g c =
    record {
      sweeps = λ next r s.
          enter_new s c.requires.0 c.get.ensures.is c.get.ensures.whole next (omega arith) c.put.ensures.stored c.put-2.ensures.stored;
      only = search-stored _ _ _ _ c.put.ensures.stored c.put-2.ensures.stored;
    }
