-- `edges::predecessors::chain` meets its contract. Assumes nothing.
use Rattle.edges.proofs.ChainLaws.{linked_from}
use Rattle.edges.proofs.predecessors.chain.Goals as goal

pub returns : goal.returns
returns g c =
    linked_from _ _ _ c.args.edge c.get-first.result c.args.to
    c.get-first.ensures.is c.put_next.ensures c.put.ensures.stored c.get-count.ensures.is c.put-2.ensures.stored
