-- `order::advance` meets its contract: one turn over the words is one turn of the search. Assumes nothing.
use Rattle.std.proofs.Common.{arith, rules}
use Rattle.order.proofs.TurnLaws.{good_room, finished}
use Rattle.order.proofs.advance.Goals as goal

pub get-block-requires : goal.get-block-requires
get-block-requires g c = omega (arith, good_room _ _ c.layout.ensures.whole c.requires.2, g.R.Run.bounded.blocks)

pub get-edge-requires : goal.get-edge-requires
get-edge-requires g c = omega (arith, good_room _ _ c.layout.ensures.whole c.requires.2, g.R.Run.bounded.blocks)

pub put-requires : goal.put-requires
put-requires g c = omega (arith, good_room _ _ c.layout.ensures.whole c.requires.2, g.R.Run.bounded.blocks)

pub overflow_add-result : goal.overflow_add-result
overflow_add-result g c = omega (arith, good_room _ _ c.layout.ensures.whole c.requires.2, g.R.Run.bounded.blocks)

pub returns-then-edge-n : goal.returns-then-edge-n
returns-then-edge-n g c = c.look.ensures c.args.walk.len c.requires.2

pub returns : goal.returns
returns g c =
    let p = c.requires in
    let z = c.get-block.ensures.whole in
    finished _ _ z _ _ p.0 p.2 (omega (arith, good_room _ _ z p.2, p.0)) _ _ _ c.get-block.ensures.is c.get-edge.ensures.is
    (rw (← c.get-n.ensures.is) (search rules)) c.put.ensures.stored
