-- `graph::graph` meets its contract. Assumes nothing.
use Rattle.std.proofs.Common.{rules, refl}
use Rattle.graph.proofs.GraphLaws.{graphed_refused, indexes, build_ready, build_bounded, graphed_on}
use Rattle.graph.proofs.graph.Goals as goal

pub returns-in_err-layout : goal.returns-in_err-layout
returns-in_err-layout c = graphed_refused _ _ c.in_err-layout.ensures (search rules)

pub invariant_of-build : goal.invariant_of-build
invariant_of-build c = record { bounded = build_bounded c.in_ok-layout.ensures }

pub build-requires : goal.build-requires
build-requires c = (
  refl,
  refl,
  record { named = refl; long = refl },
  record { named = refl; long = refl },
  (indexes c.in_ok-layout.ensures).room.fits,
  (indexes c.in_ok-layout.ensures).sets_room.fits,
  build_ready c.in_ok-layout.ensures c.args.sheet.now.sound,
)

pub returns : goal.returns
returns c =
    let k = c.build.ensures.lent in
    graphed_on _ _ c.in_ok-layout.ensures k.0.long c.build.ensures.built
    (search (rules, k.0.named)) (search (rules, k.1.named))
