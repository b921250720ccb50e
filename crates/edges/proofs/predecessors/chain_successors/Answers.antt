-- `edges::predecessors::chain_successors` meets its contract. Assumes nothing.
use Rattle.std.proofs.Common.{refl, sym, ◌∙◌, ◌-◌, ◌+◌, ◌<◌, arith}
use Rattle.edges.proofs.ChainLaws.{partly_more, partly_all, partly_room, count-stays, only-linked, whole-linked}
use Rattle.edges.proofs.EdgeLaws.{holds-only, successor_there}
use Rattle.memory.proofs.EdgeLaws.{place-from}
use Rattle.memory.proofs.FrameLaws.{only_then}
use Rattle.edges.proofs.predecessors.chain_successors.Goals as goal

pub successor-to-requires : goal.successor-to-requires
successor-to-requires g c =
    let a = c.args in
    let pre = c.requires in
    let l = c.loop-k in
    let h = holds-only l.invariant.only refl refl pre.1.1 in
    let n = c.get-n.ensures.is ∙ sym (count-stays a.block l.invariant.only) in
    (pre.0, n, omega arith, successor_there h a.block (l.k - 1) pre.0 (omega (arith, n)))

pub chain-requires : goal.chain-requires
chain-requires g c =
    let a = c.args in
    let pre = c.requires in
    let l = c.loop-k in
    let y = g.R.Run.bounded in
    let p = l.invariant.partly pre.1.0 pre.1.1 pre.1.2 in
    let h = holds-only l.invariant.only refl refl pre.1.1 in
    let n = c.get-n.ensures.is ∙ sym (count-stays a.block l.invariant.only) in
    let few = p.few a.block pre.0 in
    let to : c.successor-to.result < g.R.Run.layout.blocks =
    rw c.successor-to.ensures (successor_there h a.block (l.k - 1) pre.0 (omega (arith, n))) in (
      omega (arith, c.edge.ensures, place-from a.block ((a.low - c.get-n.result) + (l.k - 1)) (omega (arith, few, y.blocks, y.extra)), few),
      to,
      omega (arith, p.few c.successor-to.result to),
    )

pub loop-k-preserved : goal.loop-k-preserved
loop-k-preserved g c =
    let l = c.loop-k in
    let y = g.R.Run.bounded in
    let n = c.get-n.ensures.is ∙ sym (count-stays c.args.block l.invariant.only) in record {
      only = only_then l.invariant.only (rw c.chain.ensures (only-linked _ _ _));
      places = l.invariant.places;
      whole = rw c.chain.ensures (whole-linked _ _ _ _ l.invariant.whole);
      partly = λ next h b. partly_more next c.requires.0 l.invariant.whole (holds-only l.invariant.only refl refl h)
          (omega (arith, y.blocks, y.extra)) _ l.k c.loop-k-test.true (omega (arith, n)) c.successor-to.ensures
          (rw c.edge.ensures at c.chain.ensures) (l.invariant.partly next h b);
    }

pub returns : goal.returns
returns g c =
    let pre = c.requires in
    let l = c.loop-k in
    record {
      chains = λ next h b. partly_all next pre.0 _ l.k c.loop-k-test.false
          (omega (arith, partly_room next pre.0 h c.get-n.ensures.is b, l.invariant.places)) (l.invariant.partly next h b);
      only = l.invariant.only;
    }
