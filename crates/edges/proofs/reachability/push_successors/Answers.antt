-- `edges::reachability::push_successors` meets its contract. Assumes nothing.
use Rattle.std.proofs.Common.{refl, sym, ◌∙◌, arith}
use Rattle.std.proofs.lemmas.Result.{err_from_is_err_and}
use Rattle.memory.specs.Names.{successor_count_cell}
use Rattle.budget.proofs.BudgetLaws.{charged-none}
use Rattle.memory.proofs.CellLaws.{same_word}
use Rattle.memory.proofs.FrameLaws.{only_none, only_then}
use Rattle.edges.proofs.EdgeLaws.{holds-only, successor_there}
use Rattle.edges.proofs.SweepLaws.{adding_none, adding_more, paid_more, successor_at_lem, advanced_over, advanced_all}
use Rattle.edges.proofs.reachability.push_successors.Goals as goal

pub loop-k-init : goal.loop-k-init
loop-k-init g c = record { only = only_none _; paid = charged-none _ _; adding = λ next h r s. adding_none s }

pub returns-in_err-left : goal.returns-in_err-left
returns-in_err-left g c =
    let l = c.loop-k.invariant in
    let p = err_from_is_err_and c.from_residual.result c.from_residual.ensures.1 in
    rw (p.1, p.2) (advanced_over c.requires.0 c.get-n.ensures.is l.paid l.only c.loop-k-test.true c.in_err-left.ensures)

pub successor-to-requires : goal.successor-to-requires
successor-to-requires g c =
    let pre = c.requires in
    let l = c.loop-k in
    let h = holds-only l.invariant.only refl refl pre.1.1 in
    let n = c.get-n.ensures.is ∙ sym (same_word c.args.block (l.invariant.only.named successor_count_cell refl)) in
    (pre.0, n, c.loop-k-test.true, successor_there h c.args.block l.k pre.0 (omega (arith, n)))

pub push-high-requires : goal.push-high-requires
push-high-requires g c =
    let pre = c.requires in
    let l = c.loop-k in
    let h = pre.1 in
    let s = pre.2 in
    let a = l.invariant.adding h.0 h.1 s.0 s.1 in
    let t = successor_at_lem pre.0 h.1 l.invariant.only c.get-n.ensures.is c.loop-k-test.true c.successor-to.ensures in
    (t.2, (a.at, a.sweeps))

pub loop-k-preserved : goal.loop-k-preserved
loop-k-preserved g c =
    let l = c.loop-k in record {
      only = only_then l.invariant.only c.push-high.ensures.only;
      paid = paid_more _ _ l.k l.invariant.paid c.in_ok-left.ensures;
      adding = λ next h r s.
          let t = successor_at_lem c.requires.0 h l.invariant.only c.get-n.ensures.is c.loop-k-test.true c.successor-to.ensures in
          adding_more t.0 t.1 (l.invariant.adding next h r s) c.push-high.ensures;
    }

pub returns : goal.returns
returns g c =
    let l = c.loop-k in
    advanced_all c.requires.0 c.get-n.ensures.is l.invariant.paid l.invariant.only (omega arith) (omega arith) l.invariant.adding
