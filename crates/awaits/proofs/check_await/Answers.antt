-- `awaits::check_await` meets its contract: a law for each way out. Assumes nothing.
use Rattle.std.proofs.Common.{refl, sym, ap, ◌∙◌, rules}
use Rattle.std.proofs.lemmas.Result.{err_from_is_err_and}
use Rattle.budget.specs.Budget.{facts_bytes}
use Rattle.sizes.specs.declared.Layout.{Layout}
use Rattle.awaits.specs.Awaits.{RowsFit}
use Rattle.awaits.proofs.AwaitLaws.{rows-fit, await_over, await_host, await_facts, await_passed}
use Rattle.awaits.proofs.check_await.Goals as goal

pub returns-in_err-paid : goal.returns-in_err-paid
returns-in_err-paid g c =
    let rows : RowsFit g.R.Run.layout c.args.s.now = search (rules, rows-fit) in
    let p = err_from_is_err_and c.from_residual.result c.from_residual.ensures.1 in
    rw (p.1, p.2) (await_over rows c.in_err-paid.ensures)

pub returns-then-common : goal.returns-then-common
returns-then-common g c =
    let rows : RowsFit g.R.Run.layout c.args.s.now = search (rules, rows-fit) in
    rw c.budget.ensures (await_host rows c.in_ok-paid.ensures c.row-hosts.ensures.is c.row-live.ensures.is c.common.ensures c.if-common.true)

pub returns-in_err-kept : goal.returns-in_err-kept
returns-in_err-kept g c =
    let rows : RowsFit g.R.Run.layout c.args.s.now = search (rules, rows-fit) in
    let facts = sym (c.facts_bytes.ensures ∙ ap (λ (y : Layout). facts_bytes y.words) c.layout.ensures.is) in
    let p = err_from_is_err_and c.from_residual-in_err-kept.result c.from_residual-in_err-kept.ensures.1 in
    rw (p.1, p.2)
    (await_facts rows c.in_ok-paid.ensures c.row-hosts.ensures.is c.row-live.ensures.is c.common.ensures c.if-common.false facts c.in_err-kept.ensures)

pub returns : goal.returns
returns g c =
    let rows : RowsFit g.R.Run.layout c.args.s.now = search (rules, rows-fit) in
    let facts = sym (c.facts_bytes.ensures ∙ ap (λ (y : Layout). facts_bytes y.words) c.layout.ensures.is) in
    await_passed rows c.in_ok-paid.ensures c.row-hosts.ensures.is c.row-live.ensures.is c.common.ensures c.if-common.false facts c.in_ok-kept.ensures refl
    c.layout.ensures.whole c.requires c.put_await.ensures
