use Rattle.std.proofs.Common.{◌≡◌, ◌∙◌, arith}
use Rattle.records.proofs.RunLaws.{plain_run_full}
use Rattle.records.proofs.record.plain_slots.Goals as goal

pub returns : goal.returns
returns c =
    let a = c.args in
    let l = c.loop-k in
    let e : c.min-n.result ≡ l.k = omega arith in
    e ∙ plain_run_full a.s.now a.top a.at a.most l.k l.invariant (omega arith) (omega arith)
