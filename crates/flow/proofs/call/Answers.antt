-- `flow::call` meets its contract. Assumes nothing.
use Rattle.std.proofs.Common.{arith, rules}
use Rattle.answers.proofs.AnswerLaws.{listed_bounded}
use Rattle.flow.proofs.CallLaws.{calls, listings}
use Rattle.flow.proofs.call.Goals as goal

pub invariant_of-list : goal.invariant_of-list
invariant_of-list g c = record {
  bounded = rw c.layout_of-layout.ensures (listed_bounded c.examine-examined.result (listings _ _ _ _ _ _ _ _ c.args.added _ c.examine-examined.ensures));
}

pub returns-clause-called : goal.returns-clause-called
returns-clause-called g c =
    rw (← c.PER_RECORD.ensures)
    (calls g.T.Listed.listed _ _ _ _ _ _ _ _ _ _ _ c.args.added _ _ _ _ c.examine-examined.ensures c.layout_of-layout.ensures c.list.ensures
    c.answer_of-answer.ensures (c.fill.ensures.after (search rules)) (omega arith) (omega (arith, c.examine-examined.auto.s)))
