-- `sheet::walk::any_slots` meets its contract. Assumes nothing.
use Rattle.std.proofs.Common.{sym, ◌∙◌, ◌-◌, arith}
use Rattle.std.proofs.lemmas.Result.{err_from_is_err_and}
use Rattle.records.specs.Records.{slot_fault}
use Rattle.records.proofs.RunLaws.{plain_run_most}
use Rattle.sheet.proofs.WalkLaws.{Run, run_plain, run_more, run_stop, run_end, read_passed, read_refused, walks_passed, walks_refused}
use Rattle.sheet.proofs.walk.any_slots.Goals as goal
use Rattle.sheet.proofs.walk.any_slots.Goals.{After-plain_slots-left}

-- behind the plain ones
behind : (c : After-plain_slots-left) → Run (λ a. slot_fault c.args.reader.now.sheet.now a) c.args.reader.now.sheet.now c.args.reader.now.at c.args.slots
    c.plain_slots-left.new.self.at (c.loop-left.left - c.plain_slots-left.result)
behind c =
    let p = c.plain_slots-left in
    run_plain c.loop-left.invariant.run 3 (omega arith) p.result (rw c.loop-left.invariant.same_sheet at p.ensures.count) p.ensures.at

pub overflow_sub-left : goal.overflow_sub-left
overflow_sub-left c =
    let l = c.loop-left in
    omega (arith, c.plain_slots-left.ensures.count, plain_run_most l.reader.sheet.now 3 l.left l.reader.at)

pub returns-in_err-slot : goal.returns-in_err-slot
returns-in_err-slot c =
    let e = c.plain_slots-left.ensures.sheet ∙ c.loop-left.invariant.same_sheet in
    let f = read_refused c.slot.ensures c.in_err-slot.was in
    let t = run_stop (behind (goal.at.returns-in_err-slot c).After-plain_slots-left) (c.loop-left.left - c.plain_slots-left.result - 1) (omega arith) (rw e at f.0) in
    let x = err_from_is_err_and c.from_residual.result c.from_residual.ensures.1 in
    rw (x.1, x.2) (walks_refused (c.slot.ensures.sheet ∙ e) (rw (sym f.1) at t))

pub loop-left-preserved : goal.loop-left-preserved
loop-left-preserved c =
    let e = c.plain_slots-left.ensures.sheet ∙ c.loop-left.invariant.same_sheet in
    let f = read_passed c.slot.ensures c.in_ok-slot.was in
    record {
      same_sheet = c.slot.ensures.sheet ∙ e;
      run = run_more (behind (goal.at.loop-left-preserved c).After-plain_slots-left) (c.loop-left.left - c.plain_slots-left.result - 1) (omega arith)
          (rw e at f.no_fault) (rw e at f.next);
    }

pub returns-then-left-eq0 : goal.returns-then-left-eq0
returns-then-left-eq0 c =
    walks_passed (c.plain_slots-left.ensures.sheet ∙ c.loop-left.invariant.same_sheet)
    (run_end (behind (goal.at.returns-then-left-eq0 c).After-plain_slots-left) c.if-left-eq0.true)

pub returns-after-loop-left : goal.returns-after-loop-left
returns-after-loop-left c =
    walks_passed c.loop-left.invariant.same_sheet (run_end c.loop-left.invariant.run (omega arith))
