-- `sheet::walk::walk_code` meets its contract. Assumes nothing.
use Rattle.std.proofs.Common.{◌≡◌, refl, sym, ap, ◌∙◌, ℕ, suc, ◌+◌, ◌-◌, arith}
use Rattle.std.proofs.lemmas.Result.{err_from_is_err_and}
use Rattle.std.specs.Int.{from_bool}
use Rattle.sheet.proofs.WalkLaws.{run_start, run_more, run_stop, run_end, read_passed, read_refused, walks_passed, walks_refused}
use Rattle.sheet.proofs.CodeLaws.{await_once, code_more, code_end}
use Rattle.sheet.proofs.walk.walk_code.Goals as goal

pub loop-init : goal.loop-init
loop-init c =
    let q : c.args.counts.instructions ≡ c.args.counts.instructions - 0 = omega arith in
    record { same_sheet = refl; few = omega arith; run = rw (sym q) run_start; code = rw (sym q) }

pub returns-in_err-kind : goal.returns-in_err-kind
returns-in_err-kind c =
    let l = c.loop in
    let f = read_refused c.instruction.ensures c.in_err-kind.was in
    let t = run_stop l.invariant.run (c.args.counts.instructions - l.counter - 1) (omega (arith, c.loop-test.true)) (rw l.invariant.same_sheet at f.0) in
    let x = err_from_is_err_and c.from_residual.result c.from_residual.ensures.1 in
    rw (x.1, x.2) (walks_refused (c.instruction.ensures.sheet ∙ l.invariant.same_sheet) (rw (sym f.1) at t))

pub loop-preserved : goal.loop-preserved
loop-preserved c =
    let l = c.loop in
    let s = c.args.reader.now.sheet.now in
    let n = c.args.counts in
    let e = l.invariant.same_sheet in
    let f = read_passed c.instruction.ensures c.in_ok-kind.was in
    let left = n.instructions - l.counter in
    let rest = n.instructions - (l.counter + 1) in
    let q : left ≡ suc rest = omega (arith, c.loop-test.true) in
    record {
      same_sheet = c.instruction.ensures.sheet ∙ e;
      few = omega (arith, l.invariant.few, await_once c.is_await.result, c.from.ensures);
      run = run_more l.invariant.run rest q (rw e at f.no_fault) (rw e at f.next);
      code = l.invariant.code ∙ code_more s n.slots n.instructions l.reader.at rest left c.instruction.new.self.at _ l.code c.in_ok-kind.kind q (rw e at f.no_fault) (rw e at f.next)
          (rw e at f.is_answer) (ap (λ (k : ℕ). l.code.awaits + k) (c.from.ensures ∙ ap from_bool c.is_await.ensures));
    }

pub returns : goal.returns
returns c =
    let l = c.loop in
    let z : c.args.counts.instructions - l.counter ≡ 0 = omega (arith, c.loop-test.false) in
    let e = sym (l.invariant.code ∙ code_end c.args.reader.now.sheet.now l.reader.at (c.args.counts.instructions - l.counter) l.code z) in
    rw e (walks_passed l.invariant.same_sheet (run_end l.invariant.run z))
