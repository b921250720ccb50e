-- `judge::judge` meets its contract. Assumes nothing.
use Rattle.std.proofs.Common.{refl, arith, rules}
use Rattle.std.proofs.lemmas.Result.{err_from_is_err_and}
use Rattle.judge.proofs.JudgeLaws.{judges_short, judges_refused, layout_bounded, scratch_enough, sets_enough, solve_begun, judges_on}
use Rattle.starts.proofs.StartLaws.{with_below}
use Rattle.judge.proofs.judge.Goals as goal

pub overflow_mul-sheet : goal.overflow_mul-sheet
overflow_mul-sheet c = omega (arith, c.args.sheet.now.sound.few_code)

pub returns-then-s-sheet : goal.returns-then-s-sheet
returns-then-s-sheet c =
    judges_short _ _ c.args.sheet.now.script c.args.limits c.args.records c.args.budget _ _ _ _ (omega (arith, c.if-s-sheet.true))

pub returns-in_err-layout : goal.returns-in_err-layout
returns-in_err-layout c =
    let p = err_from_is_err_and c.from_residual.result c.from_residual.ensures.1 in
    rw (p.1, p.2) (judges_refused _ _ _ _ _ _ _ _ (omega (arith, c.if-s-sheet.false)) _ _ _ c.graph.ensures _ c.in_err-layout.was)

pub invariant_of-solve : goal.invariant_of-solve
invariant_of-solve c = record {
  bounded = layout_bounded _ _ _ _ _ _ _ _ (omega (arith, c.if-s-sheet.false)) _ _ _ c.graph.ensures _ _ c.in_ok-layout.was;
}

pub solve-requires : goal.solve-requires
solve-requires c =
    let enough = c.if-s-sheet.false in
    let ok = c.args.sheet.now.sound in (
      refl,
      refl,
      record { named = refl; long = refl },
      record { named = refl; long = refl },
      scratch_enough _ _ _ _ _ _ _ _ (omega (arith, enough)) _ _ _ c.graph.ensures _ _ c.in_ok-layout.was,
      sets_enough _ _ _ _ _ _ _ _ (omega (arith, enough)) _ _ _ c.graph.ensures _ _ c.in_ok-layout.was (omega (arith, c.graph.auto.t)),
      c.requires,
      solve_begun _ _ _ _ _ _ _ _ (omega (arith, enough)) _ _ _ c.graph.ensures _ _ c.in_ok-layout.was ok (with_below _ _ ok c.args.added.now),
    )

pub returns : goal.returns
returns c =
    judges_on _ _ _ _ _ _ _ _ (omega (arith, c.if-s-sheet.false))
    _ _ _ c.graph.ensures _ _ c.in_ok-layout.was _ _ _ (search rules) (search rules) (search (rules, c.solve.ensures.solved))
