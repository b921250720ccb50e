-- `judge::solve_cells` meets its contract. Assumes nothing.
use Rattle.std.proofs.Common.{refl}
use Rattle.std.proofs.lemmas.Result.{err_from_is_err_and}
use Rattle.judge.proofs.SolveLaws.{flowing, points_ask, solves_over, solves_refused, solves_on}
use Rattle.judge.proofs.solve_cells.Goals as goal

pub fixed_points-requires : goal.fixed_points-requires
fixed_points-requires g c =
    (flowing c.args.sheet.now.bytes.now _ c.args.sheet.now.script g.R.Run.layout _ _ c.requires.0, c.requires.1)

pub returns-in_err-met : goal.returns-in_err-met
returns-in_err-met g c =
    let a = c.args in
    let p = err_from_is_err_and c.from_residual.result c.from_residual.ensures.1 in
    rw (p.1, p.2) (solves_over a.sheet.now.bytes.now _ a.sheet.now.script g.R.Run.layout _ _ c.requires.0 g.R.Run.limits a.meter _ _ _ c.fixed_points.ensures
    _ _ _ c.in_err-met.was)

pub hosts_if-requires : goal.hosts_if-requires
hosts_if-requires g c = c.requires.0.fits.slots

pub check_points-requires : goal.check_points-requires
check_points-requires g c =
    let a = c.args in
    points_ask a.sheet.now.bytes.now _ a.sheet.now.script g.R.Run.layout _ _ c.requires.0 g.R.Run.limits a.meter _ _ _ c.fixed_points.ensures
    _ c.in_ok-met.was _ c.hosts_if.ensures refl

pub returns-in_err-awaits : goal.returns-in_err-awaits
returns-in_err-awaits g c =
    let a = c.args in
    let p = err_from_is_err_and c.from_residual-in_err-awaits.result c.from_residual-in_err-awaits.ensures.1 in
    rw (p.1, p.2) (solves_refused a.sheet.now.bytes.now _ a.sheet.now.script g.R.Run.layout _ _ c.requires.0 g.R.Run.limits a.meter _ _ _ c.fixed_points.ensures
    _ c.in_ok-met.was _ c.hosts_if.ensures refl _ _ _ c.check_points.ensures _ c.in_err-awaits.was)

pub returns : goal.returns
returns g c =
    let a = c.args in
    rw (c.layout.ensures.is, c.budget.ensures) (solves_on a.sheet.now.bytes.now _ a.sheet.now.script g.R.Run.layout _ _ c.requires.0 g.R.Run.limits a.meter _ _ _ c.fixed_points.ensures
    _ c.in_ok-met.was _ c.hosts_if.ensures refl _ _ _ c.check_points.ensures _ _ c.in_ok-awaits.was)
