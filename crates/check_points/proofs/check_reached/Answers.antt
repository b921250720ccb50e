-- `check_points::check_reached` meets its contract: entered, the reads may be checked, and counted, the awaits. Assumes nothing.
use Rattle.std.proofs.lemmas.Result.{err_from_is_err_and}
use Rattle.std.proofs.Common.{refl, arith, rules}
use Rattle.check_points.proofs.SolvedLaws.{solved-connected}
use Rattle.check_points.proofs.CheckedLaws.{entered, entered-held, reads_held, counted_held, found_held, reads_refused, reads_then}
use Rattle.check_points.proofs.check_reached.Goals as goal

pub gather-requires : goal.gather-requires
gather-requires g c =
    let p = c.requires in
    (p.0.inside, solved-connected p.0.solved)

pub get-start-requires : goal.get-start-requires
get-start-requires g c = c.requires.0.inside

pub get-end-requires : goal.get-end-requires
get-end-requires g c = c.requires.0.inside

pub block_reads-requires : goal.block_reads-requires
block_reads-requires g c =
    let en = entered c.layout.ensures.whole c.layout.ensures.words c.layout-2.ensures.whole c.layout-2.ensures.words c.requires.0 c.requires.1 (rw c.view.ensures at c.gather.ensures)
    c.get-start.ensures.is c.get-end.ensures.is in
    (en.solved.coded, en.inside, entered-held en, en.span.ordered, en.span.inside)

pub returns-in_err-found : goal.returns-in_err-found
returns-in_err-found g c =
    let en = entered c.layout.ensures.whole c.layout.ensures.words c.layout-2.ensures.whole c.layout-2.ensures.words c.requires.0 c.requires.1 (rw c.view.ensures at c.gather.ensures)
    c.get-start.ensures.is c.get-end.ensures.is in
    let p = err_from_is_err_and c.from_residual.result c.from_residual.ensures.1 in
    rw (p.1, p.2) (reads_refused en (reads_held en c.in_err-found.ensures) refl)

pub check_found-requires : goal.check_found-requires
check_found-requires g c =
    let en = entered c.layout.ensures.whole c.layout.ensures.words c.layout-2.ensures.whole c.layout-2.ensures.words c.requires.0 c.requires.1 (rw c.view.ensures at c.gather.ensures)
    c.get-start.ensures.is c.get-end.ensures.is in
    counted_held {m₁ = c.block_reads.new.s} en (reads_held en c.in_ok-found.ensures) refl

pub returns : goal.returns
returns g c =
    let en = entered c.layout.ensures.whole c.layout.ensures.words c.layout-2.ensures.whole c.layout-2.ensures.words c.requires.0 c.requires.1 (rw c.view.ensures at c.gather.ensures)
    c.get-start.ensures.is c.get-end.ensures.is in
    reads_then {m₁ = c.block_reads.new.s} en (reads_held en c.in_ok-found.ensures)
    refl
    (found_held {m₁ = c.block_reads.new.s} en (reads_held en c.in_ok-found.ensures) c.check_found.ensures)
