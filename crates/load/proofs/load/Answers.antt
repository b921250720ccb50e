use Rattle.std.proofs.Common.{refl, arith}
use Rattle.std.proofs.lemmas.Result.{err_from_is_err_and}
use Rattle.load.proofs.LoadLaws.{sound_here, words_few, loaded_is, loaded_none, loaded_refused}
use Rattle.load.proofs.load.Goals as goal

pub returns-in_err-script : goal.returns-in_err-script
returns-in_err-script c =
    let p = err_from_is_err_and c.from_residual.result c.from_residual.ensures.1 in
    rw (p.1, p.2) (loaded_refused c.args.sheet.now c.args.sets.now c.args.blocks c.args.awaits c.check.ensures c.in_err-script.was)

pub await_entries-requires : goal.await_entries-requires
await_entries-requires c =
    omega (arith, c.div_ceil-w.ensures, words_few c.args.sheet.now c.check.ensures c.in_ok-script.script c.in_ok-script.was)

pub returns-in_default : goal.returns-in_default
returns-in_default c =
    loaded_none c.args.sheet.now c.check.ensures c.in_ok-script.script c.in_ok-script.was c.args.sets.now c.args.blocks c.args.awaits c.div_ceil-w.result _
    (omega (arith, c.div_ceil-w.ensures)) refl c.in_default.ensures

pub count-load-requires : goal.count-load-requires
count-load-requires c =
    let sound = sound_here c.args.sheet.now c.check.ensures c.in_ok-script.script c.in_ok-script.was in
    (sound.slots_stand, omega (arith, c.div_ceil-w.ensures), omega (arith, c.div_ceil-w.ensures, sound.few_slots))

pub returns : goal.returns
returns c =
    loaded_is c.args.sheet.now c.check.ensures c.in_ok-script.script c.in_ok-script.was c.args.sets.now c.args.blocks c.args.awaits c.div_ceil-w.result _
    (omega (arith, c.div_ceil-w.ensures)) refl c.in-Some.ensures.0 c.in-Some.ensures.1 c.count-load.ensures
