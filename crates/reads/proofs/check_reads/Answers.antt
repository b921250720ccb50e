-- `reads::check_reads` meets its contract. Assumes nothing.
use Rattle.std.proofs.Common.{sym, subst, ◌∙◌, ◌*◌, ◌<◌, arith}
use Rattle.std.proofs.lemmas.Result.{err_from_is_err_and}
use Rattle.bitset.specs.Below.{AllBelow}
use Rattle.reads.proofs.ReadLaws.{reading_none, reading_more, reads_over, reads_unfilled}
use Rattle.reads.proofs.ReadLaws.{reading_coded, noted_cost, noted_stands, noted_fits, noted_read, await_byte}
use Rattle.reads.proofs.check_reads.Goals as goal

pub loop-pc-init : goal.loop-pc-init
loop-pc-init g c =
    reading_none

pub returns-in_err-left : goal.returns-in_err-left
returns-in_err-left g c =
    let a = c.loop-pc.invariant in
    let p = err_from_is_err_and c.from_residual.result c.from_residual.ensures.1 in
    rw (p.1, p.2)
    (reads_over a c.loop-pc-test.true (noted_cost (reading_coded c.requires.0 a) c.loop-pc.pc (omega arith) c.get-cost.ensures.is) c.in_err-left.ensures)

pub instruction_at-requires : goal.instruction_at-requires
instruction_at-requires g c =
    noted_stands (reading_coded c.requires.0 c.loop-pc.invariant) c.loop-pc.pc (omega arith) c.get-at.ensures.is

pub instruction-instruction-requires : goal.instruction-instruction-requires
instruction-instruction-requires g c =
    noted_fits (reading_coded c.requires.0 c.loop-pc.invariant) c.loop-pc.pc (omega arith) c.get-at.ensures.is c.instruction_at.ensures

pub misses_input-requires : goal.misses_input-requires
misses_input-requires g c =
    let v = c.instruction-instruction in
    let r = noted_read (reading_coded c.requires.0 c.loop-pc.invariant) c.loop-pc.pc (omega arith) c.get-at.ensures.is c.instruction_at.ensures
    v.result v.ensures.kind_is v.ensures.fields_are in
    subst (AllBelow (64 * g.R.Run.layout.words)) (sym c.inputs.ensures) r.inputs_below

pub returns-then-misses_input : goal.returns-then-misses_input
returns-then-misses_input g c =
    let a = c.loop-pc.invariant in
    let v = c.instruction-instruction in
    let coded = reading_coded c.requires.0 a in
    let inside : c.loop-pc.pc < g.R.Run.layout.instructions = omega arith in
    let r = noted_read coded c.loop-pc.pc inside c.get-at.ensures.is c.instruction_at.ensures v.result v.ensures.kind_is v.ensures.fields_are in
    rw c.budget.ensures (reads_unfilled a c.loop-pc-test.true (noted_cost coded c.loop-pc.pc inside c.get-cost.ensures.is) c.in_ok-left.ensures
    (r.inputs_are ∙ sym c.inputs.ensures) (subst (AllBelow (64 * g.R.Run.layout.words)) (sym c.inputs.ensures) r.inputs_below)
    c.misses_input.ensures c.if-misses_input.true)

pub insert_output-requires : goal.insert_output-requires
insert_output-requires g c =
    let v = c.instruction-instruction in
    let r = noted_read (reading_coded c.requires.0 c.loop-pc.invariant) c.loop-pc.pc (omega arith) c.get-at.ensures.is c.instruction_at.ensures
    v.result v.ensures.kind_is v.ensures.fields_are in
    (tt, r.output_below)

pub loop-pc-preserved : goal.loop-pc-preserved
loop-pc-preserved g c =
    let l = c.loop-pc in
    let a = l.invariant in
    let v = c.instruction-instruction in
    let coded = reading_coded c.requires.0 a in
    let inside : l.pc < g.R.Run.layout.instructions = omega arith in
    let r = noted_read coded l.pc inside c.get-at.ensures.is c.instruction_at.ensures v.result v.ensures.kind_is v.ensures.fields_are in
    reading_more a c.loop-pc-test.true (noted_cost coded l.pc inside c.get-cost.ensures.is) c.in_ok-left.ensures
    (r.inputs_are ∙ sym c.inputs.ensures) (subst (AllBelow (64 * g.R.Run.layout.words)) (sym c.inputs.ensures) r.inputs_below) _
    c.get-cost.ensures.whole c.misses_input.ensures c.if-misses_input.false
    r.outputs_are r.emptied_none r.output_below c.insert_output.ensures r.await_is (await_byte _ _ c.is_await.ensures) (omega arith)
