-- `awaits::check_instruction` meets its contract: a law for each way out. Assumes nothing.
use Rattle.std.proofs.Common.{sym, subst, ◌∙◌, ◌*◌, arith}
use Rattle.std.proofs.lemmas.Result.{err_from_is_err_and}
use Rattle.bitset.specs.Below.{AllBelow}
use Rattle.reads.proofs.ReadLaws.{noted_cost, noted_stands, noted_fits, noted_read}
use Rattle.awaits.proofs.InstructionLaws.{instruction_over, instruction_met}
use Rattle.awaits.proofs.check_instruction.Goals as goal

pub returns-in_err-left : goal.returns-in_err-left
returns-in_err-left g c =
    let a = c.args in
    let paid = noted_cost c.requires.0 a.pc c.requires.1 c.get-cost.ensures.is in
    let p = err_from_is_err_and c.from_residual.result c.from_residual.ensures.1 in
    rw (p.1, p.2) (instruction_over a.sheet.now.bytes.now a.sheet.now.script g.R.Run.layout g.R.Run.limits a.meter a.pc a.place a.s.now a.t.now c.requires.0 _
    paid c.in_err-left.ensures)

pub instruction_at-requires : goal.instruction_at-requires
instruction_at-requires g c =
    noted_stands c.requires.0 c.args.pc c.requires.1 c.get-at.ensures.is

pub instruction-instruction-requires : goal.instruction-instruction-requires
instruction-instruction-requires g c =
    noted_fits c.requires.0 c.args.pc c.requires.1 c.get-at.ensures.is c.instruction_at.ensures

pub remove_output-requires : goal.remove_output-requires
remove_output-requires g c =
    let v = c.instruction-instruction in
    let r = noted_read c.requires.0 c.args.pc c.requires.1 c.get-at.ensures.is c.instruction_at.ensures v.result v.ensures.kind_is v.ensures.fields_are in
    (tt, r.output_below)

pub insert_inputs-requires : goal.insert_inputs-requires
insert_inputs-requires g c =
    let v = c.instruction-instruction in
    let r = noted_read c.requires.0 c.args.pc c.requires.1 c.get-at.ensures.is c.instruction_at.ensures v.result v.ensures.kind_is v.ensures.fields_are in
    (tt, subst (AllBelow (64 * g.R.Run.layout.words)) (sym c.inputs.ensures) r.inputs_below)

pub check_point-requires : goal.check_point-requires
check_point-requires g c =
    let v = c.instruction-instruction in
    let r = noted_read c.requires.0 c.args.pc c.requires.1 c.get-at.ensures.is c.instruction_at.ensures v.result v.ensures.kind_is v.ensures.fields_are in
    (λ q. c.requires.2 (r.await_is ∙ (rw c.number.ensures at q)), c.requires.3)

pub returns : goal.returns
returns g c =
    let a = c.args in
    let pre = c.requires in
    let paid = noted_cost pre.0 a.pc pre.1 c.get-cost.ensures.is in
    let v = c.instruction-instruction in
    let r = noted_read pre.0 a.pc pre.1 c.get-at.ensures.is c.instruction_at.ensures v.result v.ensures.kind_is v.ensures.fields_are in
    instruction_met a.sheet.now.bytes.now a.sheet.now.script g.R.Run.layout g.R.Run.limits a.meter a.pc a.place a.s.now a.t.now pre.0 _ paid
    c.in_ok-left.ensures c.get-cost.ensures.whole _ _ r.outputs_are (r.inputs_are ∙ sym c.inputs.ensures) r.output_below
    (subst (AllBelow (64 * g.R.Run.layout.words)) (sym c.inputs.ensures) r.inputs_below) _ _ c.remove_output.ensures c.insert_inputs.ensures
    _ r.await_is (λ q. omega (arith, pre.2 (r.await_is ∙ q), pre.3)) _ _ (rw (c.number.ensures, c.view.ensures) at c.check_point.ensures)
