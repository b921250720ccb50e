-- `blocks::transfer::transfer` meets its contract. Assumes nothing.
use Rattle.std.proofs.Common.{refl, sym, ap, ◌∙◌, arith, length}
use Rattle.std.proofs.lemmas.Result.{err_from_is_err_and}
use Rattle.blocks.proofs.TransferLaws.{transferring_none, transferring_more, transferred_over}
use Rattle.blocks.proofs.TransferLaws.{noted_stands, noted_fits, noted_read, transferring_ready}
use Rattle.blocks.proofs.transfer.transfer.Goals as goal

pub loop-pc-init : goal.loop-pc-init
loop-pc-init g c = record { ready = c.requires.0; going = transferring_none }

pub instruction_at-requires : goal.instruction_at-requires
instruction_at-requires g c = noted_stands c.loop-pc.invariant.ready {i = c.loop-pc.pc} (omega arith) c.get-at.ensures.is

pub instruction-instruction-requires : goal.instruction-instruction-requires
instruction-instruction-requires g c =
    noted_fits c.loop-pc.invariant.ready {i = c.loop-pc.pc} (omega arith) c.get-at.ensures.is c.instruction_at.ensures

pub overflow_add-cost : goal.overflow_add-cost
overflow_add-cost g c =
    let v = c.instruction-instruction in
    let r = noted_read c.loop-pc.invariant.ready {i = c.loop-pc.pc} (omega arith) c.get-at.ensures.is c.instruction_at.ensures
    v.result v.ensures.kind_is v.ensures.fields_are in
    omega (arith, c.well_formed, r.few, c.len.ensures.value, ap length c.inputs-inputs.ensures)

pub returns-in_err-left : goal.returns-in_err-left
returns-in_err-left g c =
    let p = err_from_is_err_and c.from_residual.result c.from_residual.ensures.1 in
    let v = c.instruction-instruction in
    let r = noted_read c.loop-pc.invariant.ready {i = c.loop-pc.pc} (omega arith) c.get-at.ensures.is c.instruction_at.ensures
    v.result v.ensures.kind_is v.ensures.fields_are in
    rw (p.1, p.2) (transferred_over (omega arith) c.loop-pc.invariant.going
    (c.len.ensures.value ∙ ap length (c.inputs-inputs.ensures ∙ sym r.inputs_are)) c.put.ensures.stored
    c.in_err-left.ensures c.loop-pc-test.true refl)

pub use_inputs-requires : goal.use_inputs-requires
use_inputs-requires g c =
    let v = c.instruction-instruction in
    let r = noted_read c.loop-pc.invariant.ready {i = c.loop-pc.pc} (omega arith) c.get-at.ensures.is c.instruction_at.ensures
    v.result v.ensures.kind_is v.ensures.fields_are in
    (c.requires.1, rw c.inputs-inputs.ensures r.inputs_below)

pub insert_output-requires : goal.insert_output-requires
insert_output-requires g c =
    let v = c.instruction-instruction in
    let r = noted_read c.loop-pc.invariant.ready {i = c.loop-pc.pc} (omega arith) c.get-at.ensures.is c.instruction_at.ensures
    v.result v.ensures.kind_is v.ensures.fields_are in
    (c.requires.1, r.output_below)

pub loop-pc-preserved : goal.loop-pc-preserved
loop-pc-preserved g c =
    let l = c.loop-pc in
    let v = c.instruction-instruction in
    let r = noted_read l.invariant.ready {i = l.pc} (omega arith) c.get-at.ensures.is c.instruction_at.ensures
    v.result v.ensures.kind_is v.ensures.fields_are in
    let more = transferring_more (omega arith) l.invariant.going (c.len.ensures.value ∙ ap length (c.inputs-inputs.ensures ∙ sym r.inputs_are))
    c.put.ensures.stored c.in_ok-left.ensures g.R.Run.layout c.put.ensures.whole refl (r.inputs_are ∙ sym c.inputs-inputs.ensures) r.outputs_are
    (omega arith) c.requires.1 c.use_inputs.ensures c.insert_output.ensures in
    record { ready = transferring_ready c.requires.0 more; going = more }
