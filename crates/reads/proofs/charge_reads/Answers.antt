-- `reads::charge_reads` meets its contract: what the charges have come to at pc. Assumes nothing.
use Rattle.std.proofs.Common.{◌<◌, arith}
use Rattle.std.proofs.lemmas.Result.{err_from_is_err_and}
use Rattle.reads.proofs.ReadLaws.{noted_cost, noted_stands, noted_await, await_byte}
use Rattle.reads.proofs.FrontLaws.{charging_more, charges_over}
use Rattle.reads.proofs.charge_reads.Goals as goal

pub returns-in_err-left : goal.returns-in_err-left
returns-in_err-left g c =
    let p = err_from_is_err_and c.from_residual.result c.from_residual.ensures.1 in
    rw (p.1, p.2)
    (charges_over c.loop-pc.invariant c.loop-pc-test.true (noted_cost c.requires.0 c.loop-pc.pc (omega arith) c.get.ensures.is) c.in_err-left.ensures)

pub instruction_at-requires : goal.instruction_at-requires
instruction_at-requires g c =
    noted_stands c.requires.0 c.loop-pc.pc (omega arith) c.get-at.ensures.is

pub loop-pc-preserved : goal.loop-pc-preserved
loop-pc-preserved g c =
    let inside : c.loop-pc.pc < g.R.Run.layout.instructions = omega arith in
    charging_more c.loop-pc.invariant c.loop-pc-test.true (noted_cost c.requires.0 c.loop-pc.pc inside c.get.ensures.is) c.in_ok-left.ensures _
    (noted_await c.requires.0 c.loop-pc.pc inside c.get-at.ensures.is c.instruction_at.ensures) (await_byte _ _ c.is_await.ensures) (omega arith)
