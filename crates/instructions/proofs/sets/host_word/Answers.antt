use Rattle.std.proofs.Common.{◌∙◌, sym, ap, subst, ◌%◌, ◌^◌, arith}
use Rattle.operands.specs.Choice.{pick}
use Rattle.instructions.specs.declared.slot.HostSlot.{HostSlot}
use Rattle.instructions.specs.Slots.{SlotStands, host_slot_at}
use Rattle.instructions.proofs.SetSteps.{bit-made}
use Rattle.instructions.proofs.HostWords.{bitted_none, bitted_more, bitted_all}
use Rattle.instructions.proofs.sets.host_word.Goals as goal

pub loop-k-init : goal.loop-k-init
loop-k-init c = bitted_none

pub host_at-slot-requires : goal.host_at-slot-requires
host_at-slot-requires c = subst (SlotStands c.args.s.now) (sym c.loop-k.invariant.place) (c.requires.0.each c.loop-k.k c.loop-k-test.true)

pub loop-k-preserved : goal.loop-k-preserved
unfolding host_slot_at
loop-k-preserved c =
    let e = c.host_at-slot.ensures in
    bitted_more c.loop-k.invariant c.loop-k-test.true (ap (λ (x : HostSlot). x.next) e)
    (bit-made c.host_at-slot.result.host c.from.result c.loop-k.k (omega arith) c.from.ensures
    ∙ ap (λ (x : HostSlot). pick x.host (2 ^ (c.loop-k.k % 64)) 0) e)

pub returns : goal.returns
returns c = bitted_all c.loop-k.invariant (omega arith)
