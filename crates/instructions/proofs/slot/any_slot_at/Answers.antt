use Rattle.std.proofs.Common.{rules}
use Rattle.instructions.proofs.SlotLaws.{slot_made}
use Rattle.instructions.proofs.slot.any_slot_at.Goals as goal

pub returns : goal.returns
returns c =
    slot_made c.args.s.now c.args.at c.u16_at.result _ c.is_some_and.result c.requires c.u16_at.ensures c.whole_type.ensures (search rules)
