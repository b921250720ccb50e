-- `flow_c::kagari_flow_verify` meets its contract: the budget as numbers, the call, the answer as numbers. Assumes nothing.
use Rattle.flow.proofs.BlockLaws.{blocks_verified}
use Rattle.flow_c.proofs.HostLaws.{hosted}
use Rattle.flow_c.proofs.kagari_flow_verify.Goals as goal

pub returns : goal.returns
returns c = hosted _ _ _ _ _ _ _ _ _ _ _ c.into.ensures (blocks_verified _ c.verify.ensures) c.into-2.ensures
