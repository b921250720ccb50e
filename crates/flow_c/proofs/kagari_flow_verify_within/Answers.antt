-- `flow_c::kagari_flow_verify_within` meets its contract. Assumes nothing.
use Rattle.flow.proofs.BlockLaws.{blocks_within}
use Rattle.flow_c.proofs.HostLaws.{hosted-within}
use Rattle.flow_c.proofs.kagari_flow_verify_within.Goals as goal

pub returns : goal.returns
returns c =
    hosted-within _ _ _ _ _ _ _ _ _ _ _ _ _ c.into.ensures c.into-2.ensures
    (blocks_within _ _ c.verify_within.ensures.called c.verify_within.ensures.limits) c.into-3.ensures
