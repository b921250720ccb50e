-- `flow_c::kagari_flow_verify_with` meets its contract. Assumes nothing.
use Rattle.flow.proofs.BlockLaws.{blocks_with}
use Rattle.flow_c.proofs.HostLaws.{hosted-with}
use Rattle.flow_c.proofs.kagari_flow_verify_with.Goals as goal

pub returns : goal.returns
returns c =
    hosted-with _ _ _ _ _ _ _ _ _ _ _ _ _ _ c.into.ensures c.into-2.ensures
    (blocks_with _ _ _ c.verify_with.ensures.called c.verify_with.ensures.limits) c.into-3.ensures
