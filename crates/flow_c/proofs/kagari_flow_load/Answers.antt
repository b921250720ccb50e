-- `flow_c::kagari_flow_load` meets its contract. Assumes nothing.
use Rattle.std.proofs.Common.{ap, ◌∙◌}
use Rattle.flow_c.specs.Exports.{load_answer_of}
use Rattle.flow_c.proofs.kagari_flow_load.Goals as goal

pub returns : goal.returns
returns c =
    c.into.ensures ∙ ap load_answer_of c.load.ensures
