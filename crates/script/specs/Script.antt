-- What the parts of a sheet are to the flow: its code, its parameters, its host slots.
use Rattle.std.specs.Prelude.{Bool, ◌&&◌, List, [], ◌∷◌, map, ℕ, ltb, get_or}
use Rattle.std.proofs.Math.Option.{Option, none, some}
use Rattle.dataflow.specs.Lists.{elem}
use Rattle.dataflow.specs.Code as flow
use Rattle.operands.specs.Kinds.{ends_block, is_await}
use Rattle.operands.specs.Operands.{inputs_of, output_of, targets_of}
use Rattle.format.specs.Types.{absent}
use Rattle.sheet.specs.Decode.{Instruction, Parts, is_host}

-- what may be there, as a list
abbrev pub list_of : Option ℕ → List ℕ
list_of (some x) = x ∷ []
list_of none = []

-- an instruction of a sheet, as far as the flow goes; document 01's instructions empty nothing
abbrev pub flow_instruction : Instruction → flow.Instruction
flow_instruction i = record {
  inputs = inputs_of i.kind i.fields;
  outputs = list_of (output_of i.kind i.fields);
  emptied = [];
  ends = ends_block i.kind;
  targets = targets_of i.kind i.fields;
  is_await = is_await i.kind;
}

-- the code of a sheet
unfoldable pub flow_code : Parts → List flow.Instruction
flow_code p = map flow_instruction p.code

-- its parameters
unfoldable pub parameter_in : Parts → ℕ → Bool
parameter_in p s = elem s p.params

-- its host slots
unfoldable pub host_in : Parts → ℕ → Bool
host_in p s = ltb s p.slots && is_host (get_or p.kinds s (record { physical = 0; type = absent }))
