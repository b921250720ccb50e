-- Loads from the bytes alone: the sheet's answer by the definitions of `outcome`, its sets as they are left, and their load. Assumes nothing.
use mathlib.Core.Path.{◌≡◌, refl}
use mathlib.Core.List.{List, [], ◌∷◌}
use Prim.Native.Nat.{ℕ}
use Rattle.std.specs.Prelude.{Ok}
use Rattle.dataflow.specs.Worklist.{run}
use Rattle.dataflow.specs.Framework.{solution}
use Rattle.dataflow.specs.FlowGraph.{init_at_entry, live_at_entry}
use Rattle.dataflow.specs.Search.{search, turns, sweep}
use Rattle.bitset.specs.Sets.{member, digit}
use Rattle.operands.specs.Patterns.{groups, pattern_in, pattern_of, role_in, role_at, fixed_at, list_at, fits}
use Rattle.operands.specs.Operands.{by_source, inputs_of, output_of, targets_of}
use Rattle.operands.specs.Places.{gathered}
use Rattle.operands.specs.Variants.{slot_inputs, slot_output, jump_targets, variants}
use Rattle.operands.specs.Kinds.{ends_block, is_await}
use Rattle.operands.specs.Bytes.{numbers_at}
use Rattle.repeats.specs.Repeats.{any_twice}
use Rattle.format.specs.Heads.{fields_at, short}
use Rattle.format.specs.Types.{items_at, leaf, type_at, whole_type}
use Rattle.format.specs.Fields.{bad_module, no_slot, no_target, any_field, any_above}
use Rattle.records.specs.Records.{function_fault, parameter_slots_fault, repeat_fault, parameters_fault, bad_slot, slot_fault, bad_instruction, instruction_fault}
use Rattle.sheet.specs.Decode.{dues, sizes_fault, fault_at, first_bad, offset_of, end_fault, refusal, id_of, records_from, parts_of, decode, is_host}
use Rattle.sheet.specs.Scripts.{awaits_in, script_of, checked_of}
use Rattle.script.specs.Script.{flow_code, parameter_in, host_in}
use Rattle.budget.specs.declared.FlowBudget.{FlowBudget}
use Rattle.budget.specs.Budget.{todays, charged, retained}
use Rattle.sizes.specs.Stages.{rooms_of, graph_of}
use Rattle.verdict.specs.Points.{reads_run, await_run, point_run, awaits_run, block_run, blocks_run, points_run, await_points, block_points, points}
use Rattle.answer.specs.Words.{number_of, words_from}
use Rattle.outcome.specs.Outcome.{Lengths, Outcome, accepted, outcome_of}
use Rattle.outcome.specs.Buffers.{padded, sets_after}
use Rattle.outcome.specs.Sheets.{Line, sheet_of}
use Rattle.load.specs.Load.{set_load, load_of, loaded_of}

-- an instruction; the kinds used: 1 `Await`, 14 `MakeTuple`, 40 `Return`
abbrev i : ℕ → List ℕ → Line
i kind fields = record { kind = kind; fields = fields }

-- buffers that are long enough, and a budget
abbrev lent : Lengths
lent = record { scratch = 128; sets = 12; records = 5 }

abbrev at : ℕ → ℕ → FlowBudget
at work retained = record { work = work; retained = retained }

-- a sheet, with function id 7, has this answer from a budget of zero and leaves these sets, before zeros; and their load
pub record Loads (sheet : List ℕ) (o : Outcome) (blocks awaits : ℕ) (sets : List ℕ) (load : ℕ) : Type 0 where
  pub answer : outcome_of sheet (parameter_in (parts_of sheet)) todays lent (at 0 0) ≡ o
  pub words : sets_after sheet (parameter_in (parts_of sheet)) lent o ≡ padded 12 sets
  pub is : loaded_of sheet (padded 12 sets) blocks awaits ≡ Ok (record { id = 7; load = load })

pub record Cases : Type 0 where
  -- document 01's d, two slots, parameter 0: `Await` D1 S0, `Return` 1: set {0}, "accept 7 blocks 1 awaits 1 load 1"
  pub d : Loads (sheet_of 7 (0 ∷ []) (3 ∷ 3 ∷ []) (i 1 (1 ∷ 0 ∷ []) ∷ i 40 (1 ∷ []) ∷ [])) (accepted 7 1 1 (at 32 32)) 1 1
      (3 ∷ 1 ∷ 0 ∷ 1 ∷ []) 1
  -- a never and a unit slot saved beside an i32, all parameters: `Await` D2 S2, `MakeTuple` 2 of 0 and 1, `Return` 2: set {0, 1, 2}, of which 2 weighs
  pub empty : Loads
      (sheet_of 7 (0 ∷ 1 ∷ 2 ∷ []) (0 ∷ 1 ∷ 3 ∷ []) (i 1 (2 ∷ 2 ∷ []) ∷ i 14 (2 ∷ 0 ∷ 1 ∷ []) ∷ i 40 (2 ∷ []) ∷ []))
      (accepted 7 1 1 (at 43 32)) 1 1 (7 ∷ 7 ∷ 0 ∷ 7 ∷ []) 1

pub cases : Cases
unfolding run solution init_at_entry live_at_entry search turns sweep member digit groups pattern_in pattern_of role_in role_at fixed_at list_at fits gathered slot_inputs slot_output jump_targets variants by_source inputs_of output_of targets_of ends_block is_await numbers_at fields_at short items_at leaf type_at whole_type bad_module no_slot no_target any_field any_above any_twice function_fault parameter_slots_fault repeat_fault parameters_fault bad_slot slot_fault bad_instruction instruction_fault dues sizes_fault fault_at first_bad offset_of end_fault refusal id_of records_from parts_of decode awaits_in script_of checked_of is_host flow_code parameter_in host_in charged retained rooms_of graph_of reads_run await_run point_run awaits_run block_run blocks_run points_run await_points block_points points outcome_of number_of words_from set_load load_of loaded_of
cases = record {
  d = record { answer = refl; words = refl; is = refl };
  empty = record { answer = refl; words = refl; is = refl };
}
