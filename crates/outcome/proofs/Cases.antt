-- Document 01's "Sheets to try", a to j, from the bytes: the answer with work and retained bytes, the block list and the sets buffer, computed
-- by the definitions from a budget of zero. Assumes nothing.
use mathlib.Core.Path.{◌≡◌, refl}
use mathlib.Core.List.{List, [], ◌∷◌}
use Prim.Native.Nat.{ℕ}
use Rattle.dataflow.specs.Worklist.{run}
use Rattle.dataflow.specs.Framework.{solution}
use Rattle.dataflow.specs.FlowGraph.{init_at_entry, live_at_entry}
use Rattle.dataflow.specs.Search.{search, turns, sweep}
use Rattle.operands.specs.Patterns.{groups, pattern_in, pattern_of, role_in, role_at, fixed_at, list_at, fits}
use Rattle.operands.specs.Operands.{by_source, inputs_of, output_of, targets_of}
use Rattle.operands.specs.Places.{gathered}
use Rattle.operands.specs.Variants.{slot_inputs, slot_output, jump_targets, variants}
use Rattle.operands.specs.Kinds.{ends_block, is_await}
use Rattle.operands.specs.Bytes.{numbers_at}
use Rattle.repeats.specs.Repeats.{any_twice}
use Rattle.format.specs.Heads.{fields_at, short}
use Rattle.format.specs.Types.{items_at, leaf, type_at, whole_type}
use Rattle.format.specs.Fields.{bad_module, no_slot, no_target, any_field, any_above}
use Rattle.records.specs.Records.{function_fault, parameter_slots_fault, repeat_fault, parameters_fault, bad_slot, slot_fault, bad_instruction, instruction_fault}
use Rattle.sheet.specs.Decode.{dues, sizes_fault, fault_at, first_bad, offset_of, end_fault, refusal, id_of, records_from, parts_of, decode, is_host}
use Rattle.sheet.specs.Scripts.{awaits_in, script_of, checked_of}
use Rattle.script.specs.Script.{flow_code, parameter_in, host_in}
use Rattle.budget.specs.declared.FlowBudget.{FlowBudget}
use Rattle.budget.specs.Budget.{todays, charged, retained}
use Rattle.format.specs.declared.refusal.Refusal.TheVariants.{NoCode, OpenEnd, UnfilledSlot, HostOverAwait}
use Rattle.sizes.specs.Stages.{rooms_of, graph_of}
use Rattle.verdict.specs.Points.{reads_run, await_run, point_run, awaits_run, block_run, blocks_run, points_run, await_points, block_points, points}
use Rattle.answer.specs.Words.{number_of, words_from}
use Rattle.outcome.specs.Outcome.{Lengths, Outcome, accepted, refused, outcome_of}
use Rattle.outcome.specs.Buffers.{padded, list_after, sets_after}
use Rattle.outcome.specs.Sheets.{Line, sheet_of}

-- an instruction; the kinds used: 1 `Await`, 5 `LoadConst`, 8 `Move`, 12 or 39 branches, 38 `Jump`, 40 `Return`
abbrev i : ℕ → List ℕ → Line
i kind fields = record { kind = kind; fields = fields }

abbrev absent : ℕ
absent = 4294967295

-- buffers that are long enough for each case
abbrev lent : Lengths
lent = record { scratch = 128; sets = 12; records = 5 }

abbrev at : ℕ → ℕ → FlowBudget
at work retained = record { work = work; retained = retained }

-- a sheet, with function id 7, gives this answer and leaves this block list and these sets, each before zeros
pub record Gives (sheet : List ℕ) (o : Outcome) (list sets : List ℕ) : Type 0 where
  pub answer : outcome_of sheet (parameter_in (parts_of sheet)) todays lent (at 0 0) ≡ o
  pub blocks : list_after sheet lent o ≡ padded 30 list
  pub words : sets_after sheet (parameter_in (parts_of sheet)) lent o ≡ padded 12 sets

pub record Cases : Type 0 where
  -- N = 0
  pub a : Gives (sheet_of 7 [] [] []) (refused NoCode 7 (at 0 0)) [] []
  -- no slots, `Return` absent
  pub b : Gives (sheet_of 7 [] [] (i 40 (absent ∷ []) ∷ [])) (accepted 7 1 0 (at 14 0)) (0 ∷ 1 ∷ 1 ∷ 0 ∷ 0 ∷ 0 ∷ []) []
  -- one slot: `LoadConst` 0, `Return` 0
  pub c : Gives (sheet_of 7 [] (3 ∷ []) (i 5 (0 ∷ []) ∷ i 40 (0 ∷ []) ∷ [])) (accepted 7 1 0 (at 27 0)) (0 ∷ 2 ∷ 1 ∷ 0 ∷ 0 ∷ 0 ∷ []) (1 ∷ 0 ∷ [])
  -- two slots, parameter 0: `Await` D1 S0, `Return` 1: set {0}
  pub d : Gives (sheet_of 7 (0 ∷ []) (3 ∷ 3 ∷ []) (i 1 (1 ∷ 0 ∷ []) ∷ i 40 (1 ∷ []) ∷ [])) (accepted 7 1 1 (at 32 32))
      (0 ∷ 2 ∷ 1 ∷ 0 ∷ 0 ∷ 0 ∷ []) (3 ∷ 1 ∷ 0 ∷ 1 ∷ [])
  -- c without its first instruction
  pub e : Gives (sheet_of 7 [] (3 ∷ []) (i 40 (0 ∷ []) ∷ [])) (refused UnfilledSlot 7 (at 21 0)) [] []
  -- `Await` D0 S0, parameter 0, `Return` 0: {0}
  pub f : Gives (sheet_of 7 (0 ∷ []) (3 ∷ []) (i 1 (0 ∷ 0 ∷ []) ∷ i 40 (0 ∷ []) ∷ [])) (accepted 7 1 1 (at 31 32))
      (0 ∷ 2 ∷ 1 ∷ 0 ∷ 0 ∷ 0 ∷ []) (1 ∷ 1 ∷ 0 ∷ 1 ∷ [])
  -- d with slot 0 a host handle
  pub g : Gives (sheet_of 7 (0 ∷ []) (10 ∷ 3 ∷ []) (i 1 (1 ∷ 0 ∷ []) ∷ i 40 (1 ∷ []) ∷ [])) (refused HostOverAwait 7 (at 32 0)) [] []
  -- parameter 0 of two slots: `Branch` S0 to 1 or 3; `LoadConst` 1; `Jump` 4; `Jump` 4; `Return` 1
  pub h : Gives (sheet_of 7 (0 ∷ []) (3 ∷ 3 ∷ []) (i 39 (0 ∷ 1 ∷ 3 ∷ []) ∷ i 5 (1 ∷ []) ∷ i 38 (4 ∷ []) ∷ i 38 (4 ∷ []) ∷ i 40 (1 ∷ []) ∷ []))
      (refused UnfilledSlot 7 (at 111 0)) [] []
  -- with 3 `LoadConst` 1: blocks at 0, 1, 3, 4
  pub h_filled : Gives (sheet_of 7 (0 ∷ []) (3 ∷ 3 ∷ []) (i 39 (0 ∷ 1 ∷ 3 ∷ []) ∷ i 5 (1 ∷ []) ∷ i 38 (4 ∷ []) ∷ i 5 (1 ∷ []) ∷ i 40 (1 ∷ []) ∷ []))
      (accepted 7 4 0 (at 112 0))
      (0 ∷ 1 ∷ 1 ∷ 2 ∷ 1 ∷ 2 ∷ 1 ∷ 3 ∷ 1 ∷ 1 ∷ 3 ∷ 0 ∷ 3 ∷ 4 ∷ 1 ∷ 1 ∷ 3 ∷ 0 ∷ 4 ∷ 5 ∷ 1 ∷ 0 ∷ 0 ∷ 0 ∷ []) (1 ∷ 1 ∷ 3 ∷ 0 ∷ 3 ∷ 0 ∷ 3 ∷ 2 ∷ [])
  -- `Return` absent, then `Return` 0, one slot: block 1 unreachable, its initialized word all ones, its live word zero
  pub i_unreached : Gives (sheet_of 7 [] (3 ∷ []) (i 40 (absent ∷ []) ∷ i 40 (0 ∷ []) ∷ [])) (accepted 7 2 0 (at 28 0))
      (0 ∷ 1 ∷ 1 ∷ 0 ∷ 0 ∷ 0 ∷ 1 ∷ 2 ∷ 0 ∷ 0 ∷ 0 ∷ 0 ∷ []) (0 ∷ 0 ∷ 18446744073709551615 ∷ 0 ∷ [])
  -- the last instruction is `Move`
  pub j : Gives (sheet_of 7 (0 ∷ []) (3 ∷ 3 ∷ []) (i 8 (1 ∷ 0 ∷ []) ∷ [])) (refused OpenEnd 7 (at 0 0)) [] []

pub cases : Cases
unfolding run solution init_at_entry live_at_entry search turns sweep groups pattern_in pattern_of role_in role_at fixed_at list_at fits gathered slot_inputs slot_output jump_targets variants by_source inputs_of output_of targets_of ends_block is_await numbers_at fields_at short items_at leaf type_at whole_type bad_module no_slot no_target any_field any_above any_twice function_fault parameter_slots_fault repeat_fault parameters_fault bad_slot slot_fault bad_instruction instruction_fault dues sizes_fault fault_at first_bad offset_of end_fault refusal id_of records_from parts_of decode awaits_in script_of checked_of is_host flow_code parameter_in host_in charged retained rooms_of graph_of reads_run await_run point_run awaits_run block_run blocks_run points_run await_points block_points points outcome_of number_of words_from
cases = record {
  a = record { answer = refl; blocks = refl; words = refl };
  b = record { answer = refl; blocks = refl; words = refl };
  c = record { answer = refl; blocks = refl; words = refl };
  d = record { answer = refl; blocks = refl; words = refl };
  e = record { answer = refl; blocks = refl; words = refl };
  f = record { answer = refl; blocks = refl; words = refl };
  g = record { answer = refl; blocks = refl; words = refl };
  h = record { answer = refl; blocks = refl; words = refl };
  h_filled = record { answer = refl; blocks = refl; words = refl };
  i_unreached = record { answer = refl; blocks = refl; words = refl };
  j = record { answer = refl; blocks = refl; words = refl };
}
