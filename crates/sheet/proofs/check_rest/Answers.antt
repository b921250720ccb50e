-- `sheet::check_rest` meets its contract: the first stage that refuses decides. Assumes nothing.
use Rattle.std.proofs.Common.{◌≡◌, sym, ◌∙◌, ◌-◌, arith}
use Rattle.std.proofs.Math.Option.{none}
use Rattle.std.proofs.lemmas.Result.{err_from_is_err_and}
use Rattle.operands.specs.Kinds.{ends_block}
use Rattle.format.specs.Heads.{kind_at, end_at}
use Rattle.records.specs.Records.{parameters_fault, slot_fault, instruction_fault}
use Rattle.sheet.specs.Decode.{sizes_fault, offset_of}
use Rattle.sheet.specs.Scripts.{host_words}
use Rattle.sheet.specs.Code.{no_code, code_from, closes}
use Rattle.sheet.specs.Stages.{last_fault, rest_fault, script_from}
use Rattle.sheet.proofs.WalkLaws.{passed_by, refused_by, Stopped, walk_passed, walk_refused, stopped_offset}
use Rattle.sheet.proofs.CodeLaws.{last_closes}
use Rattle.sheet.proofs.StageLaws.{OnceRead, once_read, some_code}
use Rattle.sheet.proofs.check_rest.Goals as goal
use Rattle.sheet.proofs.check_rest.Goals.{In_ok-check_counts, In_ok-params, In_ok-host_words, In_ok-code}

counts : (c : In_ok-check_counts) → sizes_fault c.args.counts.slots c.args.counts.instructions ≡ none
counts c = (passed_by (sizes_fault c.args.counts.slots c.args.counts.instructions) tt c.in_ok-check_counts.field-0 (sym c.check_counts.ensures ∙ c.in_ok-check_counts.was)).0

parameters : (c : In_ok-params) → OnceRead c.args.counts.slots c.in_ok-params.params c.args.reader c.check_parameters.new.reader
parameters c = once_read c.check_parameters.ensures c.in_ok-params.was

slots : (c : In_ok-host_words)
    → let s = c.args.reader.sheet.now in
    let first = end_at s c.args.reader.at in
    Stopped (λ a. slot_fault s a) s first c.args.counts.slots none c.walk_slots.new.reader.at
    × (c.in_ok-host_words.host_words ≡ host_words s first c.args.counts.slots 0 0)
slots c =
    let p = once_read c.check_parameters.ensures c.in_ok-params.was in
    let w = walk_passed c.walk_slots.ensures c.in_ok-host_words.was in
    rw (c.check_parameters.ensures.sheet, p.next) at w

code : (c : In_ok-code)
    → let s = c.args.reader.sheet.now in
    let n = c.args.counts in
    let first = offset_of s (end_at s c.args.reader.at) n.slots in
    Stopped (λ a. instruction_fault s n.slots n.instructions a) s first n.instructions none c.walk_code.new.reader.at
    × (c.in_ok-code.code ≡ code_from s first n.instructions no_code)
code c =
    let p = once_read c.check_parameters.ensures c.in_ok-params.was in
    let w = walk_passed c.walk_slots.ensures c.in_ok-host_words.was in
    let t = rw (c.check_parameters.ensures.sheet, p.next) at w in
    let v = walk_passed c.walk_code.ensures c.in_ok-code.was in
    rw (c.walk_slots.ensures.sheet ∙ c.check_parameters.ensures.sheet, stopped_offset t.0) at v

end : (c : In_ok-code)
    → let s = c.args.reader.sheet.now in
    let n = c.args.counts in
    let first = offset_of s (end_at s c.args.reader.at) n.slots in
    last_fault c.walk_code.new.reader.sheet.now c.walk_code.new.reader.at (closes c.in_ok-code.code.last)
    ≡ last_fault s (offset_of s first n.instructions) (ends_block (kind_at s (offset_of s first (n.instructions - 1))))
end c =
    let s = c.args.reader.sheet.now in
    let n = c.args.counts in
    let first = offset_of s (end_at s c.args.reader.at) n.slots in
    let z = (passed_by (sizes_fault n.slots n.instructions) tt c.in_ok-check_counts.field-0 (sym c.check_counts.ensures ∙ c.in_ok-check_counts.was)).0 in
    let t = code c in
    rw (
      c.walk_code.ensures.sheet ∙ c.walk_slots.ensures.sheet ∙ c.check_parameters.ensures.sheet,
      stopped_offset t.0,
      t.1,
      last_closes s n.slots n.instructions first n.instructions no_code (some_code n.slots n.instructions z) t.0.fault_is,
    )

pub returns-in_err-check_counts : goal.returns-in_err-check_counts
unfolding rest_fault
returns-in_err-check_counts c =
    let n = c.args.counts in
    let f = refused_by (sizes_fault n.slots n.instructions) tt c.in_err-check_counts.field-0.0 (sym c.check_counts.ensures ∙ c.in_err-check_counts.was) in
    let x = err_from_is_err_and c.from_residual.result c.from_residual.ensures.1 in
    rw (x.1, x.2, f)

pub returns-in_err-params : goal.returns-in_err-params
unfolding rest_fault
returns-in_err-params c =
    let z = counts (goal.at.returns-in_err-params c).In_ok-check_counts in
    let r = c.args.reader in
    let f = refused_by (parameters_fault r.sheet.now c.args.counts.slots r.at) _ c.in_err-params.field-0.0 (sym c.check_parameters.ensures.answer ∙ c.in_err-params.was) in
    let x = err_from_is_err_and c.from_residual-in_err-params.result c.from_residual-in_err-params.ensures.1 in
    rw (x.1, x.2, z, f)

pub returns-in_err-host_words : goal.returns-in_err-host_words
unfolding rest_fault
returns-in_err-host_words c =
    let g = goal.at.returns-in_err-host_words c in
    let z = counts g.In_ok-check_counts in
    let p = parameters g.In_ok-params in
    let w = walk_refused c.walk_slots.ensures c.in_err-host_words.was in
    let f = rw (c.check_parameters.ensures.sheet, p.next) at w in
    let x = err_from_is_err_and c.from_residual-in_err-host_words.result c.from_residual-in_err-host_words.ensures.1 in
    rw (x.1, x.2, z, p.no_fault, f.fault_is)

pub returns-in_err-code : goal.returns-in_err-code
unfolding rest_fault
returns-in_err-code c =
    let g = goal.at.returns-in_err-code c in
    let z = counts g.In_ok-check_counts in
    let p = parameters g.In_ok-params in
    let t = slots g.In_ok-host_words in
    let w = walk_refused c.walk_code.ensures c.in_err-code.was in
    let f = rw (c.walk_slots.ensures.sheet ∙ c.check_parameters.ensures.sheet, stopped_offset t.0) at w in
    let x = err_from_is_err_and c.from_residual-in_err-code.result c.from_residual-in_err-code.ensures.1 in
    rw (x.1, x.2, z, p.no_fault, t.0.fault_is, f.fault_is)

pub returns-in_err-check_end : goal.returns-in_err-check_end
unfolding rest_fault
returns-in_err-check_end c =
    let g = goal.at.returns-in_err-check_end c in
    let z = counts g.In_ok-check_counts in
    let p = parameters g.In_ok-params in
    let t = slots g.In_ok-host_words in
    let k = code g.In_ok-code in
    let f = sym (end g.In_ok-code) ∙ refused_by _ tt c.in_err-check_end.field-0.0 (sym c.check_end.ensures ∙ c.in_err-check_end.was) in
    let x = err_from_is_err_and c.from_residual-in_err-check_end.result c.from_residual-in_err-check_end.ensures.1 in
    rw (x.1, x.2, z, p.no_fault, t.0.fault_is, k.0.fault_is, f)

pub overflow_add-result : goal.overflow_add-result
overflow_add-result c = omega (arith, (parameters (goal.at.overflow_add-result c).In_ok-params).begins)

pub returns : goal.returns
unfolding rest_fault script_from
returns c =
    let g = goal.at.returns c in
    let z = counts g.In_ok-check_counts in
    let p = parameters g.In_ok-params in
    let t = slots g.In_ok-host_words in
    let k = code g.In_ok-code in
    let f = sym (end g.In_ok-code) ∙ (passed_by _ tt c.in_ok-check_end.field-0 (sym c.check_end.ensures ∙ c.in_ok-check_end.was)).0 in
    rw (z, p.no_fault, t.0.fault_is, k.0.fault_is, f, p.count, p.next, stopped_offset t.0, t.1, k.1)
