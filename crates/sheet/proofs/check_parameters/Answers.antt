-- `sheet::check_parameters` meets its contract. Assumes nothing.
use Rattle.std.proofs.Common.{◌≡◌, sym, ap, ◌∙◌, ℕ, ◌+◌, ◌/◌, ◌≤◌, map, length, arith, rules}
use Rattle.std.proofs.lemmas.Result.{err_from_is_err_and}
use Rattle.operands.specs.Bytes.{number_in}
use Rattle.repeats.specs.Repeats.{any_twice}
use Rattle.format.specs.Heads.{body_length, fields_at}
use Rattle.format.proofs.HeadLaws.{lies}
use Rattle.format.proofs.BodyLaws.{body_size, body_fields}
use Rattle.records.specs.Records.{repeat_fault, parameters_fault}
use Rattle.records.proofs.Passed.{none_above, slots-passed}
use Rattle.sheet.proofs.WalkLaws.{read_passed, read_refused}
use Rattle.sheet.proofs.check_parameters.Goals as goal
use Rattle.sheet.proofs.check_parameters.Goals.{In_ok-parameters, After-as_chunks}

-- a parameter record that passed lies in the sheet
inside : (c : In_ok-parameters) → (c.args.reader.now.at + 4 ≤ c.parameters.new.self.at) × (c.parameters.new.self.at ≤ length c.parameters.new.self.sheet.now)
inside c =
    let r = c.args.reader.now in
    let f = read_passed c.parameters.ensures c.in_ok-parameters.was in
    let w = lies r.sheet.now r.at (slots-passed r.sheet.now c.args.slots r.at f.no_fault).whole in
    (omega (arith, w.ordered, f.next), rw c.parameters.ensures.sheet (omega (arith, w.within, f.next)))

pub returns-in_err-parameters : goal.returns-in_err-parameters
unfolding parameters_fault
returns-in_err-parameters c =
    let f = read_refused c.parameters.ensures c.in_err-parameters.was in
    let x = err_from_is_err_and c.from_residual.result c.from_residual.ensures.1 in
    rw (x.1, x.2) (record { answer = rw f.0; sheet = c.parameters.ensures.sheet; at = c.parameters.ensures.at })

pub overflow_add-at : goal.overflow_add-at
overflow_add-at c = let w = inside (goal.at.overflow_add-at c).In_ok-parameters in omega (arith, w.0, w.1)

pub slice_bounds-as_chunks-count : goal.slice_bounds-as_chunks-count
slice_bounds-as_chunks-count c = (inside (goal.at.slice_bounds-as_chunks-count c).In_ok-parameters).0

pub slice_bounds-as_chunks-start : goal.slice_bounds-as_chunks-start
slice_bounds-as_chunks-start c = let w = inside (goal.at.slice_bounds-as_chunks-start c).In_ok-parameters in let a = w.0 in let b = w.1 in search rules

pub slice_bounds-as_chunks-end : goal.slice_bounds-as_chunks-end
slice_bounds-as_chunks-end c = let w = inside (goal.at.slice_bounds-as_chunks-end c).In_ok-parameters in let a = w.0 in let b = w.1 in search rules

-- its numbers are its fields
numbers : (c : After-as_chunks) → map number_in c.as_chunks.result.0.now ≡ fields_at c.args.reader.now.sheet.now c.args.reader.now.at
numbers c =
    let r = c.args.reader.now in
    let f = read_passed c.parameters.ensures c.in_ok-parameters.was in
    let p = slots-passed r.sheet.now c.args.slots r.at f.no_fault in
    ap (map number_in) (rw (c.parameters.ensures.sheet, f.next) at c.as_chunks.ensures.front) ∙ body_fields r.sheet.now r.at p.whole

pub any_twice-requires : goal.any_twice-requires
any_twice-requires c =
    let r = c.args.reader.now in
    let f = read_passed c.parameters.ensures c.in_ok-parameters.was in
    let p = slots-passed r.sheet.now c.args.slots r.at f.no_fault in
    rw (numbers (goal.at.any_twice-requires c).After-as_chunks) (none_above c.args.slots (fields_at r.sheet.now r.at) p.below)

pub returns-then-any_twice : goal.returns-then-any_twice
unfolding parameters_fault repeat_fault
returns-then-any_twice c =
    let f = read_passed c.parameters.ensures c.in_ok-parameters.was in
    let t = ap any_twice (sym (numbers (goal.at.returns-then-any_twice c).After-as_chunks)) ∙ sym c.any_twice.ensures ∙ c.if-any_twice.true in
    record { answer = rw (f.no_fault, t); sheet = c.parameters.ensures.sheet; at = c.parameters.ensures.at }

pub returns : goal.returns
unfolding parameters_fault repeat_fault
returns c =
    let r = c.args.reader.now in
    let f = read_passed c.parameters.ensures c.in_ok-parameters.was in
    let p = slots-passed r.sheet.now c.args.slots r.at f.no_fault in
    let t = ap any_twice (sym (numbers (goal.at.returns c).After-as_chunks)) ∙ sym c.any_twice.ensures ∙ c.if-any_twice.false in
    let n : length c.as_chunks.result.0.now ≡ body_length r.sheet.now r.at / 4 =
    (rw (c.parameters.ensures.sheet, f.next) at c.as_chunks.ensures.front_len) ∙ ap (λ (k : ℕ). k / 4) (body_size r.sheet.now r.at p.whole) in
    record { answer = rw (f.no_fault, t, n); sheet = c.parameters.ensures.sheet; at = c.parameters.ensures.at }
