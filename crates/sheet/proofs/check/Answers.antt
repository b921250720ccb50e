-- `sheet::check` meets its contract. Assumes nothing.
use Rattle.std.proofs.Common.{◌≡◌, sym, ap, ◌∙◌, ◌≤◌, length, arith, rules, Ok}
use Rattle.std.proofs.Math.Option.{none}
use Rattle.std.proofs.lemmas.Result.{err_from_is_err_and}
use Rattle.format.specs.Refusals.{answered}
use Rattle.format.proofs.HeadLaws.{lies}
use Rattle.records.specs.Records.{function_fault}
use Rattle.records.proofs.Passed.{function-passed}
use Rattle.sheet.proofs.Answer.{with_id, mapped, function_bad, function_passed, rest_decides}
use Rattle.sheet.proofs.CheckLaws.{checks}
use Rattle.sheet.proofs.check.Goals as goal
use Rattle.sheet.proofs.check.Goals.{After-map_err}

-- the answer of the function record
function : (c : After-map_err) → c.map_err.result ≡ with_id 0 (answered (function_fault c.args.s.now 0) tt)
function c =
    mapped 0 c.function.result c.map_err.result c.map_err.ensures.cases (λ r e q. search rules)
    ∙ ap (with_id 0) (rw (c.new-reader.ensures.0, c.new-reader.ensures.1) at c.function.ensures.answer)

-- if it passed, it has three numbers
passed : (c : After-map_err) {x : Unit {0}} → c.map_err.result ≡ Ok x → function_fault c.args.s.now 0 ≡ none
passed c {x = x} e = function_passed c.args.s.now x (sym (function c) ∙ e)

numbers : (c : After-map_err) {x : Unit {0}} → c.map_err.result ≡ Ok x → 16 ≤ length c.args.s.now
numbers c e =
    let p = function-passed c.args.s.now 0 (passed c e) in
    let l = lies c.args.s.now 0 p.whole in
    omega (arith, p.length_is, l.ordered, l.within)

pub returns-in_err-map_err : goal.returns-in_err-map_err
returns-in_err-map_err c =
    let f = function (goal.at.returns-in_err-map_err c).After-map_err in
    let x = err_from_is_err_and c.from_residual.result c.from_residual.ensures.1 in
    rw (x.1, x.2) (checks c.args.s.now _ (function_bad c.args.s.now c.in_err-map_err.field-0.0 (sym f ∙ c.in_err-map_err.was)))

pub u32_at-id-requires : goal.u32_at-id-requires
u32_at-id-requires c = omega (arith, numbers (goal.at.u32_at-id-requires c).After-map_err c.in_ok-map_err.was)

pub u32_at-requires : goal.u32_at-requires
u32_at-requires c = omega (arith, numbers (goal.at.u32_at-requires c).After-map_err c.in_ok-map_err.was)

pub u32_at-requires-2 : goal.u32_at-requires-2
u32_at-requires-2 c = numbers (goal.at.u32_at-requires-2 c).After-map_err c.in_ok-map_err.was

pub returns : goal.returns
returns c =
    let s = c.args.s.now in
    let z = passed (goal.at.returns c).After-map_err c.in_ok-map_err.was in
    let at = rw (c.new-reader.ensures.0, c.new-reader.ensures.1, z) at c.function.ensures.at in
    let q = rw (c.function.ensures.sheet ∙ c.new-reader.ensures.0, at, c.u32_at-id.ensures, c.u32_at.ensures, c.u32_at-2.ensures) at c.check_rest.ensures in
    let m = mapped c.u32_at-id.result c.check_rest.result c.map_err-2.result c.map_err-2.ensures.cases (λ r e q. search rules) in
    checks s c.map_err-2.result (rw (c.u32_at-id.ensures, q) at m ∙ rest_decides s z)
