use Rattle.std.proofs.Common.{◌≤◌, ◌≡◌, ◌∙◌, sym, ap, ap₂, List, ℕ, map, length, replicate, arith, rules}
use lib.ListN.{drop_of_length-le}
use Rattle.std.proofs.lemmas.List.{length-map}
use Rattle.operands.specs.Bytes.{number_in}
use Rattle.sheet.specs.Decode.{parts_of}
use Rattle.instructions.specs.Sets.{inserted_all, parameter_row}
use Rattle.instructions.proofs.SetSteps.{item-below, listed_more}
use Rattle.instructions.proofs.Sound.{passed_sound}
use Rattle.instructions.proofs.PlacedLaws.{made_parameters}
use Rattle.instructions.proofs.sets.insert_parameters.Goals as goal

pub overflow_mul-end : goal.overflow_mul-end
overflow_mul-end c = let ok = passed_sound c.args.sheet.now in search rules

pub overflow_add-end : goal.overflow_add-end
overflow_add-end c = let ok = passed_sound c.args.sheet.now in search rules

pub slice_bounds-as_chunks-end : goal.slice_bounds-as_chunks-end
slice_bounds-as_chunks-end c = let ok = passed_sound c.args.sheet.now in search rules

pub insert-requires : goal.insert-requires
insert-requires c =
    let x = c.args.sheet.now in
    let ok = passed_sound x in
    let e = ap (map number_in) c.as_chunks.ensures.front ∙ made_parameters x.bytes.now x.script ok in
    let b = item-below c.as_chunks.result.0.now c.loop-field.field-index c.loop-field-test.true x.script.slots (parts_of x.bytes.now).params e
    ok.params_below in
    omega (arith, c.number.ensures, c.requires, c.fill.ensures.len)

pub loop-field-preserved : goal.loop-field-preserved
loop-field-preserved c =
    let l = c.loop-field in
    let items = c.as_chunks.result.0.now in
    ap (inserted_all _) c.insert.ensures
    ∙ listed_more items l.field-index c.loop-field-test.true c.number.result l.row (inserted_all (map number_in items) c.fill.new.self) c.number.ensures l.invariant

pub returns : goal.returns
unfolding inserted_all parameter_row
returns c =
    let a = c.args in
    let x = a.sheet.now in
    let ok = passed_sound x in
    let l = c.loop-field in
    let items = c.as_chunks.result.0.now in
    let e = ap (map number_in) c.as_chunks.ensures.front ∙ made_parameters x.bytes.now x.script ok in
    let h : length (map number_in items) ≤ l.field-index = omega (arith, length-map items number_in) in
    let z : c.fill.new.self ≡ replicate (length a.row.now) 0 = c.fill.ensures.after (search rules) in
    sym (ap (λ (ns : List ℕ). inserted_all ns l.row) (drop_of_length-le (map number_in items) h)) ∙ l.invariant ∙ ap₂ inserted_all e z
