-- `repeats::by_pairs` meets its contract: what is left of the numbers decides. Assumes nothing.
use Rattle.std.proofs.Common.{◌≡◌, eqb, length-drop, refl, sym, ◌∙◌, arith, rules, tests}
use Rattle.std.specs.List.{list_any}
use Rattle.std.proofs.lemmas.List.{take_all}
use Rattle.std.proofs.lemmas.Iterator.{YieldsList-from_slice}
use Rattle.std.proofs.lemmas.Iterator.Search.{any_from_yields_List}
use Rattle.operands.specs.Bytes.{number_in}
use Rattle.repeats.proofs.RepeatLaws.{twice_step, twice_end}
use Rattle.repeats.proofs.by_pairs.Goals as goal
use Rattle.repeats.proofs.by_pairs.Goals.{After-any}

-- the answer is whether the number is one of those that are looked through
looked : (c : After-any) → c.any.result ≡ list_any (λ b. eqb c.number-x.result (number_in b)) c.iter.result.rest.now
looked c =
    any_from_yields_List (λ b. eqb c.number-x.result (number_in b)) _ _ c.any.result c.any.ensures.ran
    (YieldsList-from_slice c.iter.result.rest.now refl) (λ b r q k. search (rules, tests))

pub returns-then-any : goal.returns-then-any
returns-then-any c =
    let a = looked (goal.at.returns-then-any c).After-any in
    grind (arith, twice_step, take_all, length-drop)

pub loop-i-preserved : goal.loop-i-preserved
loop-i-preserved c =
    let a = looked (goal.at.loop-i-preserved c).After-any in
    grind (arith, twice_step, take_all, length-drop)

pub returns : goal.returns
returns c = sym (c.loop-i.invariant ∙ twice_end c.args.numbers.now c.loop-i.i c.loop-i-test.false)
