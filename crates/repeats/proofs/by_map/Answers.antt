-- `repeats::by_map` meets its contract: what is left of the numbers, with the map as it is, decides. Assumes nothing.
use Rattle.std.proofs.Common.{◌+◌, Bool, ◌||◌, List, [], ℕ, map, get_or, drop, sym, ap, ◌∙◌, arith}
use Rattle.bitset.specs.Sets.{member}
use Rattle.bitset.specs.Operations.{inserted}
use Rattle.operands.specs.Bytes.{number_in}
use Rattle.repeats.specs.Seen.{twice_seen}
use Rattle.repeats.proofs.RepeatLaws.{number_below, seen_more, seen_end, seen_none}
use Rattle.repeats.proofs.by_map.Goals as goal

pub loop-number-init : goal.loop-number-init
loop-number-init c = sym (seen_none 1024 (map number_in c.args.numbers.now) c.requires)

pub contains-requires : goal.contains-requires
contains-requires c =
    omega (arith, number_below 65536 c.args.numbers.now c.loop-number.number-index c.loop-number-test.true c.requires, c.number-x.ensures, c.number-x.array_long)

pub returns-then-contains : goal.returns-then-contains
returns-then-contains c =
    let l = c.loop-number in
    let numbers = c.args.numbers.now in
    let yes = ap (member l.seen) (sym c.number-x.ensures) ∙ sym c.contains.ensures ∙ c.if-contains.true in
    sym (l.invariant ∙ seen_more numbers l.number-index l.seen c.loop-number-test.true
    ∙ ap (λ (t : Bool). t || twice_seen (inserted l.seen (number_in (get_or numbers l.number-index []))) (map number_in (drop (l.number-index + 1) numbers))) yes)

pub insert-requires : goal.insert-requires
insert-requires c =
    omega (arith, number_below 65536 c.args.numbers.now c.loop-number.number-index c.loop-number-test.true c.requires, c.number-x.ensures, c.number-x.array_long)

pub loop-number-preserved : goal.loop-number-preserved
loop-number-preserved c =
    let l = c.loop-number in
    let numbers = c.args.numbers.now in
    let rest = map number_in (drop (l.number-index + 1) numbers) in
    let no = ap (member l.seen) (sym c.number-x.ensures) ∙ sym c.contains.ensures ∙ c.if-contains.false in
    l.invariant ∙ seen_more numbers l.number-index l.seen c.loop-number-test.true
    ∙ ap (λ (t : Bool). t || twice_seen (inserted l.seen (number_in (get_or numbers l.number-index []))) rest) no
    ∙ ap (λ (ws : List ℕ). twice_seen ws rest) (ap (inserted l.seen) (sym c.number-x.ensures) ∙ sym c.insert.ensures)

pub returns : goal.returns
returns c =
    let l = c.loop-number in
    sym (l.invariant ∙ seen_end c.args.numbers.now l.number-index l.seen c.loop-number-test.false)
