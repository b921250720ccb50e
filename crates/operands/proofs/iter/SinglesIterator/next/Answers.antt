-- `operands::iter::SinglesIterator::next` meets its contract. Assumes nothing.
use Rattle.std.proofs.Common.{◌≡◌, ◌∙◌, sym, ap, arith, [], length, map}
use Rattle.operands.specs.Bytes.{number_in}
use Rattle.operands.specs.Kinds.{kind_number}
use Rattle.operands.specs.Instructions.{singles_left}
use Rattle.operands.specs.declared.iter.Singles.{Singles}
use Rattle.operands.proofs.KindLaws.{kind_low, kind_high}
use Rattle.operands.proofs.PlaceLaws.{singles_skip, singles_take, singles_end}
use Rattle.operands.proofs.iter.SinglesIterator.next.Goals as goal

pub returns-in-Some-clause-steps : goal.returns-in-Some-clause-steps
returns-in-Some-clause-steps c =
    let s = c.loop-j.self in
    c.loop-j.invariant.left
    ∙ singles_take _ _ (kind_number s.pattern.kind) (map number_in s.fields.now) c.loop-j.j c.in-Some.value (omega arith) (sym c.in-Some.is ∙ c.at.ensures)

pub returns-in-Some-clause-goes : goal.returns-in-Some-clause-goes
returns-in-Some-clause-goes c =
    let fewer = ap length (returns-in-Some-clause-steps c) in
    record { on = λ f. (tt, tt, omega (arith, fewer)); keeps = tt; rests = λ f. tt }

pub loop-j-preserved : goal.loop-j-preserved
loop-j-preserved c =
    let s = c.loop-j.self in
    record {
      same = c.loop-j.invariant.same;
      left =
          c.loop-j.invariant.left
          ∙ singles_skip _ _ (kind_number s.pattern.kind) (map number_in s.fields.now) c.loop-j.j (omega arith) (sym c.in_default.is ∙ c.at.ensures);
    }

pub returns-clause-steps : goal.returns-clause-steps
returns-clause-steps c =
    let s = c.loop-j.self in
    let k = s.pattern.kind in
    let counted = s.pattern.counted in
    let same = ap (λ (x : Singles). x.pattern.single) c.loop-j.invariant.same in
    let e : singles_left c.args.self.now ≡ [] =
    c.loop-j.invariant.left
    ∙ singles_end _ _ (kind_number k) (map number_in s.fields.now) c.loop-j.j s.always_single s.maybe_single (kind_low k) (kind_high k) (omega arith) in
    (e, ap singles_left c.loop-j.invariant.same ∙ e)
