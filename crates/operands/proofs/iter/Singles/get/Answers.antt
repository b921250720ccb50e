-- `operands::iter::Singles::get` meets its contract. Assumes nothing.
use Rattle.std.proofs.Common.{◌≡◌, ◌∙◌, sym, ap, arith, [], ◌∷◌, ◌-◌, ℕ, List, map}
use Rattle.operands.specs.Bytes.{number_in}
use Rattle.operands.specs.Kinds.{kind_number}
use Rattle.operands.specs.Instructions.{nth}
use Rattle.operands.proofs.KindLaws.{kind_low, kind_high}
use Rattle.operands.proofs.PlaceLaws.{singles_skip, singles_take, singles_end, nth-second}
use Rattle.operands.proofs.iter.Singles.get.Goals as goal
use Rattle.operands.proofs.iter.Singles.get.Goals.{in-Some+else-before-eq0, in_default}

pub returns-then-before-eq0 : goal.returns-then-before-eq0
returns-then-before-eq0 c =
    let s = c.args.self in
    let here = singles_take _ _ (kind_number s.pattern.kind) (map number_in s.fields.now) c.loop-j.j c.in-Some.value (omega arith) (sym c.in-Some.is ∙ c.at.ensures) in
    let first : c.loop-j.before ≡ 0 = omega arith in
    sym (c.loop-j.invariant.left ∙ ap (λ (l : List ℕ). nth l c.loop-j.before) here ∙ ap (nth (c.in-Some.value ∷ _)) first)

pub loop-j-preserved : goal.loop-j-preserved
loop-j-preserved c =
    let s = c.args.self in
    let k = kind_number s.pattern.kind in
    let v = map number_in s.fields.now in
    elim c.match-at.branch [
      | in-Some+else-before-eq0 w ↦
          let here = singles_take _ _ k v c.loop-j.j w.in-Some.value (omega arith) (sym w.in-Some.is ∙ c.at.ensures) in
          let less : c.loop-j.before - 1 ≡ c.match-at.before = omega arith in
          record {
            left = c.loop-j.invariant.left
                ∙ ap (λ (l : List ℕ). nth l c.loop-j.before) here
                ∙ nth-second (w.in-Some.value ∷ []) _ c.loop-j.before (omega arith)
                ∙ ap (nth _) less;
          }
      | in_default w ↦
          let none = singles_skip _ _ k v c.loop-j.j (omega arith) (sym w.in_default.is ∙ c.at.ensures) in
          let same : c.loop-j.before ≡ c.match-at.before = omega arith in
          record {
            left = c.loop-j.invariant.left ∙ ap (λ (l : List ℕ). nth l c.loop-j.before) none ∙ ap (nth _) same;
          }
    ]

pub returns : goal.returns
returns c =
    let s = c.args.self in
    let k = s.pattern.kind in
    let counted = s.pattern.counted in
    let few = s.pattern.few in
    let end = singles_end _ _ (kind_number k) (map number_in s.fields.now) c.loop-j.j s.always_single s.maybe_single (kind_low k) (kind_high k) (omega arith) in
    sym (c.loop-j.invariant.left ∙ ap (λ (l : List ℕ). nth l c.loop-j.before) end)
