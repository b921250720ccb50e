-- `operands::iter::Singles::len` meets its contract. Assumes nothing.
use Rattle.std.proofs.Common.{◌∙◌, ◌≤◌, ◌-◌, sym, arith, ℕ, length, map}
use Rattle.operands.specs.Bytes.{number_in}
use Rattle.operands.specs.Kinds.{kind_number}
use Rattle.operands.specs.Roles.{role_number}
use Rattle.operands.specs.Instructions.{singles_from}
use Rattle.operands.specs.declared.iter.Singles.{Singles}
use Rattle.operands.proofs.PlaceLaws.{singles_few, singles_one-more, singles_no-more}
use Rattle.operands.proofs.iter.Singles.len.Goals as goal
use Rattle.operands.proofs.iter.Singles.len.Goals.{then-is_some, else-is_some}

-- no more are left from field j on than there are fields up to the fourth
few : (s : Singles) (j : ℕ) → length (singles_from (role_number s.always) (role_number s.maybe) (kind_number s.pattern.kind) (map number_in s.fields.now) j) ≤ 4 - j
few s j = singles_few _ _ _ j (4 - j) _

pub overflow_add-len : goal.overflow_add-len
overflow_add-len c =
    let s = c.args.self in
    omega (arith, few s s.next, c.loop-j.invariant.left)

pub loop-j-preserved : goal.loop-j-preserved
loop-j-preserved c =
    let s = c.args.self in
    let k = kind_number s.pattern.kind in
    let v = map number_in s.fields.now in
    elim c.if-is_some.branch [
      | then-is_some w ↦
          let more = singles_one-more _ _ k v c.loop-j.j c.at.result (omega arith) c.at.ensures (sym c.is_some.ensures ∙ w.if-is_some.true) in
          record { left = omega (arith, more, c.loop-j.invariant.left) }
      | else-is_some w ↦
          let same = singles_no-more _ _ k v c.loop-j.j c.at.result (omega arith) c.at.ensures (sym c.is_some.ensures ∙ w.if-is_some.false) in
          record { left = omega (arith, same, c.loop-j.invariant.left) }
    ]

pub returns-clause-length : goal.returns-clause-length
returns-clause-length c =
    omega (arith, few c.args.self c.loop-j.j, c.loop-j.invariant.left)

pub returns-clause-few : goal.returns-clause-few
returns-clause-few c =
    let s = c.args.self in
    omega (arith, few s s.next, c.loop-j.invariant.left)
