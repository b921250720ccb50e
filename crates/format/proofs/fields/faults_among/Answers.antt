use Rattle.std.proofs.Common.{rules, ◌∙◌, length, arith, ◌<◌, sym}
use Rattle.std.proofs.lemmas.List.{length-map, get_or-map}
use Rattle.operands.specs.Kinds.{kind_number}
use Rattle.operands.specs.Roles.{role_number}
use Rattle.operands.specs.Bytes.{number_in}
use Rattle.operands.specs.Instructions.{values_of}
use Rattle.format.proofs.FieldLaws.{faults_more}
use Rattle.format.proofs.fields.faults_among.Goals as goal

pub loop-j-preserved : goal.loop-j-preserved
loop-j-preserved c =
    let a = c.args in
    let l = c.loop-j in
    let h : l.j < length a.i.fields.now = omega arith in
    let e = faults_more (kind_number a.i.kind) a.counts.slots a.counts.instructions (values_of a.i) l.j (role_number c.role-role.result) c.number-x.result l.faults
    (omega (arith, length-map a.i.fields.now number_in)) (search rules) (c.number-x.ensures ∙ sym (get_or-map number_in a.i.fields.now l.j _ _ h)) l.invariant in
    rw (c.bad_module.ensures, c.no_slot.ensures, c.no_target.ensures) e
