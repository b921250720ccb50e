-- `leaders::leaders::mark_all` meets its contract. Assumes nothing.
use Rattle.std.proofs.Common.{refl, sym, ap, subst, ◌∙◌, arith}
use Rattle.std.proofs.lemmas.Result.{err_from_is_err_and}
use Rattle.sizes.specs.declared.Layout.{Layout}
use Rattle.instructions.specs.Placed.{Stands}
use Rattle.instructions.proofs.Sound.{passed_sound}
use Rattle.sheet.specs.Decode.{offset_of}
use Rattle.budget.proofs.BudgetLaws.{charged-none, ones_more}
use Rattle.leaders.proofs.LeaderLaws.{marking-none, marking_placed, next_at, fitting_at, targets_at, leads_over, leads_all}
use Rattle.leaders.proofs.leaders.mark_all.Goals as goal

pub loop-pc-init : goal.loop-pc-init
unfolding offset_of
loop-pc-init g c =
    record { offset = refl; charges = charged-none g.R.Run.limits c.args.meter; marks = marking-none c.requires.1 }

pub returns-in_err-left : goal.returns-in_err-left
returns-in_err-left g c =
    let i = c.loop-pc.invariant in
    let p = err_from_is_err_and c.from_residual.result c.from_residual.ensures.1 in
    rw (p.1, p.2) (leads_over (passed_sound c.args.sheet.now) i.marks c.loop-pc-test.true i.charges c.in_err-left.ensures)

pub instruction_at-p-requires : goal.instruction_at-p-requires
instruction_at-p-requires g c =
    subst (Stands c.args.sheet.now.bytes.now) (sym c.loop-pc.invariant.offset) ((passed_sound c.args.sheet.now).stands c.loop-pc.pc c.loop-pc-test.true)

pub instruction-requires : goal.instruction-requires
instruction-requires g c =
    fitting_at (passed_sound c.args.sheet.now) c.loop-pc.pc c.instruction_at-p.ensures c.loop-pc.invariant.offset c.loop-pc-test.true

pub mark-requires : goal.mark-requires
mark-requires g c =
    let n = ap (λ (y : Layout). y.instructions) c.requires.0 in (
      rw n
          (targets_at (passed_sound c.args.sheet.now) c.loop-pc.pc c.instruction_at-p.ensures c.loop-pc.invariant.offset c.instruction.result
          c.instruction.ensures.kind_is c.instruction.ensures.fields_are c.loop-pc-test.true),
      omega (arith, c.loop-pc-test.true, n),
    )

pub loop-pc-preserved : goal.loop-pc-preserved
loop-pc-preserved g c =
    let l = c.loop-pc in
    let ok = passed_sound c.args.sheet.now in record {
      offset = next_at ok l.pc c.instruction_at-p.ensures l.invariant.offset;
      charges = ones_more g.R.Run.limits c.args.meter l.pc l.invariant.charges ∙ sym c.charge.ensures ∙ c.in_ok-left.was;
      marks = marking_placed ok l.pc c.instruction_at-p.ensures l.invariant.offset c.instruction.result c.instruction.ensures.kind_is
          c.instruction.ensures.fields_are c.requires.0 l.invariant.marks c.put.ensures.whole c.loop-pc-test.true c.put.ensures.stored c.mark.ensures;
    }

pub returns : goal.returns
returns g c =
    leads_all (passed_sound c.args.sheet.now) c.loop-pc.invariant.marks (omega arith) c.loop-pc.invariant.charges
