-- `leaders::leaders::leaders` meets its contract. Assumes nothing.
use Rattle.std.proofs.Common.{ap, arith}
use Rattle.sizes.specs.declared.Layout.{Layout}
use Rattle.instructions.proofs.Sound.{passed_sound}
use Rattle.leaders.proofs.LeaderLaws.{begun}
use Rattle.leaders.proofs.leaders.leaders.Goals as goal

pub put-requires : goal.put-requires
put-requires g c =
    omega (arith, (passed_sound c.args.sheet.now).some_code, ap (λ (y : Layout). y.instructions) c.requires)

pub mark_all-requires : goal.mark_all-requires
mark_all-requires g c =
    (c.requires, begun _ c.clear.ensures.whole c.clear.ensures.stored c.put.ensures.stored c.args.sheet.now.script c.requires (passed_sound c.args.sheet.now).some_code)
