-- `judge::hosts_if` meets its contract. Assumes nothing.
use Rattle.judge.proofs.HostLaws.{hosted_none, hosted_row}
use Rattle.judge.proofs.hosts_if.Goals as goal

pub returns-then-sheet-eq0 : goal.returns-then-sheet-eq0
returns-then-sheet-eq0 g c =
    hosted_none _ _ c.args.sheet.now.sound g.R.Run.layout _ c.if-sheet-eq0.true

pub returns : goal.returns
returns g c =
    hosted_row _ _ c.args.sheet.now.sound g.R.Run.layout c.layout.ensures.whole c.requires c.hosts.ensures
