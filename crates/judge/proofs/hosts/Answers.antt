use Rattle.std.proofs.Common.{◌≡◌, ap, ◌∙◌, rules}
use Rattle.memory.specs.Cells.{store_cell}
use Rattle.memory.specs.Names.{hosts_row}
use Rattle.sheet.specs.Decode.{parts_of}
use Rattle.instructions.specs.Sets.{host_row}
use Rattle.judge.proofs.hosts.Goals as goal

pub returns : goal.returns
returns g c =
    let r = c.change.ensures.1 in
    let w : c.change.ensures.0 ≡ host_row (parts_of c.args.sheet.now.bytes.now) g.R.Run.layout.words =
    rw (← c.change.ensures.3, ← r.shows, ← r.leaves) (search (rules, r.met)) in
    c.change.ensures.2 ∙ ap (store_cell c.args.s.now (hosts_row g.R.Run.layout.blocks)) w
