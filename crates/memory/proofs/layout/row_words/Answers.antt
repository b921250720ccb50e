use Rattle.std.proofs.Common.{sym, ap, ◌∙◌, refl, arith, ℕ, ◌+◌, ◌*◌, ◌-◌}
use Rattle.memory.proofs.ScratchLaws.{start_row, width_row, scratch_fits}
use Rattle.memory.proofs.NamedLaws.{row_there}
use Rattle.memory.specs.Named.{row_of}
use Rattle.memory.proofs.layout.row_words.Goals as goal

pub returns : goal.returns
returns c =
    let y = c.args.terms.layout in
    let k = row_of y c.args.row in
    let r = row_there c.args.row c.requires in
    let e = start_row y k r in
    let n = ap (λ (n : ℕ). 4 * y.instructions + 16 * y.blocks + y.extra + (n - 18) * y.words) c.number.ensures in
    record { starts = n ∙ sym e; ends = refl; fits = omega (arith, scratch_fits y k, width_row y k r, e, n) }
