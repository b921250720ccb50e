use Rattle.std.proofs.Common.{sym, ap, ◌∙◌, refl, arith, ℕ, ◌*◌}
use Rattle.memory.proofs.SetsLaws.{start_sets_row, width_sets_row, sets_fits}
use Rattle.memory.proofs.NamedLaws.{set_there}
use Rattle.memory.specs.Named.{set_of}
use Rattle.memory.proofs.layout.set_words.Goals as goal

pub returns : goal.returns
returns c =
    let y = c.args.terms.layout in
    let k = set_of c.args.set in
    let r = set_there y c.args.set c.requires in
    let e = start_sets_row y k r in
    let n = ap (λ (n : ℕ). n * y.words) c.number.ensures in
    record { starts = n ∙ sym e; ends = refl; fits = omega (arith, sets_fits y k, width_sets_row y k r, e, n) }
