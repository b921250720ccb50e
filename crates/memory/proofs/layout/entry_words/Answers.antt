use Rattle.std.proofs.Common.{◌≡◌, sym, ap, ◌∙◌, arith, ℕ, ◌+◌, ◌*◌, ◌-◌}
use Rattle.memory.proofs.SetsLaws.{start_await, width_await, sets_fits}
use Rattle.memory.proofs.NamedLaws.{entry_there}
use Rattle.memory.specs.Names.{await_entry}
use Rattle.memory.proofs.layout.entry_words.Goals as goal

pub returns : goal.returns
returns c =
    let y = c.args.terms.layout in
    let k = await_entry y.blocks c.args.k in
    let r = entry_there c.requires in
    let i : k - 2 * y.blocks ≡ c.args.k = omega arith in
    let e = start_await y k r ∙ ap (λ (i : ℕ). y.blocks * 2 * y.words + i * (1 + y.words)) i in
    record { starts = sym e; ends = omega arith; fits = omega (arith, sets_fits y k, width_await y k r, e) }
