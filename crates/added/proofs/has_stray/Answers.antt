-- `added::has_stray` meets its contract. Assumes nothing.
use Rattle.std.proofs.Common.{sym, ◌/◌, arith}
use Rattle.added.proofs.StrayLaws.{whole_words, last_word}
use Rattle.added.proofs.has_stray.Goals as goal

pub returns-then-slots-eq0 : goal.returns-then-slots-eq0
returns-then-slots-eq0 c =
    sym (whole_words c.args.slots c.args.added.now (omega (arith, c.if-slots-eq0.true)))

pub returns : goal.returns
returns c =
    last_word c.args.slots c.args.added.now (λ e. omega (arith, e, c.if-slots-eq0.false))
    (omega (arith, c.type_inv.added (c.args.slots / 64)))
