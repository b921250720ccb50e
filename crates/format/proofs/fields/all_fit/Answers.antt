use Rattle.std.proofs.Common.{rules, ◌∙◌, List, ℕ, arith, length, sym}
use Rattle.operands.specs.Bytes.{number_in}
use Rattle.operands.specs.Kinds.{kind_number}
use Rattle.operands.specs.Patterns.{role_at}
use Rattle.operands.proofs.KindLaws.{kind_low, kind_high}
use Rattle.operands.proofs.PatternLaws.{fixed-there}
use Rattle.format.specs.Answers.{Faultless}
use Rattle.std.proofs.lemmas.Iterator.{cases_from_all, YieldsList-from_slice}
use Rattle.std.proofs.lemmas.Bool.{MatchBool-at_true}
use Rattle.std.proofs.lemmas.Iterator.Consumers.{YieldsList-from_enumerate}
use Rattle.format.proofs.FitLaws.{all-fit}
use Rattle.format.proofs.fields.all_fit.Goals as goal
use borrow.Author.Tests.{not-true}

pub split_at-requires : goal.split_at-requires
split_at-requires c =
    let a = c.args in
    omega (arith, fixed-there (kind_number a.i.kind) (length a.i.fields.now) a.i.fitting)

pub returns-then-single_fit : goal.returns-then-single_fit
returns-then-single_fit c =
    let a = c.args in
    let k = kind_number a.i.kind in
    let s = c.split_at.result.0.now in
    let m = cases_from_all _ _ _ (λ (p : ℕ × List ℕ). Faultless a.counts.slots a.counts.instructions (role_at k p.0) (number_in p.1)) (λ (p : ℕ × List ℕ). Unit {0})
    c.all-single_fit.ensures.ran (YieldsList-from_enumerate (YieldsList-from_slice s cc) c.enumerate.ensures.count) (λ x q h. search rules) (λ x q h. tt) in
    let w = MatchBool-at_true _ _ c.if-single_fit.true m in
    λ e. all-fit a.i.fields.now k a.counts.slots a.counts.instructions c.of-pattern.result.single a.i.fitting c.of-pattern.ensures.single
    (rw c.split_at.ensures.front at w) (kind_low a.i.kind) (kind_high a.i.kind) (rw c.split_at.ensures.back at (sym c.rest_above.ensures ∙ not-true _ e))
