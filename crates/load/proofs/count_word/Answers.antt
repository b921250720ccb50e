use Rattle.std.proofs.Common.{◌∙◌, sym, subst, ◌≡◌, ℕ, ◌+◌, List, [], ◌∷◌, ◌++◌, length, length-append, arith}
use Rattle.std.specs.Slice.Iter.{chunks_exact_rest}
use Rattle.load.specs.Load.{saturated}
use Rattle.load.proofs.CountLaws.{Summed, summed_none, summed_more, summed_all}
use Rattle.load.proofs.count_word.Goals as goal

pub loop-entry-init : goal.loop-entry-init
loop-entry-init c =
    let a = c.args in
    let e = c.into_iter-entry-iterator.ensures.into_iter_gives in
    let rest : chunks_exact_rest c.into_iter-entry-iterator.result ≡ a.entries.now = rw e c.chunks_exact-entry-items.ensures.rest in
    record {
      size = rw e c.chunks_exact-entry-items.ensures.size;
      summed = subst (λ (l : List ℕ). Summed a.entries.now a.weights a.w a.j a.from l 0 a.from) (sym rest) (summed_none (omega arith));
    }

pub loop-entry-preserved : goal.loop-entry-preserved
loop-entry-preserved c =
    let a = c.args in
    let l = c.loop-entry in
    let steps = c.in-Some.ensures.steps in
    let more : c.saturating_add-total.result ≡ saturated (l.total + c.from.result) = omega (arith, c.saturating_add-total.ensures) in
    let entry = c.in-Some.entry.now in
    let one : length l.yielded + 1 ≡ length (l.yielded ++ (c.in-Some.entry ∷ [])) = sym (length-append l.yielded (c.in-Some.entry ∷ [])) in
    record {
      size = steps.0 ∙ l.invariant.size;
      summed = subst (λ (k : ℕ). Summed a.entries.now a.weights a.w a.j a.from (chunks_exact_rest c.next.new.self) k c.saturating_add-total.result) one
          (summed_more l.invariant.summed entry (chunks_exact_rest c.next.new.self) steps.1.0 (steps.1.1 ∙ l.invariant.size) c.requires.0 c.from.ensures more);
    }

pub returns : goal.returns
returns c =
    let steps = c.in-None.ensures.steps in
    summed_all c.loop-entry.invariant.summed (omega (arith, steps.1.0, c.loop-entry.invariant.size))
