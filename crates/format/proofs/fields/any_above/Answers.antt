use Rattle.std.proofs.Common.{rules, ◌≡◌, ◌∙◌, refl, ap, Bool, false, ◌||◌, List, ℕ, leb, map}
use Rattle.std.proofs.lemmas.Fn.{fold_over, slice_gives, fronts}
use Rattle.operands.specs.Bytes.{number_in}
use Rattle.format.specs.Fields.{any_above}
use Rattle.format.proofs.FieldLaws.{above_more}
use Rattle.format.proofs.fields.any_above.Goals as goal

pub returns : goal.returns
unfolding any_above
returns c =
    let n = c.args.bound in
    let e : c.fold.result ≡ any_above n (map number_in c.iter.result.rest.now) = fold_over fronts (λ x. x.now) _ (λ (ys : List (List ℕ)) (a : Bool). a ≡ any_above n (map number_in ys)) _
    (λ ys a x b f' h k. let e : b ≡ (a || leb n (number_in x.now)) = search rules in (e ∙ ap (λ (t : Bool). t || leb n (number_in x.now)) h ∙ above_more n (number_in x.now) ys x.now refl, search rules))
    c.iter.result c.iter.result.rest.now false c.fold.result (slice_gives c.iter.result) refl c.fold.ensures.ran in
    rw c.iter.ensures.rest at e
