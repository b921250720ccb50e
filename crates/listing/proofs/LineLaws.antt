-- A line from its parts: a word, numbers with a space before each, the end.
use mathlib.Core.Path.{◌≡◌, refl, sym, ap, ◌∙◌}
use mathlib.Core.List.{List, [], ◌∷◌, ◌++◌, append_assoc, append-nil}
use Prim.Native.Nat.{ℕ, ◌^◌, ◌<◌}
use Rattle.std.specs.Fmt.{decimal as printed}
use Rattle.listing.specs.declared.text.LentText.{LentText}
use Rattle.listing.specs.Lines.{decimal, spaced}
use Rattle.listing.specs.Text.{Writes}
use Rattle.listing.proofs.Decimal.{decimal_is}
use Rattle.listing.proofs.TextLaws.{writes_then, respelled}

pub spaced-append : (xs ys : List ℕ) → spaced (xs ++ ys) ≡ spaced xs ++ spaced ys
spaced-append [] ys = refl
spaced-append (x ∷ xs) ys =
    ap (λ (t : List ℕ). (32 ∷ decimal x) ++ t) (spaced-append xs ys) ∙ sym (append_assoc (32 ∷ decimal x) (spaced xs) (spaced ys))

-- a space, and a number as the library writes it
pub writes_number : {s t u : LentText} {digits : List ℕ} (n : ℕ) → n < 2 ^ 64 → digits ≡ printed n → Writes s t (32 ∷ []) → Writes t u digits
    → Writes s u (spaced (n ∷ []))
writes_number n h e p q =
    respelled (ap (λ (t : List ℕ). 32 ∷ t) (e ∙ sym (decimal_is n h) ∙ sym (append-nil (decimal n)))) (writes_then p q)

-- numbers after numbers
pub writes_more : {s t u : LentText} (ns ms : List ℕ) → Writes s t (spaced ns) → Writes t u (spaced ms) → Writes s u (spaced (ns ++ ms))
writes_more ns ms p q = respelled (sym (spaced-append ns ms)) (writes_then p q)
