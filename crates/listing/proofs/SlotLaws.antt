-- The slots of a set, one after the other, as text.
use mathlib.Core.Path.{◌≡◌, sym, ap, ◌∙◌}
use mathlib.Core.Bool.{Bool, true, false}
use mathlib.Core.List.{List, [], ◌∷◌, ◌++◌, append-nil}
use Prim.Native.Nat.{ℕ, ◌+◌, ◌*◌, ◌≤◌}
use native.Mathlib.Omega.{arith}
use lib.ListN.{length, take, drop, length-append}
use Rattle.bitset.specs.Sets.{member}
use Rattle.dataflow.specs.Lists.{pick, range, keep}
use Rattle.dataflow.proofs.Lists.{range_length, range-append, keep_append, keep-few}
use Rattle.listing.specs.declared.text.LentText.{LentText}
use Rattle.listing.specs.Lines.{spaced, slots_at}
use Rattle.listing.specs.Text.{Writes}
use Rattle.listing.proofs.Decimal.{length-decimal}
use Rattle.listing.proofs.TextLaws.{respelled}
use Rattle.listing.proofs.LineLaws.{writes_more}

-- the slots below a number
abbrev pub slots_below : List ℕ → ℕ → List ℕ
slots_below ws n = keep (member ws) (range 0 n)

slots-more : (ws : List ℕ) (slot : ℕ) → slots_below ws (slot + 1) ≡ slots_below ws slot ++ keep (member ws) (slot ∷ [])
slots-more ws slot =
    let e : 0 + slot ≡ slot = omega arith in
    ap (keep (member ws)) (range-append 0 slot 1 ∙ ap (λ (j : ℕ). range 0 slot ++ (j ∷ [])) e)
    ∙ keep_append (member ws) (range 0 slot) (slot ∷ [])

-- a turn: the slot is in the set, or it is not
pub text_with : {s t u : LentText} (ws : List ℕ) (slot : ℕ) → member ws slot ≡ true → Writes s t (spaced (slots_below ws slot))
    → Writes t u (spaced (slot ∷ [])) → Writes s u (spaced (slots_below ws (slot + 1)))
text_with ws slot h p q =
    respelled (sym (ap spaced (slots-more ws slot ∙ ap (λ (b : Bool). slots_below ws slot ++ pick b (slot ∷ []) []) h)))
    (writes_more (slots_below ws slot) (slot ∷ []) p q)

pub text_without : {s t : LentText} (ws : List ℕ) (slot : ℕ) → member ws slot ≡ false → Writes s t (spaced (slots_below ws slot))
    → Writes s t (spaced (slots_below ws (slot + 1)))
text_without ws slot h p =
    respelled (sym (ap spaced (slots-more ws slot ∙ ap (λ (b : Bool). slots_below ws slot ++ pick b (slot ∷ []) []) h ∙ append-nil (slots_below ws slot)))) p

-- how long they can be
pub slots-few : (v : List ℕ) (w base : ℕ) → length (slots_at v w base) ≤ 64 * w
slots-few v w base =
    omega (arith, keep-few (member (take w (drop base v))) (range 0 (64 * w)), range_length 0 (64 * w))

length-spaced : (l : List ℕ) → length (spaced l) ≤ 21 * length l
length-spaced [] = omega arith
length-spaced (n ∷ l) = simp length-append (omega (arith, length-decimal n, length-spaced l))

pub slots-short : (v : List ℕ) (w base : ℕ) → length (spaced (slots_at v w base)) ≤ 21 * (64 * w)
slots-short v w base = omega (arith, length-spaced (slots_at v w base), slots-few v w base)
