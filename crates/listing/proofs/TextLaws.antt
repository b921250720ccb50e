-- Things written into lent bytes, one after the other.
use mathlib.Core.Path.{◌≡◌, refl, sym, ap, ◌∙◌, subst}
use mathlib.Core.List.{List, [], ◌∷◌, ◌++◌}
use Prim.Native.Nat.{ℕ, suc, ◌+◌, ◌≤◌, ◌<◌}
use native.Mathlib.Nat.{add-zero}
use native.Mathlib.Numerals.{add-one}
use native.Mathlib.Omega.{arith}
use lib.ListN.{length, take, drop, get_or, set, length-append}
use lib.Seq.{sets, sets-eq, take_all, take_at, take-suc, set_out, drop-set-lt}
use Rattle.listing.specs.declared.text.LentText.{LentText}
use Rattle.listing.specs.Text.{Puts, Rendered, Writes}

sets-append : (l : List ℕ) (i : ℕ) (xs ys : List ℕ) → sets (sets l i xs) (i + length xs) ys ≡ sets l i (xs ++ ys)
sets-append l i [] ys = ap (λ (j : ℕ). sets l j ys) (add-zero i)
sets-append l i (x ∷ xs) ys =
    let e : i + suc (length xs) ≡ suc i + length xs = omega arith in
    ap (λ (j : ℕ). sets (sets (set l i x) (suc i) xs) j ys) e ∙ sets-append (set l i x) (suc i) xs ys

drop-sets : (l : List ℕ) (i : ℕ) (xs : List ℕ) → drop (i + length xs) (sets l i xs) ≡ drop (i + length xs) l
drop-sets l i [] = refl
drop-sets l i (x ∷ xs) =
    let e : i + suc (length xs) ≡ suc i + length xs = omega arith in
    ap (λ (j : ℕ). drop j (sets (set l i x) (suc i) xs)) e ∙ drop-sets (set l i x) (suc i) xs
    ∙ drop-set-lt (suc i + length xs) l i x (omega arith) ∙ ap (λ (j : ℕ). drop j l) (sym e)

-- ---- one byte
pub puts_there : (l : List ℕ) (at b : ℕ) → Puts l (set l at b) at (b ∷ []) (at + 1)
puts_there l at b = record { next = refl; is = refl }

pub puts_past : (l : List ℕ) (at b : ℕ) → length l ≤ at → Puts l l at (b ∷ []) (at + 1)
puts_past l at b h = record { next = refl; is = sym (set_out l at b h) }

-- ---- one thing after another
pub puts_none : (l : List ℕ) (at : ℕ) → Puts l l at [] at
puts_none l at = record { next = sym (add-zero at); is = refl }

pub puts_then : {l m n xs ys : List ℕ} {at a b : ℕ} → Puts l m at xs a → Puts m n a ys b → Puts l n at (xs ++ ys) b
puts_then {l} {xs} {ys} {at} p q = record {
  next = simp length-append (omega (arith, p.next, q.next));
  is = q.is ∙ rw (p.is, p.next) (sets-append l at xs ys);
}

pub writes_none : (t : LentText) → Writes t t []
writes_none t = record { lent = refl; puts = puts_none t.bytes.now t.at }

pub writes_then : {s t u : LentText} {xs ys : List ℕ} → Writes s t xs → Writes t u ys → Writes s u (xs ++ ys)
writes_then p q = record { lent = q.lent ∙ p.lent; puts = puts_then p.puts q.puts }

-- the same bytes, written otherwise
pub respelled : {s t : LentText} {xs ys : List ℕ} → xs ≡ ys → Writes s t xs → Writes s t ys
respelled {s} {t} e p = subst (Writes s t) e p

-- a word, byte by byte
pub writes_byte : {s t u : LentText} {b : ℕ} (w : List ℕ) (k : ℕ) → k < length w → b ≡ get_or w k 0 → Writes s t (take k w) → Writes t u (b ∷ [])
    → Writes s u (take (k + 1) w)
writes_byte w k h e p q = rw (add-one k, take-suc w k 0 h, ← e) (writes_then p q)

pub writes_whole : {s t : LentText} (w : List ℕ) (k : ℕ) → length w ≤ k → Writes s t (take k w) → Writes s t w
writes_whole w k h p = rw take_all at p

-- ---- a line at the front
pub rendered : {l m line : List ℕ} {r : ℕ} → Puts l m 0 line r → Rendered l m line r
rendered {l} {m} {line} {r} p =
    let e : r ≡ length line = omega (arith, p.next) in
    record {
      long = e;
      stands = λ h.
          ap (take r) (p.is ∙ sets-eq line l 0 (omega arith)) ∙ take_at line (drop (0 + length line) l) r (sym e);
      rest = rw (p.is, p.next) (drop-sets l 0 line);
    }
