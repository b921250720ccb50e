-- Laws of tests.
use mathlib.Core.Path.{◌≡◌, refl, sym, ◌∙◌}
use mathlib.Core.Bool.{Bool, true, false, not, ◌&&◌, ◌||◌, true≢false, false≢true, or-true}
use mathlib.Core.Logic.{◌⊎◌, inl, inr, ◌≢◌}
use Prim.Native.Nat.{ℕ}
use lib.Dec.{T, eqb, eqb→eq, eqb_refl}

pub or_no_left : (a b : Bool) → (a || b) ≡ false → a ≡ false
or_no_left true b e = e
or_no_left false b e = refl

pub or_no_right : (a b : Bool) → (a || b) ≡ false → b ≡ false
or_no_right true b e = absurd (true≢false e)
or_no_right false b e = e

pub or_yes : (a b : Bool) → (a || b) ≡ true → (a ≡ true) ⊎ (b ≡ true)
or_yes true b e = inl refl
or_yes false b e = inr e

-- if one of two holds and it is not the second, it is the first
pub or_first : (a b : Bool) → (a || b) ≡ true → b ≡ false → a ≡ true
or_first true b e n = refl
or_first false b e n = absurd (true≢false (sym e ∙ n))

pub and_left : (a b : Bool) → (a && b) ≡ true → a ≡ true
and_left true b e = refl
and_left false b e = e

pub and_right : (a b : Bool) → (a && b) ≡ true → b ≡ true
and_right true b e = e
and_right false b e = absurd (false≢true e)

pub and_no : (a b : Bool) → (a && b) ≡ false → (a ≡ false) ⊎ (b ≡ false)
and_no true b e = inr e
and_no false b e = inl refl

pub not-no : (a : Bool) → not a ≡ false → a ≡ true
not-no true e = refl
not-no false e = absurd (true≢false e)

pub not_yes : (a : Bool) → not a ≡ true → a ≡ false
not_yes true e = absurd (false≢true e)
not_yes false e = refl

-- two tests that hold together are equal
pub same_truth : (a b : Bool) → (a ≡ true → b ≡ true) → (b ≡ true → a ≡ true) → a ≡ b
same_truth true b f g = sym (f refl)
same_truth false true f g = g refl
same_truth false false f g = refl

-- what is not true is false
pub not-true : (a : Bool) → (a ≡ true → ⊥) → a ≡ false
not-true true h = absurd (h refl)
not-true false h = refl

pub test-true : (b : Bool) → T b → b ≡ true
test-true true t = refl
test-true false t = absurd t

pub true-test : (b : Bool) → b ≡ true → T b
true-test true e = tt
true-test false e = absurd (false≢true e)

pub eqb-self : (b : ℕ) → eqb b b ≡ true
eqb-self b = test-true (eqb b b) (eqb_refl b)

pub eqb-other : (b c : ℕ) → b ≢ c → eqb b c ≡ false
eqb-other b c ne = not-true (eqb b c) (λ e. ne (eqb→eq b c (true-test _ e)))

pub eqb_is : (b c : ℕ) → eqb b c ≡ true → b ≡ c
eqb_is b c e = eqb→eq b c (true-test _ e)

-- the transfer function of liveness, taken apart and put together
pub live-cases : (r w g : Bool) → (r || (not w && g)) ≡ true → (r ≡ true) ⊎ ((w ≡ false) × (g ≡ true))
live-cases true w g e = inl refl
live-cases false true g e = absurd (false≢true e)
live-cases false false g e = inr (refl, e)

pub live-pass : (r w g : Bool) → w ≡ false → g ≡ true → (r || (not w && g)) ≡ true
live-pass r w g ew eg = rw (ew, eg) (or-true r)
