-- A number's digits as the library writes them are its decimal.
use mathlib.Core.Bool.{Bool, true, false}
use mathlib.Core.List.{List, [], ◌∷◌, ◌++◌}
use Prim.Native.Nat.{ℕ, zero, suc, ◌+◌, ◌/◌, ◌%◌, ◌^◌, ◌≤◌, ◌<◌}
use lib.Dec.{ltb}
use lib.ListN.{length, length-append}
use Rattle.std.proofs.Common.{◌≡◌, refl, arith}
use borrow.Author.Tests.{lt-ltb, le-ltb}
use Rattle.std.specs.Fmt.{decimal as printed}
use Rattle.std.proofs.lemmas.Fmt.{AppendsLastDigit, decimal_from_appends, length-decimal-le}
use Rattle.dataflow.specs.Lists.{pick}
use Rattle.listing.specs.Lines.{digits_of, decimal}

-- ---- how long a decimal is
length-pick : (b : Bool) (xs ys : List ℕ) (n : ℕ) → length xs ≤ n → length ys ≤ n → length (pick b xs ys) ≤ n
length-pick true xs ys n h k = h
length-pick false xs ys n h k = k

length_digits : (f n : ℕ) → length (digits_of f n) ≤ f
unfolding digits_of
length_digits zero n = omega arith
length_digits (suc f) n =
    let e : length (digits_of f (n / 10) ++ ((48 + n % 10) ∷ [])) ≤ suc f = simp length-append (omega (arith, length_digits f (n / 10))) in
    length-pick (ltb n 10) ((48 + n) ∷ []) (digits_of f (n / 10) ++ ((48 + n % 10) ∷ [])) (suc f) (omega arith) e

pub length-decimal : (n : ℕ) → length (decimal n) ≤ 20
length-decimal n = length_digits 20 n

-- ---- its digits
appends : AppendsLastDigit digits_of
unfolding digits_of
appends = record {
  one = λ k n h. rw (lt-ltb n 10 h) refl;
  more = λ k n h. rw (le-ltb n 10 h) refl;
}

pub decimal_is : (n : ℕ) → n < 2 ^ 64 → decimal n ≡ printed n
decimal_is n h = decimal_from_appends digits_of appends 20 n h (length-decimal-le 20 n (omega arith) (omega arith) h)
