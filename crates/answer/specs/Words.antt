-- A set of slots as words of 64 bits.
use Rattle.std.specs.Prelude.{◌≡◌, Bool, true, false, List, [], ◌∷◌, ℕ, zero, suc, ◌+◌, ◌*◌, ◌<◌}
use Rattle.bitset.specs.Sets.{member}

abbrev pub one : Bool → ℕ
one true = 1
one false = 0

-- the number whose bits 0, .., n - 1 are f k, f (k + 1), ..
unfoldable pub number_of : (ℕ → Bool) → ℕ → ℕ → ℕ
number_of f k zero = 0
number_of f k (suc n) = one (f k) + 2 * number_of f (suc k) n

-- the w words of a set, from slot 64 × k on
unfoldable pub words_from : (ℕ → Bool) → ℕ → ℕ → List ℕ
words_from f k zero = []
words_from f k (suc w) = number_of f (64 * k) 64 ∷ words_from f (suc k) w

-- the w words of a set
abbrev pub words_of : ℕ → (ℕ → Bool) → List ℕ
words_of w f = words_from f 0 w

-- a row of w words stands for a set
abbrev pub Means : ℕ → List ℕ → (ℕ → Bool) → Type 0
Means w ws f = (i : ℕ) → i < 64 * w → member ws i ≡ f i
