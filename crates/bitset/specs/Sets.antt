-- A set of slots in words of 64 bits: slot i is in the set where bit i % 64 of word i / 64 is 1.
use Rattle.std.specs.Prelude.{◌≡◌, Bool, List, ℕ, ◌-◌, ◌/◌, ◌%◌, ◌^◌, ◌<◌, eqb, length, get_or}

-- a word with every bit set
abbrev pub ones : ℕ
ones = 2 ^ 64 - 1

-- bit j of the number x: 0 or 1
unfoldable pub digit : ℕ → ℕ → ℕ
digit x j = x / 2 ^ j % 2

-- whether slot i is in the set: `contains` of flow.rs
unfoldable pub member : List ℕ → ℕ → Bool
member ws i = eqb (digit (get_or ws (i / 64) 0) (i % 64)) 1

-- a set of w words: each fits 64 bits, as the words of a slice do
pub record Words (w : ℕ) (ws : List ℕ) : Type 0 where
  pub long : length ws ≡ w
  pub fits : (k : ℕ) → get_or ws k 0 < 2 ^ 64
