-- Document 01's lines, byte by byte, from the definitions: case d's three with id 7, and the refusal of a sheet that is too long.
use mathlib.Core.Path.{◌≡◌, refl}
use mathlib.Core.List.{List, [], ◌∷◌}
use Prim.Native.Nat.{ℕ}
use lib.ListN.{get_or}
use Rattle.bitset.specs.Sets.{member, digit}
use Rattle.listing.specs.Lines.{digits_of, decimal, accept_line, block_line, await_line, refuse_line, slots_at}

-- the sets of case d: slots 0 and 1 initialized at the block's exit, 0 live at its entry; the await is instruction 0, with slot 0 live
abbrev sets_d : List ℕ
sets_d = 3 ∷ 1 ∷ 0 ∷ 1 ∷ []

-- "accept 7 blocks 1 awaits 1 load 1"
d_accept : accept_line 7 1 1 1 ≡ 97 ∷ 99 ∷ 99 ∷ 101 ∷ 112 ∷ 116 ∷ 32 ∷ 55 ∷ 32 ∷ 98 ∷ 108 ∷ 111 ∷ 99 ∷ 107 ∷ 115 ∷ 32 ∷ 49 ∷ 32 ∷ 97 ∷ 119 ∷ 97 ∷ 105 ∷ 116 ∷ 115 ∷ 32 ∷ 49 ∷ 32 ∷ 108 ∷ 111 ∷ 97 ∷ 100 ∷ 32 ∷ 49 ∷ 10 ∷ []
unfolding digits_of
d_accept = refl

-- "block 0 0 2 1"
d_block : block_line 0 0 2 1 ≡ 98 ∷ 108 ∷ 111 ∷ 99 ∷ 107 ∷ 32 ∷ 48 ∷ 32 ∷ 48 ∷ 32 ∷ 50 ∷ 32 ∷ 49 ∷ 10 ∷ []
unfolding digits_of
d_block = refl

-- "await 0 0"
d_await : await_line (get_or sets_d 2 0) (slots_at sets_d 1 3) ≡ 97 ∷ 119 ∷ 97 ∷ 105 ∷ 116 ∷ 32 ∷ 48 ∷ 32 ∷ 48 ∷ 10 ∷ []
unfolding digits_of member digit
d_await = refl

-- "refuse 10 0"
too_long : refuse_line 10 0 ≡ 114 ∷ 101 ∷ 102 ∷ 117 ∷ 115 ∷ 101 ∷ 32 ∷ 49 ∷ 48 ∷ 32 ∷ 48 ∷ 10 ∷ []
unfolding digits_of
too_long = refl

-- "18446744073709551615"
largest : decimal 18446744073709551615 ≡ 49 ∷ 56 ∷ 52 ∷ 52 ∷ 54 ∷ 55 ∷ 52 ∷ 52 ∷ 48 ∷ 55 ∷ 51 ∷ 55 ∷ 48 ∷ 57 ∷ 53 ∷ 53 ∷ 49 ∷ 54 ∷ 49 ∷ 53 ∷ []
unfolding digits_of
largest = refl
