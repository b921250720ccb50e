-- The text of an answer, a line at a time. Document 01: "After `accept`: id, counts (all blocks, reachable awaits), load (slots summed over all
-- await sets). `block`: index, start, end, reachable. `await`: instruction, live slots ascending. A refusal prints `refuse`, number, id."
use Rattle.std.specs.Prelude.{List, [], ◌∷◌, ◌++◌, ℕ, zero, suc, ◌+◌, ◌*◌, ◌/◌, ◌%◌, ltb, take, drop}
use Rattle.bitset.specs.Sets.{member}
use Rattle.dataflow.specs.Lists.{pick, range, keep}

-- a number in decimal digits, none of them a leading zero; fuel: at least as many as it has digits
unfoldable pub digits_of : ℕ → ℕ → List ℕ
digits_of zero n = []
digits_of (suc fuel) n = pick (ltb n 10) ((48 + n) ∷ []) (digits_of fuel (n / 10) ++ ((48 + n % 10) ∷ []))

-- a number below 2 ^ 64 has at most 20 digits
abbrev pub decimal : ℕ → List ℕ
decimal = digits_of 20

-- each number with a space before it
abbrev pub spaced : List ℕ → List ℕ
spaced [] = []
spaced (n ∷ ns) = (32 ∷ decimal n) ++ spaced ns

-- the end of a line
abbrev pub newline : List ℕ
newline = 10 ∷ []

-- "accept ID blocks B awaits A load L"
abbrev pub accept_line : ℕ → ℕ → ℕ → ℕ → List ℕ
accept_line id blocks awaits load =
    (97 ∷ 99 ∷ 99 ∷ 101 ∷ 112 ∷ 116 ∷ []) ++ (spaced (id ∷ [])
    ++ ((32 ∷ 98 ∷ 108 ∷ 111 ∷ 99 ∷ 107 ∷ 115 ∷ []) ++ (spaced (blocks ∷ [])
    ++ ((32 ∷ 97 ∷ 119 ∷ 97 ∷ 105 ∷ 116 ∷ 115 ∷ []) ++ (spaced (awaits ∷ [])
    ++ ((32 ∷ 108 ∷ 111 ∷ 97 ∷ 100 ∷ []) ++ (spaced (load ∷ []) ++ newline)))))))

-- "block INDEX START END REACHABLE"
abbrev pub block_line : ℕ → ℕ → ℕ → ℕ → List ℕ
block_line index start end reachable = (98 ∷ 108 ∷ 111 ∷ 99 ∷ 107 ∷ []) ++ (spaced (index ∷ start ∷ end ∷ reachable ∷ []) ++ newline)

-- "await INSTRUCTION SLOT.."
abbrev pub await_line : ℕ → List ℕ → List ℕ
await_line instruction slots = (97 ∷ 119 ∷ 97 ∷ 105 ∷ 116 ∷ []) ++ (spaced (instruction ∷ slots) ++ newline)

-- "refuse NUMBER ID"
abbrev pub refuse_line : ℕ → ℕ → List ℕ
refuse_line number id = (114 ∷ 101 ∷ 102 ∷ 117 ∷ 115 ∷ 101 ∷ []) ++ (spaced (number ∷ id ∷ []) ++ newline)

-- the slots of a set of w words that begins at word `at`, ascending
abbrev pub slots_at : List ℕ → ℕ → ℕ → List ℕ
slots_at v w at = keep (member (take w (drop at v))) (range 0 (64 * w))
