-- The sets of parameters and of host slots, in words.
use Rattle.std.specs.Prelude.{Bool, List, [], ◌∷◌, ℕ, ◌+◌, ◌%◌, ◌^◌, get_or, replicate}
use Rattle.std.specs.Int.Bits.{bit_or}
use Rattle.operands.specs.Choice.{pick}
use Rattle.operands.specs.Patterns.{among}
use Rattle.bitset.specs.Operations.{inserted}
use Rattle.format.specs.Types.{absent}
use Rattle.sheet.specs.Decode.{SlotKind, Parts, slot_of, records_from, offset_of, is_host}
use Rattle.instructions.specs.declared.sets.SlotWord.{SlotWord}

-- a set with these slots put in
unfoldable pub inserted_all : List ℕ → List ℕ → List ℕ
inserted_all [] ws = ws
inserted_all (x ∷ xs) ws = inserted_all xs (inserted ws x)

-- a set with those put in that are host slots; the first of them is slot k
unfoldable pub inserted_hosts : List SlotKind → ℕ → List ℕ → List ℕ
inserted_hosts [] k ws = ws
inserted_hosts (x ∷ xs) k ws = inserted_hosts xs (k + 1) (pick (is_host x) (inserted ws k) ws)

-- the bits of a word, with those set of the slots that are host slots; the first of them has bit k
unfoldable pub host_bits : List SlotKind → ℕ → ℕ → ℕ
host_bits [] k bits = bits
host_bits (x ∷ xs) k bits = host_bits xs (k + 1) (bit_or bits (pick (is_host x) (2 ^ (k % 64)) 0))

-- the bits of those of n slots, whose records stand from an offset on, that are host slots, and where the record behind them begins
unfoldable pub host_word_at : List ℕ → ℕ → ℕ → SlotWord
host_word_at s at n = record { bits = host_bits (records_from (slot_of s) s at n) 0 0; next = offset_of s at n }

-- the set of parameters in w words
unfoldable pub parameter_row : Parts → ℕ → List ℕ
parameter_row p w = inserted_all p.params (replicate w 0)

-- the set of host slots in w words
unfoldable pub host_row : Parts → ℕ → List ℕ
host_row p w = inserted_hosts p.kinds 0 (replicate w 0)

-- whether slot k is a parameter
abbrev pub is_parameter : Parts → ℕ → Bool
is_parameter p k = among k p.params

-- whether slot k is a host slot; what no record describes is none
abbrev pub is_host_slot : Parts → ℕ → Bool
is_host_slot p k = is_host (get_or p.kinds k (record { physical = 0; type = absent }))
