-- How the code counts: the weights of 64 slots in a word, that word against the same word of each await's set, and the load of the first slots.
use Rattle.std.specs.Prelude.{Bool, List, ℕ, ◌+◌, ◌*◌, ltb, get_or}
use Rattle.std.specs.Int.Bits.{bit_and}
use Rattle.std.specs.Int.Count.{ones}
use Rattle.bitset.specs.Sets.{member}
use Rattle.dataflow.specs.Lists.{pick, tabulate, sum}
use Rattle.answer.specs.Words.{number_of}
use Rattle.answer.specs.Held.{row_at}
use Rattle.sheet.specs.Decode.{slot_of, offset_of}
use Rattle.load.specs.Load.{weight_of}
use Rattle.instructions.specs.declared.sets.SlotWord.{SlotWord}

-- whether the slot of the k-th record from an offset on weighs
abbrev pub weighs : List ℕ → ℕ → ℕ → Bool
weighs s at k = ltb 1 (slot_of s (offset_of s at k)).physical

-- the word of the weights of n slots, and where the record behind them begins
unfoldable pub weights_at : List ℕ → ℕ → ℕ → SlotWord
weights_at s at n = record { bits = number_of (weighs s at) 0 n; next = offset_of s at n }

-- the first word of the k-th await's set
abbrev pub set_at : ℕ → ℕ → ℕ → ℕ
set_at w first k = first + (k * (1 + w) + 1)

-- the slots that word j of each await's set has in common with a word of weights
unfoldable pub word_load : List ℕ → ℕ → ℕ → ℕ → ℕ → ℕ → ℕ
word_load v weights w first awaits j = sum (tabulate 0 awaits (λ k. ones (bit_and (get_or v (set_at w first k + j) 0) weights)))

-- what slot i weighs in the k-th await's set
abbrev pub slot_load : List ℕ → ℕ → List ℕ → ℕ → ℕ → ℕ → ℕ → ℕ
slot_load s at v w first k i = pick (member (row_at v w (set_at w first k)) i) (weight_of (slot_of s (offset_of s at i))) 0

-- the load of the first n slots
unfoldable pub load_below : List ℕ → ℕ → List ℕ → ℕ → ℕ → ℕ → ℕ → ℕ
load_below s at v w first awaits n = sum (tabulate 0 awaits (λ k. sum (tabulate 0 n (slot_load s at v w first k))))
