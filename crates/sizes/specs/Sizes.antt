-- Document 01's sizes of the lent buffers: "Let w = slots / 64 rounded up, B blocks, A await instructions."
use Rattle.std.specs.Prelude.{Bool, ◌||◌, ℕ, ◌+◌, ◌*◌, ◌/◌, ltb}
use Rattle.sheet.specs.declared.script.Script.{Script}
use Rattle.sizes.specs.declared.Layout.{Layout}
use Rattle.sizes.specs.declared.Lent.{Lent}

-- N, B, w and A of a script with so many blocks; A counts the awaits, reached or not
abbrev pub layout_of : Script → ℕ → Layout
layout_of x blocks = record { instructions = x.count; blocks = blocks; words = (x.slots + 63) / 64; awaits = x.awaits; extra = 0 }

-- "Scratch: 4 × N + B × (4 × w + 16) + 4 × w words", and four more for each edge past two a block
abbrev pub scratch_words : Layout → ℕ
scratch_words y = 4 * y.instructions + y.blocks * (4 * y.words + 16) + 4 * y.words + 4 * y.extra

-- what both sets of every block and the sets of so many awaits take
abbrev pub answer_words : Layout → ℕ → ℕ
answer_words y awaits = y.blocks * 2 * y.words + awaits * (1 + y.words)

-- "Sets: B × 2 × w + A × (1 + w) words"
abbrev pub sets_words : Layout → ℕ
sets_words y = answer_words y y.awaits

-- row 10: a lent buffer is too short; scratch has n words. "Block list: B records."
abbrev pub short_of : Layout → ℕ → Lent → Bool
short_of y n lent = (ltb n (scratch_words y) || ltb lent.sets (sets_words y)) || ltb lent.records y.blocks
