-- The checks of one record: which refusal is due, the least number first. Document 01, "Refusal table".
use Rattle.std.specs.Prelude.{Bool, ◌||◌, ◌&&◌, not, List, ℕ, zero, suc, ◌+◌, ◌/◌, ◌%◌, eqb, leb, ltb, length, get_or}
use Rattle.std.proofs.Math.Option.{Option, none}
use Rattle.operands.specs.Choice.{pick}
use Rattle.operands.specs.Patterns.{fits}
use Rattle.format.specs.declared.refusal.Refusal.{Refusal}
use Rattle.format.specs.declared.refusal.Refusal.TheVariants.{ShortSheet, WrongKind, BadBody, NoSuchSlot, NoSuchTarget, ParameterTwice}
use Rattle.repeats.specs.Repeats.{any_twice}
use Rattle.format.specs.Refusals.{due, or_else}
use Rattle.format.specs.Heads.{u16_at, short, kind_at, end_at, body_length, fields_at}
use Rattle.format.specs.Types.{whole_type, ends_with}
use Rattle.format.specs.Fields.{bad_module, no_slot, no_target, any_field, any_above}

-- kind 256, function: three numbers (id, slot count, N), not yet judged
unfoldable pub function_fault : List ℕ → ℕ → Option Refusal
function_fault s at =
    due (short s at) ShortSheet
    (due (not (eqb (kind_at s at) 256)) WrongKind
    (due (not (eqb (body_length s at) 12)) BadBody
    none))

-- kind 257, parameter slots: whether each is a slot
unfoldable pub parameter_slots_fault : List ℕ → ℕ → ℕ → Option Refusal
parameter_slots_fault s slots at =
    due (short s at) ShortSheet
    (due (not (eqb (kind_at s at) 257)) WrongKind
    (due (not (eqb (body_length s at % 4) 0)) BadBody
    (due (any_above slots (fields_at s at)) NoSuchSlot
    none)))

-- 17: a parameter slot is named twice
unfoldable pub repeat_fault : List ℕ → ℕ → Option Refusal
repeat_fault s at = due (any_twice (fields_at s at)) ParameterTwice none

-- the parameter record: 1, 2, 3, 7, then 17
unfoldable pub parameters_fault : List ℕ → ℕ → ℕ → Option Refusal
parameters_fault s slots at = or_else (parameter_slots_fault s slots at) (repeat_fault s at)

-- 3: a slot's body that is not one physical byte, 0 to 12, then a type
unfoldable pub bad_slot : List ℕ → ℕ → ℕ → Bool
bad_slot s body end = leb end body || (ltb 12 (get_or s body 0) || not (ends_with end (whole_type s end (body + 1))))

-- kind 258, a slot
unfoldable pub slot_fault : List ℕ → ℕ → Option Refusal
slot_fault s at =
    due (short s at) ShortSheet
    (due (not (eqb (kind_at s at) 258)) WrongKind
    (due (bad_slot s (at + 4) (end_at s at)) BadBody
    none))

-- the largest physical byte that counts beside types up to top: 12, or 9 where top is below the host types, so that no host handle, 10, counts
abbrev pub top_physical : ℕ → ℕ
top_physical top = pick (leb top 1) 9 12

-- a slot record of six bytes: length 4, kind 258, a physical byte that counts, and a whole type of one byte, at most top
unfoldable pub plain_slot : List ℕ → ℕ → ℕ → Bool
plain_slot s top at =
    leb (at + 6) (length s)
    && ((eqb (u16_at s at) 4 && eqb (kind_at s at) 258)
    && (leb (get_or s (at + 4) 0) (top_physical top) && leb (get_or s (at + 5) 0) top))

-- how many of them stand one after the other from an offset on, at most n
unfoldable pub plain_run : List ℕ → ℕ → ℕ → ℕ → ℕ
plain_run s top at zero = 0
plain_run s top at (suc n) = let r = plain_run s top (at + 6) n in pick (plain_slot s top at) (suc r) 0

-- a kind of instruction
abbrev pub is_instruction : ℕ → Bool
is_instruction k = leb 1 k && leb k 41

-- 3: an instruction's body with so many bytes or such module slots as its pattern does not allow
unfoldable pub bad_instruction : List ℕ → ℕ → Bool
bad_instruction s at =
    not (eqb (body_length s at % 4) 0)
    || (not (fits (kind_at s at) (body_length s at / 4)) || any_field bad_module (kind_at s at) 0 (fields_at s at))

-- kinds 1 to 41, an instruction
unfoldable pub instruction_fault : List ℕ → ℕ → ℕ → ℕ → Option Refusal
instruction_fault s slots n at =
    due (short s at) ShortSheet
    (due (not (is_instruction (kind_at s at))) WrongKind
    (due (bad_instruction s at) BadBody
    (due (any_field (no_slot slots) (kind_at s at) 0 (fields_at s at)) NoSuchSlot
    (due (any_field (no_target n) (kind_at s at) 0 (fields_at s at)) NoSuchTarget
    none))))
