-- A slot where its record stands, and whether it is a host slot.
use Rattle.std.specs.Prelude.{◌≡◌, Bool, false, ◌||◌, List, ℕ, ◌+◌, ◌<◌, eqb}
use Rattle.format.specs.Heads.{short, end_at}
use Rattle.format.specs.Types.{inline_host}
use Rattle.sheet.specs.Decode.{is_host, slot_of, offset_of}
use Rattle.instructions.specs.declared.slot.SlotRecord.{SlotRecord}
use Rattle.instructions.specs.declared.slot.HostSlot.{HostSlot}

-- a slot record stands at an offset
pub record SlotStands (s : List ℕ) (at : ℕ) : Type 0 where
  pub whole : short s at ≡ false
  pub some_body : at + 4 < end_at s at

-- so many of them, one after the other
pub record SlotsStand (s : List ℕ) (at n : ℕ) : Type 0 where
  pub each : (k : ℕ) → k < n → SlotStands s (offset_of s at k)

-- its slot, as the code holds it
unfoldable pub slot_record_at : List ℕ → ℕ → SlotRecord
slot_record_at s at = record { physical = (slot_of s at).physical; inline_host = inline_host (slot_of s at).type; next = end_at s at }

abbrev pub host_record : SlotRecord → Bool
host_record r = eqb r.physical 10 || r.inline_host

-- whether it is a host slot, and where the next record begins
unfoldable pub host_slot_at : List ℕ → ℕ → HostSlot
host_slot_at s at = record { host = is_host (slot_of s at); next = end_at s at }
