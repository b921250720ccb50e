-- What the code answers of records, types and fields.
use Rattle.std.specs.Prelude.{◌≡◌, false, List, ℕ, ◌+◌, ◌≤◌, ◌<◌, eqb, length, take, drop, Option, Some, None, Result, MatchResult}
use Rattle.operands.specs.Choice.{pick}
use Rattle.operands.specs.Patterns.{T, M}
use Rattle.format.specs.declared.record.Record.{Record}
use Rattle.format.specs.declared.types.Tag.{Tag}
use Rattle.format.specs.declared.types.Tag.TheVariants.{Absent, Other, Host, Reference, Tuple}
use Rattle.format.specs.declared.types.NoType.{NoType}
use Rattle.format.specs.declared.types.Typed.{Typed}
use Rattle.format.specs.declared.fields.Faults.{Faults}
use Rattle.format.specs.declared.refusal.Refusal.{Refusal}
use Rattle.format.specs.declared.refusal.Refusal.TheVariants.{BadBody, NoSuchSlot, NoSuchTarget}
use Rattle.format.specs.Heads.{short, kind_at, end_at, body_length}
use Rattle.format.specs.Types.{Ty, Items, inline_host, any_host, Read, got, unfit}
use Rattle.format.specs.Fields.{bad_module, no_slot, no_target, any_field}

-- ---- records

-- the bytes of its body
abbrev pub body_at : List ℕ → ℕ → List ℕ
body_at s at = take (body_length s at) (drop (at + 4) s)

-- what a record that was found says: its kind, its body and where the next one begins, inside the sheet
pub record IsRecord (s : List ℕ) (at : ℕ) (r : Record) : Type 0 where
  pub whole : short s at ≡ false
  pub kind_is : r.kind ≡ kind_at s at
  pub body_is : r.body.now ≡ body_at s at
  pub next_is : r.next ≡ end_at s at
  pub within : end_at s at ≤ length s

-- ---- types

-- the byte that a type begins with
abbrev pub tag_number : Tag → ℕ
tag_number Absent = 0
tag_number Other = 1
tag_number Host = 2
tag_number Reference = 3
tag_number Tuple = 4

-- the result is the tag with this byte, or an error with a byte that no type begins with
abbrev pub Tagged : ℕ → Result Tag NoType → Type 0
Tagged n r = MatchResult r (λ t. tag_number t ≡ n) (λ e. (e.0 ≡ n) × (4 < n))

-- the code's answer: where the type ends, and whether `inline_host` accepts it
abbrev pub typed_of : Read Ty → Option Typed
typed_of (got t next) = Some (record { end = next; host = inline_host t })
typed_of unfit = None

-- the same of items
abbrev pub items_of : Read Items → Option Typed
items_of (got ts next) = Some (record { end = next; host = any_host ts })
items_of unfit = None

-- ---- fields

-- what a field must be below, unless it is absent where that may be
unfoldable pub bound_of : ℕ → ℕ → ℕ → ℕ
bound_of slots n role = pick (eqb role T) n (pick (eqb role M) 65536 slots)

-- a field with which nothing is wrong
pub record Faultless (slots n role x : ℕ) : Type 0 where
  pub module-fits : bad_module role x ≡ false
  pub slot_there : no_slot slots role x ≡ false
  pub target_there : no_target n role x ≡ false

-- the code's answer where nothing is wrong
abbrev pub no_faults : Faults
no_faults = record { modules = false; slots = false; targets = false }

-- the code's answer for the fields v of an instruction of kind k
pub record FaultsIn (k : ℕ) (v : List ℕ) (slots n : ℕ) (r : Faults) : Type 0 where
  pub modules_are : r.modules ≡ any_field bad_module k 0 v
  pub slots_are : r.slots ≡ any_field (no_slot slots) k 0 v
  pub targets_are : r.targets ≡ any_field (no_target n) k 0 v

-- the first refusal that they are: 3, then 7, then 8
abbrev pub refusal_in : Faults → Option Refusal
refusal_in r = pick r.modules (Some BadBody) (pick r.slots (Some NoSuchSlot) (pick r.targets (Some NoSuchTarget) None))
