-- What a reader answers, and where it stands then: behind a record that passed, else where it stood.
use Rattle.std.specs.Prelude.{◌≡◌, ℕ, Result}
use Rattle.std.proofs.Math.Option.{Option, none, some}
use Rattle.operands.specs.Kinds.{kind_of}
use Rattle.operands.specs.declared.kind.Kind.{Kind}
use Rattle.format.specs.declared.refusal.Refusal.{Refusal}
use Rattle.format.specs.declared.fields.Counts.{Counts}
use Rattle.format.specs.Refusals.{answered}
use Rattle.format.specs.Heads.{kind_at, end_at}
use Rattle.records.specs.Records.{function_fault, parameter_slots_fault, slot_fault, instruction_fault}
use Rattle.reader.specs.declared.Reader.{Reader}

-- the position behind the record at a position, if nothing is wrong with it
abbrev pub behind : Option Refusal → ℕ → ℕ → ℕ
behind none at next = next
behind (some r) at next = at

-- a record was read, of which `fault` is what is wrong with it, and `a` what is answered if nothing is
pub record Reads {A : Type 0} (fault : Option Refusal) (a : A) (r r' : Reader) (x : Result A Refusal) : Type 0 where
  pub answer : x ≡ answered fault a
  pub sheet : r'.sheet ≡ r.sheet
  pub at : r'.at ≡ behind fault r.at (end_at r.sheet.now r.at)

abbrev pub ReadsFunction : Reader → Reader → Result Unit Refusal → Type 0
ReadsFunction r r' x = Reads (function_fault r.sheet.now r.at) tt r r' x

abbrev pub ReadsParameters : ℕ → Reader → Reader → Result Unit Refusal → Type 0
ReadsParameters slots r r' x = Reads (parameter_slots_fault r.sheet.now slots r.at) tt r r' x

abbrev pub ReadsSlot : Reader → Reader → Result Unit Refusal → Type 0
ReadsSlot r r' x = Reads (slot_fault r.sheet.now r.at) tt r r' x

abbrev pub ReadsInstruction : Counts → Reader → Reader → Result Kind Refusal → Type 0
ReadsInstruction n r r' x = Reads (instruction_fault r.sheet.now n.slots n.instructions r.at) (kind_of (kind_at r.sheet.now r.at)) r r' x
