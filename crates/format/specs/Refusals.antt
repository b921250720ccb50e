-- The refusal table of document 01.
use Rattle.std.specs.Prelude.{Bool, ℕ, Result, Ok, Err}
use Rattle.std.proofs.Math.Option.{Option, none, some}
use Rattle.operands.specs.Choice.{pick}
use Rattle.format.specs.declared.refusal.Refusal.{Refusal}
use Rattle.format.specs.declared.refusal.Refusal.TheVariants.{
  ShortSheet,
  WrongKind,
  BadBody,
  LeftOver,
  TooMany,
  NoCode,
  NoSuchSlot,
  NoSuchTarget,
  OpenEnd,
  NoRoom,
  StateLimit,
  WorkLimit,
  UnfilledSlot,
  HostOverAwait,
  FactsLimit,
  ParameterTwice,
}

-- the table's numbers; 16 is not given yet
abbrev pub number_of : Refusal → ℕ
number_of ShortSheet = 1
number_of WrongKind = 2
number_of BadBody = 3
number_of LeftOver = 4
number_of TooMany = 5
number_of NoCode = 6
number_of NoSuchSlot = 7
number_of NoSuchTarget = 8
number_of OpenEnd = 9
number_of NoRoom = 10
number_of StateLimit = 11
number_of WorkLimit = 12
number_of UnfilledSlot = 13
number_of HostOverAwait = 14
number_of FactsLimit = 15
number_of ParameterTwice = 17

-- the refusal where the test holds; else what follows it
abbrev pub due : Bool → Refusal → Option Refusal → Option Refusal
due b r rest = pick b (some r) rest

-- the first refusal that is there
abbrev pub or_else : Option Refusal → Option Refusal → Option Refusal
or_else (some r) rest = some r
or_else none rest = rest

-- the code's answer: the refusal that is due, or a
abbrev pub answered : {A : Type 0} → Option Refusal → A → Result A Refusal
answered (some r) a = Err r
answered none a = Ok a
