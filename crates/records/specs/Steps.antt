-- What the code answers on the way to the checks of one record.
use Rattle.std.specs.Prelude.{◌≡◌, ◌≢◌, true, false, List, ℕ, ◌⊎◌, Result, MatchResult}
use Rattle.format.specs.declared.refusal.Refusal.{Refusal}
use Rattle.format.specs.declared.refusal.Refusal.TheVariants.{ShortSheet, WrongKind}
use Rattle.format.specs.declared.record.Record.{Record}
use Rattle.format.specs.Heads.{short, kind_at}
use Rattle.format.specs.Answers.{IsRecord}

-- what is wrong with the head of a record of a kind that is due: 1, or else 2
abbrev pub BadHead : List ℕ → ℕ → ℕ → Refusal → Type 0
BadHead s at kind e =
    ((e ≡ ShortSheet) × (short s at ≡ true)) ⊎ ((e ≡ WrongKind) × (short s at ≡ false) × (kind_at s at ≢ kind))

-- the result is the record at an offset, which has the kind that is due, or what is wrong with its head
abbrev pub IsDue : List ℕ → ℕ → ℕ → Result Record Refusal → Type 0
IsDue s at kind r = MatchResult r (λ x. IsRecord s at x × (kind_at s at ≡ kind)) (BadHead s at kind)
