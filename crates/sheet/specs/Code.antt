-- What the walk over the instruction records answers.
use Rattle.std.specs.Prelude.{Bool, false, List, ℕ, zero, suc, ◌+◌, Option, Some, None}
use Rattle.std.specs.Int.{from_bool}
use Rattle.operands.specs.declared.kind.Kind.{Kind}
use Rattle.operands.specs.Kinds.{kind_number, kind_of, ends_block, is_await}
use Rattle.format.specs.Heads.{kind_at, end_at}
use Rattle.sheet.specs.declared.walk.Code.{Code}

-- nothing walked over yet
abbrev pub no_code : Code
no_code = record { last = None; awaits = 0 }

-- what was walked over, and then n instruction records from an offset on: the kind of the last, and how many are awaits
unfoldable pub code_from : List ℕ → ℕ → ℕ → Code → Code
code_from s at zero c = c
code_from s at (suc n) c =
    code_from s (end_at s at) n (record { last = Some (kind_of (kind_at s at)); awaits = c.awaits + from_bool (is_await (kind_at s at)) })

-- whether a block ends with the last one
abbrev pub closes : Option Kind → Bool
closes None = false
closes (Some k) = ends_block (kind_number k)
