-- `Sound` has one proof at most, so that a struct may hold it.
use Rattle.std.specs.Prelude.{List, ℕ}
use Rattle.std.proofs.Props.{props}
use Rattle.bitset.specs.Below.{AllBelow, AllBelow-prop}
use Rattle.format.specs.Types.{Ty-set}
use Rattle.sheet.specs.declared.script.Script.{Script}
use Rattle.instructions.specs.Sound.{Sound}

pub Sound-prop : (s : List ℕ) (x : Script) → IsProp (Sound s x)
Sound-prop s x = hlevel (props, Ty-set, AllBelow-prop)
