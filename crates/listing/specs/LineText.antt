-- The text of a line.
use Rattle.std.specs.Prelude.{List, ℕ}
use Rattle.listing.specs.declared.Line.{Line}
use Rattle.listing.specs.declared.Line.TheVariants.{Accept, Block, Await, Refuse}
use Rattle.listing.specs.Lines.{accept_line, block_line, refuse_line}
use Rattle.listing.specs.Awaits.{await_text}

abbrev pub text_of : Line → List ℕ
text_of (Accept id blocks awaits load) = accept_line id blocks awaits load
text_of (Block index start end reachable) = block_line index start end reachable
text_of (Await a) = await_text a
text_of (Refuse number id) = refuse_line number id
