-- What is done to the lent bytes.
use Rattle.std.specs.Prelude.{◌≡◌, List, ℕ, ◌+◌, ◌≤◌, length, take, drop, get_or}
use Rattle.std.proofs.lemmas.List.Edits.{sets}
use Rattle.listing.specs.declared.text.LentText.{LentText}
use Rattle.listing.specs.Lines.{await_line, slots_at}

-- a line at the front: its length is answered always, the line stands there if it fits, and what lies past it is as before
pub record Rendered (entry exit line : List ℕ) (r : ℕ) : Type 0 where
  pub long : r ≡ length line
  pub stands : r ≤ length entry → take r exit ≡ line
  pub rest : drop r exit ≡ drop r entry

-- a thing at a place: the next place is answered; its bytes are stored one after the other, those past the end nowhere
pub record Puts (entry exit : List ℕ) (at : ℕ) (thing : List ℕ) (r : ℕ) : Type 0 where
  pub next : r ≡ at + length thing
  pub is : exit ≡ sets entry at thing

-- a thing after what is written so far, in the same lent bytes
pub record Writes (old new : LentText) (thing : List ℕ) : Type 0 where
  pub lent : new.bytes.ghost_name ≡ old.bytes.ghost_name
  pub puts : Puts old.bytes.now new.bytes.now old.at thing new.at

-- an await's words, its instruction and w words of slots, stand in the sets from word `at` on
pub record Held (v : List ℕ) (w at : ℕ) : Type 0 where
  pub few : w ≤ 1024
  pub room : at + (1 + w) ≤ length v

-- the line of that await, or nothing at all
pub record AwaitRendered (v : List ℕ) (w at : ℕ) (entry exit : List ℕ) (r : ℕ) : Type 0 where
  pub there : Held v w at → Rendered entry exit (await_line (get_or v at 0) (slots_at v w (at + 1))) r
  pub missing : ¬ Held v w at → (r ≡ 0) × (exit ≡ entry)
