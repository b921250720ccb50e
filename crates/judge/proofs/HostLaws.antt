-- The row of the host slots: its cell, how wide it is, and that it stands for them. Assumes nothing.
use mathlib.Core.Path.{◌≡◌, refl, sym, ap, ◌∙◌}
use mathlib.Core.Bool.{Bool, true, false, ◌&&◌}
use mathlib.Core.List.{List}
use Prim.Native.Nat.{ℕ, ◌*◌, ◌≤◌}
use native.Mathlib.Omega.{arith}
use borrow.Author.Tests.{ltb-false}
use lib.Dec.{ltb}
use lib.ListN.{length, replicate, length-replicate, get_or-eq_default}
use Rattle.format.specs.Types.{absent}
use Rattle.memory.specs.Cells.{Mem, cell, store_cell}
use Rattle.memory.specs.Names.{hosts_row}
use Rattle.sizes.specs.declared.Layout.{Layout}
use Rattle.memory.specs.Scratch.{Whole}
use Rattle.memory.proofs.CellLaws.{cell-store_other}
use Rattle.sheet.specs.declared.script.Script.{Script}
use Rattle.sheet.specs.Decode.{Parts, parts_of, is_host}
use Rattle.instructions.specs.Sets.{host_row, is_host_slot}
use Rattle.instructions.specs.Sound.{Sound}
use Rattle.instructions.proofs.SetSteps.{length-hosts}
use Rattle.instructions.proofs.SetMembers.{hosts_in_row, records-count}
use Rattle.script.specs.Script.{host_in}
use Rattle.answer.specs.Words.{Means}
use Rattle.check_points.proofs.SolvedLaws.{stored-means}
use Rattle.judge.specs.Judge.{Hosted}

-- ---- what it stands for

module _ (s : List ℕ) (x : Script) (sound : Sound s x) where
  -- as many slots are described as there are
  kinds-count : length (parts_of s).kinds ≡ (parts_of s).slots
  kinds-count = ap length sound.kinds_are ∙ records-count _ s x.slots_at x.slots ∙ sym sound.slots_are

  -- what no record describes is no host slot
  past-none : (i : ℕ) → (parts_of s).slots ≤ i → is_host_slot (parts_of s) i ≡ false
  unfolding is_host
  past-none i h =
      ap is_host (get_or-eq_default (parts_of s).kinds (record { physical = 0; type = absent }) {n = i} (omega (arith, kinds-count)))

  -- a slot is a host slot by either test
  host-slot_in : (i : ℕ) → is_host_slot (parts_of s) i ≡ host_in (parts_of s) i
  unfolding host_in
  host-slot_in i = go (ltb i (parts_of s).slots) refl
    where
      go : (t : Bool) → ltb i (parts_of s).slots ≡ t → is_host_slot (parts_of s) i ≡ (t && is_host_slot (parts_of s) i)
      go true e = refl
      go false e = past-none i (ltb-false i (parts_of s).slots e)

  -- the row stands for the host slots
  pub hosts_mean : (w : ℕ) → x.slots ≤ 64 * w → Means w (host_row (parts_of s) w) (host_in (parts_of s))
  hosts_mean w wide i lt = hosts_in_row s x sound w wide i ∙ host-slot_in i

  -- ---- what `hosts_if` does

  -- there is no await, and nothing changes
  pub hosted_none : (y : Layout) (m : Mem) → x.awaits ≡ 0 → Hosted s x y m m
  hosted_none y m e = record { row = λ h. absurd (omega arith); others = λ k ne. refl }

  -- the row is stored
  pub hosted_row : (y : Layout) {m m' : Mem} → Whole y m → x.slots ≤ 64 * y.words
      → m' ≡ store_cell m (hosts_row y.blocks) (host_row (parts_of s) y.words) → Hosted s x y m m'
  hosted_row y {m} z wide e = record {
    row = λ h. stored-means y z y.words (hosts_row y.blocks) _ _ (omega arith) e (hosts_mean y.words wide);
    others = λ k ne. ap (λ (v : Mem). cell v k) e ∙ cell-store_other m (hosts_row y.blocks) (host_row (parts_of s) y.words) k ne;
  }
