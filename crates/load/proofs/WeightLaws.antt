-- What a set weighs: slots of physical 0 or 1, and bits at or above the slot count, change nothing; where all slots weigh it is how many the set has.
-- Assumes nothing.
use mathlib.Core.Path.{◌≡◌, refl, sym, ap, ◌∙◌}
use mathlib.Core.Bool.{Bool, true, false}
use mathlib.Core.List.{List, [], ◌∷◌, map}
use Prim.Native.Nat.{ℕ, ◌+◌, ◌≤◌, ◌<◌, ◌/◌}
use native.Mathlib.Decide.{ℕ_discrete}
use native.Mathlib.Omega.{arith}
use borrow.Author.Tests.{le-leb, lt-leb}
use lib.ListN.{length, get_or}
use Rattle.dataflow.specs.Lists.{pick, range, tabulate, keep, sum}
use Rattle.answer.specs.Held.{await_set}
use Rattle.format.specs.Types.{absent}
use Rattle.sheet.specs.Decode.{Parts}
use Rattle.load.specs.Load.{slot_weight, set_load, load_of}
use Rattle.load.proofs.Sums.{kept-sum, sum_same}

-- the physical byte of slot x
abbrev pub physical_of : Parts → ℕ → ℕ
physical_of p x = (get_or p.kinds x (record { physical = 0; type = absent })).physical

module _ (p : Parts) (set : ℕ → Bool) where
  -- sets that differ only where nothing weighs
  same_load : (other : ℕ → Bool) → ((i : ℕ) → i < p.slots → pick (set i) (slot_weight p i) 0 ≡ pick (other i) (slot_weight p i) 0)
      → set_load p set ≡ set_load p other
  unfolding set_load
  same_load other h =
      kept-sum set (slot_weight p) 0 p.slots
      ∙ sum_same 0 0 p.slots (λ i. pick (set i) (slot_weight p i) 0) (λ i. pick (other i) (slot_weight p i) 0)
      (λ i l. h (0 + i) (omega arith))
      ∙ sym (kept-sum other (slot_weight p) 0 p.slots)

  no_weight : (a b : Bool) (n : ℕ) → n ≡ 0 → pick a n 0 ≡ pick b n 0
  no_weight true true n e = refl
  no_weight true false n e = e
  no_weight false true n e = sym e
  no_weight false false n e = refl

  -- a slot of physical 0 or 1, in the set or not
  pub empty_slot : (x : ℕ) → physical_of p x ≤ 1 → (other : ℕ → Bool) → ((i : ℕ) → (i ≡ x → ⊥) → set i ≡ other i) → set_load p set ≡ set_load p other
  empty_slot x h other e = same_load other (λ i l. go i (ℕ_discrete i x))
    where
      go : (i : ℕ) → Dec (i ≡ x) → pick (set i) (slot_weight p i) 0 ≡ pick (other i) (slot_weight p i) 0
      go i (yes q) =
          no_weight (set i) (other i) (slot_weight p i)
          (ap (slot_weight p) q ∙ ap (λ (t : Bool). pick t 0 1) (le-leb (physical_of p x) 1 h))
      go i (no q) = ap (λ (t : Bool). pick t (slot_weight p i) 0) (e i q)

  -- what is no slot of the function
  pub above_slots : (other : ℕ → Bool) → ((i : ℕ) → i < p.slots → set i ≡ other i) → set_load p set ≡ set_load p other
  above_slots other e = same_load other (λ i l. ap (λ (t : Bool). pick t (slot_weight p i) 0) (e i l))

-- so many numbers 1
ones-sum : (l : List ℕ) → sum (map (λ (i : ℕ). 1) l) ≡ length l
ones-sum [] = refl
ones-sum (x ∷ l) = omega (arith, ones-sum l)

-- ---- where no slot has physical 0 or 1
module _ (p : Parts) (weigh : (i : ℕ) → i < p.slots → 1 < physical_of p i) where
  -- a set's load is how many slots it has
  pub all_weigh : (set : ℕ → Bool) → set_load p set ≡ length (keep set (range 0 p.slots))
  unfolding set_load
  all_weigh set =
      kept-sum set (slot_weight p) 0 p.slots
      ∙ sum_same 0 0 p.slots (λ i. pick (set i) (slot_weight p i) 0) (λ i. pick (set i) 1 0) (λ i l. each (0 + i) (omega arith))
      ∙ sym (kept-sum set (λ i. 1) 0 p.slots)
      ∙ ones-sum (keep set (range 0 p.slots))
    where
      each : (i : ℕ) → i < p.slots → pick (set i) (slot_weight p i) 0 ≡ pick (set i) 1 0
      each i l = ap (λ (t : Bool). pick (set i) (pick t 0 1) 0) (lt-leb (physical_of p i) 1 (weigh i l))

  -- and the load is the old figure
  pub old_load : (v : List ℕ) (blocks awaits : ℕ) → load_of p v blocks awaits
      ≡ sum (tabulate 0 awaits (λ k. length (keep (await_set v ((p.slots + 63) / 64) blocks k) (range 0 p.slots))))
  unfolding load_of
  old_load v blocks awaits =
      let set : ℕ → ℕ → Bool = await_set v ((p.slots + 63) / 64) blocks in
      sum_same 0 0 awaits (λ k. set_load p (set k)) (λ k. length (keep (set k) (range 0 p.slots))) (λ i l. all_weigh (set (0 + i)))
