-- What is in the sets of parameters and of host slots: the parameters, and the host slots. Assumes nothing.
use mathlib.Core.Path.{◌≡◌, refl, ap, sym, ◌∙◌}
use mathlib.Core.Bool.{Bool, true, false, ◌||◌, ◌&&◌, and-true, and-false, or-false}
use mathlib.Core.List.{List, [], ◌∷◌}
use Prim.Native.Nat.{ℕ, zero, suc, ◌+◌, ◌*◌, ◌/◌, ◌≤◌, ◌<◌}
use native.Mathlib.Omega.{arith}
use borrow.Author.Tests.{eq-eqb, ne_eqb}
use lib.Dec.{eqb}
use lib.ListN.{length, get_or, replicate, length-replicate}
use Rattle.operands.specs.Choice.{pick}
use Rattle.operands.specs.Patterns.{among}
use Rattle.bitset.specs.Sets.{member}
use Rattle.bitset.specs.Operations.{inserted}
use Rattle.bitset.proofs.SetLaws.{same-either_way, length_inserted, member_inserted, member-zero}
use Rattle.format.specs.Types.{absent}
use Rattle.format.specs.Heads.{end_at}
use Rattle.sheet.specs.Decode.{SlotKind, Parts, parts_of, records_from, is_host}
use Rattle.sheet.specs.declared.script.Script.{Script}
use Rattle.bitset.specs.Below.{AllBelow}
use Rattle.instructions.specs.Sets.{inserted_all, inserted_hosts, parameter_row, host_row, is_parameter, is_host_slot}
use Rattle.instructions.specs.Sound.{Sound}
use Rattle.bitset.proofs.Below.{below_up}
use Rattle.instructions.proofs.SetSteps.{length-pick}

or_swap : (a b c : Bool) → (a || (b || c)) ≡ ((b || a) || c)
or_swap true true c = refl
or_swap true false c = refl
or_swap false true c = refl
or_swap false false c = refl

-- what is in a set with such slots put in
pub member-all : (xs ws : List ℕ) (k : ℕ) → AllBelow (64 * length ws) xs → member (inserted_all xs ws) k ≡ (among k xs || member ws k)
unfolding inserted_all
member-all [] ws k a = refl
member-all (x ∷ xs) ws k a =
    let b = a.0 in
    let m : x / 64 < length ws = omega arith in
    let n : 64 * length ws ≤ 64 * length (inserted ws x) = omega (arith, length_inserted ws x) in
    member-all xs (inserted ws x) k (below_up (64 * length ws) (64 * length (inserted ws x)) xs n a.1)
    ∙ ap (λ (t : Bool). among k xs || t) (member_inserted ws x m k ∙ ap (λ (t : Bool). t || member ws k) (same-either_way x k))
    ∙ or_swap (among k xs) (eqb k x) (member ws k)

-- whether slot k is among these, of which the first is slot j, and is a host slot
unfoldable host_from : List SlotKind → ℕ → ℕ → Bool
host_from [] j k = false
host_from (x ∷ xs) j k = (eqb j k && is_host x) || host_from xs (j + 1) k

member-pick : (b : Bool) (ws : List ℕ) (j k : ℕ) → j / 64 < length ws → member (pick b (inserted ws j) ws) k ≡ ((eqb j k && b) || member ws k)
member-pick true ws j k m = member_inserted ws j m k ∙ ap (λ (t : Bool). t || member ws k) (sym (and-true (eqb j k)))
member-pick false ws j k m = ap (λ (t : Bool). t || member ws k) (sym (and-false (eqb j k)))

member-hosts : (xs : List SlotKind) (j : ℕ) (ws : List ℕ) (k : ℕ) → j + length xs ≤ 64 * length ws
    → member (inserted_hosts xs j ws) k ≡ (host_from xs j k || member ws k)
unfolding inserted_hosts host_from
member-hosts [] j ws k h = refl
member-hosts (x ∷ xs) j ws k h =
    let m : j / 64 < length ws = omega arith in
    let ys : List ℕ = pick (is_host x) (inserted ws j) ws in
    let n : j + 1 + length xs ≤ 64 * length ys = omega (arith, length-pick (is_host x) ws j) in
    member-hosts xs (j + 1) ys k n
    ∙ ap (λ (t : Bool). host_from xs (j + 1) k || t) (member-pick (is_host x) ws j k m)
    ∙ or_swap (host_from xs (j + 1) k) (eqb j k && is_host x) (member ws k)

host-before : (xs : List SlotKind) (j k : ℕ) → k < j → host_from xs j k ≡ false
unfolding host_from
host-before [] j k h = refl
host-before (x ∷ xs) j k h = rw (ne_eqb j k (λ e. omega arith)) (host-before xs (j + 1) k (omega arith))

host-at : (xs : List SlotKind) (j k i : ℕ) → i ≡ j + k → host_from xs j i ≡ is_host (get_or xs k (record { physical = 0; type = absent }))
unfolding host_from is_host
host-at [] j zero i e = refl
host-at [] j (suc k) i e = refl
host-at (x ∷ xs) j zero i e =
    rw (eq-eqb j i (omega arith), host-before xs (j + 1) i (omega arith)) (or-false (is_host x))
host-at (x ∷ xs) j (suc k) i e = rw (ne_eqb j i (λ q. omega arith)) (host-at xs (j + 1) k i (omega arith))

-- bit k of the row is set exactly if slot k is a parameter
pub parameter-member : (p : Parts) (w k : ℕ) → AllBelow (64 * w) p.params → member (parameter_row p w) k ≡ is_parameter p k
unfolding parameter_row
parameter-member p w k a =
    let z : ℕ = 0 in
    let n = length-replicate w z in
    member-all p.params (replicate w 0) k (rw n a)
    ∙ ap (λ (t : Bool). among k p.params || t) (member-zero w k)
    ∙ or-false (among k p.params)

-- bit k of the row is set exactly if slot k is a host slot
pub host-member : (p : Parts) (w k : ℕ) → length p.kinds ≤ 64 * w → member (host_row p w) k ≡ is_host_slot p k
unfolding host_row
host-member p w k h =
    let z : ℕ = 0 in
    let n = length-replicate w z in
    member-hosts p.kinds 0 (replicate w 0) k (omega arith)
    ∙ ap (λ (t : Bool). host_from p.kinds 0 k || t) (member-zero w k)
    ∙ or-false (host_from p.kinds 0 k)
    ∙ host-at p.kinds 0 k k (omega arith)

pub records-count : {A : Type 0} (read : ℕ → A) (s : List ℕ) (at n : ℕ) → length (records_from read s at n) ≡ n
unfolding records_from
records-count read s at zero = refl
records-count read s at (suc n) = ap suc (records-count read s (end_at s at) n)

-- the same of a sheet that passed, in rows wide enough for its slots
module _ (s : List ℕ) (x : Script) (ok : Sound s x) (w : ℕ) (h : x.slots ≤ 64 * w) where
  pub parameters_in_row : (k : ℕ) → member (parameter_row (parts_of s) w) k ≡ is_parameter (parts_of s) k
  parameters_in_row k = parameter-member (parts_of s) w k (below_up x.slots (64 * w) (parts_of s).params h ok.params_below)

  pub hosts_in_row : (k : ℕ) → member (host_row (parts_of s) w) k ≡ is_host_slot (parts_of s) k
  hosts_in_row k =
      let n = ap length ok.kinds_are ∙ records-count _ s x.slots_at x.slots in
      host-member (parts_of s) w k (omega arith)
