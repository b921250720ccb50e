-- What the call with an added set answers: with a set that is taken it is the answer with these parameters, and each answer is given exactly if it
-- is due. Assumes nothing.
use mathlib.Core.Path.{◌≡◌, refl, sym, ap, ap₂, subst, fun_ext, ◌∙◌}
use mathlib.Core.Bool.{Bool, true, false, ◌&&◌, ◌||◌, or-true, or-false}
use mathlib.Core.List.{List}
use mathlib.Core.Logic.{◌⊎◌, inl, inr, ◌↔◌}
use mathlib.Core.Option.{Option, none, some}
use Prim.Native.Nat.{ℕ, ◌*◌, ◌≤◌, ◌<◌}
use native.Mathlib.Decide.{dec_lt}
use native.Mathlib.Omega.{arith}
use borrow.Author.Tests.{lt-ltb, le-ltb}
use lib.Dec.{ltb}
use lib.ListN.{length, replicate, length-replicate}
use Rattle.bitset.specs.Sets.{member}
use Rattle.bitset.proofs.SetLaws.{member-zero}
use Rattle.dataflow.specs.Lists.{pick}
use Rattle.budget.specs.declared.FlowBudget.{FlowBudget}
use Rattle.budget.specs.declared.Limits.{Limits}
use Rattle.format.specs.declared.refusal.Refusal.{Refusal}
use Rattle.format.specs.declared.refusal.Refusal.TheVariants.{NoSuchSlot, NoRoom}
use Rattle.sheet.specs.declared.script.Script.{Script}
use Rattle.sheet.specs.Decode.{parts_of, refusal, id_of}
use Rattle.sheet.specs.Scripts.{script_of, checked_of, checked_by}
use Rattle.instructions.specs.Sound.{Sound}
use Rattle.script.specs.Script.{parameter_in}
use Rattle.starts.specs.Starts.{parameter_with}
use Rattle.starts.proofs.StartLaws.{with_below}
use Rattle.outcome.specs.Outcome.{Lengths, Outcome, accepted, refused, judged, after_checks, outcome_of}
use Rattle.outcome.specs.Buffers.{sets_after}
use Rattle.demands.proofs.TableLaws.{pick_yes, pick_no, passed-id, table}
use Rattle.demands.proofs.DemandLaws.{Below, sound_script}
use Rattle.added.specs.Added.{width_of, strays, Taken}
use Rattle.added.specs.Outcome.{judged_with, after_checks_with, outcome_with, DueWith}
use Rattle.added.specs.Outcome.{bad_sheet, no_room_early, stray_slot, is_judged}
use Rattle.added.proofs.StrayLaws.{strays_iff, no_strays}

-- the parameters of a sheet that passed are slots of it, the added ones too
pub added-below : (s added : List ℕ) → Below s (parameter_with (parts_of s) added)
added-below s added passed = with_below s (script_of s) (sound_script s passed) added

-- two early tests, then a third: where the last two fail, the first is what a later choice asks again
once : {A : Type 0} (t u v : Bool) (a c d : A) → u ≡ false → v ≡ false → pick (t || u) a (pick v c (pick t a d)) ≡ pick t a d
once true u v a c d eu ev = refl
once false u v a c d eu ev = rw (eu, ev) refl

module _ (s added : List ℕ) (l : Limits) (n : Lengths) (b : FlowBudget) where
  -- a script that is judged with a set that is taken
  taken-judged : (x : Script) → Taken x.slots added → judged_with s added l n b x ≡ judged s (parameter_with (parts_of s) added) x l n b
  taken-judged x t =
      once (ltb n.scratch (4 * x.count)) (ltb (length added) (width_of x.slots)) (strays x.slots added) _ _ _
      (le-ltb (length added) (width_of x.slots) t.long) t.slots_only

  -- a set that is taken: the answer is that of these parameters
  pub taken_outcome : Taken (script_of s).slots added → outcome_with s added l n b ≡ outcome_of s (parameter_with (parts_of s) added) l n b
  unfolding outcome_with outcome_of checked_of
  taken_outcome t = go (refusal s)
    where
      go : (f : Option Refusal) → after_checks_with s added l n b (checked_by f (id_of s) (script_of s))
          ≡ after_checks s (parameter_with (parts_of s) added) l n b (checked_by f (id_of s) (script_of s))
      go (some r) = refl
      go none = taken-judged (script_of s) t

  -- ---- each answer is given exactly if it is due

  after-passed : refusal s ≡ none → outcome_with s added l n b ≡ judged_with s added l n b (script_of s)
  unfolding outcome_with checked_of
  after-passed e = ap (λ (f : Option Refusal). after_checks_with s added l n b (checked_by f (id_of s) (script_of s))) e

  early : (n.scratch < 4 * (script_of s).count) ⊎ (length added < width_of (script_of s).slots)
      → (ltb n.scratch (4 * (script_of s).count) || ltb (length added) (width_of (script_of s).slots)) ≡ true
  early (inl lt) = rw (lt-ltb _ _ lt) refl
  early (inr lt) = rw (lt-ltb _ _ lt) (or-true (ltb n.scratch (4 * (script_of s).count)))

  later : 4 * (script_of s).count ≤ n.scratch → width_of (script_of s).slots ≤ length added
      → (ltb n.scratch (4 * (script_of s).count) || ltb (length added) (width_of (script_of s).slots)) ≡ false
  later le long = ap₂ ◌||◌ (le-ltb _ _ le) (le-ltb _ _ long)

  -- what is due is given
  due_given : (p : Outcome) → DueWith s added l n b p → outcome_with s added l n b ≡ p
  unfolding outcome_with checked_of
  due_given p (bad_sheet r e) = ap (λ (f : Option Refusal). after_checks_with s added l n b (checked_by f (id_of s) (script_of s))) e
  due_given p (no_room_early e lt) = after-passed e ∙ pick_yes _ _ (early lt) ∙ ap (λ (i : ℕ). refused NoRoom i b) (passed-id s e)
  due_given p (stray_slot e le long t) =
      after-passed e ∙ pick_no _ _ (later le long) ∙ pick_yes _ _ ((strays_iff (script_of s).slots added).1 t)
      ∙ ap (λ (i : ℕ). refused NoSuchSlot i b) (passed-id s e)
  due_given p (is_judged o e le t d) = taken_outcome t ∙ (table s (parameter_with (parts_of s) added) l n b o).0 d

  -- some answer is due
  abbrev SomeDue : Type 0
  SomeDue = (p : Outcome) × DueWith s added l n b p

  due-looked : refusal s ≡ none → 4 * (script_of s).count ≤ n.scratch → width_of (script_of s).slots ≤ length added
      → (t : Bool) → strays (script_of s).slots added ≡ t → SomeDue
  due-looked e le long true q = (_, stray_slot e le long ((strays_iff (script_of s).slots added).0 q))
  due-looked e le long false q = (
    _,
    is_judged _ e le (record { long = long; slots_only = q })
        ((table s (parameter_with (parts_of s) added) l n b (outcome_of s (parameter_with (parts_of s) added) l n b)).1 refl),
  )

  due-roomy : refusal s ≡ none → Dec (n.scratch < 4 * (script_of s).count) → Dec (length added < width_of (script_of s).slots) → SomeDue
  due-roomy e (yes lt) q = (_, no_room_early e (inl lt))
  due-roomy e (no ge) (yes lt) = (_, no_room_early e (inr lt))
  due-roomy e (no ge) (no le) = due-looked e (omega arith) (omega arith) (strays (script_of s).slots added) refl

  some-due : (f : Option Refusal) → refusal s ≡ f → SomeDue
  some-due (some r) e = (_, bad_sheet r e)
  some-due none e = due-roomy e (dec_lt _ _) (dec_lt _ _)

  pub table_with : (p : Outcome) → DueWith s added l n b p ↔ (outcome_with s added l n b ≡ p)
  table_with p = (
    due_given p,
    λ e. let d = some-due (refusal s) refl in subst (DueWith s added l n b) (sym (due_given d.0 d.1) ∙ e) d.1,
  )

  -- ---- an acceptance

  due-accepted : (id blocks awaits : ℕ) (left : FlowBudget) → DueWith s added l n b (accepted id blocks awaits left)
      → (refusal s ≡ none) × Taken (script_of s).slots added
  due-accepted id blocks awaits left (is_judged o e le t d) = (e, t)

  -- is of a sheet that passed
  pub accepted_with_sound : (id blocks awaits : ℕ) (left : FlowBudget) → outcome_with s added l n b ≡ accepted id blocks awaits left → Sound s (script_of s)
  accepted_with_sound id blocks awaits left e = sound_script s (due-accepted id blocks awaits left ((table_with (accepted id blocks awaits left)).1 e)).0

  -- and of a set that is taken
  pub accepted_taken : (id blocks awaits : ℕ) (left : FlowBudget) → outcome_with s added l n b ≡ accepted id blocks awaits left
      → Taken (script_of s).slots added
  accepted_taken id blocks awaits left e = (due-accepted id blocks awaits left ((table_with (accepted id blocks awaits left)).1 e)).1

-- ---- nothing added

-- both count the same slots
slots_same : (s : List ℕ) → (script_of s).slots ≡ (parts_of s).slots
unfolding script_of parts_of
slots_same s = refl

-- a set without a bit in the words that the slots take
module _ (s added : List ℕ) (clear : (i : ℕ) → i < 64 * width_of (script_of s).slots → member added i ≡ false) where
  -- leaves the parameters as they are
  pub zeros_parameters : parameter_with (parts_of s) added ≡ parameter_in (parts_of s)
  unfolding parameter_with
  zeros_parameters = fun_ext (λ i. go i (dec_lt i (parts_of s).slots))
    where
      go : (i : ℕ) → Dec (i < (parts_of s).slots) → (parameter_in (parts_of s) i || (ltb i (parts_of s).slots && member added i)) ≡ parameter_in (parts_of s) i
      go i (yes lt) =
          ap₂ (λ (u v : Bool). parameter_in (parts_of s) i || (u && v)) (lt-ltb i (parts_of s).slots lt) (clear i (omega (arith, slots_same s)))
          ∙ or-false (parameter_in (parts_of s) i)
      go i (no ge) =
          ap (λ (u : Bool). parameter_in (parts_of s) i || (u && member added i)) (le-ltb i (parts_of s).slots (omega arith))
          ∙ or-false (parameter_in (parts_of s) i)

  -- and so what the sets buffer holds
  pub zeros_sets : (n : Lengths) (o : Outcome) → sets_after s (parameter_with (parts_of s) added) n o ≡ sets_after s (parameter_in (parts_of s)) n o
  zeros_sets n o = ap (λ (set : ℕ → Bool). sets_after s set n o) zeros_parameters

  module _ (long : width_of (script_of s).slots ≤ length added) where
    pub zeros_taken : Taken (script_of s).slots added
    zeros_taken = record { long = long; slots_only = no_strays (script_of s).slots added (λ i le lt. clear i lt) }

    -- the answer is that of the call without an added set
    pub zeros_outcome : (l : Limits) (n : Lengths) (b : FlowBudget) → outcome_with s added l n b ≡ outcome_of s (parameter_in (parts_of s)) l n b
    zeros_outcome l n b =
        taken_outcome s added l n b zeros_taken ∙ ap (λ (set : ℕ → Bool). outcome_of s set l n b) zeros_parameters

-- w zeros
pub words-outcome : (s : List ℕ) (l : Limits) (n : Lengths) (b : FlowBudget)
    → outcome_with s (replicate (width_of (script_of s).slots) 0) l n b ≡ outcome_of s (parameter_in (parts_of s)) l n b
words-outcome s =
    zeros_outcome s (replicate (width_of (script_of s).slots) 0) (λ i lt. member-zero (width_of (script_of s).slots) i)
    (omega (arith, length-replicate {A = ℕ} (width_of (script_of s).slots) 0))
