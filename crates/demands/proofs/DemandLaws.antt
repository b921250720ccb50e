-- Demands 2 and 3 of the defined answer, and of the words that it leaves in the sets buffer. Assumes nothing.
use mathlib.Core.Path.{◌≡◌, refl, sym, ap, subst, ◌∙◌}
use mathlib.Core.Bool.{Bool, true}
use mathlib.Core.List.{List, ◌++◌}
use mathlib.Core.Logic.{◌⊎◌, inl, inr}
use mathlib.Core.Option.{Option, none, none-ne-some}
use Prim.Native.Nat.{ℕ, ◌+◌, ◌*◌, ◌/◌, ◌≤◌, ◌<◌}
use native.Mathlib.Omega.{arith}
use lib.ListN.{length}
use Rattle.dataflow.specs.Lists.{range}
use Rattle.dataflow.specs.Demand.{Unfilled, Held}
use Rattle.dataflow.specs.Checked.{Checked, Scripted}
use Rattle.dataflow.specs.Results.{block_count}
use Rattle.dataflow.specs.Verdict.{accepts}
use Rattle.dataflow.specs.Code.{await_at}
use Rattle.dataflow.proofs.Results.{runs_ended}
use Rattle.budget.specs.declared.FlowBudget.{FlowBudget}
use Rattle.budget.specs.declared.Limits.{Limits}
use Rattle.format.specs.declared.refusal.Refusal.{Refusal}
use Rattle.format.specs.declared.refusal.Refusal.TheVariants.{NoRoom, StateLimit, WorkLimit, UnfilledSlot, HostOverAwait, FactsLimit}
use Rattle.sheet.specs.Decode.{refusal, id_of}
use Rattle.sheet.specs.Scripts.{script_of, checked_of, checked_by}
use Rattle.instructions.specs.Sound.{Sound}
use Rattle.instructions.proofs.Sound.{sound}
use Rattle.verdict.specs.Points.{Checking, stop, on, points_run, points}
use Rattle.verdict.proofs.RunLaws.{passes, unfilled_given, held_given}
use Rattle.outcome.specs.Outcome.{Lengths, Outcome, accepted, refused, outcome_of}
use Rattle.outcome.specs.Buffers.{joined, block_sets, await_words, sets_after}
use Rattle.starts.proofs.ScriptedLaws.{scripted, scripted_slots}
use Rattle.demands.specs.Demands.{Given, IsAccepted, code, host, script, width, FaultyScript, Accepts, Demands}
use Rattle.demands.specs.Table.{layout, Checks, Due}
use Rattle.demands.specs.Table.{
  bad_sheet,
  no_room_early,
  no_room,
  state_limit,
  work_counting,
  work_building,
  work_solving,
  work_checking,
  unfilled_slot,
  host_over_await,
  facts_limit,
  acceptance,
}
use Rattle.demands.proofs.TableLaws.{table}
use Rattle.sheet.proofs.Numbers.{none-later}
use Rattle.demands.proofs.AcceptLaws.{
  not_faulty,
  reads_filled,
  awaits_ascend,
  awaits_are,
  awaits_least,
  awaits_below,
  awaits_clean,
  marked_reachable,
  initialized_words_lem,
  live_words_lem,
  unreached_initialized_words,
  unreached_live_words,
}

-- ---- a sheet that passed

module _ (s : List ℕ) (passed : refusal s ≡ none) where
  pub sound_script : Sound s (script_of s)
  unfolding checked_of
  sound_script = sound s (script_of s) (ap (λ (f : Option Refusal). checked_by f (id_of s) (script_of s)) passed)

  pub width_is : ((script_of s).slots + 63) / 64 ≡ width s
  width_is = ap (λ (n : ℕ). (n + 63) / 64) (sym sound_script.slots_are)

  pub wide : (script_of s).slots ≤ 64 * width s
  wide = omega (arith, sound_script.slots_are)

  -- with whatever slots of it as parameters
  module _ (parameter : ℕ → Bool) (below : (i : ℕ) → parameter i ≡ true → i < (script_of s).slots) where
    pub scripted_sheet : Scripted (code s) parameter (width s)
    scripted_sheet = scripted s (script_of s) sound_script parameter below (width s) wide

    pub sheet_slots : scripted_sheet.slots ≡ (script_of s).slots
    unfolding scripted_sheet
    sheet_slots = scripted_slots s (script_of s) sound_script parameter below (width s) wide

-- the parameters of a sheet that passed are slots of it
abbrev pub Below : List ℕ → (ℕ → Bool) → Type 0
Below s parameter = refusal s ≡ none → (i : ℕ) → parameter i ≡ true → i < (script_of s).slots

module _ (s : List ℕ) (parameter : ℕ → Bool) (l : Limits) (n : Lengths) (b : FlowBudget) where
  -- what the stages before `check_points` begin with
  checks-passed : (end : Checking) → Checks s parameter l n b end → refusal s ≡ none
  checks-passed end g = g.solves.builds.fits.counts.begins.passed

  -- the run with the words of document 01
  checks-run : (end : Checking) (g : Checks s parameter l n b end)
      → points_run (code s) parameter l (width s) (script_of s).slots (host s) g.before ≡ end
  checks-run end g = subst (λ (w : ℕ). points_run (code s) parameter l w (script_of s).slots (host s) g.before ≡ end)
      (width_is s (checks-passed end g)) g.is

  -- ---- acceptance

  abbrev Accepting : ℕ → ℕ → ℕ → FlowBudget → Type 0
  Accepting id blocks awaits left = (id ≡ id_of s) × (blocks ≡ (layout s parameter l n b).blocks) × (awaits ≡ length (points (code s) parameter (layout s parameter l n b).words))
      × Checks s parameter l n b (on left)

  due-accepted : (id blocks awaits : ℕ) (left : FlowBudget) → Due s parameter l n b (accepted id blocks awaits left) → Accepting id blocks awaits left
  due-accepted id blocks awaits left (acceptance z g) = (refl, refl, refl, g)

  -- a script that is accepted passed the checks
  pub accepted_sound : (id blocks awaits : ℕ) (left : FlowBudget) → outcome_of s parameter l n b ≡ accepted id blocks awaits left → Sound s (script_of s)
  accepted_sound id blocks awaits left e =
      sound_script s (checks-passed (on left) (due-accepted id blocks awaits left ((table s parameter l n b (accepted id blocks awaits left)).1 e)).3)

  -- and its awaits are counted
  pub accepted_count : (id blocks awaits : ℕ) (left : FlowBudget) → outcome_of s parameter l n b ≡ accepted id blocks awaits left
      → awaits ≡ length (points (code s) parameter (layout s parameter l n b).words)
  accepted_count id blocks awaits left e =
      (due-accepted id blocks awaits left ((table s parameter l n b (accepted id blocks awaits left)).1 e)).2

  module _ (below : Below s parameter) where
    accepts-all : (id awaits : ℕ) (left : FlowBudget) → id ≡ id_of s → awaits ≡ length (points (code s) parameter (width s)) → Checks s parameter l n b (on left)
        → (v rest : List ℕ) → v ≡ (joined (block_sets (code s) parameter (width s)) (range 0 (block_count (code s)))
        ++ joined (await_words (code s) parameter (width s)) (points (code s) parameter (width s))) ++ rest
        → Accepts s parameter id (block_count (code s)) awaits v
    accepts-all id awaits left ei ea g v rest is =
        let q : refusal s ≡ none = checks-passed (on left) g in
        let h : Scripted (code s) parameter (width s) = scripted_sheet s q parameter (below q) in
        let ok : accepts (code s) parameter (width s) h.slots (host s) ≡ true =
        ap (λ (k : ℕ). accepts (code s) parameter (width s) k (host s)) (sheet_slots s q parameter (below q))
        ∙ passes (code s) parameter l (width s) (script_of s).slots (host s) g.before left (checks-run (on left) g) in
        record {
          passed = q;
          function = ei;
          all_blocks = refl;
          reads = reads_filled (code s) parameter (width s) h (host s) ok rest v is;
          ascending = λ j k lt inside. awaits_ascend (code s) parameter (width s) h (host s) ok rest v is j k lt (omega (arith, ea));
          listed = λ i. rw ea (awaits_are (code s) parameter (width s) h (host s) ok rest v is i);
          least = λ k lt. awaits_least (code s) parameter (width s) h (host s) ok rest v is k (omega (arith, ea));
          slots_below = λ k x lt e.
              let z = awaits_below (code s) parameter (width s) h (host s) ok rest v is k x (omega (arith, ea)) e in
              omega (arith, z, sheet_slots s q parameter (below q), (sound_script s q).slots_are);
          no_host = λ k x lt. awaits_clean (code s) parameter (width s) h (host s) ok rest v is k x (omega (arith, ea));
          initialized = initialized_words_lem (code s) parameter (width s) h (host s) ok rest v is;
          live = live_words_lem (code s) parameter (width s) h (host s) ok rest v is;
          reachable = marked_reachable (code s) parameter (width s) h (host s) ok rest v is;
          unreached_initialized = unreached_initialized_words (code s) parameter (width s) h (host s) ok rest v is;
          unreached_live = unreached_live_words (code s) parameter (width s) h (host s) ok rest v is;
          sound = not_faulty (code s) parameter (width s) h (host s) ok rest v is;
        }

    -- ---- 13, 14, and the other refusals

    due-unfilled : (id : ℕ) (left : FlowBudget) → Due s parameter l n b (refused UnfilledSlot id left) → Checks s parameter l n b (stop UnfilledSlot left)
    due-unfilled id left (bad_sheet r e) = absurd (none-later s UnfilledSlot e (omega arith) (omega arith))
    due-unfilled id left (unfilled_slot z g) = g

    due-held : (id : ℕ) (left : FlowBudget) → Due s parameter l n b (refused HostOverAwait id left) → Checks s parameter l n b (stop HostOverAwait left)
    due-held id left (bad_sheet r e) = absurd (none-later s HostOverAwait e (omega arith) (omega arith))
    due-held id left (host_over_await z g) = g

    checked-sheet : refusal s ≡ none → Checked (code s) parameter (script_of s).slots
    checked-sheet e = subst (Checked (code s) parameter) (sheet_slots s e parameter (below e)) (scripted_sheet s e parameter (below e)).checked

    unfilled-path : (left : FlowBudget) → Checks s parameter l n b (stop UnfilledSlot left) → Unfilled (script s parameter)
    unfilled-path left g = let q = checks-passed (stop UnfilledSlot left) g in
        unfilled_given (code s) parameter l (width s) (script_of s).slots (host s) (checked-sheet q) (wide s q) g.before left
        (checks-run (stop UnfilledSlot left) g)

    held-await : (left : FlowBudget) → Checks s parameter l n b (stop HostOverAwait left) → Held (script s parameter) (await_at (code s)) (host s)
    held-await left g = let q = checks-passed (stop HostOverAwait left) g in
        held_given (code s) parameter l (width s) (script_of s).slots (host s) (checked-sheet q) (wide s q) g.before left
        (checks-run (stop HostOverAwait left) g)

    -- an answer that refuses with none of 1 to 12 and 15 is an acceptance, or it is 13 or 14
    module _ (o : Outcome) (e : outcome_of s parameter l n b ≡ o) where
      is_due : Due s parameter l n b o
      is_due = (table s parameter l n b o).1 e

      -- accepted, or faulty
      abbrev Told : Outcome → Type 0
      Told a = IsAccepted a ⊎ FaultyScript s parameter

      told : (a : Outcome) → Due s parameter l n b a → refusal s ≡ none → ¬ (Given NoRoom a) → ¬ (Given StateLimit a) → ¬ (Given WorkLimit a)
          → ¬ (Given FactsLimit a) → Told a
      told a (bad_sheet r q) p room state work facts = absurd (none-ne-some r (sym p ∙ q))
      told a (no_room_early q lt) p room state work facts = absurd (room (_, _, refl))
      told a (no_room left g le q) p room state work facts = absurd (room (_, _, refl))
      told a (state_limit left g lt) p room state work facts = absurd (state (_, _, refl))
      told a (work_counting over g q) p room state work facts = absurd (work (_, _, refl))
      told a (work_building before over g q) p room state work facts = absurd (work (_, _, refl))
      told a (work_solving before over g q) p room state work facts = absurd (work (_, _, refl))
      told a (work_checking over g) p room state work facts = absurd (work (_, _, refl))
      told a (unfilled_slot left g) p room state work facts = inr (inl (unfilled-path left g))
      told a (host_over_await left g) p room state work facts = inr (inr (held-await left g))
      told a (facts_limit over g) p room state work facts = absurd (facts (_, _, refl))
      told a (acceptance left g) p room state work facts = inl (_, _, _, _, refl)

      module _ (v : List ℕ) (is : v ≡ sets_after s parameter n o) where
        accepts-here : (id blocks awaits : ℕ) (left : FlowBudget) → o ≡ accepted id blocks awaits left → Accepts s parameter id blocks awaits v
        accepts-here id blocks awaits left q =
            let d = due-accepted id blocks awaits left (subst (Due s parameter l n b) q is_due) in
            let g : Checks s parameter l n b (on left) = d.3 in
            let ea : awaits ≡ length (points (code s) parameter (width s)) =
            d.2 ∙ ap (λ (w : ℕ). length (points (code s) parameter w)) (width_is s (checks-passed (on left) g)) in
            let iv : v ≡ sets_after s parameter n (accepted id (block_count (code s)) awaits left) =
            is ∙ ap (sets_after s parameter n) q ∙ ap (λ (k : ℕ). sets_after s parameter n (accepted id k awaits left)) d.1 in
            subst (λ (k : ℕ). Accepts s parameter id k awaits v) (sym d.1) (accepts-all id awaits left d.0 ea g v _ iv)

        -- what an accepted answer rules out
        pub demands : Demands s parameter o v
        demands = record {
          ended = λ q.
              let h : Scripted (code s) parameter (width s) = scripted_sheet s q parameter (below q) in
              runs_ended (code s) parameter h.slots (width s) h.checked h.wide;
          accepts = accepts-here;
          unfilled = λ q. unfilled-path q.1 (due-unfilled q.0 q.1 (subst (Due s parameter l n b) q.2 is_due));
          held = λ q. held-await q.1 (due-held q.0 q.1 (subst (Due s parameter l n b) q.2 is_due));
          exact = λ p room state work facts. (
            (λ q. (accepts-here q.0 q.1 q.2 q.3 q.4).sound),
            λ ok. either ok (told o is_due p room state work facts),
          );
        }
          where
            either : ¬ (FaultyScript s parameter) → Told o → IsAccepted o
            either ok (inl q) = q
            either ok (inr q) = absurd (ok q)
