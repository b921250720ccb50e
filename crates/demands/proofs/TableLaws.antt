-- The refusal table: an answer is given exactly if it is due. Assumes nothing.
use mathlib.Core.Path.{◌≡◌, refl, sym, ap, subst, ◌∙◌}
use mathlib.Core.Bool.{Bool, true, false}
use mathlib.Core.List.{List}
use mathlib.Core.Logic.{◌⊎◌, inl, inr, ◌↔◌}
use mathlib.Core.Option.{Option, none, some}
use Prim.Native.Nat.{ℕ, ◌*◌, ◌≤◌, ◌<◌}
use native.Mathlib.Decide.{dec_lt}
use native.Mathlib.Omega.{arith}
use borrow.Author.Tests.{le-ltb, lt-ltb}
use lib.ListN.{length}
use Rattle.std.specs.Prelude.{Ok, Err}
use Rattle.dataflow.specs.Lists.{pick}
use Rattle.dataflow.specs.Charges.{fixed_points_charges, counting_charges, building_charges}
use Rattle.budget.specs.declared.FlowBudget.{FlowBudget}
use Rattle.budget.specs.declared.Limits.{Limits}
use Rattle.budget.specs.Budget.{Charged, charged, state_bytes}
use Rattle.format.specs.declared.refusal.Refusal.{Refusal}
use Rattle.format.specs.declared.refusal.Refusal.TheVariants.{NoRoom, StateLimit, WorkLimit, UnfilledSlot, HostOverAwait, FactsLimit}
use Rattle.sizes.specs.Stages.{Staged, rooms_of, if_met, graph_of, if_ok, stage}
use Rattle.sizes.proofs.StageLaws.{state_due, room_due, room_there}
use Rattle.sheet.specs.declared.script.Script.{Script}
use Rattle.sheet.specs.Decode.{refusal, id_in, id_of, id_after}
use Rattle.sheet.specs.Scripts.{script_of, checked_of, checked_by}
use Rattle.sheet.proofs.Checked.{clean}
use Rattle.verdict.specs.Points.{Checking, stop, on, points_run, points}
use Rattle.verdict.proofs.RunLaws.{refusals}
use Rattle.outcome.specs.Outcome.{Lengths, Outcome, accepted, refused, after_points, after_rounds, after_graph, judged, after_checks, outcome_of}
use Rattle.demands.specs.Demands.{code, host}
use Rattle.demands.specs.Table.{layout, short, Begins, Counts, Fits, Builds, Solves, Checks, Due}
use Rattle.demands.specs.Table.{
  bad_sheet,
  no_room_early,
  no_room,
  state_limit,
  work_counting,
  work_building,
  work_solving,
  work_checking,
  unfilled_slot,
  host_over_await,
  facts_limit,
  acceptance,
}

-- a choice whose test is known
pub pick_yes : {A : Type 0} {t : Bool} (a c : A) → t ≡ true → pick t a c ≡ a
pick_yes a c e = rw e refl

pub pick_no : {A : Type 0} {t : Bool} (a c : A) → t ≡ false → pick t a c ≡ c
pick_no a c e = rw e refl

-- the id of a sheet that passed
pub passed-id : (s : List ℕ) → refusal s ≡ none → (script_of s).id ≡ id_of s
unfolding script_of id_of
passed-id s e = ap (λ (f : Option Refusal). id_after f (id_in s)) (sym (clean s e).function_ok)

module _ (s : List ℕ) (parameter : ℕ → Bool) (l : Limits) (n : Lengths) (b : FlowBudget) where
  -- the answer, from each stage on
  after-passed : refusal s ≡ none → outcome_of s parameter l n b ≡ judged s parameter (script_of s) l n b
  unfolding outcome_of checked_of
  after-passed e = ap (λ (f : Option Refusal). after_checks s parameter l n b (checked_by f (id_of s) (script_of s))) e

  -- `graph`'s rooms, and its later charges
  abbrev rooms : FlowBudget → Staged
  rooms = rooms_of l (layout s parameter l n b) n.scratch (record { sets = n.sets; records = n.records })

  abbrev later : List ℕ
  later = building_charges (code s)

  abbrev rounds : List ℕ
  rounds = fixed_points_charges (code s) parameter (layout s parameter l n b).words

  abbrev checked : FlowBudget → Checking
  checked = points_run (code s) parameter l (layout s parameter l n b).words (script_of s).slots (host s)

  abbrev x : Script
  x = script_of s

  after-begins : Begins s parameter l n b → outcome_of s parameter l n b
      ≡ after_graph s parameter x l (if_ok (if_met (charged l b (counting_charges (code s))) rooms) (stage l later))
  unfolding graph_of
  after-begins g = after-passed g.passed ∙ pick_no _ _ (le-ltb n.scratch (4 * x.count) g.room)

  after-counts : (left : FlowBudget) → Counts s parameter l n b left → outcome_of s parameter l n b ≡ after_graph s parameter x l (if_ok (rooms left) (stage l later))
  after-counts left g = after-begins g.begins ∙ ap (λ (c : Charged). after_graph s parameter x l (if_ok (if_met c rooms) (stage l later))) g.paid

  fits-ok : (left : FlowBudget) → Fits s parameter l n b left → rooms left ≡ Ok (layout s parameter l n b, left)
  fits-ok left g = sym (room_there l (layout s parameter l n b) n.scratch (record { sets = n.sets; records = n.records }) left g.state g.room)

  after-fits : (left : FlowBudget) → Fits s parameter l n b left → outcome_of s parameter l n b ≡ after_graph s parameter x l (stage l later (layout s parameter l n b) left)
  after-fits left g = after-counts left g.counts ∙ ap (λ (c : Staged). after_graph s parameter x l (if_ok c (stage l later))) (fits-ok left g)

  after-builds : (left : FlowBudget) → Builds s parameter l n b left → outcome_of s parameter l n b ≡ after_rounds s parameter x l (layout s parameter l n b) (charged l left rounds)
  after-builds left g = after-fits g.before g.fits ∙ ap (λ (c : Charged). after_graph s parameter x l (if_met c (λ z. Ok (layout s parameter l n b, z)))) g.paid

  after-solves : (left : FlowBudget) → Solves s parameter l n b left → outcome_of s parameter l n b ≡ after_points s parameter x l (layout s parameter l n b) (checked left)
  after-solves left g = after-builds g.before g.builds ∙ ap (after_rounds s parameter x l (layout s parameter l n b)) g.paid

  after-checks : (end : Checking) → Checks s parameter l n b end → outcome_of s parameter l n b ≡ after_points s parameter x l (layout s parameter l n b) end
  after-checks end g = after-solves g.before g.solves ∙ ap (after_points s parameter x l (layout s parameter l n b)) g.is

  -- all stages begin with a sheet that passed
  solves-passed : (left : FlowBudget) → Solves s parameter l n b left → refusal s ≡ none
  solves-passed left g = g.builds.fits.counts.begins.passed

  checks-id : (end : Checking) → Checks s parameter l n b end → x.id ≡ id_of s
  checks-id end g = passed-id s (solves-passed g.before g.solves)

  -- what is due is given
  pub due_given : (o : Outcome) → Due s parameter l n b o → outcome_of s parameter l n b ≡ o
  unfolding outcome_of checked_of
  due_given o (bad_sheet r e) = ap (λ (f : Option Refusal). after_checks s parameter l n b (checked_by f (id_of s) x)) e
  due_given o (no_room_early e lt) = after-passed e ∙ pick_yes _ _ (lt-ltb n.scratch (4 * x.count) lt) ∙ ap (λ (i : ℕ). refused NoRoom i b) (passed-id s e)
  due_given o (no_room left g le e) =
      after-counts left g
      ∙ ap (λ (c : Staged). after_graph s parameter x l (if_ok c (stage l later)))
      (sym (room_due l (layout s parameter l n b) n.scratch (record { sets = n.sets; records = n.records }) left le e))
      ∙ ap (λ (i : ℕ). refused NoRoom i left) (passed-id s g.begins.passed)
  due_given o (state_limit left g lt) =
      after-counts left g
      ∙ ap (λ (c : Staged). after_graph s parameter x l (if_ok c (stage l later)))
      (sym (state_due l (layout s parameter l n b) n.scratch (record { sets = n.sets; records = n.records }) left lt))
      ∙ ap (λ (i : ℕ). refused StateLimit i left) (passed-id s g.begins.passed)
  due_given o (work_counting spent g e) =
      after-begins g ∙ ap (λ (c : Charged). after_graph s parameter x l (if_ok (if_met c rooms) (stage l later))) e
      ∙ ap (λ (i : ℕ). refused WorkLimit i spent) (passed-id s g.passed)
  due_given o (work_building before spent g e) =
      after-fits before g ∙ ap (λ (c : Charged). after_graph s parameter x l (if_met c (λ z. Ok (layout s parameter l n b, z)))) e
      ∙ ap (λ (i : ℕ). refused WorkLimit i spent) (passed-id s g.counts.begins.passed)
  due_given o (work_solving before spent g e) =
      after-builds before g ∙ ap (after_rounds s parameter x l (layout s parameter l n b)) e
      ∙ ap (λ (i : ℕ). refused WorkLimit i spent) (passed-id s g.fits.counts.begins.passed)
  due_given o (work_checking spent g) = after-checks (stop WorkLimit spent) g ∙ ap (λ (i : ℕ). refused WorkLimit i spent) (checks-id _ g)
  due_given o (unfilled_slot left g) = after-checks (stop UnfilledSlot left) g ∙ ap (λ (i : ℕ). refused UnfilledSlot i left) (checks-id _ g)
  due_given o (host_over_await left g) = after-checks (stop HostOverAwait left) g ∙ ap (λ (i : ℕ). refused HostOverAwait i left) (checks-id _ g)
  due_given o (facts_limit spent g) = after-checks (stop FactsLimit spent) g ∙ ap (λ (i : ℕ). refused FactsLimit i spent) (checks-id _ g)
  due_given o (acceptance left g) =
      after-checks (on left) g
      ∙ ap (λ (i : ℕ). accepted i (layout s parameter l n b).blocks (length (points (code s) parameter (layout s parameter l n b).words)) left) (checks-id _ g)

  -- some answer is due
  abbrev SomeDue : Type 0
  SomeDue = (o : Outcome) × Due s parameter l n b o

  due-stop : (r : Refusal) (left : FlowBudget) → Checks s parameter l n b (stop r left)
      → (r ≡ WorkLimit) ⊎ ((r ≡ UnfilledSlot) ⊎ ((r ≡ HostOverAwait) ⊎ (r ≡ FactsLimit))) → SomeDue
  due-stop r left g (inl e) = (_, work_checking left (subst (λ (q : Refusal). Checks s parameter l n b (stop q left)) e g))
  due-stop r left g (inr (inl e)) = (_, unfilled_slot left (subst (λ (q : Refusal). Checks s parameter l n b (stop q left)) e g))
  due-stop r left g (inr (inr (inl e))) = (_, host_over_await left (subst (λ (q : Refusal). Checks s parameter l n b (stop q left)) e g))
  due-stop r left g (inr (inr (inr e))) = (_, facts_limit left (subst (λ (q : Refusal). Checks s parameter l n b (stop q left)) e g))

  due-checked : (before : FlowBudget) → Solves s parameter l n b before → (end : Checking) → checked before ≡ end → SomeDue
  due-checked before g (on left) e = (_, acceptance left (record { before = before; solves = g; is = e }))
  due-checked before g (stop r left) e = due-stop r left (record { before = before; solves = g; is = e })
      (refusals (code s) parameter l (layout s parameter l n b).words x.slots (host s) before r left e)

  due-solved : (before : FlowBudget) → Builds s parameter l n b before → (c : Charged) → charged l before rounds ≡ c → SomeDue
  due-solved before g (Err x) e = (_, work_solving before x.budget g e)
  due-solved before g (Ok left) e = due-checked left (record { before = before; builds = g; paid = e }) (checked left) refl

  due-built : (before : FlowBudget) → Fits s parameter l n b before → (c : Charged) → charged l before later ≡ c → SomeDue
  due-built before g (Err x) e = (_, work_building before x.budget g e)
  due-built before g (Ok left) e = due-solved left (record { before = before; fits = g; paid = e }) (charged l left rounds) refl

  due-room : (left : FlowBudget) → Counts s parameter l n b left → state_bytes (layout s parameter l n b).blocks (layout s parameter l n b).words ≤ l.state
      → (t : Bool) → short s parameter l n b ≡ t → SomeDue
  due-room left g le true e = (_, no_room left g le e)
  due-room left g le false e = due-built left (record { counts = g; state = le; room = e }) (charged l left later) refl

  due-counted : (left : FlowBudget) → Counts s parameter l n b left → Dec (l.state < state_bytes (layout s parameter l n b).blocks (layout s parameter l n b).words) → SomeDue
  due-counted left g (yes lt) = (_, state_limit left g lt)
  due-counted left g (no ge) = due-room left g (omega arith) (short s parameter l n b) refl

  due-begun : Begins s parameter l n b → (c : Charged) → charged l b (counting_charges (code s)) ≡ c → SomeDue
  due-begun g (Err x) e = (_, work_counting x.budget g e)
  due-begun g (Ok left) e = due-counted left (record { begins = g; paid = e }) (dec_lt _ _)

  due-passed : refusal s ≡ none → Dec (n.scratch < 4 * (layout s parameter l n b).instructions) → SomeDue
  due-passed e (yes lt) = (_, no_room_early e lt)
  due-passed e (no ge) = due-begun (record { passed = e; room = omega arith }) (charged l b (counting_charges (code s))) refl

  some-due : (f : Option Refusal) → refusal s ≡ f → SomeDue
  some-due (some r) e = (_, bad_sheet r e)
  some-due none e = due-passed e (dec_lt _ _)

  -- each answer is given exactly if it is due
  pub table : (o : Outcome) → Due s parameter l n b o ↔ (outcome_of s parameter l n b ≡ o)
  table o = (
    due_given o,
    λ e. let d = some-due (refusal s) refl in subst (Due s parameter l n b) (sym (due_given d.0 d.1) ∙ e) d.1,
  )
