-- After an acceptance the load of the sets, as they were left, is not refused. Assumes nothing.
use mathlib.Core.Path.{◌≡◌, refl, sym, ap, ap₂, ◌∙◌}
use mathlib.Core.Bool.{Bool, false}
use mathlib.Core.List.{List}
use mathlib.Core.Option.{Option, none}
use Prim.Native.Nat.{ℕ, ◌+◌, ◌*◌, ◌≤◌}
use native.Mathlib.Nat.{mul_assoc, mul-le-mul_right}
use native.Mathlib.Omega.{arith}
use borrow.Author.Tests.{ltb-false, le-ltb}
use lib.Dec.{ltb}
use lib.ListN.{length}
use Rattle.std.specs.Prelude.{Result, Ok, Err}
use Rattle.dataflow.specs.Lists.{pick}
use Rattle.dataflow.proofs.Bools.{or_no_left, or_no_right}
use Rattle.budget.specs.declared.FlowBudget.{FlowBudget}
use Rattle.budget.specs.declared.Limits.{Limits}
use Rattle.budget.specs.Budget.{todays}
use Rattle.format.specs.declared.refusal.Refusal.{Refusal}
use Rattle.format.specs.declared.refusal.Refusal.TheVariants.{NoRoom}
use Rattle.sizes.specs.Sizes.{sets_words, scratch_words}
use Rattle.sheet.specs.Decode.{parts_of, refusal, id_of}
use Rattle.sheet.specs.Scripts.{script_of, checked_of, checked_by}
use Rattle.instructions.proofs.Sound.{sound}
use Rattle.script.specs.Script.{parameter_in}
use Rattle.verdict.specs.Points.{on, points}
use Rattle.check_points.proofs.SpanLaws.{points_few}
use Rattle.outcome.specs.Outcome.{Lengths, Outcome, accepted, refused, outcome_of}
use Rattle.demands.specs.Demands.{code}
use Rattle.demands.specs.Table as table
use Rattle.demands.specs.Table.{Due, layout, bad_sheet, no_room_early, no_room, state_limit, work_counting, work_building, work_solving, work_checking, unfilled_slot, host_over_await, facts_limit, acceptance}
use Rattle.demands.proofs.TableLaws as tables
use Rattle.block_records.specs.declared.Block.{Block}
use Rattle.flow.specs.BlocksVerify.{lengths_of}
use Rattle.sheet.specs.declared.script.Refused.{Refused}
use Rattle.load.specs.declared.Loaded.{Loaded}
use Rattle.load.specs.Load.{words_needed, saturated, load_of, loaded_by, loaded_of}
use Rattle.flow_c.specs.declared.FlowAnswer.{FlowAnswer}
use Rattle.flow_c.specs.declared.LoadAnswer.{LoadAnswer}
use Rattle.flow_c.specs.Exports.{answer_of, HostVerified, load_answer_of, host_load}
use Rattle.flow_c.specs.Within.{outcome_under, HostVerifiedUnder}
use Rattle.flow_c.proofs.HostLaws.{number_some}

module _ (s : List ℕ) (parameter : ℕ → Bool) (l : Limits) (n : Lengths) (b : FlowBudget) where
  -- an acceptance: the sheet passed, and the words that its answer takes were lent
  abbrev Roomy : Outcome → Type 0
  Roomy (accepted id blocks awaits left) = (refusal s ≡ none) × (id ≡ id_of s) × (words_needed (parts_of s) blocks awaits ≤ n.sets)
  Roomy (refused r id left) = Unit {0}

  enough : (blocks words awaits all : ℕ) → awaits ≤ all → blocks * 2 * words + all * (1 + words) ≤ n.sets
      → blocks * (2 * words) + awaits * (1 + words) ≤ n.sets
  enough blocks words awaits all h r = omega (arith, mul_assoc blocks 2 words, mul-le-mul_right (1 + words) h)

  accepts-roomy : (left : FlowBudget) → table.Checks s parameter l n b (on left)
      → Roomy (accepted (id_of s) (layout s parameter l n b).blocks (length (points (code s) parameter (layout s parameter l n b).words)) left)
  unfolding checked_of parts_of script_of
  accepts-roomy left g =
      let f = g.solves.builds.fits in
      let y = layout s parameter l n b in
      let p : refusal s ≡ none = f.counts.begins.passed in
      let short : ltb n.sets (sets_words y) ≡ false = or_no_right (ltb n.scratch (scratch_words y)) _ (or_no_left _ (ltb n.records y.blocks) f.room) in
      let here = sound s (script_of s) (ap (λ (o : Option Refusal). checked_by o (id_of s) (script_of s)) p) in (
        p,
        refl,
        enough y.blocks y.words (length (points (code s) parameter y.words)) y.awaits (points_few s parameter (script_of s) here y.words)
            (ltb-false n.sets (sets_words y) short),
      )

  due-roomy : (o : Outcome) → Due s parameter l n b o → Roomy o
  due-roomy o (bad_sheet r e) = tt
  due-roomy o (no_room_early e lt) = tt
  due-roomy o (no_room left g le e) = tt
  due-roomy o (state_limit left g lt) = tt
  due-roomy o (work_counting over g e) = tt
  due-roomy o (work_building before over g e) = tt
  due-roomy o (work_solving before over g e) = tt
  due-roomy o (work_checking over g) = tt
  due-roomy o (unfilled_slot left g) = tt
  due-roomy o (host_over_await left g) = tt
  due-roomy o (facts_limit over g) = tt
  due-roomy o (acceptance left g) = accepts-roomy left g

  -- the load of an accepted script's answer, of any words that are as many as were lent
  pub accepted_loads : {id blocks awaits : ℕ} {left : FlowBudget} → outcome_of s parameter l n b ≡ accepted id blocks awaits left
      → (v : List ℕ) → n.sets ≤ length v → loaded_of s v blocks awaits ≡ Ok (record { id = id; load = saturated (load_of (parts_of s) v blocks awaits) })
  unfolding loaded_of
  accepted_loads {id} {blocks} {awaits} {left} e v h =
      let r : Roomy (accepted id blocks awaits left) = due-roomy (accepted id blocks awaits left) ((tables.table s parameter l n b (accepted id blocks awaits left)).1 e) in
      let t : ltb (length v) (words_needed (parts_of s) blocks awaits) ≡ false = le-ltb (length v) (words_needed (parts_of s) blocks awaits) (omega (arith, r.2)) in
      ap (λ (o : Option Refusal). loaded_by o s v blocks awaits) r.0
      ∙ ap₂ (λ (c : Bool) (i : ℕ). pick {A = Result Loaded Refused} c (Err (record { why = NoRoom; id = i })) (Ok (record { id = i; load = saturated (load_of (parts_of s) v blocks awaits) }))) t (sym r.1)

-- so of two exported calls, one after the other, under any limits as they count
pub host-loads-under : {s : List ℕ} {l : Limits} {b : FlowBudget} {list list' : List Block} {v v' w w' : List ℕ} {r : FlowAnswer}
    → HostVerifiedUnder s l b list list' v v' w w' r → r.number ≡ 0 → length v ≤ length v'
    → host_load s v' r.blocks r.awaits ≡ record { number = 0; function = r.function; load = saturated (load_of (parts_of s) v' r.blocks r.awaits) }
host-loads-under {s} {l} {b} {list} {list'} {v} {v'} {w} {w'} {r} h zero_number long = go (outcome_under s l b list v w) refl h.answer
  where
    go : (o : Outcome) → outcome_under s l b list v w ≡ o → r ≡ answer_of o
        → host_load s v' r.blocks r.awaits ≡ record { number = 0; function = r.function; load = saturated (load_of (parts_of s) v' r.blocks r.awaits) }
    go (accepted id blocks awaits left) e q =
        ap₂ (λ (i j : ℕ). host_load s v' i j) (ap (λ (f : FlowAnswer). f.blocks) q) (ap (λ (f : FlowAnswer). f.awaits) q)
        ∙ ap load_answer_of (accepted_loads s (parameter_in (parts_of s)) l (lengths_of list v w) b e v' long)
        ∙ sym (ap (λ (f : FlowAnswer). load_of_answer f) q)
      where
        load_of_answer : FlowAnswer → LoadAnswer
        load_of_answer f = record { number = 0; function = f.function; load = saturated (load_of (parts_of s) v' f.blocks f.awaits) }
    go (refused why id left) e q =
        absurd (omega (arith, number_some why, ap (λ (f : FlowAnswer). f.number) q))

-- so of the two exported calls, one after the other: number 0, the same function id, and the load
pub host-loads : {s : List ℕ} {b : FlowBudget} {list list' : List Block} {v v' w w' : List ℕ} {r : FlowAnswer}
    → HostVerified s b list list' v v' w w' r → r.number ≡ 0 → length v ≤ length v'
    → host_load s v' r.blocks r.awaits ≡ record { number = 0; function = r.function; load = saturated (load_of (parts_of s) v' r.blocks r.awaits) }
host-loads {s} {b} {list} {list'} {v} {v'} {w} {w'} {r} h =
    let u : HostVerifiedUnder s todays b list list' v v' w w' r = record { answer = h.answer; table = h.table; verified = h.verified; blocks = h.blocks } in
    host-loads-under u
