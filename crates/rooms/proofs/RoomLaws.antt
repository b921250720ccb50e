-- What is known where neither 11 nor 10 is due, and the stages of the count. Assumes nothing.
use mathlib.Core.Path.{◌≡◌, refl, sym, ap, subst, ◌∙◌}
use mathlib.Core.Bool.{Bool, false, ◌||◌}
use mathlib.Core.List.{List, [], ◌∷◌}
use Prim.Native.Nat.{ℕ, ◌≤◌}
use native.Mathlib.Omega.{arith}
use lib.Dec.{ltb}
use lib.ListN.{length, replicate}
use Rattle.std.proofs.lemmas.Result.{IfOk-at_ok}
use borrow.Author.Tests.{ltb-false}
use Rattle.dataflow.specs.Charges.{leader_charges}
use Rattle.dataflow.specs.Results.{block_count}
use Rattle.dataflow.proofs.Bools.{or_no_left, or_no_right}
use Rattle.budget.specs.declared.FlowBudget.{FlowBudget}
use Rattle.budget.specs.declared.Limits.{Limits}
use Rattle.std.specs.Prelude.{Ok}
use Rattle.budget.specs.Budget.{Charged, over, charged}
use Rattle.budget.proofs.BudgetLaws.{met_then, over_then}
use Rattle.format.specs.declared.refusal.Refusal.TheVariants.{WorkLimit}
use Rattle.memory.specs.Cells.{Mem}
use Rattle.sizes.specs.declared.Layout.{Layout}
use Rattle.memory.specs.Scratch.{scratch, Room}
use Rattle.sizes.specs.Sizes.{scratch_words, sets_words, layout_of, short_of}
use Rattle.memory.specs.Sets.{SetsRoom}
use Rattle.sheet.specs.declared.script.Script.{Script}
use Rattle.sheet.specs.Decode.{parts_of}
use Rattle.instructions.specs.Sound.{Sound}
use Rattle.script.specs.Script.{flow_code}
use Rattle.script.proofs.ScriptLaws.{code_length}
use Rattle.leaders.specs.Index.{Indexed, Fits}
use Rattle.leaders.specs.Leaders.{marking, Leads}
use Rattle.leaders.specs.Numbers.{Numbered}
use Rattle.leaders.proofs.BlockLaws.{blocks_are}
use Rattle.leaders.proofs.IndexLaws.{indexed, indexed-grown, few_blocks}
use Rattle.sizes.specs.declared.Lent.{Lent}
use Rattle.rooms.specs.Rooms.{IndexBuilt, Indexes, Counted, Measured}
use Rattle.sizes.specs.Stages.{Staged, stopped, rooms_of, if_met}
use Rattle.sizes.proofs.StageLaws.{rooms_yes}

-- buffers that are not short have room
module _ (s : List ℕ) (x : Script) (h : Sound s x) (n : ℕ) (lent : Lent) (blocks : ℕ) (is : blocks ≡ block_count (flow_code (parts_of s))) where
  few : blocks ≤ x.count
  few = omega (arith, few_blocks s x h)

  pub layout_fits : Fits s x (layout_of x blocks)
  layout_fits = record { instructions = refl; blocks = is; few_blocks = few; slots = omega arith }

  -- the sizes of a sheet that passed
  pub small : ((layout_of x blocks).instructions ≤ 65536) × ((layout_of x blocks).blocks ≤ 65536) × ((layout_of x blocks).words ≤ 1024)
      × ((layout_of x blocks).awaits ≤ 65536) × ((layout_of x blocks).extra ≤ 16777216)
  small = (h.few_code, omega (arith, few, h.few_code), omega (arith, h.few_slots), omega (arith, h.few_awaits, h.few_code), omega arith)

  module _ (e : short_of (layout_of x blocks) n lent ≡ false) where
    abbrev no_scratch : Bool
    no_scratch = ltb n (scratch_words (layout_of x blocks))

    abbrev no_sets : Bool
    no_sets = ltb lent.sets (sets_words (layout_of x blocks))

    abbrev no_records : Bool
    no_records = ltb lent.records blocks

    scratch-long : scratch_words (layout_of x blocks) ≤ n
    scratch-long = ltb-false n (scratch_words (layout_of x blocks)) (or_no_left no_scratch no_sets (or_no_left (no_scratch || no_sets) no_records e))

    sets_long : sets_words (layout_of x blocks) ≤ lent.sets
    sets_long = ltb-false lent.sets (sets_words (layout_of x blocks)) (or_no_right no_scratch no_sets (or_no_left (no_scratch || no_sets) no_records e))

    records-long : blocks ≤ lent.records
    records-long = ltb-false lent.records blocks (or_no_right (no_scratch || no_sets) no_records e)

    pub has_room : Room (layout_of x blocks) n
    has_room = record { instructions = small.0; blocks = small.1; words = small.2; extra = omega arith; fits = scratch-long }

    pub has_sets : SetsRoom (layout_of x blocks) lent.sets
    has_sets = record { blocks = small.1; words = small.2; awaits = small.3; fits = sets_long }

    pub indexes_of : (w' : List ℕ) → length w' ≡ n → Indexed s x (scratch (layout_of x blocks) w') → Indexes s x lent w' (layout_of x blocks)
    indexes_of w' q g = record {
      fits = layout_fits;
      awaits = refl;
      room = subst (Room (layout_of x blocks)) (sym q) has_room;
      sets_room = has_sets;
      records = records-long;
      index = g;
    }

-- the charges of the first loop: one for each instruction
pub first-charges : (s : List ℕ) (x : Script) → Sound s x → (l : Limits) (b : FlowBudget)
    → charged l b (replicate x.count 1) ≡ charged l b (leader_charges (flow_code (parts_of s)))
first-charges s x h l b = ap (λ (k : ℕ). charged l b (replicate k 1)) (sym (code_length s x h))

-- the index built over cells
module _ {s : List ℕ} {x : Script} {l : Limits} {b : FlowBudget} {m m₁ : Mem} (h : Sound s x) where
  pub charges_met : {r : Charged} → Leads s x l b m m₁ r → charged l b (leader_charges (flow_code (parts_of s))) ≡ r
  charges_met g = sym (g.charges ∙ first-charges s x h l b)

  pub built_on : {y : Layout} {m' : Mem} {left : FlowBudget} {n : ℕ} → y ≡ marking x → Leads s x l b m m₁ (Ok left) → Numbered y.instructions m₁ m' n
      → IndexBuilt s x l b m' (Ok (n, left))
  built_on {y} {m'} {left} {n} q g d =
      let led = g.led left refl in
      let d' : Numbered x.count m₁ m' n = subst (λ (z : Layout). Numbered z.instructions m₁ m' n) q d in
      (charges_met g, blocks_are s x h m₁ led m' n d', indexed s x h m₁ m' led n d')

module _ (s : List ℕ) (x : Script) (l : Limits) (lent : Lent) (b : FlowBudget) (w w' : List ℕ) where
  -- what follows the charges
  abbrev rooms : FlowBudget → Staged
  rooms = rooms_of l (layout_of x (block_count (flow_code (parts_of s)))) (length w) lent

  -- all were met: the rooms decide
  pub counted_on : {left : FlowBudget} {m : Mem} {blocks : ℕ} {r : Staged} → Sound s x → IndexBuilt s x l b m (Ok (blocks, left))
      → scratch (marking x) w' ≡ m → length w' ≡ length w → r ≡ rooms_of l (layout_of x blocks) (length w) lent left → Counted s x l lent b w w' r
  counted_on {left} {m} {blocks} {r} h g c q e₀ = record {
    answer = e₀ ∙ ap (λ (k : ℕ). rooms_of l (layout_of x k) (length w) lent left) is ∙ ap (λ (d : Charged). if_met d rooms) (sym g.0);
    indexes = λ y left' e. yes_of y left' (rooms_yes l (layout_of x blocks) (length w) lent left y left' (sym e₀ ∙ e));
  }
    where
      is : blocks ≡ block_count (flow_code (parts_of s))
      is = g.1

      yes_of : (y : Layout) (left' : FlowBudget) → (layout_of x blocks ≡ y) × (short_of (layout_of x blocks) (length w) lent ≡ false)
          → Indexes s x lent w' y
      yes_of y left' (e, f) =
          subst (Indexes s x lent w') e
          (indexes_of s x h (length w) lent blocks is f w' q
          (indexed-grown s x (marking x) (layout_of x blocks) w' refl (subst (Indexed s x) (sym c) g.2)))

  -- the charge of 0 crossed the limit
  pub measured_over : (z : FlowBudget) → over z ≡ charged l b (0 ∷ []) → Measured s x l lent b w w' (stopped WorkLimit z)
  measured_over z e = record {
    answer = ap (λ (d : Charged). if_met d rooms) (sym (over_then l b (0 ∷ []) (leader_charges (flow_code (parts_of s))) (sym e)));
    indexes = λ y left q. absurd (IfOk-at_ok (λ _. ⊥) q tt);
  }

  -- it was met
  pub measured_on : (left : FlowBudget) (r : Staged) → Ok left ≡ charged l b (0 ∷ []) → Counted s x l lent left w w' r → Measured s x l lent b w w' r
  measured_on left r e g = record {
    answer = g.answer
        ∙ ap (λ (d : Charged). if_met d rooms) (sym (met_then l b (0 ∷ []) (leader_charges (flow_code (parts_of s))) (sym e)));
    indexes = g.indexes;
  }
