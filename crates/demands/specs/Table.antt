-- Document 01's refusal table with its last paragraph, row by row: which answer is due for these bytes, with these parameters, limits, lent lengths
-- and budget. Rows 1 to 9 and 17 are `refusal`, whose rows stand in crates/sheet/specs/Rows.antt. The law `table` says that each answer is given exactly if
-- it is due.
use Rattle.std.specs.Prelude.{◌≡◌, Bool, true, false, List, ℕ, ◌*◌, ◌≤◌, ◌<◌, length, Ok}
use Rattle.std.proofs.Math.Option.{none, some}
use Rattle.dataflow.specs.Charges.{counting_charges, building_charges, fixed_points_charges}
use Rattle.dataflow.specs.Results.{block_count}
use Rattle.budget.specs.declared.FlowBudget.{FlowBudget}
use Rattle.budget.specs.declared.Limits.{Limits}
use Rattle.budget.specs.Budget.{charged, over, state_bytes}
use Rattle.format.specs.declared.refusal.Refusal.{Refusal}
use Rattle.format.specs.declared.refusal.Refusal.TheVariants.{NoRoom, StateLimit, WorkLimit, UnfilledSlot, HostOverAwait, FactsLimit}
use Rattle.sizes.specs.declared.Layout.{Layout}
use Rattle.sizes.specs.Sizes.{layout_of, short_of}
use Rattle.sheet.specs.Decode.{refusal, id_of}
use Rattle.sheet.specs.Scripts.{script_of}
use Rattle.verdict.specs.Points.{Checking, stop, on, points_run, points}
use Rattle.outcome.specs.Outcome.{Lengths, Outcome, accepted, refused}
use Rattle.demands.specs.Demands.{code, host}

module _ (s : List ℕ) (parameter : ℕ → Bool) (l : Limits) (n : Lengths) (b : FlowBudget) where
  -- N, B and w of the script
  abbrev pub layout : Layout
  layout = layout_of (script_of s) (block_count (code s))

  abbrev pub short : Bool
  short = short_of layout n.scratch (record { sets = n.sets; records = n.records })

  -- 1 to 9 and 17 are not due, nor is the early 10: "then scratch below 4 × N words is 10"
  pub record Begins : Type 0 where
    pub passed : refusal s ≡ none
    pub room : 4 * layout.instructions ≤ n.scratch

  -- then `graph` charges for its first loop, and this budget is left
  pub record Counts (left : FlowBudget) : Type 0 where
    pub begins : Begins
    pub paid : charged l b (counting_charges (code s)) ≡ Ok left

  -- then neither 11 nor the later 10 is due: "other lack of room is 10 right after 11"
  pub record Fits (left : FlowBudget) : Type 0 where
    pub counts : Counts left
    pub state : state_bytes layout.blocks layout.words ≤ l.state
    pub room : short ≡ false

  -- then the rest of `graph`, and `reachability`
  pub record Builds (left : FlowBudget) : Type 0 where
    pub before : FlowBudget
    pub fits : Fits before
    pub paid : charged l before (building_charges (code s)) ≡ Ok left

  -- then `fixed_points`
  pub record Solves (left : FlowBudget) : Type 0 where
    pub before : FlowBudget
    pub builds : Builds before
    pub paid : charged l before (fixed_points_charges (code s) parameter layout.words) ≡ Ok left

  -- then `check_points`, which ends like this
  pub record Checks (end : Checking) : Type 0 where
    pub before : FlowBudget
    pub solves : Solves before
    pub is : points_run (code s) parameter l layout.words (script_of s).slots (host s) before ≡ end

  -- "A refusal returns number, function id .. and budget: as given for 1 to 9 and the early 10, otherwise as charged, the sum that crossed a limit
  -- included. An acceptance returns function id, B, the number of reachable awaits and the budget."
  pub data Due : Outcome → Type 0 where
    -- 1 to 9 and 17, with the budget as given
    bad_sheet : (r : Refusal) → refusal s ≡ some r → Due (refused r (id_of s) b)
    -- 10, early and later
    no_room_early : refusal s ≡ none → n.scratch < 4 * layout.instructions → Due (refused NoRoom (id_of s) b)
    no_room : (left : FlowBudget) → Counts left → state_bytes layout.blocks layout.words ≤ l.state → short ≡ true → Due (refused NoRoom (id_of s) left)
    -- 11
    state_limit : (left : FlowBudget) → Counts left → l.state < state_bytes layout.blocks layout.words → Due (refused StateLimit (id_of s) left)
    -- 12: in the first loop of `graph`, in its rest or `reachability`, in `fixed_points`, in `check_points`
    work_counting : (spent : FlowBudget) → Begins → charged l b (counting_charges (code s)) ≡ over spent → Due (refused WorkLimit (id_of s) spent)
    work_building : (before spent : FlowBudget) → Fits before → charged l before (building_charges (code s)) ≡ over spent
        → Due (refused WorkLimit (id_of s) spent)
    work_solving : (before spent : FlowBudget) → Builds before
        → charged l before (fixed_points_charges (code s) parameter layout.words) ≡ over spent → Due (refused WorkLimit (id_of s) spent)
    work_checking : (spent : FlowBudget) → Checks (stop WorkLimit spent) → Due (refused WorkLimit (id_of s) spent)
    -- 13, 14, 15
    unfilled_slot : (left : FlowBudget) → Checks (stop UnfilledSlot left) → Due (refused UnfilledSlot (id_of s) left)
    host_over_await : (left : FlowBudget) → Checks (stop HostOverAwait left) → Due (refused HostOverAwait (id_of s) left)
    facts_limit : (spent : FlowBudget) → Checks (stop FactsLimit spent) → Due (refused FactsLimit (id_of s) spent)
    -- acceptance
    acceptance : (left : FlowBudget) → Checks (on left)
        → Due (accepted (id_of s) layout.blocks (length (points (code s) parameter layout.words)) left)
