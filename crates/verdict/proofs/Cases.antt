-- The two refusals of `check_points` that are about paths, each with its budget: cases e and g of document 01, computed as whole runs. The
-- whole table, from the bytes, is in crate `outcome`. Assumes nothing.
use mathlib.Core.Path.{◌≡◌, refl}
use mathlib.Core.Bool.{Bool, true, false}
use mathlib.Core.List.{List, [], ◌∷◌, ◌++◌}
use Prim.Native.Nat.{ℕ}
use Rattle.dataflow.specs.Analyses.{initialization, liveness}
use Rattle.dataflow.specs.Lists.{elem}
use Rattle.dataflow.specs.Code.{Instruction}
use Rattle.dataflow.specs.Worklist.{run}
use Rattle.dataflow.specs.Framework.{solution}
use Rattle.dataflow.specs.FlowGraph.{init_at_entry, live_at_entry}
use Rattle.dataflow.specs.Search.{search, turns, sweep}
use Rattle.dataflow.specs.Charges.{leader_charges, operand_charges, reachability_charges, postorder_charges, propagate_charges}
use Rattle.budget.specs.declared.FlowBudget.{FlowBudget}
use Rattle.budget.specs.Budget.{todays, charged, retained}
use Rattle.format.specs.declared.refusal.Refusal.TheVariants.{UnfilledSlot, HostOverAwait}
use Rattle.verdict.specs.Points.{Checking, stop, if_paid, reads_run, await_run, point_run, awaits_run, block_run, blocks_run, points_run}

abbrev jump : List ℕ → List ℕ → Instruction
jump i t = record { inputs = i; outputs = []; emptied = []; ends = true; targets = t; is_await = false }

abbrev await : ℕ → ℕ → Instruction
await d s = record { inputs = s ∷ []; outputs = d ∷ []; emptied = []; ends = false; targets = []; is_await = true }

abbrev only : List ℕ → ℕ → Bool
only l s = elem s l

abbrev at : ℕ → ℕ → FlowBudget
at work retained = record { work = work; retained = retained }

-- every charge before `check_points`, then `check_points`
abbrev whole : List Instruction → (ℕ → Bool) → ℕ → ℕ → (ℕ → Bool) → Checking
whole code parameter words slots host =
    if_paid
    (charged todays (at 0 0)
    (0 ∷ (leader_charges code ++ (operand_charges code ++ (reachability_charges code ++ (postorder_charges code
    ++ (propagate_charges code parameter words initialization ++ propagate_charges code parameter words liveness)))))))
    (points_run code parameter todays words slots host)

pub record Cases : Type 0 where
  -- e: one slot, `Return` 0
  pub e : whole (jump (0 ∷ []) [] ∷ []) (only []) 1 1 (only []) ≡ stop UnfilledSlot (at 21 0)
  -- g: two slots, parameter 0 a host handle: `Await` D1 S0, `Return` 1
  pub g : whole (await 1 0 ∷ jump (1 ∷ []) [] ∷ []) (only (0 ∷ [])) 1 2 (only (0 ∷ [])) ≡ stop HostOverAwait (at 32 0)

pub cases : Cases
unfolding search turns sweep solution run init_at_entry live_at_entry charged retained reads_run await_run point_run awaits_run block_run blocks_run points_run
cases = record { e = refl; g = refl }
