-- Document 01's cases b to i, computed by the definitions: verdicts, sets, runs, and the work before `check_points`.
use mathlib.Core.Path.{◌≡◌, refl}
use mathlib.Core.Bool.{Bool, true, false}
use mathlib.Core.List.{List, [], ◌∷◌}
use Prim.Native.Nat.{ℕ, ◌+◌}
use lib.Dec.{lit≤}
use Rattle.dataflow.specs.Analyses.{initialization, liveness, live_along}
use Rattle.dataflow.specs.Lists.{elem, tabulate, sum}
use Rattle.dataflow.specs.Code.{Instruction, blocks, leaders, program, await_at}
use Rattle.dataflow.specs.Worklist.{unchanged, changed, run}
use Rattle.dataflow.specs.Framework.{solution}
use Rattle.dataflow.specs.FlowGraph.{init_at_entry, live_at_entry}
use Rattle.dataflow.specs.Search.{search, turns, sweep}
use Rattle.dataflow.specs.Results.{reachable, postorder, result, live_exit}
use Rattle.dataflow.specs.Demand.{Faulty}
use Rattle.dataflow.specs.Checked.{Checked}
use Rattle.dataflow.specs.Verdict.{accepts}
use Rattle.dataflow.specs.Charges.{leader_charges, operand_charges, reachability_charges, postorder_charges, propagate_charges}
use Rattle.dataflow.proofs.Checked.{checks_checked}
use Rattle.dataflow.proofs.Verdict.{accepts_iff, refuses_faulty}

abbrev plain : List ℕ → List ℕ → Instruction
plain i o = record { inputs = i; outputs = o; emptied = []; ends = false; targets = []; is_await = false }

abbrev jump : List ℕ → List ℕ → Instruction
jump i t = record { inputs = i; outputs = []; emptied = []; ends = true; targets = t; is_await = false }

abbrev await : ℕ → ℕ → Instruction
await d s = record { inputs = s ∷ []; outputs = d ∷ []; emptied = []; ends = false; targets = []; is_await = true }

abbrev only : List ℕ → ℕ → Bool
only l s = elem s l

-- the work of all stages before `check_points`, without the first charge, of 0
abbrev work : List Instruction → (ℕ → Bool) → ℕ → ℕ
work code parameter words =
    sum (leader_charges code) + sum (operand_charges code) + sum (reachability_charges code) + sum (postorder_charges code)
    + sum (propagate_charges code parameter words initialization) + sum (propagate_charges code parameter words liveness)

abbrev code_b : List Instruction
code_b = jump [] [] ∷ []

abbrev code_c : List Instruction
code_c = plain [] (0 ∷ []) ∷ jump (0 ∷ []) [] ∷ []

abbrev code_d : List Instruction
code_d = await 1 0 ∷ jump (1 ∷ []) [] ∷ []

abbrev code_e : List Instruction
code_e = jump (0 ∷ []) [] ∷ []

abbrev code_f : List Instruction
code_f = await 0 0 ∷ jump (0 ∷ []) [] ∷ []

abbrev code_h : List Instruction
code_h = jump (0 ∷ []) (1 ∷ 3 ∷ []) ∷ plain [] (1 ∷ []) ∷ jump [] (4 ∷ []) ∷ jump [] (4 ∷ []) ∷ jump (1 ∷ []) [] ∷ []

abbrev code_h' : List Instruction
code_h' = jump (0 ∷ []) (1 ∷ 3 ∷ []) ∷ plain [] (1 ∷ []) ∷ jump [] (4 ∷ []) ∷ plain [] (1 ∷ []) ∷ jump (1 ∷ []) [] ∷ []

abbrev code_i : List Instruction
code_i = jump [] [] ∷ jump (0 ∷ []) [] ∷ []

-- ── Blocks ──

blocks-h : blocks code_h' ≡ (0 ∷ []) ∷ (1 ∷ 2 ∷ []) ∷ (3 ∷ []) ∷ (4 ∷ []) ∷ []
blocks-h = refl

-- an unreachable block is a block too
blocks-i : leaders code_i ≡ 0 ∷ 1 ∷ []
blocks-i = refl

-- ── Verdicts ──

case_b : accepts code_b (only []) 0 0 (only []) ≡ true
unfolding accepts search sweep solution run init_at_entry live_at_entry
case_b = refl

case_c : accepts code_c (only []) 1 1 (only []) ≡ true
unfolding accepts search sweep solution run init_at_entry live_at_entry
case_c = refl

case_d_lem : accepts code_d (only (0 ∷ [])) 1 2 (only []) ≡ true
unfolding accepts search sweep solution run init_at_entry live_at_entry
case_d_lem = refl

-- its await set is {0}
case_d_set : tabulate 0 2 (λ s. live_along (program code_d (only (0 ∷ []))) s (live_exit code_d (only (0 ∷ [])) 1 0 s) (0 ∷ 1 ∷ [])) ≡ true ∷ false ∷ []
unfolding search sweep solution run live_at_entry
case_d_set = refl

case_e : accepts code_e (only []) 1 1 (only []) ≡ false
unfolding accepts search sweep solution run init_at_entry live_at_entry
case_e = refl

case_f : accepts code_f (only (0 ∷ [])) 1 1 (only []) ≡ true
unfolding accepts search sweep solution run init_at_entry live_at_entry
case_f = refl

case_g : accepts code_d (only (0 ∷ [])) 1 2 (only (0 ∷ [])) ≡ false
unfolding accepts search sweep solution run init_at_entry live_at_entry
case_g = refl

case_h : accepts code_h (only (0 ∷ [])) 1 2 (only []) ≡ false
unfolding accepts search sweep solution run init_at_entry live_at_entry
case_h = refl

case_h_accepted : accepts code_h' (only (0 ∷ [])) 1 2 (only []) ≡ true
unfolding accepts search sweep solution run init_at_entry live_at_entry
case_h_accepted = refl

case_i : accepts code_i (only []) 1 1 (only []) ≡ true
unfolding accepts search sweep solution run init_at_entry live_at_entry
case_i = refl

-- "block 1 unreachable, its initialized word all ones, its live word zero"
case_i_reachable : reachable code_i 1 ≡ false
unfolding sweep
case_i_reachable = refl

case_i_init : (result code_i (only []) 1 initialization).sets ≡ tabulate 0 64 (λ s. false) ∷ tabulate 0 64 (λ s. true) ∷ []
unfolding search sweep solution run
case_i_init = refl

case_i_live : (result code_i (only []) 1 liveness).sets ≡ tabulate 0 64 (λ s. false) ∷ tabulate 0 64 (λ s. false) ∷ []
unfolding search sweep solution run
case_i_live = refl

-- ── Runs ──

order-h : postorder code_h ≡ 3 ∷ 1 ∷ 2 ∷ 0 ∷ []
unfolding search
order-h = refl

visits-h : (result code_h (only (0 ∷ [])) 1 liveness).trace ≡ changed 0 ∷ changed 2 ∷ unchanged 1 ∷ changed 3 ∷ []
unfolding search sweep solution run
visits-h = refl

-- What is left of document 01's figures (b 14, c 27, d 32) is charged by `check_points`: 2 for b; 2 × (1 + 2) for c; 2 × (2 + 2) and the
-- two slots for d.
work-b : work code_b (only []) 0 + 2 ≡ 14
unfolding search turns sweep solution run
work-b = refl

work-c : work code_c (only []) 1 + 6 ≡ 27
unfolding search turns sweep solution run
work-c = refl

work-d : work code_d (only (0 ∷ [])) 1 + 10 ≡ 32
unfolding search turns sweep solution run
work-d = refl

-- ── What the laws say of them ──

-- the side conditions can be met
checked-d : Checked code_d (only (0 ∷ [])) 2
checked-d = checks_checked code_d (0 ∷ []) 2 refl

sound-d : ¬ (Faulty (program code_d (only (0 ∷ []))) (await_at code_d) (only []))
sound-d = (accepts_iff code_d (only (0 ∷ [])) 2 1 checked-d (lit≤ tt) (only [])).0 case_d_lem

-- with a host slot: the await and its least set are given
faulty_g : Faulty (program code_d (only (0 ∷ []))) (await_at code_d) (only (0 ∷ []))
faulty_g = refuses_faulty code_d (only (0 ∷ [])) 2 1 checked-d (lit≤ tt) (only (0 ∷ [])) case_g

faulty_e : Faulty (program code_e (only [])) (await_at code_e) (only [])
faulty_e = refuses_faulty code_e (only []) 1 1 (checks_checked code_e [] 1 refl) (lit≤ tt) (only []) case_e
