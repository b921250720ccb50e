-- `solve`: what its calls ask for, and what it does by what they do. Assumes nothing.
use mathlib.Core.Path.{◌≡◌, sym, ap, subst, ◌∙◌}
use mathlib.Core.Bool.{Bool}
use mathlib.Core.List.{List}
use Prim.Native.Nat.{ℕ, ◌*◌, ◌-◌, ◌^◌, ◌≤◌, ◌<◌}
use native.Mathlib.Omega.{arith}
use Rattle.std.specs.Prelude.{Ok, Err}
use Rattle.budget.specs.declared.FlowBudget.{FlowBudget}
use Rattle.budget.specs.declared.Limits.{Limits}
use Rattle.budget.specs.declared.OverWork.{OverWork}
use Rattle.budget.specs.Budget.{Charged, charged}
use Rattle.format.specs.declared.refusal.Refusal.TheVariants.{WorkLimit}
use Rattle.memory.specs.Cells.{Mem}
use Rattle.memory.specs.Names.{offset_cell, parameters_row}
use Rattle.sizes.specs.declared.Layout.{Layout}
use Rattle.sizes.specs.declared.Stopped.{Stopped}
use Rattle.sizes.specs.Stages.{halt}
use Rattle.memory.proofs.CellLaws.{same_word}
use Rattle.sheet.specs.declared.script.Script.{Script}
use Rattle.sheet.specs.Decode.{parts_of}
use Rattle.instructions.specs.Sound.{Sound}
use Rattle.script.specs.Script.{flow_code}
use Rattle.script.proofs.ScriptLaws.{code_length}
use Rattle.edges.proofs.FlowLaws.{Still, still-then, flows-still}
use Rattle.blocks.specs.Blocks.{Block}
use Rattle.starts.proofs.ScriptedLaws.{scripted}
use Rattle.fixed_points.specs.FixedPoints.{Fixed}
use Rattle.dataflow.specs.Checked.{Scripted}
use Rattle.dataflow.specs.Charges.{fixed_points_charges}
use Rattle.fixed_points.specs.Stages.{Flowing}
use Rattle.fixed_points.proofs.Gathered.{fixed_still}
use Rattle.bitset.specs.Sets.{member}
use Rattle.reads.specs.Reads.{held_set, Counting, checking_of}
use Rattle.check_points.specs.CheckPoints.{Solved, PointsChecked}
use Rattle.check_points.proofs.SolvedLaws.{still-running, sets-kept}
use Rattle.outcome.specs.Outcome.{accepted, after_points, after_rounds}
use Rattle.judge.specs.declared.Judged.{Judged}
use Rattle.judge.specs.Judge.{Begun, Hosted, Finished, Solves}
use Rattle.judge.proofs.CellsKept.{block-still, all-costs}

-- ---- the stages

module _ (s : List ℕ) (parameter : ℕ → Bool) (x : Script) (y : Layout) (m t : Mem) (begun : Begun s parameter x y m t) where
  -- the code meets what `fixed_points` asks of it
  scripted-here : Scripted (flow_code (parts_of s)) parameter y.words
  scripted-here = scripted s x begun.sound parameter begun.below y.words begun.fits.slots

  -- the words hold the graph of that code
  pub flowing : Flowing y m
  flowing = (flow_code (parts_of s), parameter, scripted-here, begun.holding.flows)

  module _ (l : Limits) (b : FlowBudget) (m₁ t₁ : Mem) (c : Charged) (f : Fixed y l b m m₁ t t₁ c) where
    -- the charges of both rounds are those of the code
    rounds-charged : c ≡ charged l b (fixed_points_charges (flow_code (parts_of s)) parameter y.words)
    rounds-charged =
        f.charges (flow_code (parts_of s)) parameter scripted-here begun.holding.flows begun.fresh

    -- a charge of the rounds crossed the limit
    pub solves_over : (e : OverWork) (m' t' : Mem) → c ≡ Err e → Solves s parameter x y l b m' t' (Err (halt WorkLimit e.budget))
    solves_over e m' t' eo = record {
      answer = ap (after_rounds s parameter x l y) (sym eo ∙ rounds-charged);
      finished = λ j q. let o : ◌≡◌ {A = ℕ} 0 1 = cc in absurd (omega arith);
    }

    -- all were met, and then the row of the host slots was stored where it is asked for
    module _ (left : FlowBudget) (ec : c ≡ Ok left) (m₂ : Mem)
        (eh : Hosted s x y m₁ m₂) where
      -- the rounds leave what the words hold of the script
      rounds-still : Still y m m₁
      rounds-still = fixed_still f ec

      -- so does that store
      hosts-still : Still y m₁ m₂
      hosts-still = record {
        low = λ k lt. eh.others k (λ e. omega arith);
        edges = λ k lo hi. eh.others k (λ e. omega arith);
        parameters = eh.others (parameters_row y.blocks) (λ e. omega arith);
      }

      still : Still y m m₂
      still = still-then rounds-still hosts-still

      -- each block
      block_here : (d : ℕ) → d < y.blocks → Block (flow_code (parts_of s)) parameter m₂ d
      block_here d lt = block-still still d lt (begun.holding.block d lt)

      -- the words hold what `check_points` works on
      pub solved : Solved s parameter x y m₂ t₁
      solved = record {
        coded = record {
          sound = begun.sound;
          instructions = begun.fits.instructions;
          slots = begun.fits.slots;
          offsets = λ i lt. same_word i (still.low offset_cell (omega arith)) ∙ begun.holding.index.offsets i lt;
          costs = λ i lt. all-costs y begun.fits.blocks block_here i (omega (arith, code_length s x begun.sound));
          hosts = λ some. eh.row (subst (λ (n : ℕ). 0 < n) begun.awaits some);
        };
        scripted = scripted-here;
        flows = flows-still still begun.holding.flows;
        starts = λ d lt. (block_here d lt).words.start;
        ends = λ d lt. (block_here d lt).words.end;
        sets = f.sets (flow_code (parts_of s)) parameter scripted-here begun.holding.flows begun.fresh left ec;
        awaits = begun.awaits;
      }

      -- their row holds the parameters still
      held-still : held_set y m ≡ parameter → held_set y m₂ ≡ parameter
      held-still h = ap member still.parameters ∙ h

      -- what `check_points` asks
      pub points_ask : held_set y m ≡ parameter → Solved s (held_set y m₂) x y m₂ t₁
      points_ask h = subst (λ (set : ℕ → Bool). Solved s set x y m₂ t₁) (sym (held-still h)) solved

      module _ (held : held_set y m ≡ parameter) (m₃ t₃ : Mem) (p : Counting) (checked : PointsChecked s (held_set y m₂) x y l left m₂ m₃ t₁ t₃ p) where
        -- what it does, with those parameters
        g : PointsChecked s parameter x y l left m₂ m₃ t₁ t₃ p
        g = subst (λ (set : ℕ → Bool). PointsChecked s set x y l left m₂ m₃ t₁ t₃ p) (held-still held) checked

        -- `check_points` leaves what the words hold of the script
        points-still : Still y m₂ m₃
        points-still = still-running (record { others = g.others })

        -- where it passed, the words hold all of a script that is accepted
        all_finished : (n : ℕ) (last : FlowBudget) → p ≡ Ok (n, last) → Finished s parameter y m₃ t₃
        all_finished n last e = record {
          block = λ d lt. block-still points-still d lt (block_here d lt);
          flows = flows-still points-still solved.flows;
          both = sets-kept (g.rows n last e) solved.sets;
          facts = g.entries n last e;
        }

        -- what follows its answer
        points-answer : after_points s parameter x l y (checking_of p)
            ≡ after_rounds s parameter x l y (charged l b (fixed_points_charges (flow_code (parts_of s)) parameter y.words))
        points-answer = ap (after_points s parameter x l y) g.answer ∙ ap (after_rounds s parameter x l y) (sym ec ∙ rounds-charged)

        -- it refused
        pub solves_refused : (e : Stopped) → p ≡ Err e → Solves s parameter x y l b m₃ t₃ (Err e)
        solves_refused e q = record {
          answer = ap (λ (r : Counting). after_points s parameter x l y (checking_of r)) (sym q) ∙ points-answer;
          finished = λ j o. let o : ◌≡◌ {A = ℕ} 0 1 = cc in absurd (omega arith);
        }

        -- it passed, and counts the awaits
        pub solves_on : (n : ℕ) (last : FlowBudget) → p ≡ Ok (n, last)
            → Solves s parameter x y l b m₃ t₃ (Ok (record { layout = y; awaits = n; budget = last }))
        solves_on n last q = record {
          answer = ap (λ (k : ℕ). accepted x.id y.blocks k last) (g.count n last q)
              ∙ ap (λ (r : Counting). after_points s parameter x l y (checking_of r)) (sym q) ∙ points-answer;
          finished = λ j e. let same : ◌≡◌ {A = Judged} (record { layout = y; awaits = n; budget = last }) j = cc in
              (ap (λ (z : Judged). z.layout) (sym same), all_finished n last q);
        }
