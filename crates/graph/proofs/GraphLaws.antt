-- The stages one after the other: what each does, from what its calls do. Assumes nothing.
use mathlib.Core.Path.{◌≡◌, refl, sym, ap, subst, ◌∙◌}
use mathlib.Core.Bool.{Bool}
use mathlib.Core.List.{List}
use Prim.Native.Nat.{ℕ, ◌<◌}
use native.Mathlib.Omega.{arith}
use lib.ListN.{length}
use Rattle.std.proofs.lemmas.Result.{IfOk-at_ok}
use Rattle.bitset.specs.Sets.{member}
use Rattle.dataflow.specs.Code.{block_successors}
use Rattle.dataflow.specs.Charges.{operand_charges, reachability_charges, building_charges}
use Rattle.budget.specs.declared.FlowBudget.{FlowBudget}
use Rattle.budget.specs.declared.Limits.{Limits}
use Rattle.std.specs.Prelude.{Ok, Err}
use Rattle.budget.specs.declared.OverWork.{OverWork}
use Rattle.budget.specs.Budget.{Charged, charged}
use Rattle.budget.proofs.BudgetLaws.{met_then, over_then, over-not_ok}
use Rattle.run.specs.Terms.{Bounded}
use Rattle.memory.specs.Cells.{Mem, cell}
use Rattle.memory.specs.Names.{offset_cell, block_of_cell, leader_cell, parameters_row}
use Rattle.sizes.specs.declared.Layout.{Layout}
use Rattle.memory.specs.Scratch.{scratch, Room, Whole}
use Rattle.memory.specs.Sets.{sets}
use Rattle.memory.proofs.CellLaws.{cell-store_same}
use Rattle.memory.proofs.FrameLaws.{only_row}
use Rattle.memory.proofs.ScratchLaws.{sized_among}
use Rattle.sheet.specs.declared.script.Script.{Script}
use Rattle.sheet.specs.Decode.{parts_of}
use Rattle.instructions.specs.Sound.{Sound}
use Rattle.script.specs.Script.{flow_code}
use Rattle.edges.specs.Edges.{Holds, Held}
use Rattle.edges.specs.Predecessors.{Linked}
use Rattle.edges.specs.Reachability.{Reached, sweep_charges}
use Rattle.edges.specs.Flow.{Fresh}
use Rattle.blocks.specs.Blocks.{Ready}
use Rattle.blocks.specs.Blocks as building
use Rattle.blocks.proofs.KeptLaws.{ready_kept}
use Rattle.sizes.specs.declared.Stopped.{Stopped}
use Rattle.rooms.specs.Rooms.{Indexes, Measured}
use Rattle.sizes.specs.Stages.{Staged, if_met, if_ok, stage, graph_of}
use Rattle.graph.specs.Graph.{Holding, Graphed, Parameters, Joined, Built, BuiltCells}
use Rattle.graph.proofs.HoldingLaws.{some_block, blocks_hold, joined_hold, all_held}

-- ---- `join`

-- the predecessors, then the row
pub joined : {parameter : ℕ → Bool} {y : Layout} {m m₁ m₂ : Mem} → Whole y m₁ → Linked y m m₁ → Parameters parameter y m₁ m₂
    → Joined parameter y m m₂
joined {y = y} {m₁ = m₁} z f e = record {
  between = m₁;
  linked = f;
  parameters = λ i. ap (λ (r : List ℕ). member r i) (ap (λ (v : Mem). cell v (parameters_row y.blocks)) e.stored
      ∙ cell-store_same m₁ (parameters_row y.blocks) e.row (sized_among y z (omega arith))) ∙ e.members i;
  only = only_row (parameters_row y.blocks) e.row (omega arith) e.stored;
}

-- ---- charges in two stages

-- where the answer goes on, the charges were met, and the layout is the same
pub staged_met : (c : Charged) (y y' : Layout) (left : FlowBudget) → if_met c (λ z. Ok (y, z)) ≡ Ok (y', left) → (c ≡ Ok left) × (y ≡ y')
staged_met (Ok b) y y' left e =
    let same : ◌≡◌ {A = Layout × FlowBudget} (y, b) (y', left) = cc in
    (ap (λ (r : Layout × FlowBudget). Ok r.1) same, ap (λ (r : Layout × FlowBudget). r.0) same)
staged_met (Err e) y y' left q = absurd (IfOk-at_ok (λ _. ⊥) q tt)

-- ---- `build_cells`

module _ {s : List ℕ} {x : Script} {y : Layout} {l : Limits} {b : FlowBudget} {m m₁ t t₁ : Mem} where
  -- a charge of the second loop crossed the limit
  pub built_over : {parameter : ℕ → Bool} {e : OverWork} {r : Charged} → building.Built (flow_code (parts_of s)) y l b m m₁ t t₁ (Err e) → r ≡ Err e
      → BuiltCells s parameter x y l b m m₁ t₁ r
  built_over g q = rw q (record {
    answer = sym (over_then l b (operand_charges (flow_code (parts_of s))) (reachability_charges (flow_code (parts_of s))) (sym g.charges));
    holding = λ left q. absurd (over-not_ok q);
    fresh = λ left q. absurd (over-not_ok q);
  })

  -- all were met
  module _ {left : FlowBudget} (g : building.Built (flow_code (parts_of s)) y l b m m₁ t t₁ (Ok left)) (ready : Ready s x y m) where
    -- the index stays
    ready_still : Ready s x y m₁
    ready_still = ready_kept ready (g.only.named offset_cell refl) (g.only.named block_of_cell refl) (g.only.named leader_cell refl)

    -- what `join` asks for
    pub join_held : Held y m₁
    join_held = (block_successors (flow_code (parts_of s)), blocks_hold s x y m₁ ready_still (g.blocks left refl))

    -- there is a block to begin at
    pub block_there : 0 < y.blocks
    block_there = some_block s x y m₁ ready_still (g.blocks left refl)

    module _ {parameter : ℕ → Bool} {m₂ : Mem} (j : Joined parameter y m₁ m₂) where
      -- the edges are still held
      still-holds : Holds (block_successors (flow_code (parts_of s))) y m₂
      still-holds = joined_hold s x y m₁ ready_still (g.blocks left refl) parameter m₂ j

      -- so `reachability` may follow
      pub reach_held : Held y m₂
      reach_held = (block_successors (flow_code (parts_of s)), still-holds)

      -- the reachable blocks are marked, or a charge of that crossed the limit
      pub built_on : {m₃ : Mem} {r : Charged} → Reached y l left m₂ m₃ r → BuiltCells s parameter x y l b m m₃ t₁ r
      built_on {m₃} {r} f = record {
        answer = f.charges (block_successors (flow_code (parts_of s))) still-holds
            ∙ ap (λ (n : ℕ). charged l left (sweep_charges (block_successors (flow_code (parts_of s))) n)) ready.fits.blocks
            ∙ sym (met_then l b (operand_charges (flow_code (parts_of s))) (reachability_charges (flow_code (parts_of s))) (sym g.charges));
        holding = λ left' q. all_held s x y m₁ ready_still (g.blocks left refl) parameter m₂ j l left left' m₃ r f q;
        fresh = λ left' q. record {
          initialized = λ d h. (g.fresh left refl d h).initialized;
          live = λ d h. (g.fresh left refl d h).live;
        };
      }

-- ---- `build`

-- what the cells hold is what the words hold, and the layout stays
pub built : {s : List ℕ} {parameter : ℕ → Bool} {x : Script} {y : Layout} {l : Limits} {b : FlowBudget} {m m' t' : Mem} (r : Charged)
    → BuiltCells s parameter x y l b m m' t' r → Built s parameter x y l b m m' t' (if_met r (λ left. Ok (y, left)))
built {y = y} r g = record {
  answer = ap (λ (d : Charged). if_met d (λ left. Ok (y, left))) g.answer;
  holding = λ y' left q. g.holding left (staged_met r y y' left q).0;
  fresh = λ y' left q. g.fresh left (staged_met r y y' left q).0;
}

-- as the code has it: the words are read as cells before, and again after
pub built_words : {s : List ℕ} {parameter : ℕ → Bool} {x : Script} {y y' : Layout} {l l' : Limits} {b b' left left' : FlowBudget} {m m₁ t₁ : Mem}
    (w w₁ v₁ : List ℕ) → y' ≡ y → l' ≡ l → b ≡ b' → m ≡ scratch y w → scratch y w₁ ≡ m₁ → sets y v₁ ≡ t₁ → left' ≡ left
    → BuiltCells s parameter x y l b m m₁ t₁ (Ok left)
    → Built s parameter x y' l' b' (scratch y' w) (scratch y' w₁) (sets y' v₁) (Ok (y', left'))
built_words {left = left} w w₁ v₁ ey el eb em es et e g = rw (ey, el, ← eb, ← em, es, et, e) (built (Ok left) g)

-- ---- `graph`

-- what `measure` does, with sets of n words
abbrev Before : List ℕ → Script → Limits → ℕ → FlowBudget → List ℕ → List ℕ → ℕ → Staged → Type 0
Before s x l records b w w₁ n r = Measured s x l (record { sets = n; records = records }) b w w₁ r

module _ {s : List ℕ} {x : Script} {l : Limits} {records n : ℕ} {b : FlowBudget} {w w₁ : List ℕ} where
  -- the answer is what follows that of `measure`
  answer-on : (c : Staged) → Before s x l records b w w₁ n c → if_ok c (stage l (building_charges (flow_code (parts_of s))))
      ≡ graph_of (flow_code (parts_of s)) x l (record { sets = n; records = records }) (length w) b
  unfolding graph_of
  answer-on c g = ap (λ (d : Staged). if_ok d (stage l (building_charges (flow_code (parts_of s))))) g.answer

  module _ {y : Layout} {left : FlowBudget} (g : Before s x l records b w w₁ n (Ok (y, left))) where
    -- what `measure` left behind
    pub indexes : Indexes s x (record { sets = n; records = records }) w₁ y
    indexes = g.indexes y left refl

    -- what `build` asks for
    pub build_ready : Sound s x → Ready s x y (scratch y w₁)
    build_ready sound = record { sound = sound; fits = indexes.fits; index = indexes.index }

    -- the layout is that of a script that passed the checks
    pub build_bounded : Bounded y
    build_bounded = record {
      instructions = indexes.room.instructions;
      blocks = indexes.room.blocks;
      words = indexes.room.words;
      awaits = indexes.sets_room.awaits;
      extra = indexes.room.extra;
    }

module _ {s : List ℕ} {parameter : ℕ → Bool} {x : Script} {l : Limits} {records : ℕ} {b : FlowBudget} {w w₁ : List ℕ} (v v' : List ℕ) where
  -- refused before the blocks are built
  pub graphed_refused : {e : Stopped} {r : Staged} → Before s x l records b w w₁ (length v) (Err e) → r ≡ Err e
      → Graphed s parameter x l records b w w₁ v v' r
  graphed_refused {e} g q = rw q (record {
    answer = answer-on (Err e) g;
    rooms = λ y left u. absurd (IfOk-at_ok (λ _. ⊥) u tt);
    holding = λ y left u. absurd (IfOk-at_ok (λ _. ⊥) u tt);
    fresh = λ y left u. absurd (IfOk-at_ok (λ _. ⊥) u tt);
  })

  -- the blocks are built, or a charge of that crossed the limit
  pub graphed_on : {y : Layout} {left : FlowBudget} {w₂ w₃ v₃ : List ℕ} {r : Staged} → Before s x l records b w w₁ (length v) (Ok (y, left))
      → length w₂ ≡ length w₁ → Built s parameter x y l left (scratch y w₁) (scratch y w₂) (sets y v') r → w₃ ≡ w₂ → v₃ ≡ v'
      → Graphed s parameter x l records b w w₃ v v₃ r
  graphed_on {y} {left} {w₂} {r = r} g long f e₁ e₂ = rw (e₁, e₂) (record {
    answer = f.answer ∙ answer-on (Ok (y, left)) g;
    rooms = λ y' left' q. subst (λ (z : Layout). Indexes s x (record { sets = length v; records = records }) w₂ z) (same y' left' q)
        (record {
          fits = (indexes g).fits;
          awaits = (indexes g).awaits;
          room = subst (λ (n : ℕ). Room y n) (sym long) (indexes g).room;
          sets_room = (indexes g).sets_room;
          records = (indexes g).records;
          index = (f.holding y' left' q).index;
        });
    holding = λ y' left' q. subst (λ (z : Layout). Holding s parameter x z (scratch z w₂)) (same y' left' q) (f.holding y' left' q);
    fresh = λ y' left' q. subst (λ (z : Layout). Fresh z (sets z v')) (same y' left' q) (f.fresh y' left' q);
  })
    where
      same : (y' : Layout) (left' : FlowBudget) → r ≡ Ok (y', left') → y ≡ y'
      same y' left' q =
          (staged_met (charged l left (building_charges (flow_code (parts_of s)))) y y' left'
          (sym f.answer ∙ q)).1
