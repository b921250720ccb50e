-- `judge`: what its calls ask for, and what it does by what they do. Assumes nothing.
use mathlib.Core.Path.{◌≡◌, refl, sym, ap, subst, fun_ext, ◌∙◌}
use mathlib.Core.Bool.{Bool, true}
use mathlib.Core.List.{List}
use Prim.Native.Nat.{ℕ, ◌+◌, ◌*◌, ◌-◌, ◌/◌, ◌^◌, ◌≤◌, ◌<◌}
use native.Mathlib.Omega.{arith}
use borrow.Author.Tests.{lt-ltb, le-ltb}
use lib.ListN.{length}
use Rattle.std.specs.Prelude.{Result, Ok, Err}
use Rattle.dataflow.specs.Lists.{pick}
use Rattle.dataflow.specs.Charges.{counting_charges, building_charges}
use Rattle.dataflow.specs.Results.{block_count}
use Rattle.budget.specs.declared.FlowBudget.{FlowBudget}
use Rattle.budget.specs.declared.Limits.{Limits}
use Rattle.budget.specs.Budget.{Charged, charged}
use Rattle.format.specs.declared.refusal.Refusal.TheVariants.{NoRoom}
use Rattle.sizes.specs.declared.Layout.{Layout}
use Rattle.memory.specs.Scratch.{scratch, Room}
use Rattle.memory.specs.Sets.{sets, SetsRoom}
use Rattle.sheet.specs.declared.script.Script.{Script}
use Rattle.sheet.specs.Decode.{parts_of}
use Rattle.script.specs.Script.{flow_code}
use Rattle.instructions.specs.Sound.{Sound}
use Rattle.sizes.specs.declared.Lent.{Lent}
use Rattle.sizes.specs.declared.Stopped.{Stopped}
use Rattle.rooms.specs.Rooms.{Indexes}
use Rattle.sizes.specs.Stages.{Staged, halt, rooms_of, if_met, if_ok, stage, graph_of}
use Rattle.sizes.specs.Sizes.{layout_of, scratch_words, sets_words}
use Rattle.run.specs.Terms.{Bounded}
use Rattle.sizes.proofs.StageLaws.{rooms_yes}
use Rattle.reads.specs.Reads.{held_set}
use Rattle.graph.specs.Graph.{Graphed}
use Rattle.graph.proofs.GraphLaws.{staged_met}
use Rattle.outcome.specs.Outcome.{lengths_with, Outcome, refused, after_graph, judged}
use Rattle.judge.specs.declared.Judged.{Judged}
use Rattle.judge.specs.Judge.{Begun, Solves, AcceptedWords, Judges}

-- ---- where `graph` goes on, its layout is that of the script

-- behind the rooms
rooms-layout : (l : Limits) (y : Layout) (n : ℕ) (lent : Lent) (c : Charged) (y' : Layout) (left : FlowBudget)
    → if_met c (rooms_of l y n lent) ≡ Ok (y', left) → y ≡ y'
rooms-layout l y n lent (Ok b) y' left e = (rooms_yes l y n lent b y' left e).0
rooms-layout l y n lent (Err e₀) y' left e = let o : ◌≡◌ {A = ℕ} 0 1 = cc in absurd (omega arith)

-- behind a stage and such charges
stage-layout : (l : Limits) (cs : List ℕ) (y : Layout) (r : Staged) (y' : Layout) (left : FlowBudget)
    → ((z : Layout) (b : FlowBudget) → r ≡ Ok (z, b) → y ≡ z) → if_ok r (stage l cs) ≡ Ok (y', left) → y ≡ y'
stage-layout l cs y (Ok p) y' left h e = h p.0 p.1 refl ∙ (staged_met (charged l p.1 cs) p.0 y' left e).1
stage-layout l cs y (Err e₀) y' left h e = let o : ◌≡◌ {A = ℕ} 0 1 = cc in absurd (omega arith)

graph_layout : (s : List ℕ) (x : Script) (l : Limits) (lent : Lent) (n : ℕ) (b : FlowBudget) (y : Layout) (left : FlowBudget)
    → graph_of (flow_code (parts_of s)) x l lent n b ≡ Ok (y, left) → layout_of x (block_count (flow_code (parts_of s))) ≡ y
unfolding graph_of
graph_layout s x l lent n b y left e =
    stage-layout l (building_charges (flow_code (parts_of s)))
    (layout_of x (block_count (flow_code (parts_of s))))
    (if_met (charged l b (counting_charges (flow_code (parts_of s)))) (rooms_of l (layout_of x (block_count (flow_code (parts_of s)))) n lent))
    y left
    (λ z d q. rooms-layout l (layout_of x (block_count (flow_code (parts_of s)))) n lent
    (charged l b (counting_charges (flow_code (parts_of s)))) z d q) e

-- ---- `judge`

module _ (s : List ℕ) (parameter : ℕ → Bool) (x : Script) (l : Limits) (records : ℕ) (b : FlowBudget) (w v : List ℕ) where
  -- the answer by whether too little scratch is lent
  abbrev answer-if : Bool → Outcome
  answer-if t =
      pick t (refused NoRoom x.id b) (after_graph s parameter x l (graph_of (flow_code (parts_of s)) x l (record { sets = length v; records = records }) (length w) b))

  -- too little is lent
  pub judges_short : (w' v' : List ℕ) → length w < 4 * x.count → Judges s parameter x l records b w w' v v' (Err (halt NoRoom b))
  judges_short w' v' h = record {
    answer = ap answer-if (sym (lt-ltb (length w) (4 * x.count) h));
    accepts = λ j q. let o : ◌≡◌ {A = ℕ} 0 1 = cc in absurd (omega arith);
  }

  -- enough is lent, and `graph` was called
  module _ (enough : 4 * x.count ≤ length w) (w₁ v₁ : List ℕ) (g : Staged) (f : Graphed s parameter x l records b w w₁ v v₁ g) where
    -- the answer is what follows that of `graph`
    answer-on : after_graph s parameter x l g ≡ judged s parameter x l (lengths_with w v records) b
    answer-on = ap (after_graph s parameter x l) f.answer ∙ ap answer-if (sym (le-ltb (length w) (4 * x.count) enough))

    -- `graph` refused
    pub judges_refused : (e : Stopped) → g ≡ Err e → Judges s parameter x l records b w w₁ v v₁ (Err e)
    judges_refused e eg = record {
      answer = ap (after_graph s parameter x l) (sym eg) ∙ answer-on;
      accepts = λ j q. let o : ◌≡◌ {A = ℕ} 0 1 = cc in absurd (omega arith);
    }

    -- it goes on
    module _ (y : Layout) (left : FlowBudget) (e : g ≡ Ok (y, left)) where
      -- what it left behind
      indexes : Indexes s x (record { sets = length v; records = records }) w₁ y
      indexes = f.rooms y left e

      -- as many words a set as the slots take
      words_are : y.words ≡ (x.slots + 63) / 64
      words_are =
          ap (λ (z : Layout). z.words)
          (sym (graph_layout s x l (record { sets = length v; records = records }) (length w) b y left (sym f.answer ∙ e)))

      -- their row holds the parameters
      held-is : held_set y (scratch y w₁) ≡ parameter
      held-is = fun_ext (λ i. (f.holding y left e).flows.parameters_are i)

      -- the sizes are those of a script that passed
      pub layout_bounded : Bounded y
      layout_bounded = record {
        instructions = indexes.room.instructions;
        blocks = indexes.room.blocks;
        words = indexes.room.words;
        awaits = indexes.sets_room.awaits;
        extra = indexes.room.extra;
      }

      -- both buffers are long enough: the sets buffer is as long as it was lent
      pub scratch_enough : scratch_words y ≤ length w₁
      scratch_enough = indexes.room.fits

      pub awaits_few : y.awaits ≤ 65536
      awaits_few = layout_bounded.awaits

      pub sets_enough : length v₁ ≡ length v → sets_words y ≤ length v₁
      sets_enough long = omega (arith, long, indexes.sets_room.fits)

      -- what `solve` begins with
      pub solve_begun : Sound s x → ((i : ℕ) → parameter i ≡ true → i < x.slots) → Begun s (held_set y (scratch y w₁)) x y (scratch y w₁) (sets y v₁)
      solve_begun sound below =
          subst (λ (set : ℕ → Bool). Begun s set x y (scratch y w₁) (sets y v₁)) (sym held-is)
          (record {
            sound = sound;
            fits = indexes.fits;
            awaits = indexes.awaits;
            below = below;
            holding = f.holding y left e;
            fresh = f.fresh y left e;
          })

      -- `solve` answers: both buffers are as long as before
      pub judges_on : (w₂ v₂ : List ℕ) (r : Result Judged Stopped) → length w₂ ≡ length w₁ → length v₂ ≡ length v
          → Solves s (held_set y (scratch y w₁)) x y l left (scratch y w₂) (sets y v₂) r → Judges s parameter x l records b w w₂ v v₂ r
      judges_on w₂ v₂ r long sets_long solved = let h = with_those solved in record {
        answer = h.answer ∙ ap (after_graph s parameter x l) (sym e) ∙ answer-on;
        accepts = λ j q.
            let k = h.finished j q in
            subst (λ (u : Layout). AcceptedWords s parameter x (record { sets = length v; records = records }) w₂ v₂ u) (sym k.0)
            (record {
              fits = indexes.fits;
              words = words_are;
              awaits = indexes.awaits;
              room = subst (Room y) (sym long) indexes.room;
              sets_room = subst (SetsRoom y) (sym sets_long) indexes.sets_room;
              records = indexes.records;
              finished = k.1;
            });
      }
        where
          with_those : Solves s (held_set y (scratch y w₁)) x y l left (scratch y w₂) (sets y v₂) r
              → Solves s parameter x y l left (scratch y w₂) (sets y v₂) r
          with_those = subst (λ (set : ℕ → Bool). Solves s set x y l left (scratch y w₂) (sets y v₂) r) held-is
