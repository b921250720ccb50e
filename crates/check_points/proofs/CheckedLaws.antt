-- `check_block` and `check_reached`: what the calls for one block require, and the answer for each way out. Assumes nothing.
use mathlib.Core.Path.{◌≡◌, refl, sym, ap, subst, ◌∙◌}
use mathlib.Core.Bool.{Bool, true, false}
use mathlib.Core.List.{List, [], ◌∷◌}
use Prim.Native.Nat.{ℕ, ◌+◌, ◌-◌, ◌^◌, ◌≤◌, ◌<◌}
use native.Mathlib.Omega.{arith}
use lib.ListN.{length, get_or}
use Rattle.std.specs.Prelude.{Ok, Err}
use Rattle.dataflow.specs.Lists.{pick, range, keep, flag}
use Rattle.dataflow.specs.BasicBlocks.{uses}
use Rattle.dataflow.specs.Code.{program, body, await_at}
use Rattle.dataflow.specs.Results.{reachable, init_entry, live_exit}
use Rattle.budget.specs.declared.FlowBudget.{FlowBudget}
use Rattle.budget.specs.declared.Limits.{Limits}
use Rattle.memory.specs.Cells.{Mem, cell, word, store_cell, InWords}
use Rattle.memory.specs.Names.{cost_cell, start_cell, end_cell, reachable_cell, state_row, live_state_row}
use Rattle.memory.specs.Scratch.{Whole}
use Rattle.memory.specs.Sets.{SetsWhole}
use Rattle.sizes.specs.declared.Layout.{Layout}
use Rattle.sizes.specs.declared.Stopped.{Stopped}
use Rattle.sheet.specs.declared.script.Script.{Script}
use Rattle.sheet.specs.Decode.{parts_of}
use Rattle.script.specs.Script.{host_in}
use Rattle.edges.proofs.EdgeLaws.{flag-yes, flag-no}
use Rattle.transfer.specs.declared.direction.Direction.TheVariants.{Initialization, Liveness}
use Rattle.transfer.specs.Transfer.{running_row, gathered}
use Rattle.answer.specs.Words.{Means}
use Rattle.verdict.specs.Points.{Checking, on, and_then, Point, reads_run, awaits_run, block_run, await_points}
use Rattle.reads.specs.Reads.{Counting, checking_of, held_set, Coded, awaits_among, Used, ReadsChecked}
use Rattle.reads.proofs.ReadLaws.{same_count, refused-not_passed}
use Rattle.awaits.specs.Awaits.{Entries, AwaitsChecked, ChargedBack}
use Rattle.awaits.proofs.ChargeLaws.{none_run}
use Rattle.check_points.specs.CheckPoints.{code_of, Solved, facts_of, Facing, Counted, FoundChecked, BlockChecked}
use Rattle.check_points.proofs.SolvedLaws.{RunningOnly, running-then, word_kept, held_kept, solved_kept, reads-others, gather-others}
use Rattle.check_points.proofs.SolvedLaws.{incoming_means, live_out_means}
use Rattle.check_points.proofs.SpanLaws.{Span, spans, points_length}

-- ---- the parts of a block's run

-- what is initialized at a block's entry
abbrev pub entry_set : List ℕ → (ℕ → Bool) → ℕ → ℕ → ℕ → Bool
entry_set s parameter words c = init_entry (code_of s) parameter words c

-- what is live at its exit
abbrev pub exit_set : List ℕ → (ℕ → Bool) → ℕ → ℕ → ℕ → Bool
exit_set s parameter words c = live_exit (code_of s) parameter words c

-- its reads
abbrev pub block_reads : List ℕ → (ℕ → Bool) → Layout → Limits → ℕ → FlowBudget → Checking
block_reads s parameter y l c b = reads_run (code_of s) parameter l (entry_set s parameter y.words c) (body (code_of s) c) b

-- its awaits
abbrev pub block_awaits : List ℕ → (ℕ → Bool) → Script → Layout → Limits → ℕ → FlowBudget → Checking
block_awaits s parameter x y l c =
    awaits_run (code_of s) parameter l y.words x.slots (host_in (parts_of s)) (exit_set s parameter y.words c) (body (code_of s) c)

-- and their facts
abbrev pub block_facts : List ℕ → (ℕ → Bool) → Layout → ℕ → List Point
block_facts s parameter y c = await_points (code_of s) parameter (exit_set s parameter y.words c) (body (code_of s) c)

-- ---- a block that is not reachable

module _ {s : List ℕ} {parameter : ℕ → Bool} {x : Script} {y : Layout} {c place : ℕ} {m t : Mem} (h : Facing s parameter x y c place m t) {v : ℕ}
    (e : v ≡ word m reachable_cell c) where
  -- the word REACHABLE is the mark
  mark-is : v ≡ flag (reachable (code_of s) c)
  mark-is = e ∙ h.solved.flows.reached c h.inside

  -- it is not 0 if the block is reachable
  pub is_reached : (v ≡ 0 → ⊥) → reachable (code_of s) c ≡ true
  is_reached ne = flag-yes (reachable (code_of s) c) (λ q. ne (mark-is ∙ q))

  -- it is 0 if not
  not-reached : v ≡ 0 → reachable (code_of s) c ≡ false
  not-reached z = flag-no (reachable (code_of s) c) (sym mark-is ∙ z)

  -- and then it passes, and nothing changes
  pub block_passed : (l : Limits) (b : FlowBudget) → v ≡ 0 → BlockChecked s parameter x y l b c place m m t t (Ok (place, b))
  unfolding block_run
  block_passed l b z = record {
    answer = ap (λ (r : Bool). pick r (and_then (block_reads s parameter y l c b) (block_awaits s parameter x y l c)) (on b)) (sym (not-reached z));
    count = λ n left q. sym (same_count q) ∙ (let k : place ≡ place + length none = omega arith in k)
        ∙ ap (λ (ps : List Point). place + length ps) (sym facts);
    entries = λ n left q. subst (λ (ps : List Point). Entries y t place ps) (sym facts) tt;
    earlier = λ n left q k lt. refl;
    others = λ k a d. refl;
  }
    where
      none : List Point
      none = []

      facts : facts_of s parameter y.words c ≡ none
      facts = ap (λ (r : Bool). pick r (block_facts s parameter y c) none) (not-reached z)

-- ---- a block that is reachable

-- its reads may be checked: the running state stands for what is initialized at its entry
pub record Entered (s : List ℕ) (parameter : ℕ → Bool) (x : Script) (y : Layout) (c place start end : ℕ) (m₀ m t : Mem) : Type 0 where
  pub solved : Solved s parameter x y m t
  pub inside : c < y.blocks
  pub room : place + length (facts_of s parameter y.words c) ≤ y.awaits
  pub reached : reachable (code_of s) c ≡ true
  pub span : Span s y c start end
  pub start_is : start ≡ word m start_cell c
  pub end_is : end ≡ word m end_cell c
  pub means : Means y.words (cell m (state_row y.blocks)) (entry_set s parameter y.words c)
  pub others : RunningOnly y m₀ m

-- the first gathering, and the words START and END
pub entered : {s : List ℕ} {parameter : ℕ → Bool} {x : Script} {y : Layout} {c place : ℕ} {m₀ t : Mem} → Whole y m₀ → InWords m₀ → SetsWhole y t → InWords t
    → Facing s parameter x y c place m₀ t → reachable (code_of s) c ≡ true
    → {m : Mem} → m ≡ store_cell m₀ (running_row Initialization y) (gathered Initialization y m₀ t c)
    → {start end : ℕ} → start ≡ word m start_cell c → end ≡ word m end_cell c → Entered s parameter x y c place start end m₀ m t
entered {s} {parameter} {x} {y} {c} {place} {m₀} {t} z fits zt fit h e {m} g {start} {end} p q = record {
  solved = kept;
  inside = h.inside;
  room = h.room;
  reached = e;
  span = spans kept c h.inside p q;
  start_is = p;
  end_is = q;
  means = incoming_means z fits zt fit h.solved c h.inside g;
  others = only;
}
  where
    only : RunningOnly y m₀ m
    only = gather-others Initialization (gathered Initialization y m₀ t c) g

    kept : Solved s parameter x y m t
    kept = solved_kept only h.solved

-- the row of its uses holds what its instructions use
pub entered-used : {s : List ℕ} {parameter : ℕ → Bool} {x : Script} {y : Layout} {c place start end : ℕ} {m₀ m t : Mem} → Entered s parameter x y c place start end m₀ m t
    → Used (code_of s) parameter c start end m
entered-used {s} {parameter} {c = c} h = record {
  are = λ i. h.solved.flows.uses_are c h.inside i
      ∙ ap (λ (is : List ℕ). uses (program (code_of s) parameter) i false false is) h.span.is;
}

-- so it does with the parameters as their row then holds them
pub entered-held : {s : List ℕ} {x : Script} {y : Layout} {c place start end : ℕ} {m₀ m t : Mem}
    → Entered s (held_set y m₀) x y c place start end m₀ m t → Used (code_of s) (held_set y m) c start end m
entered-held {s} {y = y} {c = c} {start = start} {end = end} {m = m} h =
    subst (λ (p : ℕ → Bool). Used (code_of s) p c start end m) (sym (held_kept h.others)) (entered-used h)

-- the reads with the parameters as their row held them before
pub reads_held : {s : List ℕ} {x : Script} {y : Layout} {l : Limits} {b : FlowBudget} {c place start end : ℕ} {m₀ m m₁ t : Mem} {r : Counting}
    → Entered s (held_set y m₀) x y c place start end m₀ m t → ReadsChecked (code_of s) (held_set y m) y l b start end m m₁ r
    → ReadsChecked (code_of s) (held_set y m₀) y l b start end m m₁ r
reads_held {s} {y = y} {l = l} {b = b} {start = start} {end = end} {m = m} {m₁ = m₁} {r = r} h p =
    subst (λ (q : ℕ → Bool). ReadsChecked (code_of s) q y l b start end m m₁ r) (held_kept h.others) p

-- the run of a reachable block: its reads, then its awaits
run-reached : (s : List ℕ) (parameter : ℕ → Bool) (x : Script) (y : Layout) (l : Limits) (b : FlowBudget) (c : ℕ) → reachable (code_of s) c ≡ true
    → block_run (code_of s) parameter l y.words x.slots (host_in (parts_of s)) c b
    ≡ and_then (block_reads s parameter y l c b) (block_awaits s parameter x y l c)
unfolding block_run
run-reached s parameter x y l b c e =
    ap (λ (r : Bool). pick r (and_then (block_reads s parameter y l c b) (block_awaits s parameter x y l c)) (on b)) e

-- the awaits of a reachable block are among its instructions
facts-among : {s : List ℕ} (parameter : ℕ → Bool) {y : Layout} {c start end : ℕ} → reachable (code_of s) c ≡ true → Span s y c start end
    → length (facts_of s parameter y.words c) ≡ awaits_among (code_of s) start end
facts-among {s} parameter {y} {c} e h =
    ap (λ (r : Bool). length (pick r (block_facts s parameter y c) [])) e
    ∙ points_length (code_of s) parameter (exit_set s parameter y.words c) (body (code_of s) c)
    ∙ ap (λ (is : List ℕ). length (keep (await_at (code_of s)) is)) h.is

module _ {s : List ℕ} {parameter : ℕ → Bool} {x : Script} {y : Layout} {l : Limits} {b : FlowBudget} {c place start end : ℕ} {m₀ m m₁ t : Mem} {r : Counting}
    (h : Entered s parameter x y c place start end m₀ m t)
    (p : ReadsChecked (code_of s) parameter y l b start end m m₁ r) where
  -- the reads' answer is that of the run
  reads-answer : checking_of r ≡ block_reads s parameter y l c b
  reads-answer =
      p.answer (entry_set s parameter y.words c) h.means
      ∙ ap (λ (is : List ℕ). reads_run (code_of s) parameter l (entry_set s parameter y.words c) is b)
      (sym h.span.is)

  -- what the words hold stays, so that the edges may be read again
  reads-solved : Solved s parameter x y m₁ t
  reads-solved = solved_kept (reads-others p) h.solved

  -- its awaits may be checked
  pub reads_counted : {found : ℕ} {left : FlowBudget} → r ≡ Ok (found, left) → Counted s parameter x y c start end place found m₁ t
  reads_counted {found} {left} e = record {
    solved = reads-solved;
    inside = h.inside;
    start_is = h.start_is ∙ sym (word_kept (reads-others p) start_cell c (omega arith));
    end_is = h.end_is ∙ sym (word_kept (reads-others p) end_cell c (omega arith));
    found_are = p.counted found left e;
    room = omega (arith, h.room, facts-among parameter h.reached h.span, p.counted found left e);
  }

  -- a read is not filled, or a charge crossed the limit
  pub reads_refused : {e : Stopped} → r ≡ Err e → BlockChecked s parameter x y l b c place m₀ m₁ t t (Err e)
  reads_refused e = record {
    answer = ap (λ (z : Checking). and_then z (block_awaits s parameter x y l c)) (sym (ap checking_of e) ∙ reads-answer)
        ∙ sym (run-reached s parameter x y l b c h.reached);
    count = λ n left z. absurd (refused-not_passed z);
    entries = λ n left z. absurd (refused-not_passed z);
    earlier = λ n left z. absurd (refused-not_passed z);
    others = (running-then h.others (reads-others p)).others;
  }

  -- the reads are filled, and then its awaits are checked
  pub reads_then : {found : ℕ} {left : FlowBudget} → r ≡ Ok (found, left) → {m' t' : Mem} {q : Counting}
      → FoundChecked s parameter x y l left c place found m₁ m' t t' q → BlockChecked s parameter x y l b c place m₀ m' t t' q
  reads_then {found} {left} e {m'} {t'} {q} f = record {
    answer = f.answer ∙ ap (λ (z : Checking). and_then z (block_awaits s parameter x y l c)) (sym (ap checking_of e) ∙ reads-answer)
        ∙ sym (run-reached s parameter x y l b c h.reached);
    count = λ n last z. f.count n last z
        ∙ ap (λ (k : ℕ). place + k) (p.counted found left e ∙ sym (facts-among parameter h.reached h.span));
    entries = λ n last z. subst (λ (ps : List Point). Entries y t' place ps)
        (sym (ap (λ (v : Bool). pick v (block_facts s parameter y c) []) h.reached)) (f.entries n last z);
    earlier = f.earlier;
    others = (running-then {m' = m'} (running-then h.others (reads-others p)) (record { others = f.others })).others;
  }

module _ {s : List ℕ} {x : Script} {y : Layout} {l : Limits} {b : FlowBudget} {c place start end : ℕ} {m₀ m m₁ t : Mem} {r : Counting}
    (h : Entered s (held_set y m₀) x y c place start end m₀ m t)
    (p : ReadsChecked (code_of s) (held_set y m₀) y l b start end m m₁ r) where
  -- the row of the parameters is as it was
  held_then : held_set y m₁ ≡ held_set y m₀
  held_then = held_kept (running-then h.others (reads-others p))

  -- its awaits may be checked, with the parameters as their row now holds them
  pub counted_held : {found : ℕ} {left : FlowBudget} → r ≡ Ok (found, left) → Counted s (held_set y m₁) x y c start end place found m₁ t
  counted_held {found} e =
      subst (λ (q : ℕ → Bool). Counted s q x y c start end place found m₁ t) (sym held_then) (reads_counted h p e)

  -- and they are, with those that it held before
  pub found_held : {found : ℕ} {left : FlowBudget} {m' t' : Mem} {q : Counting} → FoundChecked s (held_set y m₁) x y l left c place found m₁ m' t t' q
      → FoundChecked s (held_set y m₀) x y l left c place found m₁ m' t t' q
  found_held {found} {left} {m'} {t'} {q} f =
      subst (λ (z : ℕ → Bool). FoundChecked s z x y l left c place found m₁ m' t t' q) held_then f

-- ---- its awaits

module _ {s : List ℕ} {parameter : ℕ → Bool} {x : Script} {y : Layout} {c start end place found : ℕ} {m t : Mem} (h : Counted s parameter x y c start end place found m t) where
  -- where it lies
  pub counted_span : Span s y c start end
  counted_span = spans h.solved c h.inside h.start_is h.end_is

  -- the entries of its awaits end where they are put before
  pub counted_among : awaits_among (code_of s) start end ≤ place + found
  counted_among = omega (arith, h.found_are)

  -- there are none, and its costs are charged
  pub none_charged : {l : Limits} {b : FlowBudget} {q : Counting} → found ≡ 0 → ChargedBack l b start end place m q
      → FoundChecked s parameter x y l b c place found m m t t q
  none_charged {l} {b} {q} z p = record {
    answer = p.answer ∙ none_run (code_of s) parameter l y.words x.slots (host_in (parts_of s)) (exit_set s parameter y.words c)
        (word m cost_cell) b start (end - start) (λ i lt. h.solved.coded.costs i (omega (
          arith,
          lt,
          counted_span.ordered,
          counted_span.inside,
          h.solved.coded.instructions,
        ))) (sym h.found_are ∙ z)
        ∙ ap (λ (is : List ℕ). awaits_run (code_of s) parameter l y.words x.slots (host_in (parts_of s)) (exit_set s parameter y.words c) is b)
        (sym counted_span.is);
    count = λ n last w. omega (arith, p.places n last w, z);
    entries = λ n last w. no_entries (block_facts s parameter y c) facts-none;
    earlier = λ n last w k lt. refl;
    others = λ k a d. refl;
  }
    where
      facts-none : length (block_facts s parameter y c) ≡ 0
      facts-none =
          points_length (code_of s) parameter (exit_set s parameter y.words c) (body (code_of s) c)
          ∙ ap (λ (is : List ℕ). length (keep (await_at (code_of s)) is)) counted_span.is ∙ sym h.found_are ∙ z

      no_entries : (ps : List Point) → length ps ≡ 0 → Entries y t place ps
      no_entries [] e = tt
      no_entries (p ∷ ps) e = absurd (omega arith)

-- the second gathering: what stays, and the running live set stands for what is live at the block's exit
pub record Leaving (s : List ℕ) (parameter : ℕ → Bool) (x : Script) (y : Layout) (c start end place found : ℕ) (m₀ m t : Mem) : Type 0 where
  pub counted : Counted s parameter x y c start end place found m₀ t
  pub coded : Coded s x y m
  pub means : Means y.words (cell m (live_state_row y.blocks)) (exit_set s parameter y.words c)
  pub others : RunningOnly y m₀ m

pub leaving : {s : List ℕ} {parameter : ℕ → Bool} {x : Script} {y : Layout} {c start end place found : ℕ} {m₀ t : Mem} → Whole y m₀ → InWords m₀ → SetsWhole y t → InWords t
    → Counted s parameter x y c start end place found m₀ t
    → {m : Mem} → m ≡ store_cell m₀ (running_row Liveness y) (gathered Liveness y m₀ t c)
    → Leaving s parameter x y c start end place found m₀ m t
leaving {s} {parameter} {x} {y} {c} {m₀ = m₀} {t} z fits zt fit h {m} g = record {
  counted = h;
  coded = (solved_kept only h.solved).coded;
  means = live_out_means z fits zt fit h.solved c h.inside g;
  others = only;
}
  where
    only : RunningOnly y m₀ m
    only = gather-others Liveness (gathered Liveness y m₀ t c) g

module _ {s : List ℕ} {parameter : ℕ → Bool} {x : Script} {y : Layout} {l : Limits} {b : FlowBudget} {c start end place found : ℕ} {m₀ m t : Mem}
    (h : Leaving s parameter x y c start end place found m₀ m t) where
  module _ {m' t' : Mem} {q : Counting} (p : AwaitsChecked s x y l b start end (place + found) m m' t t' q) where
    awaits-answer : checking_of q ≡ block_awaits s parameter x y l c b
    awaits-answer =
        p.answer parameter (exit_set s parameter y.words c) h.means
        ∙ ap (λ (is : List ℕ). awaits_run (code_of s) parameter l y.words x.slots (host_in (parts_of s)) (exit_set s parameter y.words c) is b)
        (sym (counted_span h.counted).is)

    -- the awaits change the running live set alone
    only : RunningOnly y m m'
    only = record { others = λ k a d. p.others k d }

    -- an await is refused, or a charge crossed the limit
    pub awaits_refused : {e : Stopped} → q ≡ Err e → FoundChecked s parameter x y l b c place found m₀ m' t t' (Err e)
    awaits_refused e = record {
      answer = sym (ap checking_of e) ∙ awaits-answer;
      count = λ n last z. absurd (refused-not_passed z);
      entries = λ n last z. absurd (refused-not_passed z);
      earlier = λ n last z. absurd (refused-not_passed z);
      others = (running-then h.others only).others;
    }

    -- its awaits passed: so many more are reached up to its end
    pub awaits_reached : {k : ℕ} {left : FlowBudget} → q ≡ Ok (k, left) → FoundChecked s parameter x y l b c place found m₀ m' t t' (Ok (place + found, left))
    awaits_reached {k} {left} e = record {
      answer = sym (ap checking_of e) ∙ awaits-answer;
      count = λ n last z. sym (same_count z);
      entries = λ n last z.
          subst (λ (is : List ℕ). Entries y t' place (await_points (code_of s) parameter (exit_set s parameter y.words c) is)) (sym (counted_span h.counted).is)
          (subst (λ (j : ℕ). Entries y t' j (await_points (code_of s) parameter (exit_set s parameter y.words c) (range start (end - start)))) begins (p.entries k left e parameter (exit_set s parameter y.words c) h.means));
      earlier = λ n last z j lt. p.other_sets k left e j (omega (arith, lt, begins));
      others = (running-then h.others only).others;
    }
      where
        -- where the entries begin
        begins : k ≡ place
        begins = omega (arith, p.places k left e, h.counted.found_are)
