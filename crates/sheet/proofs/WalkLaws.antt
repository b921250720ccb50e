-- The walk over records: what the loops keep, and what they answer. Assumes nothing.
use mathlib.Core.Path.{◌≡◌, refl, ap, sym, ◌∙◌}
use mathlib.Core.Bool.{Bool, true, false}
use mathlib.Core.List.{List}
use mathlib.Core.Option.{Option, none, some}
use Prim.Native.Nat.{ℕ, zero, suc, ◌+◌, ◌*◌, ◌-◌, ◌≤◌}
use native.Mathlib.Nat.{zero-add, suc-add}
use native.Mathlib.Omega.{arith}
use Rattle.std.specs.Prelude.{Result, Ok, Err}
use Rattle.operands.specs.Choice.{pick}
use Rattle.format.specs.declared.refusal.Refusal.{Refusal}
use Rattle.format.specs.Refusals.{or_else, answered}
use Rattle.format.specs.Heads.{end_at}
use Rattle.records.specs.Records.{slot_fault, plain_slot, plain_run}
use Rattle.records.proofs.PlainLaws.{plain, plain_end, plain_due}
use Rattle.reader.specs.declared.Reader.{Reader}
use Rattle.reader.specs.Steps.{behind, Reads}
use Rattle.sheet.specs.Decode.{offset_of}
use Rattle.sheet.specs.Stages.{first_of, stop_of, Walks}

-- an answer that passed, and one that did not
pub passed_by : {A : Type 0} (f : Option Refusal) (a b : A) → answered f a ≡ Ok b → (f ≡ none) × (b ≡ a)
passed_by none a b e = let q : b ≡ a = cc in (refl, q)
passed_by (some r) a b e = let z : ◌≡◌ {A = ℕ} 0 1 = cc in absurd (omega arith)

pub refused_by : {A : Type 0} (f : Option Refusal) (a : A) (r : Refusal) → answered f a ≡ Err r → f ≡ some r
refused_by none a r e = let z : ◌≡◌ {A = ℕ} 0 1 = cc in absurd (omega arith)
refused_by (some q) a r e = let p : q ≡ r = cc in ap some p

-- a record that was read and passed, and one that did not
pub record ReadPassed {A : Type 0} (fault : Option Refusal) (a b : A) (r r' : Reader) : Type 0 where
  pub no_fault : fault ≡ none
  pub is_answer : b ≡ a
  pub next : r'.at ≡ end_at r.sheet.now r.at

pub read_passed : {A : Type 0} {fault : Option Refusal} {a b : A} {r r' : Reader} {x : Result A Refusal} → Reads fault a r r' x → x ≡ Ok b
    → ReadPassed fault a b r r'
read_passed {fault = fault} {a = a} {b = b} h e =
    let p = passed_by fault a b (sym h.answer ∙ e) in
    record { no_fault = p.0; is_answer = p.1; next = h.at ∙ rw p.0 }

pub read_refused : {A : Type 0} {fault : Option Refusal} {a : A} {why : Refusal} {r r' : Reader} {x : Result A Refusal} → Reads fault a r r' x → x ≡ Err why
    → (fault ≡ some why) × (r'.at ≡ r.at)
read_refused {fault = fault} {a = a} {why = why} h e =
    let p = refused_by fault a why (sym h.answer ∙ e) in
    (p, h.at ∙ rw p)

-- the first refusal of three
pub or_first : (a b c : Option Refusal) → or_else (or_else a b) c ≡ or_else a (or_else b c)
or_first none b c = refl
or_first (some r) b c = refl

-- where all records pass, the walk stops where they end
pub stop_end : (fault : ℕ → Option Refusal) (s : List ℕ) (at n : ℕ) → first_of fault s at n ≡ none → stop_of fault s at n ≡ offset_of s at n
unfolding first_of stop_of offset_of
stop_end fault s at zero e = refl
stop_end fault s at (suc n) e = go (fault at) e (stop_end fault s (end_at s at) n)
  where
    go : (f : Option Refusal) → or_else f (first_of fault s (end_at s at) n) ≡ none
        → (first_of fault s (end_at s at) n ≡ none → stop_of fault s (end_at s at) n ≡ offset_of s (end_at s at) n)
        → behind f at (stop_of fault s (end_at s at) n) ≡ offset_of s (end_at s at) n
    go none e h = h e
    go (some r) e h = let z : ◌≡◌ {A = ℕ} 0 1 = cc in absurd (omega arith)

pub offset-add : (s : List ℕ) (at k n : ℕ) → offset_of s at (k + n) ≡ offset_of s (offset_of s at k) n
unfolding offset_of
offset-add s at zero n = ap (offset_of s at) (zero-add n)
offset-add s at (suc k) n = ap (offset_of s at) (suc-add k n) ∙ offset-add s (end_at s at) k n

-- what n records from an offset on answer is what so many that are left from another offset on answer, and both end at one place
pub record Run (fault : ℕ → Option Refusal) (s : List ℕ) (first n at left : ℕ) : Type 0 where
  pub below : left ≤ n
  pub offset : offset_of s first n ≡ offset_of s at left
  pub faults : first_of fault s first n ≡ first_of fault s at left
  pub stops : stop_of fault s first n ≡ stop_of fault s at left

-- the walk ends: one did not pass, or all did
pub record Stopped (fault : ℕ → Option Refusal) (s : List ℕ) (first n : ℕ) (f : Option Refusal) (at : ℕ) : Type 0 where
  pub fault_is : first_of fault s first n ≡ f
  pub stop_is : stop_of fault s first n ≡ at

module _ (fault : ℕ → Option Refusal) (s : List ℕ) where
  -- a part of the records that passed, and then the others
  part : (at k n next : ℕ) → first_of fault s at k ≡ none → next ≡ stop_of fault s at k → Run fault s at (k + n) next n
  unfolding first_of stop_of offset_of
  part at zero n next e p = record {
    below = omega arith;
    offset = rw p (ap (offset_of s at) (zero-add n));
    faults = rw p (ap (first_of fault s at) (zero-add n));
    stops = rw p (ap (stop_of fault s at) (zero-add n));
  }
  part at (suc k) n next e p = go (fault at) refl e p (part (end_at s at) k n next)
    where
      go : (f : Option Refusal) → fault at ≡ f → or_else f (first_of fault s (end_at s at) k) ≡ none
          → next ≡ behind f at (stop_of fault s (end_at s at) k)
          → (first_of fault s (end_at s at) k ≡ none → next ≡ stop_of fault s (end_at s at) k → Run fault s (end_at s at) (k + n) next n)
          → Run fault s at (suc k + n) next n
      go none q e p more =
          let r = more e p in
          record {
            below = omega arith;
            offset = ap (offset_of s at) (suc-add k n) ∙ r.offset;
            faults = ap (first_of fault s at) (suc-add k n) ∙ rw q r.faults;
            stops = ap (stop_of fault s at) (suc-add k n) ∙ rw q r.stops;
          }
      go (some r) q e p more = let z : ◌≡◌ {A = ℕ} 0 1 = cc in absurd (omega arith)

  -- a part that did not
  part-stop : (at k n : ℕ) (why : Refusal) → first_of fault s at k ≡ some why → Stopped fault s at (k + n) (some why) (stop_of fault s at k)
  unfolding first_of stop_of
  part-stop at zero n why e = let z : ◌≡◌ {A = ℕ} 0 1 = cc in absurd (omega arith)
  part-stop at (suc k) n why e = go (fault at) refl e (part-stop (end_at s at) k n why)
    where
      go : (f : Option Refusal) → fault at ≡ f → or_else f (first_of fault s (end_at s at) k) ≡ some why
          → (first_of fault s (end_at s at) k ≡ some why → Stopped fault s (end_at s at) (k + n) (some why) (stop_of fault s (end_at s at) k))
          → Stopped fault s at (suc k + n) (some why) (behind f at (stop_of fault s (end_at s at) k))
      go none q e more =
          let r = more e in
          record {
            fault_is = ap (first_of fault s at) (suc-add k n) ∙ rw q r.fault_is;
            stop_is = ap (stop_of fault s at) (suc-add k n) ∙ rw q r.stop_is;
          }
      go (some r) q e more = record {
        fault_is = ap (first_of fault s at) (suc-add k n) ∙ rw q e;
        stop_is = ap (stop_of fault s at) (suc-add k n) ∙ rw q;
      }

-- so the walk goes on behind a part that passed, and stops at one that did not
module _ {fault : ℕ → Option Refusal} {s : List ℕ} {first n at left : ℕ} (r : Run fault s first n at left) where
  pub run_part : (k rest : ℕ) {next : ℕ} → left ≡ k + rest → Stopped fault s at k none next → Run fault s first n next rest
  run_part k rest {next = next} l t =
      let q = part fault s at k rest next t.fault_is (sym t.stop_is) in
      record {
        below = omega (arith, r.below, l);
        offset = r.offset ∙ ap (offset_of s at) l ∙ q.offset;
        faults = r.faults ∙ ap (first_of fault s at) l ∙ q.faults;
        stops = r.stops ∙ ap (stop_of fault s at) l ∙ q.stops;
      }

  pub run_part_stop : (k rest : ℕ) {why : Refusal} {next : ℕ} → left ≡ k + rest → Stopped fault s at k (some why) next → Stopped fault s first n (some why) next
  run_part_stop k rest {why = why} l t =
      let q = part-stop fault s at k rest why t.fault_is in
      record { fault_is = r.faults ∙ ap (first_of fault s at) l ∙ q.fault_is; stop_is = r.stops ∙ ap (stop_of fault s at) l ∙ q.stop_is ∙ t.stop_is }

  -- the same of one record
  pub run_more : (rest : ℕ) {next : ℕ} → left ≡ suc rest → fault at ≡ none → next ≡ end_at s at → Run fault s first n next rest
  unfolding first_of stop_of offset_of
  run_more rest l e p = record {
    below = omega (arith, r.below, l);
    offset = r.offset ∙ rw (l, p);
    faults = r.faults ∙ rw (l, e, p);
    stops = r.stops ∙ rw (l, e, p);
  }

  pub run_stop : (rest : ℕ) {why : Refusal} → left ≡ suc rest → fault at ≡ some why → Stopped fault s first n (some why) at
  unfolding first_of stop_of
  run_stop rest l e = record { fault_is = r.faults ∙ rw (l, e); stop_is = r.stops ∙ rw (l, e) }

  pub run_end : left ≡ 0 → Stopped fault s first n none at
  unfolding first_of stop_of
  run_end l = record { fault_is = r.faults ∙ rw l; stop_is = r.stops ∙ rw l }

-- what goes on behind a record that passed goes on behind a run of plain ones
module _ {A : Type 0} (s : List ℕ) (top : ℕ) (l : top ≤ 3) (g : ℕ → ℕ → A)
    (step : (at n : ℕ) → slot_fault s at ≡ none → g at (suc n) ≡ g (end_at s at) n) where
  behind-plain : (n at : ℕ) → g at n ≡ g (at + 6 * plain_run s top at n) (n - plain_run s top at n)
  unfolding plain_run
  behind-plain zero at = let x : at ≡ at + 6 * 0 = omega arith in let y : 0 ≡ 0 - 0 = omega arith in cc
  behind-plain (suc n) at = go (plain_slot s top at) refl (behind-plain n (at + 6))
    where
      go : (b : Bool) → plain_slot s top at ≡ b → g (at + 6) n ≡ g (at + 6 + 6 * plain_run s top (at + 6) n) (n - plain_run s top (at + 6) n)
          → g at (suc n) ≡ g (at + 6 * pick b (suc (plain_run s top (at + 6) n)) 0) (suc n - pick b (suc (plain_run s top (at + 6) n)) 0)
      go true b e =
          let p = plain s top at b in
          let t = step at n (plain_due s top at p l).0 in
          let q = plain_end s top at p in
          let x : at + 6 + 6 * plain_run s top (at + 6) n ≡ at + 6 * suc (plain_run s top (at + 6) n) = omega arith in
          let y : n - plain_run s top (at + 6) n ≡ suc n - suc (plain_run s top (at + 6) n) = omega arith in
          cc
      go false b e = let x : at ≡ at + 6 * 0 = omega arith in let y : suc n ≡ suc n - 0 = omega arith in cc

-- so the walk over slot records goes on behind the plain ones at its place
pub run_plain : {s : List ℕ} {first n at left : ℕ} → Run (λ a. slot_fault s a) s first n at left → (top : ℕ) → top ≤ 3 → (k : ℕ) {next : ℕ}
    → k ≡ plain_run s top at left → next ≡ at + 6 * k → Run (λ a. slot_fault s a) s first n next (left - k)
unfolding first_of stop_of offset_of
run_plain {s = s} {at = at} {left = left} r top l k e p = record {
  below = omega (arith, r.below);
  offset = r.offset ∙ behind-plain s top l (offset_of s) (λ at n h. refl) left at ∙ rw (← e, ← p);
  faults = r.faults ∙ behind-plain s top l (first_of (λ a. slot_fault s a) s) (λ at n h. rw h) left at ∙ rw (← e, ← p);
  stops = r.stops ∙ behind-plain s top l (stop_of (λ a. slot_fault s a) s) (λ at n h. rw h) left at ∙ rw (← e, ← p);
}

pub run_start : {fault : ℕ → Option Refusal} {s : List ℕ} {first n : ℕ} → Run fault s first n first n
run_start = record { below = omega arith; offset = refl; faults = refl; stops = refl }

-- what a walk answers where it ends
pub walks_passed : {A : Type 0} {fault : ℕ → Option Refusal} {n : ℕ} {a : A} {r r' : Reader} → r'.sheet ≡ r.sheet
    → Stopped fault r.sheet.now r.at n none r'.at → Walks fault n a r r' (Ok a)
walks_passed e t = record { answer = rw t.fault_is; sheet = e; at = sym t.stop_is }

pub walks_refused : {A : Type 0} {fault : ℕ → Option Refusal} {n : ℕ} {a : A} {r r' : Reader} {why : Refusal} → r'.sheet ≡ r.sheet
    → Stopped fault r.sheet.now r.at n (some why) r'.at → Walks fault n a r r' (Err why)
walks_refused e t = record { answer = rw t.fault_is; sheet = e; at = sym t.stop_is }

-- and where it passed
pub walk_passed : {A : Type 0} {fault : ℕ → Option Refusal} {n : ℕ} {a b : A} {r r' : Reader} {x : Result A Refusal} → Walks fault n a r r' x → x ≡ Ok b
    → Stopped fault r.sheet.now r.at n none r'.at × (b ≡ a)
walk_passed {fault = fault} {n = n} {a = a} {b = b} {r = r} h e =
    let p = passed_by (first_of fault r.sheet.now r.at n) a b (sym h.answer ∙ e) in
    (record { fault_is = p.0; stop_is = sym h.at }, p.1)

pub walk_refused : {A : Type 0} {fault : ℕ → Option Refusal} {n : ℕ} {a : A} {why : Refusal} {r r' : Reader} {x : Result A Refusal} → Walks fault n a r r' x → x ≡ Err why
    → Stopped fault r.sheet.now r.at n (some why) r'.at
walk_refused {fault = fault} {n = n} {a = a} {why = why} {r = r} h e =
    record { fault_is = refused_by (first_of fault r.sheet.now r.at n) a why (sym h.answer ∙ e); stop_is = sym h.at }

-- a part of a run is as what is left of it
pub part_stopped : {fault : ℕ → Option Refusal} {s : List ℕ} {first n at left next : ℕ} {f : Option Refusal} → Run fault s first n at left
    → Stopped fault s at left f next → Stopped fault s first n f next
part_stopped r t = record { fault_is = r.faults ∙ t.fault_is; stop_is = r.stops ∙ t.stop_is }

-- where all passed, the walk stops where they end
pub stopped_offset : {fault : ℕ → Option Refusal} {s : List ℕ} {at n next : ℕ} → Stopped fault s at n none next → next ≡ offset_of s at n
stopped_offset {fault = fault} {s = s} {at = at} {n = n} t = sym t.stop_is ∙ stop_end fault s at n t.fault_is
