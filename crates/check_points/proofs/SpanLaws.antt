-- Where a block lies in the code, and that its awaits are counted once: all blocks together have no more points than the code has awaits.
-- Assumes nothing.
use mathlib.Core.Path.{◌≡◌, refl, sym, ap, subst, ◌∙◌}
use mathlib.Core.Bool.{Bool, true, false, true≢false, false≢true}
use mathlib.Core.List.{List, [], ◌∷◌, ◌++◌, append_assoc}
use Prim.Native.Nat.{ℕ, suc, ◌+◌, ◌-◌, ◌≤◌, ◌<◌}
use native.Mathlib.Nat.{add-zero, zero-add}
use native.Mathlib.Omega.{arith}
use lib.ListN.{length, get_or, length-map}
use Rattle.dataflow.specs.Lists.{pick, range, keep}
use Rattle.dataflow.specs.Code as flow
use Rattle.dataflow.specs.Code.{body, outside, await_at}
use Rattle.dataflow.specs.Results.{reachable, live_exit}
use Rattle.dataflow.proofs.Lists.{map_at}
use Rattle.operands.specs.Kinds.{is_await}
use Rattle.memory.specs.Cells.{Mem, word}
use Rattle.memory.specs.Names.{start_cell, end_cell}
use Rattle.sizes.specs.declared.Layout.{Layout}
use Rattle.sheet.specs.declared.script.Script.{Script}
use Rattle.sheet.specs.Decode.{Instruction, parts_of}
use Rattle.sheet.specs.Scripts.{awaits_in}
use Rattle.instructions.specs.Sound.{Sound}
use Rattle.script.specs.Script.{flow_instruction, flow_code, parameter_in}
use Rattle.script.proofs.ScriptLaws.{code_length, checked}
use Rattle.blocks.proofs.CodeLaws.{spans_at}
use Rattle.verdict.specs.Points.{Point, await_points, block_points, points}
use Rattle.verdict.proofs.PointLaws as listed
use Rattle.check_points.specs.CheckPoints.{code_of, Solved}

-- ---- where a block lies

-- block c is the instructions from start to end
pub record Span (s : List ℕ) (y : Layout) (c start end : ℕ) : Type 0 where
  pub ordered : start ≤ end
  pub inside : end ≤ y.instructions
  pub is : body (code_of s) c ≡ range start (end - start)

-- so the words START and END say
pub spans : {s : List ℕ} {parameter : ℕ → Bool} {x : Script} {y : Layout} {m t : Mem} → Solved s parameter x y m t → (c : ℕ) → c < y.blocks → {start end : ℕ}
    → start ≡ word m start_cell c → end ≡ word m end_cell c → Span s y c start end
spans {s} {parameter} {x} {y} p c lc {start} {end} e f =
    let z = spans_at (code_of s) (parameter_in (parts_of s)) x.slots (checked s x p.coded.sound) c start end
    (subst (λ (n : ℕ). c < n) p.flows.blocks lc) (e ∙ p.starts c lc) (f ∙ p.ends c lc) in
    record {
      ordered = omega (arith, z.some);
      inside = omega (arith, z.inside, code_length s x p.coded.sound, p.coded.instructions);
      is = z.is;
    }

-- ---- the awaits of a list

module _ (code : List flow.Instruction) (parameter : ℕ → Bool) where
  -- a point for each await
  pub points_length : (g : ℕ → Bool) (is : List ℕ) → length (await_points code parameter g is) ≡ length (keep (await_at code) is)
  points_length g is =
      sym (length-map (await_points code parameter g is) (λ (pt : Point). pt.instruction)) ∙ ap length (listed.await_instructions code parameter g is)

  -- ---- the blocks in turn

  -- the points of blocks, and then of more
  pub blocks_append : (words : ℕ) (a b : List ℕ)
      → block_points code parameter words (a ++ b) ≡ block_points code parameter words a ++ block_points code parameter words b
  unfolding block_points
  blocks_append words [] b = refl
  blocks_append words (c ∷ a) b =
      ap (λ (l : List Point). facts ++ l) (blocks_append words a b)
      ∙ sym (append_assoc facts (block_points code parameter words a) (block_points code parameter words b))
    where
      facts : List Point
      facts = pick (reachable code c) (await_points code parameter (live_exit code parameter words c) (body code c)) []

-- ---- the awaits of the whole code

-- the instructions from k on that are awaits, as they are counted in the sheet
awaits-counted : (code : List flow.Instruction) (k : ℕ) (is : List Instruction)
    → ((j : ℕ) → j < length is → await_at code (k + j) ≡ is_await (get_or is j (record { kind = 0; fields = [] })).kind)
    → length (keep (await_at code) (range k (length is))) ≡ awaits_in is
unfolding awaits_in
awaits-counted code k [] h = refl
awaits-counted code k (i ∷ is) h = go (await_at code k) (is_await i.kind) same
    (awaits-counted code (suc k) is (λ j lt. ap (await_at code) (let e : suc k + j ≡ k + suc j = omega arith in e) ∙ h (suc j) (omega arith)))
  where
    same : await_at code k ≡ is_await i.kind
    same = ap (await_at code) (sym (add-zero k)) ∙ h 0 (omega arith)

    go : (t u : Bool) → t ≡ u → length (keep (await_at code) (range (suc k) (length is))) ≡ awaits_in is
        → length (pick t (k ∷ keep (await_at code) (range (suc k) (length is))) (keep (await_at code) (range (suc k) (length is))))
        ≡ pick u 1 0 + awaits_in is
    go true true e r = omega (arith, r)
    go false false e r = omega (arith, r)
    go true false e r = absurd (true≢false e)
    go false true e r = absurd (false≢true e)

-- there are as many as the script says
code-awaits : (s : List ℕ) (x : Script) → Sound s x → length (keep (await_at (code_of s)) (range 0 (length (code_of s)))) ≡ x.awaits
unfolding flow_code
code-awaits s x h =
    ap (λ (n : ℕ). length (keep (await_at (code_of s)) (range 0 n))) (length-map (parts_of s).code flow_instruction)
    ∙ awaits-counted (code_of s) 0 (parts_of s).code at ∙ sym h.awaits_are
  where
    at : (j : ℕ) → j < length (parts_of s).code
        → await_at (code_of s) (0 + j) ≡ is_await (get_or (parts_of s).code j (record { kind = 0; fields = [] })).kind
    at j lt =
        ap (await_at (code_of s)) (zero-add j)
        ∙ ap (λ (i : flow.Instruction). i.is_await) (map_at flow_instruction (parts_of s).code j (record { kind = 0; fields = [] }) outside lt)

-- the points are no more than the awaits
pub points_few : (s : List ℕ) (parameter : ℕ → Bool) (x : Script) → Sound s x → (words : ℕ) → length (points (code_of s) parameter words) ≤ x.awaits
points_few s parameter x h words = omega (arith, listed.points_few (code_of s) parameter words, code-awaits s x h)
