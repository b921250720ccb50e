-- The blocks that the marks give are the blocks of the code. Assumes nothing.
use mathlib.Core.Path.{◌≡◌, refl, sym, ap, ap₂, ◌∙◌}
use mathlib.Core.Bool.{Bool, true, false, not}
use mathlib.Core.List.{List, ◌∷◌}
use Prim.Native.Nat.{ℕ, zero, suc, ◌+◌, ◌≤◌, ◌<◌}
use native.Mathlib.Omega.{arith}
use lib.Dec.{eqb}
use lib.ListN.{length}
use Rattle.dataflow.specs.Lists.{pick, range, keep, flag}
use Rattle.dataflow.specs.Code.{leader, leaders}
use Rattle.dataflow.specs.Results.{block_count}
use Rattle.dataflow.proofs.Leaders.{leaders_are, leaders_count}
use Rattle.memory.specs.Cells.{Mem, cell}
use Rattle.memory.specs.Names.{block_of_cell}
use Rattle.sheet.specs.declared.script.Script.{Script}
use Rattle.sheet.specs.Decode.{parts_of}
use Rattle.instructions.specs.Sound.{Sound}
use Rattle.script.specs.Script.{flow_code}
use Rattle.script.proofs.ScriptLaws.{code_length}
use Rattle.leaders.specs.Numbers.{marked, starts_of, Numbered}
use Rattle.leaders.specs.Leaders.{Led}

-- two tests that agree on k, k + 1, .. keep the same of them
keep_same : (f g : ℕ → Bool) (k n : ℕ) → ((i : ℕ) → k ≤ i → i < k + n → f i ≡ g i) → keep f (range k n) ≡ keep g (range k n)
keep_same f g k zero h = refl
keep_same f g k (suc n) h =
    ap₂ (λ (t : Bool) (l : List ℕ). pick t (k ∷ l) l) (h k (omega arith) (omega arith))
    (keep_same f g (suc k) n (λ i a b. h i (omega arith) (omega arith)))

unflag : (b : Bool) → not (eqb (flag b) 0) ≡ b
unflag true = refl
unflag false = refl

module _ (s : List ℕ) (x : Script) (h : Sound s x) (m : Mem) (led : Led s x m) where
  -- the marks say which instructions are leaders
  pub is_marked : (i : ℕ) → i < x.count → marked (cell m block_of_cell) i ≡ leader (flow_code (parts_of s)) i
  is_marked i lt = ap (λ (w : ℕ). not (eqb w 0)) (led.marks i lt) ∙ unflag (leader (flow_code (parts_of s)) i)

  -- the marked instructions are the starts of the blocks
  pub starts_are : starts_of (cell m block_of_cell) x.count ≡ leaders (flow_code (parts_of s))
  starts_are =
      keep_same (marked (cell m block_of_cell)) (leader (flow_code (parts_of s))) 0 x.count (λ i a b. is_marked i (omega arith))
      ∙ ap (λ (n : ℕ). keep (leader (flow_code (parts_of s))) (range 0 n)) (sym (code_length s x h))
      ∙ sym (leaders_are (flow_code (parts_of s)))

  -- as many blocks are counted as the code has
  pub blocks_are : (m' : Mem) (b : ℕ) → Numbered x.count m m' b → b ≡ block_count (flow_code (parts_of s))
  blocks_are m' b g = g.count ∙ ap length starts_are ∙ leaders_count (flow_code (parts_of s))
