-- The words after the numbering are the index of the script's blocks. Assumes nothing.
use mathlib.Core.Path.{◌≡◌, refl, sym, ap, ap₂, ◌∙◌}
use mathlib.Core.Bool.{Bool, true, false, not}
use mathlib.Core.List.{List, [], ◌∷◌}
use Prim.Native.Nat.{ℕ, zero, suc, ◌+◌, ◌-◌, ◌≤◌, ◌<◌}
use native.Mathlib.Omega.{arith}
use lib.Dec.{eqb}
use lib.ListN.{length, get_or}
use lib.Seq.{get_or-take}
use borrow.Author.Tests.{eq-eqb, ne_eqb}
use Rattle.dataflow.specs.Lists.{pick, range, keep}
use Rattle.dataflow.specs.Code.{leader, leaders, index_of}
use Rattle.dataflow.specs.Results.{block_count}
use Rattle.dataflow.proofs.Leaders.{leaders_are, leaders_count}
use Rattle.dataflow.proofs.Lists.{get_d_tabulate, keep-few, range_length}
use Rattle.memory.specs.Cells.{Mem, cell, word}
use Rattle.memory.specs.Names.{block_of_cell, leader_cell, offset_cell, start_cell}
use Rattle.sizes.specs.declared.Layout.{Layout}
use Rattle.memory.specs.Scratch.{scratch}
use Rattle.memory.proofs.CellLaws.{same_word}
use Rattle.memory.proofs.ScratchLaws.{grown}
use Rattle.sheet.specs.declared.script.Script.{Script}
use Rattle.sheet.specs.Decode.{parts_of}
use Rattle.instructions.specs.Sound.{Sound}
use Rattle.script.specs.Script.{flow_code}
use Rattle.script.proofs.ScriptLaws.{code_length}
use Rattle.leaders.specs.Numbers.{marked, starts_of, Numbered}
use Rattle.leaders.specs.Leaders.{Led}
use Rattle.leaders.specs.Index.{Indexed}
use Rattle.leaders.proofs.NumberLaws.{starts-count}
use Rattle.leaders.proofs.BlockLaws.{is_marked, starts_are, blocks_are}

-- a kept number stands behind those that are kept before it
index-keep : (f : ℕ → Bool) (k n j : ℕ) → j < n → f (k + j) ≡ true → index_of (k + j) (keep f (range k n)) ≡ length (keep f (range k j))
index-keep f k zero j h e = absurd (omega arith)
index-keep f k (suc n) zero h e =
    let z : k + 0 ≡ k = omega arith in
    ap₂ (λ (i : ℕ) (t : Bool). index_of i (pick t (k ∷ keep f (range (suc k) n)) (keep f (range (suc k) n)))) z (sym (ap f z) ∙ e)
    ∙ ap (λ (t : Bool). pick t 0 (suc (index_of k (keep f (range (suc k) n))))) (eq-eqb k k refl)
index-keep f k (suc n) (suc j) h e =
    let z : k + suc j ≡ suc k + j = omega arith in
    go (ap (λ (i : ℕ). index_of i (keep f (range (suc k) n))) z ∙ index-keep f (suc k) n j (omega arith) (sym (ap f z) ∙ e)) (f k)
  where
    other : eqb (k + suc j) k ≡ false
    other = ne_eqb (k + suc j) k (λ q. absurd (omega arith))

    go : index_of (k + suc j) (keep f (range (suc k) n)) ≡ length (keep f (range (suc k) j))
        → (t : Bool) → index_of (k + suc j) (pick t (k ∷ keep f (range (suc k) n)) (keep f (range (suc k) n)))
        ≡ length (pick t (k ∷ keep f (range (suc k) j)) (keep f (range (suc k) j)))
    go rest true = ap (λ (t : Bool). pick t 0 (suc (index_of (k + suc j) (keep f (range (suc k) n))))) other ∙ ap suc rest
    go rest false = rest

get_d_default : (l : List ℕ) (i a b : ℕ) → i < length l → get_or l i a ≡ get_or l i b
get_d_default [] i a b h = absurd (omega arith)
get_d_default (x ∷ l) zero a b h = refl
get_d_default (x ∷ l) (suc i) a b h = get_d_default l i a b (omega arith)

module _ (s : List ℕ) (x : Script) (h : Sound s x) (m m' : Mem) (led : Led s x m) (b : ℕ) (g : Numbered x.count m m' b) where
  starts-at : (c : ℕ) → c < block_count (flow_code (parts_of s))
      → word m' leader_cell c ≡ get_or (leaders (flow_code (parts_of s))) c (length (flow_code (parts_of s)))
  starts-at c lt =
      let lt' : c < b = omega (arith, blocks_are s x h m led m' b g) in
      sym (get_or-take b (cell m' leader_cell) c 0 lt')
      ∙ same_word c (g.starts ∙ starts_are s x h m led)
      ∙ get_d_default (leaders (flow_code (parts_of s))) c 0 (length (flow_code (parts_of s))) (omega (arith, leaders_count (flow_code (parts_of s))))

  numbers-at : (t : ℕ) → t < x.count → leader (flow_code (parts_of s)) t ≡ true
      → word m' block_of_cell t ≡ index_of t (leaders (flow_code (parts_of s)))
  numbers-at t lt e =
      let ms : List ℕ = cell m block_of_cell in
      let z : 0 + t ≡ t = omega arith in
      let is : marked ms (0 + t) ≡ true = ap (marked ms) z ∙ is_marked s x h m led t lt ∙ e in
      let more : length (starts_of ms (suc t)) ≡ length (starts_of ms t) + 1 = starts-count ms t (is_marked s x h m led t lt ∙ e) in
      same_word t g.numbers
      ∙ get_d_tabulate 0 x.count t (λ i. length (starts_of ms (suc i)) - 1) 0 lt
      ∙ ap (λ (i : ℕ). length (starts_of ms (suc i)) - 1) z
      ∙ omega (arith, more)
      ∙ sym (index-keep (marked ms) 0 x.count t lt is)
      ∙ ap₂ index_of z (starts_are s x h m led)

  -- what `leaders` and then `number` leave is the index
  pub indexed : Indexed s x m'
  indexed = record {
    offsets = λ i lt. same_word i (g.others offset_cell (λ q. absurd (omega arith)) (λ q. absurd (omega arith))) ∙ led.offsets i lt;
    starts = starts-at;
    numbers = numbers-at;
  }

-- the index is the same in each layout with as many instructions
pub indexed-grown : (s : List ℕ) (x : Script) (y y' : Layout) (l : List ℕ) → y.instructions ≡ y'.instructions → Indexed s x (scratch y l)
    → Indexed s x (scratch y' l)
indexed-grown s x y y' l e g = record {
  offsets = λ i lt. at offset_cell i (omega arith) ∙ g.offsets i lt;
  starts = λ b lt. at leader_cell b (omega arith) ∙ g.starts b lt;
  numbers = λ t lt q. at block_of_cell t (omega arith) ∙ g.numbers t lt q;
}
  where
    at : (k i : ℕ) → k < start_cell → word (scratch y' l) k i ≡ word (scratch y l) k i
    at k i h = same_word i (sym (grown y y' l k e h))

-- there are no more blocks than instructions
pub few_blocks : (s : List ℕ) (x : Script) → Sound s x → block_count (flow_code (parts_of s)) ≤ x.count
few_blocks s x h =
    let code = flow_code (parts_of s) in
    let e : block_count code ≡ length (keep (leader code) (range 0 (length code))) = sym (leaders_count code) ∙ ap length (leaders_are code) in
    omega (arith, e, keep-few (leader code) (range 0 (length code)), range_length 0 (length code), code_length s x h)

-- instruction 0 is marked
pub first-marked : (s : List ℕ) (x : Script) (m : Mem) → Sound s x → Led s x m → marked (cell m block_of_cell) 0 ≡ true
first-marked s x m h led = ap (λ (w : ℕ). not (eqb w 0)) (led.marks 0 h.some_code)
