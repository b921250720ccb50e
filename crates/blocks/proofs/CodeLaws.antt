-- The blocks of code: where each begins and ends, its last instruction, and where control goes from there. Assumes nothing.
use mathlib.Core.Path.{◌≡◌, sym, ap, ◌∙◌}
use mathlib.Core.Bool.{Bool, true, false, false≢true}
use mathlib.Core.List.{List, [], ◌∷◌, Memᴰ}
use Prim.Native.Nat.{ℕ, zero, suc, ◌+◌, ◌-◌, ◌≤◌, ◌<◌}
use native.Mathlib.Decide.{ℕ_discrete}
use native.Mathlib.Omega.{arith}
use lib.ListN.{length, get_or, length-map}
use Rattle.dataflow.specs.Lists.{pick, range}
use Rattle.dataflow.specs.Code.{Instruction, instruction_at, successors, leader, last_or, index_of, leaders, body, block_successors}
use Rattle.dataflow.specs.Results.{block_count}
use Rattle.dataflow.specs.Checked.{Checked}
use Rattle.dataflow.proofs.Leaders.{starts_lead, leaders_below, block_range}
use Rattle.dataflow.proofs.CodeBlocks.{basic_blocks, last_target}

-- the last of k, k + 1, ..
last-range : (d k n : ℕ) → last_or d (range k (suc n)) ≡ k + n
last-range d k zero = omega arith
last-range d k (suc n) = last-range k (suc k) n ∙ omega arith

-- ---- the blocks' starts

module _ (code : List Instruction) where
  -- the starts ascend
  pub starts_up : (b e : ℕ) → b + e ≤ block_count code → get_or (leaders code) b (length code) ≤ get_or (leaders code) (b + e) (length code)
  starts_up b zero h = let q : b + 0 ≡ b = omega arith in rw q (omega arith)
  starts_up b (suc e) h =
      let q : b + suc e ≡ suc (b + e) = omega arith in
      let up = starts_up b e (omega arith) in
      let z = (block_range code (b + e) (omega arith)).1 in
      rw q (omega (arith, up, z))

  -- from its start to its end
  pub record Spans (b start end : ℕ) : Type 0 where
    pub is : body code b ≡ range start (end - start)
    pub begins : start ≡ get_or (leaders code) b (length code)
    pub ends : end ≡ get_or (leaders code) (suc b) (length code)
    pub some : start < end
    pub inside : end ≤ length code
    pub last : last_or 0 (body code b) ≡ end - 1

  -- every instruction has at most two successors
  pub few_successors : ((i : ℕ) → length (instruction_at code i).targets ≤ 2) → (b : ℕ) → length (block_successors code b) ≤ 2
  few_successors f b =
      let i : ℕ = last_or 0 (body code b) in
      let e = length-map (successors code i) (λ (t : ℕ). index_of t (leaders code)) in
      omega (arith, e, go (instruction_at code i).ends (instruction_at code i).targets (suc i) (f i))
    where
      go : (t : Bool) (l : List ℕ) (j : ℕ) → length l ≤ 2 → length (pick t l (j ∷ [])) ≤ 2
      go true l j h = h
      go false l j h = omega arith

module _ (code : List Instruction) (parameter : ℕ → Bool) (slots : ℕ) (ch : Checked code parameter slots) where
  -- where a block's words say that it begins and ends
  pub spans_at : (b start end : ℕ) → b < block_count code → start ≡ get_or (leaders code) b (length code)
      → end ≡ get_or (leaders code) (suc b) (length code) → Spans code b start end
  spans_at b start end h p q = record {
    is = is;
    begins = p;
    ends = q;
    some = some;
    inside = omega (arith, q, leaders_below code (suc b));
    last = ap (last_or 0) (is ∙ ap (range start) next) ∙ last-range 0 start (end - 1 - start) ∙ omega (arith, some);
  }
    where
      long : start + length (body code b) ≡ end
      long = omega (arith, (block_range code b h).1, p, q)

      filled : 0 < length (body code b)
      filled = let t = (basic_blocks code parameter slots ch).starts b in omega (arith, ap length t.1)

      some : start < end
      some = omega (arith, long, filled)

      next : end - start ≡ suc (end - 1 - start)
      next = omega (arith, some)

      count : length (body code b) ≡ end - start
      count = omega (arith, long)

      is : body code b ≡ range start (end - start)
      is = (block_range code b h).0 ∙ ap (λ (k : ℕ). range k (length (body code b))) (sym p) ∙ ap (range start) count

  module _ (b start end : ℕ) (h : b < block_count code) (sp : Spans code b start end) where
    -- what follows a block that does not end is an instruction
    pub behind_inside : (instruction_at code (end - 1)).ends ≡ false → end < length code
    behind_inside e = go (ℕ_discrete end (length code))
      where
        go : Dec (end ≡ length code) → end < length code
        go (yes q) = absurd (false≢true (sym e ∙ ch.closed_end (end - 1) (omega (arith, sp.some))))
        go (no q) = omega (arith, sp.inside)

    -- control goes to leaders
    pub next_leads : (t : ℕ) → Memᴰ t (successors code (end - 1)) → (leader code t ≡ true) × (t < length code)
    next_leads t m = starts_lead code t (last_target code parameter slots ch b (end - 1) sp.last t m)
