-- An acceptance says what demands 2 and 3 ask. Assumes nothing.
use mathlib.Core.Path.{◌≡◌, refl, sym, ap, subst, ◌∙◌}
use mathlib.Core.Bool.{Bool, true, false, ◌||◌, false≢true}
use mathlib.Core.List.Memᴰ
use mathlib.Core.List.{List, [], ◌∷◌, ◌++◌, map, Memᴰ}
use mathlib.Core.Logic.{◌⊎◌, inl, inr, ◌↔◌}
use Prim.Native.Nat.{ℕ, zero, suc, ◌+◌, ◌*◌, ◌<◌}
use native.Mathlib.Decide.{dec_lt}
use native.Mathlib.Omega.{arith}
use lib.ListN.{length, get_or, replicate}
use Rattle.bitset.specs.Sets.{member, ones}
use Rattle.bitset.proofs.SetLaws.{member-past}
use Rattle.dataflow.specs.Program.{Program}
use Rattle.dataflow.specs.Analyses.{written}
use Rattle.dataflow.specs.Paths.{Path, Reached}
use Rattle.dataflow.specs.Demand.{Least, Faulty}
use Rattle.dataflow.specs.Code.{Instruction, program, successors, await_at}
use Rattle.dataflow.specs.Results.{block_count, reachable}
use Rattle.dataflow.specs.Verdict.{accepts}
use Rattle.dataflow.proofs.Lists.{mem-get_or}
use Rattle.dataflow.proofs.Analyses.{filled_plain}
use Rattle.dataflow.proofs.Results.{least_below, reachable_block}
use Rattle.dataflow.proofs.Verdict.{accepts_iff, accepted_reads}
use Rattle.memory.specs.Cells.{cell}
use Rattle.memory.specs.Names.{initialized_row, live_row}
use Rattle.answer.specs.Words.{words_of}
use Rattle.answer.proofs.WordLaws.{words_of_lem, words_of_means}
use Rattle.dataflow.specs.Checked.{Scripted}
use Rattle.dataflow.specs.BlockPaths.{ReachedBlock, FilledThrough, LiveFrom}
use Rattle.verdict.specs.Points.{Point, points}
use Rattle.verdict.specs.Ascending.{Ascending}
use Rattle.verdict.proofs.PointLaws.{points_ascend, point_awaits, point_least, point_clean, awaits_listed}
use Rattle.outcome.specs.Buffers.{joined, reachable_mark, block_sets, await_words}
use Rattle.answer.specs.Held.{row_at, initialized_words, live_words, await_instruction, await_set}
use Rattle.demands.proofs.HeldLaws.{point, initialized_is, live_is, instruction_is, set_is}
use Rattle.demands.proofs.RowLaws.{all_rows, initialized_row_lem, live_row_lem, rows_by_paths}
use Rattle.dataflow.specs.Lists.{flag, range}

-- ---- lists

-- in an ascending list earlier numbers are lower
ascending-at : (f : Point → ℕ) (d : Point) (l : List Point) → Ascending (map f l) → (j k : ℕ) → j < k → k < length l
    → f (get_or l j d) < f (get_or l k d)
ascending-at f d [] h j k lt inside = absurd (omega arith)
ascending-at f d (a ∷ l) h j zero lt inside = absurd (omega arith)
ascending-at f d (a ∷ l) h zero (suc k) lt inside = h.0 (f (get_or l k d)) (Memᴰ.map f (mem-get_or l k d (omega arith)))
ascending-at f d (a ∷ l) h (suc j) (suc k) lt inside = ascending-at f d l h.1 j k (omega arith) (omega arith)

-- where a point of a list stands
mem_index : (d a : Point) (l : List Point) → Memᴰ a l → (k : ℕ) × (k < length l) × (get_or l k d ≡ a)
mem_index d a [] m = absurd (Memᴰ.not-nil m)
mem_index d a (b ∷ l) m = go (Memᴰ.cases_cons m) (mem_index d a l)
  where
    go : (a ≡ b) ⊎ Memᴰ a l → (Memᴰ a l → (k : ℕ) × (k < length l) × (get_or l k d ≡ a)) → (k : ℕ) × (k < suc (length l)) × (get_or (b ∷ l) k d ≡ a)
    go (inl e) rest = (0, omega arith, sym e)
    go (inr q) rest = let z = rest q in (suc z.0, omega (arith, z.1), z.2)

-- a set with the same members as a least one is least
least-ext : (p : Program ℕ ℕ) (a : ℕ) (f g : ℕ → Bool) → ((x : ℕ) → f x ≡ g x) → Least p a f → Least p a g
least-ext p a f g e h = record {
  saves = λ l j x w r. subst (λ (t : Bool). (t || written p l x) ≡ true) (e x) (h.saves l j x w r);
  least = λ y s x q. h.least y s x (e x ∙ q);
}

-- a mark is 1 exactly if it is set
flag_one : (t : Bool) → (flag t ≡ 1) ↔ (t ≡ true)
flag_one true = ((λ e. refl), λ e. refl)
flag_one false = ((λ e. absurd (omega (arith, e))), λ e. absurd (false≢true e))

-- ---- an accepted script: v is the answer's words, then others

module _ (code : List Instruction) (parameter : ℕ → Bool) (w : ℕ) (h : Scripted code parameter w) (host : ℕ → Bool)
    (ok : accepts code parameter w h.slots host ≡ true) (rest v : List ℕ)
    (is : v ≡ (joined (block_sets code parameter w) (range 0 (block_count code)) ++ joined (await_words code parameter w) (points code parameter w)) ++ rest) where
  abbrev p : Program ℕ ℕ
  p = program code parameter

  abbrev pts : List Point
  pts = points code parameter w

  abbrev nth : ℕ → Point
  nth k = point code parameter w (block_count code) pts rest v is k

  among : (k : ℕ) → k < length pts → Memᴰ (nth k) pts
  among k lt = mem-get_or pts k (record { instruction = 0; live = λ s. false }) lt

  named : (k : ℕ) → k < length pts → await_instruction v w (block_count code) k ≡ (nth k).instruction
  named k lt = instruction_is code parameter w (block_count code) pts rest v is k lt

  pub not_faulty : Faulty p (await_at code) host → ⊥
  not_faulty = (accepts_iff code parameter h.slots w h.checked h.wide host).0 ok

  pub reads_filled : (before : List ℕ) (i x : ℕ) → Path (successors code) 0 before i → p.reads i x ≡ true → (parameter x || written p before x) ≡ true
  reads_filled before i x way read = sym (filled_plain p h.empties before x)
      ∙ accepted_reads code parameter h.slots w h.checked h.wide host ok before i x way read

  pub awaits_ascend : (j k : ℕ) → j < k → k < length pts → await_instruction v w (block_count code) j < await_instruction v w (block_count code) k
  awaits_ascend j k lt inside =
      let a = ascending-at (λ (q : Point). q.instruction) (record { instruction = 0; live = λ s. false }) pts (points_ascend code parameter w) j k lt inside in
      omega (arith, a, named j (omega arith), named k inside)

  pub awaits_are : (i : ℕ) → ((k : ℕ) × (k < length pts) × (await_instruction v w (block_count code) k ≡ i)) ↔ ((await_at code i ≡ true) × Reached p i)
  awaits_are i = (there, back)
    where
      there : (k : ℕ) × (k < length pts) × (await_instruction v w (block_count code) k ≡ i) → (await_at code i ≡ true) × Reached p i
      there (k, lt, e) =
          let a = point_awaits code parameter w h.slots h.checked h.wide (nth k) (among k lt) in
          subst (λ (j : ℕ). (await_at code j ≡ true) × Reached p j) (sym (named k lt) ∙ e) (a.0, a.1)

      back : (await_at code i ≡ true) × Reached p i → (k : ℕ) × (k < length pts) × (await_instruction v w (block_count code) k ≡ i)
      back (e, r) =
          let a = awaits_listed code parameter w h.slots h.checked h.wide i e r in
          let z = mem_index (record { instruction = 0; live = λ s. false }) a.0 pts a.1 in
          (z.0, z.1, named z.0 z.1 ∙ ap (λ (q : Point). q.instruction) z.2 ∙ a.2)

  -- the words of a set have its members, since it holds slots only
  set-members : (k : ℕ) → k < length pts → (x : ℕ) → (nth k).live x ≡ await_set v w (block_count code) k x
  set-members k lt x = go (dec_lt x (64 * w)) ((nth k).live x) refl
    where
      row : row_at v w (block_count code * (2 * w) + (k * (1 + w) + 1)) ≡ words_of w (nth k).live
      row = set_is code parameter w (block_count code) pts rest v is k lt

      go : Dec (x < 64 * w) → (t : Bool) → (nth k).live x ≡ t → (nth k).live x ≡ await_set v w (block_count code) k x
      go (yes q) t e = sym (ap (λ (ws : List ℕ). member ws x) row ∙ words_of_means (nth k).live w x q)
      go (no q) false e = e ∙ sym (ap (λ (ws : List ℕ). member ws x) row ∙ member-past (words_of w (nth k).live) x (omega (arith, (words_of_lem (nth k).live w).long)))
      go (no q) true e = absurd (omega (
        arith,
        h.wide,
        least_below code parameter h.slots w h.checked h.wide (nth k).instruction (nth k).live
            (point_least code parameter w h.slots h.checked h.wide (nth k) (among k lt)) x e,
      ))

  pub awaits_least : (k : ℕ) → k < length pts → Least p (await_instruction v w (block_count code) k) (await_set v w (block_count code) k)
  awaits_least k lt = least-ext p (await_instruction v w (block_count code) k) (nth k).live (await_set v w (block_count code) k) (set-members k lt)
      (subst (λ (i : ℕ). Least p i (nth k).live) (sym (named k lt))
      (point_least code parameter w h.slots h.checked h.wide (nth k) (among k lt)))

  pub awaits_below : (k x : ℕ) → k < length pts → await_set v w (block_count code) k x ≡ true → x < h.slots
  awaits_below k x lt e = least_below code parameter h.slots w h.checked h.wide (await_instruction v w (block_count code) k)
      (await_set v w (block_count code) k) (awaits_least k lt) x e

  pub awaits_clean : (k x : ℕ) → k < length pts → await_set v w (block_count code) k x ≡ true → host x ≡ false
  awaits_clean k x lt e = point_clean code parameter w h.slots h.checked h.wide host ok (nth k) (among k lt) x (set-members k lt x ∙ e)

  -- ---- demand 2

  pub marked_reachable : (c : ℕ) → c < block_count code → (reachable_mark code c ≡ 1) ↔ ReachedBlock code parameter c
  marked_reachable c lt =
      let m = flag_one (reachable code c) in
      let r = reachable_block code parameter h.slots w h.checked h.wide c lt in
      ((λ e. r.0 (m.0 e)), λ p. m.1 (r.1 p))

  first-row : (c : ℕ) → c < block_count code → cell (all_rows code parameter w) (initialized_row c) ≡ initialized_words v w c
  first-row c lt = initialized_row_lem code parameter w c lt ∙ sym (initialized_is code parameter w (block_count code) pts rest v is c lt)

  second_row : (c : ℕ) → c < block_count code → cell (all_rows code parameter w) (live_row c) ≡ live_words v w c
  second_row c lt = live_row_lem code parameter w c lt ∙ sym (live_is code parameter w (block_count code) pts rest v is c lt)

  pub initialized_words_lem : (c : ℕ) → c < block_count code → ReachedBlock code parameter c → (x : ℕ)
      → (member (initialized_words v w c) x ≡ true) ↔ FilledThrough code parameter c x
  initialized_words_lem c lt r x = subst (λ (ws : List ℕ). (member ws x ≡ true) ↔ FilledThrough code parameter c x) (first-row c lt)
      ((rows_by_paths code parameter w h).initialized c lt r x)

  pub live_words_lem : (c : ℕ) → c < block_count code → ReachedBlock code parameter c → (x : ℕ)
      → (member (live_words v w c) x ≡ true) ↔ LiveFrom code parameter c x
  live_words_lem c lt r x = subst (λ (ws : List ℕ). (member ws x ≡ true) ↔ LiveFrom code parameter c x) (second_row c lt)
      ((rows_by_paths code parameter w h).live c lt r x)

  pub unreached_initialized_words : (c : ℕ) → c < block_count code → (ReachedBlock code parameter c → ⊥) → initialized_words v w c ≡ replicate w ones
  unreached_initialized_words c lt never = sym (first-row c lt) ∙ (rows_by_paths code parameter w h).unreached_initialized c lt never

  pub unreached_live_words : (c : ℕ) → c < block_count code → (ReachedBlock code parameter c → ⊥) → live_words v w c ≡ replicate w 0
  unreached_live_words c lt never = sym (second_row c lt) ∙ (rows_by_paths code parameter w h).unreached_live c lt never
