-- Where the parts of an answer stand in the sets buffer. Assumes nothing.
use mathlib.Core.Path.{◌≡◌, sym, ap, ◌∙◌}
use mathlib.Core.Bool.{Bool, false}
use mathlib.Core.List.{List, ◌∷◌, ◌++◌, append_assoc}
use Prim.Native.Nat.{ℕ, ◌+◌, ◌*◌, ◌<◌}
use native.Mathlib.Nat.{add-zero}
use native.Mathlib.Omega.{arith}
use lib.ListN.{length, get_or, take, drop, length-append}
use lib.Seq.{take_at, drop_at, drop-drop, get_or-drop}
use Rattle.dataflow.specs.Lists.{range}
use Rattle.dataflow.specs.Code.{Instruction}
use Rattle.dataflow.specs.Results.{init_exit, live_entry}
use Rattle.dataflow.proofs.Lists.{range_at, range_length}
use Rattle.answer.specs.Words.{words_of}
use Rattle.answer.proofs.WordLaws.{words_of_lem}
use Rattle.verdict.specs.Points.{Point}
use Rattle.outcome.specs.Buffers.{joined, block_sets, await_words}
use Rattle.outcome.proofs.JoinedLaws.{joined_at, joined_past}
use Rattle.answer.specs.Held.{row_at, initialized_words, live_words, await_instruction}

module _ (code : List Instruction) (parameter : ℕ → Bool) (w blocks : ℕ) (pts : List Point) (rest v : List ℕ)
    (is : v ≡ (joined (block_sets code parameter w) (range 0 blocks) ++ joined (await_words code parameter w) pts) ++ rest) where
  long : (f : ℕ → Bool) → length (words_of w f) ≡ w
  long f = (words_of_lem f w).long

  sets_long : (c : ℕ) → length (block_sets code parameter w c) ≡ 2 * w
  sets_long c =
      let e : length (words_of w (init_exit code parameter w c)) ≡ w = long (init_exit code parameter w c) in
      let f : length (words_of w (live_entry code parameter w c)) ≡ w = long (live_entry code parameter w c) in
      length-append (words_of w (init_exit code parameter w c)) (words_of w (live_entry code parameter w c)) ∙ omega (arith, e, f)

  await-long : (p : Point) → length (await_words code parameter w p) ≡ 1 + w
  await-long p = let e : length (words_of w p.live) ≡ w = long p.live in omega (arith, e)

  -- from block c's rows on
  abbrev awaits : List ℕ
  awaits = joined (await_words code parameter w) pts

  apart : v ≡ joined (block_sets code parameter w) (range 0 blocks) ++ (awaits ++ rest)
  apart = is ∙ append_assoc (joined (block_sets code parameter w) (range 0 blocks)) awaits rest

  rows_at : (c : ℕ) → c < blocks → (r : List ℕ)
      × (drop (c * (2 * w)) v ≡ words_of w (init_exit code parameter w c) ++ (words_of w (live_entry code parameter w c) ++ r))
  rows_at c lt =
      let z = joined_at (block_sets code parameter w) (2 * w) sets_long (range 0 blocks) (awaits ++ rest) c 0 (omega (arith, range_length 0 blocks)) in
      let e : get_or (range 0 blocks) c 0 ≡ c = range_at blocks c lt in (
        z.0,
        ap (drop (c * (2 * w))) apart ∙ z.1 ∙ ap (λ (k : ℕ). block_sets code parameter w k ++ z.0) e
            ∙ append_assoc (words_of w (init_exit code parameter w c)) (words_of w (live_entry code parameter w c)) z.0,
      )

  pub initialized_is : (c : ℕ) → c < blocks → initialized_words v w c ≡ words_of w (init_exit code parameter w c)
  initialized_is c lt = let z = rows_at c lt in ap (take w) z.1 ∙ take_at (words_of w (init_exit code parameter w c)) _ w (long _)

  pub live_is : (c : ℕ) → c < blocks → live_words v w c ≡ words_of w (live_entry code parameter w c)
  live_is c lt = let z = rows_at c lt in
      ap (take w)
      (sym (drop-drop w (c * (2 * w)) v) ∙ ap (drop w) z.1 ∙ drop_at (words_of w (init_exit code parameter w c)) _ w (long _))
      ∙ take_at (words_of w (live_entry code parameter w c)) z.0 w (long _)

  -- from the k-th await's words on
  abbrev pub point : ℕ → Point
  point k = get_or pts k (record { instruction = 0; live = λ s. false })

  await-at : (k : ℕ) → k < length pts → (r : List ℕ)
      × (drop (blocks * (2 * w) + k * (1 + w)) v ≡ (point k).instruction ∷ (words_of w (point k).live ++ r))
  await-at k lt =
      let z = joined_at (await_words code parameter w) (1 + w) await-long pts rest k (record { instruction = 0; live = λ s. false }) lt in
      let past : drop (blocks * (2 * w)) v ≡ awaits ++ rest =
      ap (drop (blocks * (2 * w))) apart
      ∙ ap (λ (j : ℕ). drop (j * (2 * w)) (joined (block_sets code parameter w) (range 0 blocks) ++ (awaits ++ rest))) (sym (range_length 0 blocks))
      ∙ joined_past (block_sets code parameter w) (2 * w) sets_long (range 0 blocks) (awaits ++ rest) in
      (z.0, sym (drop-drop (k * (1 + w)) (blocks * (2 * w)) v) ∙ ap (drop (k * (1 + w))) past ∙ z.1)

  pub instruction_is : (k : ℕ) → k < length pts → await_instruction v w blocks k ≡ (point k).instruction
  instruction_is k lt = let z = await-at k lt in
      ap (λ (j : ℕ). get_or v j 0) (sym (add-zero (blocks * (2 * w) + k * (1 + w))))
      ∙ sym (get_or-drop (blocks * (2 * w) + k * (1 + w)) v 0 0) ∙ ap (λ (l : List ℕ). get_or l 0 0) z.1

  pub set_is : (k : ℕ) → k < length pts → row_at v w (blocks * (2 * w) + (k * (1 + w) + 1)) ≡ words_of w (point k).live
  set_is k lt = let z = await-at k lt in
      let e : blocks * (2 * w) + (k * (1 + w) + 1) ≡ (blocks * (2 * w) + k * (1 + w)) + 1 = omega arith in
      ap (take w)
      (ap (λ (j : ℕ). drop j v) e ∙ sym (drop-drop 1 (blocks * (2 * w) + k * (1 + w)) v) ∙ ap (drop 1) z.1)
      ∙ take_at (words_of w (point k).live) z.0 w (long _)
