-- The words of the list, where they hold each block's record, are the list of document 01. Assumes nothing.
use mathlib.Core.Path.{◌≡◌, sym, ap, ◌∙◌}
use mathlib.Core.List.{List, [], ◌++◌, append-nil}
use Prim.Native.Nat.{ℕ, ◌+◌, ◌*◌, ◌-◌, ◌/◌, ◌%◌, ◌≤◌, ◌<◌}
use native.Mathlib.Decide.{dec_lt}
use native.Mathlib.Nat.{zero-add}
use native.Mathlib.Omega.{arith}
use lib.ListN.{length, get_or, replicate, length-append, length-replicate, get_or-append, get_or-replicate}
use lib.Seq.{ext_get_or, get_or-drop, get_or-append-add}
use Rattle.dataflow.specs.Lists.{range, tabulate}
use Rattle.dataflow.proofs.Lists.{length_tabulate, get_d_tabulate, range_at, range_length}
use Rattle.memory.specs.Cells.{Mem}
use Rattle.outcome.specs.Buffers.{joined, padded}
use Rattle.outcome.proofs.JoinedLaws.{joined_at, joined-range}
use Rattle.blocklist.specs.List.{record_in, list_word}
use Rattle.blocklist.proofs.WordLaws.{word_inside, word_behind}

module _ (m : Mem) (f : ℕ → List ℕ) (six : (c : ℕ) → length (f c) ≡ 6) (blocks n : ℕ) (is : (c : ℕ) → c < blocks → record_in m c ≡ f c) (fits : 6 * blocks ≤ n) where
  abbrev all : List ℕ
  all = joined f (range 0 blocks)

  all-long : length all ≡ blocks * 6
  all-long = joined-range f 6 six blocks

  -- word k of the records
  all-at : (k : ℕ) → k / 6 < blocks → get_or all k 0 ≡ get_or (f (k / 6)) (k % 6) 0
  all-at k lt =
      let z = joined_at f 6 six (range 0 blocks) [] (k / 6) 0 (omega (arith, range_length 0 blocks)) in
      let e : get_or (range 0 blocks) (k / 6) 0 ≡ k / 6 = range_at blocks (k / 6) lt in
      let split : k ≡ k / 6 * 6 + k % 6 = omega arith in
      ap (λ (l : List ℕ). get_or l k 0) (sym (append-nil all))
      ∙ ap (λ (j : ℕ). get_or (all ++ []) j 0) split
      ∙ sym (get_or-drop (k / 6 * 6) (all ++ []) (k % 6) 0)
      ∙ ap (λ (l : List ℕ). get_or l (k % 6) 0) z.1
      ∙ get_or-append (f (get_or (range 0 blocks) (k / 6) 0)) z.0 0 (k % 6) (omega (arith, six (get_or (range 0 blocks) (k / 6) 0)))
      ∙ ap (λ (c : ℕ). get_or (f c) (k % 6) 0) e

  -- word k of the list
  word_at : (k : ℕ) → k < n → Dec (k / 6 < blocks) → list_word m blocks k ≡ get_or (padded n all) k 0
  word_at k lt (yes q) =
      sym (word_inside m blocks k q)
      ∙ ap (λ (l : List ℕ). get_or l (k % 6) 0) (is (k / 6) q)
      ∙ sym (all-at k q)
      ∙ sym (get_or-append all (replicate (n - length all) 0) 0 k (omega (arith, all-long)))
  word_at k lt (no q) =
      let past : k ≡ length all + (k - length all) = omega (arith, all-long) in
      sym (word_behind m blocks k (omega arith))
      ∙ sym (ap (λ (j : ℕ). get_or (padded n all) j 0) past
      ∙ get_or-append-add all (replicate (n - length all) 0) (k - length all) 0
      ∙ get_or-replicate (n - length all) (k - length all) 0 0 (omega (arith, all-long)))

  pub list_is : tabulate 0 n (list_word m blocks) ≡ padded n all
  list_is =
      ext_get_or 0 (tabulate 0 n (list_word m blocks)) (padded n all)
      (omega (arith, length_tabulate 0 n (list_word m blocks), length-append all (replicate (n - length all) 0), length-replicate {A = ℕ} (n - length all) 0, all-long))
      (λ k lt.
      let q : k < n = omega (arith, length_tabulate 0 n (list_word m blocks)) in
      get_d_tabulate 0 n k (list_word m blocks) 0 q ∙ ap (list_word m blocks) (zero-add k) ∙ word_at k q (dec_lt (k / 6) blocks))
