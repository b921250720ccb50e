-- The words of slots up to the last that may be a host slot: how the walk counts them, and what stands behind them. Assumes nothing.
use mathlib.Core.Path.{◌≡◌, refl, ap, ◌∙◌}
use mathlib.Core.Bool.{Bool, true, false}
use mathlib.Core.List.{List}
use Prim.Native.Nat.{ℕ, zero, suc, ◌+◌, ◌*◌, ◌/◌, ◌≤◌, ◌<◌}
use native.Mathlib.Nat.{zero-add, suc-add}
use native.Mathlib.Omega.{arith}
use Rattle.operands.specs.Choice.{pick}
use Rattle.format.specs.Heads.{end_at}
use Rattle.records.specs.Records.{plain_slot, plain_run}
use Rattle.records.proofs.PlainLaws.{plain, plain_end}
use Rattle.records.proofs.RunLaws.{plain_run_most}
use Rattle.sheet.specs.Decode.{offset_of}
use Rattle.sheet.specs.Scripts.{host_words}

-- a part of the slots, and then the others
words-split : (s : List ℕ) (at k n i m : ℕ) → host_words s at (k + n) i m ≡ host_words s (offset_of s at k) n (i + k) (host_words s at k i m)
unfolding host_words offset_of
words-split s at zero n i m =
    let z : i ≡ i + 0 = omega arith in
    ap (λ (c : ℕ). host_words s at c i m) (zero-add n) ∙ ap (λ (c : ℕ). host_words s at n c m) z
words-split s at (suc k) n i m =
    let one : suc i + k ≡ i + suc k = omega arith in
    let u : ℕ = pick (plain_slot s 1 at) m (i / 64 + 1) in
    ap (λ (c : ℕ). host_words s at c i m) (suc-add k n)
    ∙ words-split s (end_at s at) k n (suc i) u
    ∙ ap (λ (c : ℕ). host_words s (offset_of s (end_at s at) k) n c (host_words s (end_at s at) k (suc i) u)) one

-- slots that are all plain
all_plain : (s : List ℕ) (n at i m : ℕ) → plain_run s 1 at n ≡ n → host_words s at n i m ≡ m
unfolding host_words plain_run
all_plain s zero at i m e = refl
all_plain s (suc n) at i m e = go (plain_slot s 1 at) refl e (λ q. all_plain s n (at + 6) (suc i) m q)
  where
    go : (b : Bool) → plain_slot s 1 at ≡ b → pick b (suc (plain_run s 1 (at + 6) n)) 0 ≡ suc n
        → (plain_run s 1 (at + 6) n ≡ n → host_words s (at + 6) n (suc i) m ≡ m)
        → host_words s (end_at s at) n (suc i) (pick b m (i / 64 + 1)) ≡ m
    go true b e more =
        let q : plain_run s 1 (at + 6) n ≡ n = omega arith in
        rw (← plain_end s 1 at (plain s 1 at b)) (more q)
    go false b e more = absurd (omega arith)

-- slots of one word, word j
module _ (s : List ℕ) (j : ℕ) where
  one_word : (n at i : ℕ) → 64 * j ≤ i → i + n ≤ 64 * j + 64 → host_words s at n i (j + 1) ≡ j + 1
  unfolding host_words
  one_word zero at i h l = refl
  one_word (suc n) at i h l =
      let q : i / 64 ≡ j = omega arith in
      rw (ap (λ (c : ℕ). pick (plain_slot s 1 at) (j + 1) (c + 1)) q ∙ same (plain_slot s 1 at)) (one_word n (end_at s at) (suc i) (omega arith) (omega arith))
    where
      same : (b : Bool) → pick b (j + 1) (j + 1) ≡ j + 1
      same true = refl
      same false = refl

  not-all_plain : (n at i m : ℕ) → 64 * j ≤ i → i + n ≤ 64 * j + 64 → (plain_run s 1 at n ≡ n → ⊥) → host_words s at n i m ≡ j + 1
  unfolding host_words plain_run
  not-all_plain zero at i m h l e = absurd (e refl)
  not-all_plain (suc n) at i m h l e =
      go (plain_slot s 1 at) refl e (λ q. not-all_plain n (at + 6) (suc i) m (omega arith) (omega arith) q)
    where
      go : (b : Bool) → plain_slot s 1 at ≡ b → (pick b (suc (plain_run s 1 (at + 6) n)) 0 ≡ suc n → ⊥)
          → ((plain_run s 1 (at + 6) n ≡ n → ⊥) → host_words s (at + 6) n (suc i) m ≡ j + 1)
          → host_words s (end_at s at) n (suc i) (pick b m (i / 64 + 1)) ≡ j + 1
      go true b e more =
          rw (← plain_end s 1 at (plain s 1 at b)) (more (λ q. e (ap suc q)))
      go false b e more =
          let q : i / 64 ≡ j = omega arith in
          rw q (one_word n (end_at s at) (suc i) (omega arith) (omega arith))

-- and the others behind a part: the slot behind it is of no account where there is none
pub words_more : (s : List ℕ) (at k rest left i j m v next : ℕ) → left ≡ k + rest → next ≡ offset_of s at k → (0 < rest → i + k ≡ j)
    → host_words s at k i m ≡ v → host_words s at left i m ≡ host_words s next rest j v
unfolding host_words
words_more s at k zero left i j m v next l p h e =
    let q : left ≡ k = omega arith in
    ap (λ (c : ℕ). host_words s at c i m) q ∙ e
words_more s at k (suc rest) left i j m v next l p h e =
    ap (λ (c : ℕ). host_words s at c i m) l ∙ words-split s at k (suc rest) i m ∙ rw (e, ← p, h (omega arith))

pub words_none : (s : List ℕ) (at left i m : ℕ) → left ≡ 0 → host_words s at left i m ≡ m
unfolding host_words
words_none s at left i m e = rw e

-- a part within word j: all of it plain, or not
pub words_kept : (s : List ℕ) (at k i m b : ℕ) → b ≡ plain_run s 1 at k → k ≤ b → host_words s at k i m ≡ m
words_kept s at k i m b e h = all_plain s k at i m (omega (arith, plain_run_most s 1 k at))

pub words_counted : (s : List ℕ) (at k i m j b : ℕ) → i ≡ 64 * j → k ≤ 64 → b ≡ plain_run s 1 at k → b < k → host_words s at k i m ≡ j + 1
words_counted s at k i m j b z l e h = not-all_plain s j k at i m (omega arith) (omega arith) (λ w. omega (arith, e))

-- there are no more words than slots
pub few_words : (s : List ℕ) (n at i m : ℕ) → m ≤ i → host_words s at n i m ≤ i + n
unfolding host_words
few_words s zero at i m h = omega arith
few_words s (suc n) at i m h =
    let x = few_words s n (end_at s at) (suc i) (pick (plain_slot s 1 at) m (i / 64 + 1)) (below (plain_slot s 1 at)) in omega arith
  where
    below : (b : Bool) → pick b m (i / 64 + 1) ≤ suc i
    below true = omega arith
    below false = omega arith

-- a word that was counted stays counted
words-stay : (s : List ℕ) (n at i m : ℕ) → m ≤ i / 64 + 1 → m ≤ host_words s at n i m
unfolding host_words
words-stay s zero at i m h = omega arith
words-stay s (suc n) at i m h =
    let b = between (plain_slot s 1 at) in
    let x = words-stay s n (end_at s at) (suc i) (pick (plain_slot s 1 at) m (i / 64 + 1)) (omega (arith, b.1)) in
    omega (arith, b.0)
  where
    between : (b : Bool) → (m ≤ pick b m (i / 64 + 1)) × (pick b m (i / 64 + 1) ≤ i / 64 + 1)
    between true = (omega arith, omega arith)
    between false = (omega arith, omega arith)

-- behind the words each record is plain, below the host types
pub behind-words : (s : List ℕ) (n at i m k : ℕ) → 64 * host_words s at n i m ≤ i + k → k < n → plain_slot s 1 (offset_of s at k) ≡ true
unfolding host_words offset_of
behind-words s zero at i m k h l = absurd (omega arith)
behind-words s (suc n) at i m zero h l = go (plain_slot s 1 at) refl h
  where
    go : (b : Bool) → plain_slot s 1 at ≡ b → 64 * host_words s (end_at s at) n (suc i) (pick b m (i / 64 + 1)) ≤ i + 0 → b ≡ true
    go true b h = refl
    go false b h = let x = words-stay s n (end_at s at) (suc i) (i / 64 + 1) (omega arith) in absurd (omega arith)
behind-words s (suc n) at i m (suc k) h l =
    behind-words s n (end_at s at) (suc i) (pick (plain_slot s 1 at) m (i / 64 + 1)) k (omega arith) (omega arith)
