-- A set changed word by word, from the front. Assumes nothing.
use Rattle.std.proofs.Common.{◌≡◌, refl, sym, ap, ◌∙◌, List, [], ◌∷◌, ℕ, zero, suc, ◌+◌, ◌≤◌, ◌<◌, add-one, arith, length, get_or, set, bit_and, bit_or}
use Rattle.std.specs.Int.Bits.{or_zero_r}
use Rattle.bitset.specs.Operations.{zipped, meet, join}

-- the first k words of xs are f of theirs and of those of ys, the others still those of xs
unfoldable pub progress : (ℕ → ℕ → ℕ) → List ℕ → List ℕ → ℕ → List ℕ
progress f [] ys k = []
progress f (x ∷ xs) ys zero = x ∷ xs
progress f (x ∷ xs) [] (suc k) = f x 0 ∷ progress f xs [] k
progress f (x ∷ xs) (y ∷ ys) (suc k) = f x y ∷ progress f xs ys k

pub progress_none : (f : ℕ → ℕ → ℕ) (xs ys : List ℕ) → xs ≡ progress f xs ys 0
unfolding progress
progress_none f [] ys = refl
progress_none f (x ∷ xs) ys = refl

pub length-progress : (f : ℕ → ℕ → ℕ) (xs ys : List ℕ) (k : ℕ) → length (progress f xs ys k) ≡ length xs
unfolding progress
length-progress f [] ys k = refl
length-progress f (x ∷ xs) ys zero = refl
length-progress f (x ∷ xs) [] (suc k) = ap suc (length-progress f xs [] k)
length-progress f (x ∷ xs) (y ∷ ys) (suc k) = ap suc (length-progress f xs ys k)

progress_suc : (f : ℕ → ℕ → ℕ) (xs ys : List ℕ) (k : ℕ) → k < length xs
    → set (progress f xs ys k) k (f (get_or (progress f xs ys k) k 0) (get_or ys k 0)) ≡ progress f xs ys (suc k)
unfolding progress
progress_suc f [] ys k h = absurd (omega arith)
progress_suc f (x ∷ []) [] zero h = refl
progress_suc f (x ∷ (z ∷ xs)) [] zero h = refl
progress_suc f (x ∷ []) (y ∷ ys) zero h = refl
progress_suc f (x ∷ (z ∷ xs)) (y ∷ ys) zero h = refl
progress_suc f (x ∷ xs) [] (suc k) h = ap (λ (l : List ℕ). f x 0 ∷ l) (progress_suc f xs [] k (omega arith))
progress_suc f (x ∷ xs) (y ∷ ys) (suc k) h = ap (λ (l : List ℕ). f x y ∷ l) (progress_suc f xs ys k (omega arith))

pub progress_more : (f : ℕ → ℕ → ℕ) (xs ys : List ℕ) (k : ℕ) → k < length xs
    → set (progress f xs ys k) k (f (get_or (progress f xs ys k) k 0) (get_or ys k 0)) ≡ progress f xs ys (k + 1)
progress_more f xs ys k h = progress_suc f xs ys k h ∙ ap (progress f xs ys) (sym (add-one k))

pub progress_all : (f : ℕ → ℕ → ℕ) (xs ys : List ℕ) (k : ℕ) → length xs ≤ k → progress f xs ys k ≡ zipped f xs ys
unfolding progress zipped
progress_all f [] ys k h = refl
progress_all f (x ∷ xs) ys zero h = absurd (omega arith)
progress_all f (x ∷ xs) [] (suc k) h = ap (λ (l : List ℕ). f x 0 ∷ l) (progress_all f xs [] k (omega arith))
progress_all f (x ∷ xs) (y ∷ ys) (suc k) h = ap (λ (l : List ℕ). f x y ∷ l) (progress_all f xs ys k (omega arith))

-- where f of a word and 0 is the word, the words of ys are all that count
pub progress_fewer : (f : ℕ → ℕ → ℕ) → ((x : ℕ) → f x 0 ≡ x) → (xs ys : List ℕ) (k : ℕ) → length ys ≤ k → progress f xs ys k ≡ zipped f xs ys
unfolding progress zipped
progress_fewer f same [] ys k h = refl
progress_fewer f same (x ∷ xs) [] zero h = kept f same (x ∷ xs)
  where
    kept : (f : ℕ → ℕ → ℕ) → ((x : ℕ) → f x 0 ≡ x) → (xs : List ℕ) → xs ≡ zipped f xs []
    kept f same [] = refl
    kept f same (x ∷ xs) = ap (λ (l : List ℕ). x ∷ l) (kept f same xs) ∙ ap (λ (w : ℕ). w ∷ zipped f xs []) (sym (same x))
progress_fewer f same (x ∷ xs) (y ∷ ys) zero h = absurd (omega arith)
progress_fewer f same (x ∷ xs) [] (suc k) h = ap (λ (l : List ℕ). f x 0 ∷ l) (progress_fewer f same xs [] k (omega arith))
progress_fewer f same (x ∷ xs) (y ∷ ys) (suc k) h = ap (λ (l : List ℕ). f x y ∷ l) (progress_fewer f same xs ys k (omega arith))

-- where f is its second argument, and the lists are as long, ys is left
zipped_second : (xs ys : List ℕ) → length xs ≡ length ys → zipped (λ x y. y) xs ys ≡ ys
unfolding zipped
zipped_second [] [] h = refl
zipped_second [] (y ∷ ys) h = absurd (omega arith)
zipped_second (x ∷ xs) [] h = absurd (omega arith)
zipped_second (x ∷ xs) (y ∷ ys) h = ap (λ (l : List ℕ). y ∷ l) (zipped_second xs ys (omega arith))

-- ---- the loops of `copy`, `meet` and `join`
module _ (xs ys : List ℕ) (k : ℕ) where
  pub copy_more : k < length xs → set (progress (λ x y. y) xs ys k) k (get_or ys k 0) ≡ progress (λ x y. y) xs ys (k + 1)
  copy_more = progress_more (λ x y. y) xs ys k

  pub copy_all : length xs ≡ length ys → length xs ≤ k → progress (λ x y. y) xs ys k ≡ ys
  copy_all e h = progress_all (λ x y. y) xs ys k h ∙ zipped_second xs ys e

  pub meet_more : k < length xs
      → set (progress bit_and xs ys k) k (bit_and (get_or (progress bit_and xs ys k) k 0) (get_or ys k 0)) ≡ progress bit_and xs ys (k + 1)
  meet_more = progress_more bit_and xs ys k

  pub meet_all : length xs ≤ k → progress bit_and xs ys k ≡ meet xs ys
  meet_all = progress_all bit_and xs ys k

  pub join_more : k < length xs
      → set (progress bit_or xs ys k) k (bit_or (get_or (progress bit_or xs ys k) k 0) (get_or ys k 0)) ≡ progress bit_or xs ys (k + 1)
  join_more = progress_more bit_or xs ys k

  pub join_all : length ys ≤ k → progress bit_or xs ys k ≡ join xs ys
  join_all = progress_fewer bit_or or_zero_r xs ys k
